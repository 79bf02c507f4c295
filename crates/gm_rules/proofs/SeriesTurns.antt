-- What holds of a command that is answered under one key after another: its steps, its answers, and
-- what they leave as it was.
use Rattle.gm_rules.proofs.Common.{◌≡◌, ◌∙◌, ◌⊎◌, inl, inr, ℕ, ◌<◌, ◌+◌, refl, sym, ap, subst, arith, List, [], ◌∷◌, ◌++◌, length, Command, Has, not_both, seen_of, Records, name, provider, World, Sound, Call, Calls, IsBadCall, Run, CanAnswer, Step, answer}
use Rattle.gm_commands.specs.Commands.{is_key}
use Rattle.gm_state.specs.declared.intents.Reply.{Reply}
use Rattle.gm_state.specs.World.{Answered}
use Rattle.gm_refusals.specs.declared.refusals.CallRefusal.{CallRefusal}
use Rattle.gm_refusals.specs.declared.refusals.CallRefusal.TheVariants.{NoKey, KeyTaken, NoRoom, ByRules}
use Rattle.gm_rules.specs.AbstractCalls.{Answer, Done}
use Rattle.gm_rules.specs.Series.{Keyed, DoneFrom, InTurn, Steps, answered_on, answers_after, calls_of, last_reply}
use Rattle.gm_rules.proofs.GrownRecords.{Grows, grows, grows_on, grows_same}
use Rattle.gm_rules.proofs.StayingNames.{AreAmong, NoneComes, NoneGoes, among_same, among_then, components_by, components_in, mirrors_by, mirrors_in}

-- ---- in turn

-- they are steps
pub steps_in_turn : (u w : World) (c : Command) (ks : List Keyed) → InTurn u c ks w
    → Steps u (calls_of c ks) w
steps_in_turn u w c [] t = t
steps_in_turn u w c (k ∷ ks) t = (t.1, k.reply, t.3, steps_in_turn t.1 w c ks t.4)

-- one more step after them
pub turns_then : (u w z : World) (c : Command) (ks : List Keyed) (k : Keyed) → InTurn u c ks w
    → CanAnswer w k.key c → Sound z → Step w k.key c z k.reply → InTurn u c (ks ++ k ∷ []) z
turns_then u w z c [] k t can sound step =
    subst (λ (x : World). InTurn x c (k ∷ []) z) t (can, z, sound, step, refl)
turns_then u w z c (j ∷ ks) k t can sound step =
    (t.0, t.1, t.2, t.3, turns_then t.1 w z c ks k t.4 can sound step)

-- a call that can be answered by a step is done
call_done : (u v : World) (key : List ℕ) (c : Command) (r : Reply) → CanAnswer u key c
    → Step u key c v r
    → Calls u (record { key = key; command = c }) v (Done (length u.answered + 1) r)
call_done u v key c r can step = (
  λ a k. can.free a k.kept k.key,
  none,
  (let n : length v.answered ≡ length (answer u key c r ∷ u.answered) = ap length step.answered in
      omega arith),
  step,
)
  where
    none : (q : CallRefusal) → IsBadCall u (record { key = key; command = c }) q → ⊥
    none NoKey b = not_both (is_key key) can.key_ok b
    none KeyTaken b = can.free b.0 b.1 b.2
    none NoRoom b = let room : length u.answered < 100000 = can.room in absurd (omega arith)
    none (ByRules q) b = step.good q b

-- they are calls that are done, numbered on
pub done_in_turn : (u w : World) (c : Command) (ks : List Keyed) → InTurn u c ks w
    → Run u (calls_of c ks) w (answers_after (length u.answered) ks)
done_in_turn u w c [] t = t
done_in_turn u w c (k ∷ ks) t =
    let n : length t.1.answered ≡ length u.answered + 1 =
    ap length t.3.answered ∙ (omega arith) in (
      t.1,
      call_done u t.1 k.key c k.reply t.0 t.3,
      subst (λ (n : ℕ). Run t.1 (calls_of c ks) w (answers_after n ks)) n
          (done_in_turn t.1 w c ks t.4),
    )

-- the answers are all done, and the last of them has the last reply
pub answers_done : (n : ℕ) (k : Keyed) (ks : List Keyed)
    → DoneFrom (n + 1) (last_reply k.reply ks) (answers_after n (k ∷ ks))
answers_done n k [] = refl
answers_done n k (j ∷ ks) = (k.reply, refl, answers_done (n + 1) j ks)

-- the world keeps their answers before those that it kept
pub turns_rows : (u w : World) (c : Command) (ks : List Keyed) → InTurn u c ks w
    → w.answered ≡ answered_on u.answered c ks
turns_rows u w c [] t = ap (λ (x : World). x.answered) t
turns_rows u w c (k ∷ ks) t = turns_rows t.1 w c ks t.4
    ∙ ap (λ (old : List Answered). answered_on old c ks) t.3.answered

-- ---- steps

-- calls that are all done are steps
pub steps_of_run : (u w : World) (calls : List Call) (answers : List Answer) (n : ℕ) (r : Reply)
    → Run u calls w answers → DoneFrom n r answers → Steps u calls w
steps_of_run u w [] [] n r run done = absurd done
steps_of_run u w [] (a ∷ answers) n r run done = absurd run
steps_of_run u w (call ∷ calls) [] n r run done = absurd run
steps_of_run u w (call ∷ []) (a ∷ []) n r run done =
    let here : Calls u call run.0 (Done n r) =
    subst (λ (x : Answer). Calls u call run.0 x) done run.1 in
    (run.0, r, here.3, run.2)
steps_of_run u w (call ∷ (next ∷ calls)) (a ∷ []) n r run done = absurd run.2
steps_of_run u w (call ∷ calls) (a ∷ (b ∷ more)) n r run done =
    let here : Calls u call run.0 (Done n done.0) =
    subst (λ (x : Answer). Calls u call run.0 x) done.1 run.1 in
    (run.0, done.0, here.3, steps_of_run run.0 w calls (b ∷ more) (n + 1) r run.2 done.2)

-- they leave the sizes of providers, and which are there
pub steps_sizes : (u w : World) (calls : List Call) → Steps u calls w → (q : List ℕ)
    → w.size q ≡ u.size q
steps_sizes u w [] s q = ap (λ (x : World). x.size q) s
steps_sizes u w (call ∷ calls) s q = steps_sizes s.0 w calls s.3 q ∙ s.2.sizes q

-- nor does it change which are there
pub steps_there : (u w : World) (calls : List Call) → Steps u calls w → (q : List ℕ)
    → w.there q ≡ u.there q
steps_there u w [] s q = ap (λ (x : World). x.there q) s
steps_there u w (call ∷ calls) s q = steps_there s.0 w calls s.3 q ∙ s.2.there q

-- each adds one answer
pub steps_answered : (u w : World) (calls : List Call) → Steps u calls w
    → length w.answered ≡ length calls + length u.answered
steps_answered u w [] s =
    let same : length w.answered ≡ length u.answered = ap (λ (x : World). length x.answered) s in
    omega arith
steps_answered u w (call ∷ calls) s =
    let rest : length w.answered ≡ length calls + length s.0.answered =
    steps_answered s.0 w calls s.3 in
    let here : length s.0.answered ≡ length u.answered + 1 =
    ap length s.2.answered ∙ (omega arith) in omega arith

-- ---- the records

module _ {X : Type 0} (key : X → List ℕ) (of : Records → List X) (c : Command) where
  -- if none comes by the command, what there is at the end was there
  none_came : NoneComes key of c → (u w : World) (ks : List Keyed) → InTurn u c ks w
      → AreAmong key (of w.state) (of u.state)
  none_came none u w [] t =
      subst (λ (x : World). AreAmong key (of w.state) (of x.state)) t
      (among_same key (of w.state))
  none_came none u w (k ∷ ks) t =
      among_then key (of w.state) (of t.1.state) (of u.state) (none_came none t.1 w ks t.4)
      (subst (λ (s : Records). AreAmong key (of s) (of u.state)) (sym t.3.records)
      (none (seen_of u) u.state))

  -- what is there before the first and after the last is there between them
  stays_between : NoneGoes key of c ⊎ NoneComes key of c → (u v w : World) (k : List ℕ) (r : Reply)
      → Step u k c v r → (ks : List Keyed) → InTurn v c ks w → (x y : X) → Has (of u.state) x
      → Has (of w.state) y → key x ≡ key y → (z : X) × Has (of v.state) z × (key z ≡ key x)
  stays_between (inl stays) u v w k r step ks t x y h i e =
      subst (λ (s : Records). (z : X) × Has (of s) z × (key z ≡ key x)) (sym step.records)
      (stays (seen_of u) u.state x h)
  stays_between (inr none) u v w k r step ks t x y h i e =
      let z = none_came none v w ks t y i in (z.0, z.1, z.2 ∙ sym e)

-- mirrors and components that are there before and after are the same ones, as they were or as they
-- are later
pub grown_in_turn : (u w : World) (c : Command) (ks : List Keyed) → Sound u → InTurn u c ks w
    → Grows u.state w.state
grown_in_turn u w c [] sound t =
    subst (λ (x : World). Grows u.state x.state) (sym t) (grows_same u.state sound.state)
grown_in_turn u w c (k ∷ ks) sound t =
    grows_on u.state t.1.state w.state
    (stays_between name mirrors_in c (mirrors_by c) u t.1 w k.key k.reply t.3 ks t.4)
    (stays_between provider components_in c (components_by c) u t.1 w k.key k.reply t.3 ks t.4)
    (grows u t.1 k.key c k.reply sound t.2 t.3) (grown_in_turn t.1 w c ks t.2 t.4)
