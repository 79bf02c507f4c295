-- The walk back over the last commands finds the one that the chain begins with.
use Rattle.gm_stop_law.proofs.Common.{◌≡◌, ◌∙◌, inl, inr, ℕ, zero, suc, ◌<◌, ◌+◌, ◌-◌, nat_lt, true, false, refl, sym, ap, subst, arith, List, [], ◌∷◌, ◌++◌, length, map, take, length-append, drop-append_seam, take-append_seam, drop, cases_Bool, le-ltb, length-map, list_all, Some, same_label, Has, Ascends, Has-append_left, find_one, Has-filter, Has-map, has_all, Command, Lost, Answered, Records, World, Sound, component_of, members, provider, Intent, Meta, Component, copied_to, intents_of, metas, remaining, InTurn, IsSeries, Keyed, PendingSince, before_loss, before_own, is_member, is_own, passes, stopped_after, stopped_by, ends_on, passes_on}
use Rattle.gm_stop_law.proofs.Chain.{first_of, kept_first, kept_of}
use Rattle.gm_stop_law.proofs.OneLoss.{commands_are, components_are, intents_are}
use Rattle.gm_stop_law.proofs.Thinning.{left_of, thin, thin-append, thin-metas}

-- the accepted commands, the newest first
abbrev commands_of : List Answered → List Command
commands_of answered = map (λ (a : Answered). a.command) answered

-- the intents before a loss's own are all but those
before_own_is : (s : Records) (n : List ℕ) (ts own : List Intent)
    → list_all (is_own s n) own ≡ true
    → before_own s n (ts ++ own) (length own) ≡ Some (length ts)
before_own_is s n ts own all =
    let count : length (ts ++ own) ≡ length ts + length own = length-append ts own in
    let left : length (ts ++ own) - length own ≡ length ts = omega (arith, count) in
    let enough : nat_lt (length (ts ++ own)) (length own) ≡ false =
    le-ltb (length (ts ++ own)) (length own) (omega (arith, count)) in
    let rest : drop (length ts) (ts ++ own) ≡ own = drop-append_seam ts own in
    rw (enough, left, rest, all) refl

-- a loss whose own are all that is pending isn't passed
none_before : (s : Records) (n : List ℕ) (ts : List Intent) (count : ℕ) → length ts ≡ count
    → passes (before_own s n ts count) ≡ false
none_before s n ts count e =
    let enough : nat_lt (length ts) count ≡ false = le-ltb (length ts) count (omega arith) in
    let none : nat_lt 0 (length ts - count) ≡ false = le-ltb 0 (length ts - count) (omega arith) in
    elim (cases_Bool (list_all (is_own s n) (drop (length ts - count) ts))) [
      | inl all ↦ rw (enough, all) none
      | inr some ↦ rw (enough, some) refl
    ]

-- so many writes of metadata as there are components
count_metas : (ks : List Component) → length (metas ks) ≡ length ks
count_metas ks = length-map ks (λ (k : Component). Meta k.provider)

-- metadata copy nothing further
copied_metas : (end : ℕ) (ks : List Component) → copied_to end (metas ks) ≡ metas ks
copied_metas end [] = refl
copied_metas end (k ∷ ks) = refl

-- the command that the chain begins with isn't passed: a loss has no intents before its own
first_ends : (s now : Records) (ls : List (List ℕ × List ℕ))
    → s.components ≡ left_of ls now.components → (c : Command) (was : Records) (end : ℕ)
    → passes (before_loss s (thin ls (copied_to end (intents_of c was now))) c) ≡ false
first_ends s now ls are (Lost n ps) was end =
    let all : thin ls (metas (members now.components n)) ≡ metas (members s.components n) =
    thin-metas ls now.components n
    ∙ ap (λ (ks : List Component). metas (members ks n)) (sym are) in
    let count : length (thin ls (metas (members now.components n)))
    ≡ length (members s.components n) =
    ap length all ∙ count_metas (members s.components n) in
    ap (λ (ts : List Intent).
    passes (before_own s n (thin ls ts) (length (members s.components n))))
    (copied_metas end (members now.components n))
    ∙ none_before s n (thin ls (metas (members now.components n)))
    (length (members s.components n)) count
first_ends s now ls are c was end = refl

-- a command that was answered under one key after another is the last one that was accepted
last_in_turn : (u w : World) (c : Command) (k : Keyed) (ks : List Keyed) → InTurn u c (k ∷ ks) w
    → (older : List Command) × (commands_of w.answered ≡ c ∷ older)
last_in_turn u w c k [] t = (
  commands_of u.answered,
  ap (λ (x : World). commands_of x.answered) t.4 ∙ ap commands_of t.3.answered,
)
last_in_turn u w c k (l ∷ ks) t = last_in_turn t.1 w c l ks t.4

-- so is that of a series
newest : (u w : World) (c : Command) (ks : List Keyed) → IsSeries c ks → InTurn u c ks w
    → (older : List Command) × (commands_of w.answered ≡ c ∷ older)
newest u w c [] series t = absurd series
newest u w c (k ∷ ks) series t = last_in_turn u w c k ks t

-- a list that has one isn't empty
some_there : (ts : List Intent) (t : Intent) → Has ts t → 0 < length ts
some_there [] t h = absurd h
some_there (x ∷ ts) t h = omega arith

module _ (s : Records) (in_order : Ascends provider s.components) where
  -- the metadata of a mirror's components are a loss's own
  is_own_is : (n : List ℕ) (k : Component) → Has (members s.components n) k
      → is_own s n (Meta k.provider) ≡ true
  is_own_is n k h =
      let r = Has-filter (λ (c : Component). same_label c.mirror n) s.components k h in
      let at : component_of s k.provider ≡ Some k =
      find_one provider s.components in_order k r.0 in
      ap (is_member n) at ∙ r.1

  -- so are they all
  all_own : (n : List ℕ) → list_all (is_own s n) (metas (members s.components n)) ≡ true
  all_own n = has_all (is_own s n) (metas (members s.components n)) (λ t h.
      let k = Has-map (λ (k : Component). Meta k.provider) (members s.components n) t h in
      subst (λ (x : Intent). is_own s n x ≡ true) k.2 (is_own_is n k.0 k.1))

  -- the walk over what later losses left
  walk : (n : ℕ) (u w : World) (ts : List Intent) (p : PendingSince n true u w ts)
      (ls : List (List ℕ × List ℕ)) (t : Intent) (passed : ℕ)
      → s.components ≡ left_of ls w.state.components
      → Has (thin ls (kept_of n u w ts p)) t
      → stopped_after s (thin ls ts) passed (commands_of w.answered)
      ≡ record { command = Some (first_of n u w ts p); losses = passed + n }
  walk zero u w ts p ls t passed are h =
      let c = p.command in
      let now : s.components ≡ left_of ls p.stepped.state.components =
      are ∙ ap (λ (r : Records). left_of ls r.components) p.state in
      let ends : passes (before_loss s (thin ls ts) c) ≡ false =
      ap (λ (x : List Intent). passes (before_loss s (thin ls x) c)) p.intents.1
      ∙ first_ends s p.stepped.state ls now c u.state p.intents.0 in
      let last = newest u p.stepped c p.keys p.series p.turns in
      let same : passed ≡ passed + 0 = omega arith in
      ap (stopped_after s (thin ls ts) passed) (ap commands_of p.answered ∙ last.1)
      ∙ (ends_on s (thin ls ts) passed c last.0 ends
      ∙ ap (λ (i : ℕ). record { command = Some c; losses = i }) same)
  walk (suc n) u w ts p ls t passed are h =
      let v = p.0 in
      let before = p.1 in
      let l = p.3 in
      let more : List (List ℕ × List ℕ) = (l.provider, l.next) ∷ ls in
      let rest : List Intent = thin more before in
      let own : List Intent = metas (members s.components l.name) in
      let older : List Command = commands_of v.answered in
      let c : Command = Lost l.name (l.provider ∷ []) in
      let kept : List Intent = kept_of n u v before p.2 in
      let first = kept_first n u v before p.2 in
      let split : rest ≡ thin more kept ++ thin more first.rest =
      ap (thin more) first.is ∙ thin-append more kept first.rest in
      let some : 0 < length rest =
      some_there rest t (subst (λ (x : List Intent). Has x t) (sym split)
      (Has-append_left (thin more kept) (thin more first.rest) t h)) in
      let parts : thin ls ts ≡ rest ++ own =
      ap (thin ls) (intents_are v w before ts l)
      ∙ (thin-append ls (remaining l.provider l.next before)
      (metas (members w.state.components l.name))
      ∙ ap (λ (x : List Intent). rest ++ x) (thin-metas ls w.state.components l.name
      ∙ ap (λ (ks : List Component). metas (members ks l.name)) (sym are))) in
      let left : before_loss s (thin ls ts) c ≡ Some (length rest) =
      ap (λ (x : List Intent). before_loss s x c) parts
      ∙ (ap (before_own s l.name (rest ++ own)) (sym (count_metas (members s.components l.name)))
      ∙ before_own_is s l.name rest own (all_own l.name)) in
      let took : take (length rest) (thin ls ts) ≡ rest =
      ap (take (length rest)) parts ∙ take-append_seam rest own in
      let earlier : s.components ≡ left_of more v.state.components =
      are ∙ ap (left_of ls) (components_are v w before ts l) in
      let counted : (passed + 1) + n ≡ passed + suc n = omega arith in
      ap (stopped_after s (thin ls ts) passed) (commands_are v w before ts l)
      ∙ (passes_on s (thin ls ts) passed c older (length rest) left some
      ∙ (ap (λ (x : List Intent). stopped_after s x (passed + 1) older) took
      ∙ (walk n u v before p.2 more t (passed + 1) earlier h
      ∙ ap (λ (i : ℕ). record { command = Some (first_of n u v before p.2); losses = i })
      counted)))

-- the walk finds the command that the chain begins with, and counts the losses after it
pub walks : (n : ℕ) (u w : World) (ts : List Intent) (p : PendingSince n true u w ts) → Sound w
    → (t : Intent) → Has (kept_of n u w ts p) t
    → stopped_by w.state ts (map (λ (a : Answered). a.command) w.answered)
    ≡ record { command = Some (first_of n u w ts p); losses = n }
walks n u w ts p sound t h =
    let none : 0 + n ≡ n = omega arith in
    walk w.state sound.state.components_in_order n u w ts p [] t 0 refl h
    ∙ ap (λ (i : ℕ). record { command = Some (first_of n u w ts p); losses = i }) none
