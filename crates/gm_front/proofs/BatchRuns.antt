-- A batch as a part of a schedule, by induction over its lines.
use Rattle.gm_front.proofs.Common.{◌≡◌, ◌∙◌, ◌⊎◌, inl, inr, ℕ, Bool, List, [], ◌∷◌, ◌++◌, Option, Result, Ok, Err, refl, sym, ap, subst, subst₂, Ghosts, Held, Trees, Image, Sizes, Command, World, Step, LeavesRun, ArePending, AtRest, Entry, Handed_in, IsButMoved, IsLeftIn, Reached, Stopped, Within, keeps, none, skips, LeavesNext, accept_stopped, reached_done, run_stopped, settling_stopped, stopped, one_step, stays, BatchEnd, FrontFault, Answers, AreAnswered, AreCarriedOut, AreUnsettled, Batches, IsLast, Replies, Stops, with_asked, calls_of, StopsAtLine, BatchLeaves, AreCarriedBehind, IsAtRestBehind, IsNextStop, IsStoppedAt, IsStoppedSettling, with_calls, Asked, Nothing, Wrong, Call, asked}
use Rattle.gm_shelf.specs.declared.shelf.Shelf.{Ghosts as ShelfGhosts}
use Rattle.gm_rules.specs.AbstractCalls as run
use Rattle.gm_bench.proofs.Induction.{at_rest as reached_at_rest}
use Rattle.gm_front.specs.declared.answer_lines.BatchEnd.TheVariants as end

-- one more call, handed in last
pub with_last : (calls : List run.Call) (call : run.Call) (entries : List Entry)
    → with_calls (calls ++ call ∷ []) entries ≡ Handed_in (call ∷ []) ∷ with_calls calls entries
with_last [] call entries = refl
with_last (first ∷ calls) call entries = with_last calls call (Handed_in (first ∷ []) ∷ entries)

none_within : {A : Type 0} (xs : List A) → Within [] xs
none_within [] = none
none_within (x ∷ xs) = skips (none_within xs)

-- some of these, one more, and others that are left out
pub within_and : {A : Type 0} {xs ys : List A} (a : A) (more : List A) → Within xs ys
    → Within (xs ++ a ∷ []) (ys ++ a ∷ more)
within_and a more none = keeps (none_within more)
within_and a more (skips it) = skips (within_and a more it)
within_and a more (keeps it) = keeps (within_and a more it)

-- the calls of lines, and of a call's line and others after them
calls_and : (older newer : List (List ℕ)) (line key : List ℕ) (command : Command)
    → asked line ≡ Call key command
    → calls_of (older ++ line ∷ newer)
    ≡ calls_of older ++ record { key = key; command = command } ∷ calls_of newer
calls_and [] newer line key command asks =
    ap (λ (q : Asked). with_asked q (calls_of newer)) asks
calls_and (first ∷ older) newer line key command asks =
    asked_and (asked first) (calls_of (older ++ line ∷ newer)) (calls_of older)
    (record { key = key; command = command } ∷ calls_of newer)
    (calls_and older newer line key command asks)
  where
    asked_and : (q : Asked) (xs ys zs : List run.Call) → xs ≡ ys ++ zs
        → with_asked q xs ≡ with_asked q ys ++ zs
    asked_and Nothing xs ys zs same = same
    asked_and (Wrong k) xs ys zs same = same
    asked_and (Call k c) xs ys zs same =
        ap (λ (cs : List run.Call). record { key = k; command = c } ∷ cs) same

module _ (all : Sizes) where
  -- some of these calls lead to the world w, accepted and acknowledged
  pub record Leads (asks : List run.Call) (acc ack : List Entry) (w : World) : Type 0 where
    pub calls : List run.Call
    pub among : Within calls asks
    pub reached : Reached all (with_calls calls acc) w
    pub told : Within (with_calls calls ack) (with_calls calls acc)

  -- a call, and then what leads on from where it leads
  pub one_call : (call : run.Call) (answer : run.Answer) (asks : List run.Call) (u v w : World)
      (acc ack : List Entry)
      → run.Calls u call v answer
      → ((more told : List Entry) → Reached all more v → Within told more → Leads asks more told w)
      → Reached all acc u → Within ack acc → Leads (call ∷ asks) acc ack w
  one_call call (run.Done n reply) asks u v w acc ack calls rest reached told =
      let step : Step u call.key call.command v reply = calls.3 in
      let r = rest (Handed_in (call ∷ []) ∷ acc) (Handed_in (call ∷ []) ∷ ack) (
        u,
        reached,
        one_step u v call reply step,
      ) (keeps told) in
      record { calls = call ∷ r.calls; among = keeps r.among; reached = r.reached; told = r.told }
  one_call call (run.Repeated n reply) asks u v w acc ack calls rest reached told =
      let r = rest acc ack (subst (Reached all acc) (sym calls.0) reached) told in
      record { calls = r.calls; among = skips r.among; reached = r.reached; told = r.told }
  one_call call (run.Refused why) asks u v w acc ack calls rest reached told =
      let r = rest acc ack (subst (Reached all acc) (sym calls.0) reached) told in
      record { calls = r.calls; among = skips r.among; reached = r.reached; told = r.told }

  -- a line
  one_line : (q : Asked) (asks : List run.Call) (u v w : World) (text : List ℕ) (refused : Bool)
      (acc ack : List Entry)
      → Replies u q v text refused
      → ((more told : List Entry) → Reached all more v → Within told more → Leads asks more told w)
      → Reached all acc u → Within ack acc → Leads (with_asked q asks) acc ack w
  one_line Nothing asks u v w text refused acc ack replies rest reached told =
      rest acc ack (subst (Reached all acc) (sym replies.0) reached) told
  one_line (Wrong key) asks u v w text refused acc ack replies rest reached told =
      rest acc ack (subst (Reached all acc) (sym replies.0) reached) told
  one_line (Call key command) asks u v w text refused acc ack replies rest reached told =
      one_call (record { key = key; command = command }) replies.0 asks u v w acc ack replies.1 rest
      reached told

  all_lines : (lines : List (List ℕ)) (u w : World) (text : List ℕ) (refused : Bool)
      (acc ack : List Entry)
      → Answers u lines w text refused → Reached all acc u → Within ack acc
      → Leads (calls_of lines) acc ack w
  all_lines [] u w text refused acc ack a reached told =
      record {
        calls = [];
        among = none;
        reached = subst (Reached all acc) (sym a.0) reached;
        told = told;
      }
  all_lines (line ∷ lines) u w text refused acc ack a reached told =
      one_line (asked line) (calls_of lines) u a.world w a.first a.is_first_refused acc ack
      a.replies
      (λ more ack1 reached1 told1. all_lines lines a.world w a.more a.is_more_refused more ack1
      a.rest reached1 told1)
      reached told

  -- the same, with the world before the last that is perhaps still to be settled
  record LeadsLast (asks : List run.Call) (acc ack : List Entry) (v w : World) : Type 0 where
    pub calls : List run.Call
    pub among : Within calls asks
    pub reached : Reached all (with_calls calls acc) w
    pub told : Within (with_calls calls ack) (with_calls calls acc)
    pub last : IsButMoved v w ⊎ ArePending all (with_calls calls acc) v w

  last_of_lines : (lines : List (List ℕ)) (u v w : World) (text : List ℕ) (refused : Bool)
      (acc ack : List Entry) → Answers u lines w text refused → IsLast u lines v w
      → Reached all acc u → Within ack acc → LeadsLast (calls_of lines) acc ack v w
  last_of_lines lines u v w text refused acc ack answers (inl same) reached told =
      let l = all_lines lines u w text refused acc ack answers reached told in record {
        calls = l.calls;
        among = l.among;
        reached = l.reached;
        told = l.told;
        last = inl (subst (λ (x : World). IsButMoved x w) (sym same) (stays w));
      }
  last_of_lines lines u v w text refused acc ack answers (inr done) reached told =
      let call : run.Call = record { key = done.key; command = done.command } in
      let l = all_lines done.older u v done.text done.refused acc ack done.answers reached told in
      let step = one_step v w call done.reply done.step in
      let same = with_last l.calls call acc in
      record {
        calls = l.calls ++ call ∷ [];
        among = subst (Within (l.calls ++ call ∷ [])) (sym (ap calls_of done.all
            ∙ calls_and done.older done.newer done.line done.key done.command done.asks))
            (within_and call (calls_of done.newer) l.among);
        reached = subst (λ (es : List Entry). Reached all es w) (sym same) (v, l.reached, step);
        told = subst₂ Within (sym (with_last l.calls call ack)) (sym same) (keeps l.told);
        last = inr (subst (λ (es : List Entry). ArePending all es v w) (sym same)
            (l.reached, step));
      }

  module _ {S H : Type 0} (g : Ghosts S) (j : ShelfGhosts H) where
    at_rest : (r s : Held S) (h k : H) (away : Image) (acc ack : List Entry) (lines : List (List ℕ))
        (text : List ℕ) (refused : Bool)
        → (rest : AtRest g j all r h away acc ack)
        → AreAnswered g j s k away rest.world lines text refused
        → IsAtRestBehind g j all (calls_of lines) s k away acc ack
    at_rest r s h k away acc ack lines text refused rest a =
        let l = all_lines lines rest.world a.world text refused acc ack a.answers rest.reached
        rest.told in
        record {
          calls = l.calls;
          among = l.among;
          rest = record { world = a.world; reached = l.reached; at = a.at; told = l.told };
        }

    -- a bench that was at rest failed at this call
    pub stopped_at : (call : run.Call) (r s : Held S) (h k : H) (away : Image)
        (acc ack : List Entry) → (rest : AtRest g j all r h away acc ack)
        → LeavesRun g j r s h k away rest.world rest.world (call ∷ [])
        → IsStoppedAt g j all call r s h k away acc ack rest
    stopped_at call r s h k away acc ack rest left = record {
      left = left;
      leads = λ db later after found stop. run_stopped g j all (call ∷ []) _ r s h k db later
          away acc ack after (reached_at_rest g j all r h away acc ack rest) found left stop;
    }

    -- the lines were carried out, from a bench that was at rest
    abbrev carried_behind : (r s : Held S) (h k : H) (away : Image) (acc ack : List Entry)
        (lines : List (List ℕ)) (text : List ℕ) (refused : Bool)
        (rest : AtRest g j all r h away acc ack)
        (a : AreCarriedOut g j s k away rest.world lines text refused)
        → AreCarriedBehind g j all (calls_of lines) s k away acc ack
    carried_behind r s h k away acc ack lines text refused rest a =
        let l = last_of_lines lines rest.world a.before a.world text refused acc ack a.answers
        a.last rest.reached rest.told in record {
          calls = l.calls;
          among = l.among;
          world = a.world;
          before = a.before;
          reached = l.reached;
          last = l.last;
          intents = a.intents;
          bytes = a.bytes;
          at = a.at;
          told = l.told;
        }

    -- what a stop leaves within the next call
    pub next_leads : (handed : List run.Call) (call : run.Call) (r s : Held S) (h k : H)
        (away : Image) (acc ack : List Entry)
        (it : AreCarriedBehind g j all handed r h away acc ack)
        (left : LeavesNext g j r s h k away it.before it.world (call ∷ []))
        (db : Trees) (l : H) (after : List Entry)
        → IsLeftIn db (Handed_in (call ∷ [])) (with_calls it.calls acc) after
        → IsNextStop g j all r s h k away it.before it.world call left db l
        → Stopped g j all db l away after (with_calls it.calls ack)
    next_leads handed call r s h k away acc ack it (inl left) db l after found stop =
        run_stopped g j all (call ∷ []) _ r s h k db l away (with_calls it.calls acc)
        (with_calls it.calls ack) after (reached_done g j all r h away
        (with_calls it.calls acc) (with_calls it.calls ack) it.intents it.bytes it.before it.world
        it.reached it.last it.at it.told) found left stop
    next_leads handed call r s h k away acc ack it (inr left) db l after found (inl stop) =
        accept_stopped g j all (call ∷ []) _ r left.registry h left.shelf db l away
        (with_calls it.calls acc) (with_calls it.calls ack) after
        (reached_done g j all r h away
        (with_calls it.calls acc) (with_calls it.calls ack) it.intents it.bytes it.before it.world
        it.reached it.last it.at it.told) found left.accepting stop
    next_leads handed call r s h k away acc ack it (inr left) db l after found (inr stop) =
        settling_stopped g j all (call ∷ []) _ r left.registry s h left.shelf k db l
        away (with_calls it.calls acc) (with_calls it.calls ack) after
        (reached_done g j all r h away
        (with_calls it.calls acc) (with_calls it.calls ack) it.intents it.bytes it.before it.world
        it.reached it.last it.at it.told) found left.sizes left.settling stop

    stops : (r s : Held S) (h k : H) (away : Image) (acc ack : List Entry) (input : Option (List ℕ))
        (Told : List ℕ → Type 0) (fault : _)
        → (rest : AtRest g j all r h away acc ack)
        → Stops g j input Told s k away rest.world fault
        → StopsAtLine g j all input s k away acc ack
    stops r s h k away acc ack input Told fault rest it =
        let behind = carried_behind r it.registry h it.shelf away acc ack it.lines it.text
        it.refused rest it.answered in
        let call : run.Call = record { key = it.key; command = it.command } in
        record {
          lines = it.lines;
          line = it.line;
          call = call;
          read = it.read;
          asks = it.asks;
          registry = it.registry;
          shelf = it.shelf;
          behind = behind;
          stopped = record {
            left = it.left;
            leads = next_leads (calls_of it.lines) call it.registry s it.shelf k away acc ack
                behind it.left;
          };
        }

    -- the bench failed as it settled the last command
    unsettled : (r s : Held S) (h k : H) (away : Image) (acc ack : List Entry)
        (lines : List (List ℕ)) (text : List ℕ) (refused : Bool)
        → (rest : AtRest g j all r h away acc ack)
        → AreUnsettled g j s k away rest.world lines text refused
        → IsStoppedSettling g j all (calls_of lines) s k away acc ack
    unsettled r s h k away acc ack lines text refused rest it =
        let behind = carried_behind r it.registry h it.shelf away acc ack lines text refused rest
        it.carried in
        record {
          registry = it.registry;
          shelf = it.shelf;
          behind = behind;
          leads = λ db l stop. stopped g j all it.registry s it.shelf k db l away
              behind.before behind.world (with_calls behind.calls acc)
              (with_calls behind.calls ack) behind.reached behind.last behind.at.sizes behind.told
              it.left stop;
        }

    pub batch_leaves : (r : Held S) (h : H) (away : Image) (acc ack : List Entry)
        (input before now : Option (List ℕ)) (s : Held S) (k : H)
        (ended : Result BatchEnd FrontFault)
        → (rest : AtRest g j all r h away acc ack)
        → Batches g j input before now s k away rest.world ended
        → BatchLeaves g j all input s k away acc ack ended
    batch_leaves r h away acc ack input before now s k (Ok (end.Ended refused)) rest b =
        (b.lines, b.read, at_rest r s h k away acc ack b.lines b.text refused rest b.answered)
    batch_leaves r h away acc ack input before now s k (Ok (end.Stopped fault)) rest b =
        stops r s h k away acc ack input _ fault rest b
    batch_leaves r h away acc ack input before now s k (Err fault) rest (inl b) =
        inl (b.lines, b.read, at_rest r s h k away acc ack b.lines b.text b.refused rest b.answered)
    batch_leaves r h away acc ack input before now s k (Err fault) rest (inr (inl b)) =
        inr (inl (stops r s h k away acc ack input _ b.0 rest b.1))
    batch_leaves r h away acc ack input before now s k (Err fault) rest (inr (inr b)) =
        let it = b.0 in
        inr (inr (
          it.lines,
          it.read,
          b.1,
          unsettled r s h k away acc ack it.lines it.text it.refused rest it.answered,
        ))
