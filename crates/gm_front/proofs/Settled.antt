-- The end of a batch, after what was still to be settled is settled.
use Rattle.gm_front.proofs.Common.{◌≡◌, ◌∙◌, inl, inr, ℕ, Bool, List, [], Option, Some, None, Result, Ok, Err, IfOk, ◌≢◌, refl, sym, ap, subst, append-nil, Ghosts, Held, Image, World, Bench, Progress, Ready, Pending, Applied, Failed, SettleDoes, SettleLeaves, TakesCommands, TakesNext, phase_of, rest_stands, BatchEnd, FrontFault, BenchFault, end_fault, AreAnswered, AreFirst, AreLines, AreStanding, AreUnsettled, Batches, Breaks, Ends, HandsIn, IsFarAtEnd, progress_at, unsettled_fault}
use Rattle.std.specs.Prelude.{OnOk}
use Rattle.std.proofs.lemmas.Option.{IfSome_then}
use Rattle.gm_shelf.specs.declared.shelf.Shelf.{Ghosts as ShelfGhosts}
use Rattle.gm_bench.specs.declared.answer.Work.{Work}
use Rattle.gm_bench.specs.declared.phase.Phase.TheVariants as phase
use Rattle.gm_front.specs.declared.answer_lines.BatchEnd.TheVariants as end
use Rattle.gm_front.proofs.Turns.{carried}

-- what is carried out, by the phase that a caller sees
pub has_applied : (p : Progress) → phase_of p ≡ phase.Applied → (work : Work) × (p ≡ Applied work)
has_applied Ready is = cc
has_applied (Pending work) is = cc
has_applied (Applied work) is = (work, refl)
has_applied Failed is = cc

-- what takes a command and has nothing to settle is at rest, or failed
pub takes_rest : (p : Progress) → TakesNext p → (phase_of p ≡ phase.Applied → ⊥) → TakesCommands p
takes_rest p (inl takes) other = takes
takes_rest p (inr is) other = absurd (other is)

-- what takes a command has nothing to settle
pub rests : (p : Progress) → TakesCommands p → phase_of p ≢ phase.Applied
rests p (inl is) applied = cc
rests p (inr is) applied = cc

-- the fault is the one before
pub same_fault : (given after : Result BatchEnd FrontFault) {f : BenchFault}
    → IfOk after (λ x. given ≡ Ok x) → end_fault after ≡ Some f → end_fault given ≡ Some f
same_fault given (Ok x) same is = ap end_fault same ∙ is
same_fault given (Err e) same is = cc

-- how far the bench is then
pub ended_progress : {S H : Type 0} {first mid last : Bench S H} → TakesCommands first.progress
    → (given : Result BatchEnd FrontFault)
    → IfOk given (IsFarAtEnd first.progress mid.progress)
    → (first.progress ≡ Failed → mid ≡ first) → (after : Result BatchEnd FrontFault)
    → IfOk after (λ x. given ≡ Ok x)
    → OnOk after ((mid.progress ≡ Failed → ⊥) → last.progress ≡ Ready)
    → (mid.progress ≡ Failed → last ≡ mid)
    → IfOk after (λ x. last.progress ≡ progress_at first.progress x)
ended_progress {first = first} {mid = mid} {last = last} takes given far closed (Err e) same rested
    stays = tt
ended_progress {first = first} {mid = mid} {last = last} takes given far closed (Ok x) same rested
    stays =
    by first.progress takes x (subst (λ r. IfOk r (IsFarAtEnd first.progress mid.progress)) same
    far)
    (λ is. ap (λ b. b.progress) (closed is))
  where
    by : (p : Progress) → TakesCommands p → (x : BatchEnd) → IsFarAtEnd p mid.progress x
        → (p ≡ Failed → mid.progress ≡ p) → last.progress ≡ progress_at p x
    by p takes (end.Stopped fault) far closed = ap (λ b. b.progress) (stays far) ∙ far
    by Ready takes (end.Ended refused) far closed = rested (far (λ is. let no : ⊥ = cc in no))
    by (Pending work) (inl is) (end.Ended refused) far closed = cc
    by (Pending work) (inr is) (end.Ended refused) far closed = cc
    by (Applied work) (inl is) (end.Ended refused) far closed = cc
    by (Applied work) (inr is) (end.Ended refused) far closed = cc
    by Failed takes (end.Ended refused) far closed =
        ap (λ b. b.progress) (stays (closed refl)) ∙ closed refl

-- all lines are the first ones
pub all_first : (input : Option (List ℕ)) (lines : List (List ℕ)) → AreLines input lines
    → AreFirst input lines
all_first None lines are = tt
all_first (Some bytes) lines are = ([], are ∙ sym (append-nil lines))

-- lines that ended, or broke off, of which more is known
ends_by : {A B : List (List ℕ) → List ℕ → Bool → Type 0} {input before now : Option (List ℕ)}
    {refused : Bool} → ((ls : List (List ℕ)) (t : List ℕ) (b : Bool) → A ls t b → B ls t b)
    → Ends input before now A refused → Ends input before now B refused
ends_by more it = record {
  lines = it.lines;
  text = it.text;
  read = it.read;
  told = it.told;
  answered = more _ _ _ it.answered;
}

breaks_by : {A B : List (List ℕ) → List ℕ → Bool → Type 0} {input : Option (List ℕ)}
    {Told : List ℕ → Type 0} → ((ls : List (List ℕ)) (t : List ℕ) (b : Bool) → A ls t b → B ls t b)
    → Breaks input Told A → Breaks input Told B
breaks_by more it = record {
  lines = it.lines;
  text = it.text;
  refused = it.refused;
  read = it.read;
  told = it.told;
  answered = more _ _ _ it.answered;
}

module _ {S H : Type 0} (g : Ghosts S) (j : ShelfGhosts H)
    (input before now : Option (List ℕ)) (r : Held S) (h : H) (away : Image) (u : World) where
  module _ (p : Progress) (takes : TakesCommands p) where
    rest_answered : (lines : List (List ℕ)) (text : List ℕ) (refused : Bool)
        → AreStanding g j p r h away u lines text refused
        → AreAnswered g j r h away u lines text refused
    rest_answered lines text refused is = record {
      world = is.world;
      answers = is.answers;
      at = rest_stands g j p r h away is.before is.world takes is.stands;
    }

    -- nothing is to be settled
    pub ends_rest : (ended : Result BatchEnd FrontFault)
        → HandsIn g j p input before now r h away u ended
        → Batches g j input before now r h away u ended
    ends_rest (Ok (end.Ended refused)) it = ends_by rest_answered it.0
    ends_rest (Ok (end.Stopped fault)) it = it.1
    ends_rest (Err fault) (inl it) = inl (breaks_by rest_answered it.0)
    ends_rest (Err fault) (inr (f, is, stops)) = inr (inl (f, stops))

  module _ (work : Work) (s : Held S) where
    settled_answered : SettleDoes g j r s h work → (lines : List (List ℕ)) (text : List ℕ)
        (refused : Bool) → AreStanding g j (Applied work) r h away u lines text refused
        → AreAnswered g j s h away u lines text refused
    settled_answered does lines text refused is = record {
      world = is.world;
      answers = is.answers;
      at = does away is.before is.world is.stands.0 is.stands.1;
    }

    -- the last command was settled
    pub ends_settled : SettleDoes g j r s h work → (ended : Result BatchEnd FrontFault)
        → HandsIn g j (Applied work) input before now r h away u ended
        → Batches g j input before now s h away u ended
    ends_settled does (Ok (end.Ended refused)) it = ends_by (settled_answered does) it.0
    ends_settled does (Ok (end.Stopped fault)) (is, stops) = absurd (let no : ⊥ = cc in no)
    ends_settled does (Err fault) (inl it) = inl (breaks_by (settled_answered does) it.0)
    ends_settled does (Err fault) (inr (f, is, stops)) = absurd (let no : ⊥ = cc in no)

    left_unsettled : SettleLeaves g j r s h work → (lines : List (List ℕ)) (text : List ℕ)
        (refused : Bool) → AreStanding g j (Applied work) r h away u lines text refused
        → AreUnsettled g j s h away u lines text refused
    left_unsettled leaves lines text refused is = record {
      registry = r;
      shelf = h;
      carried = carried g j (Applied work) r h away u lines text refused is;
      left = leaves away is.before is.world is.stands.0 is.stands.1;
    }

    -- it couldn't be
    pub ends_unsettled : SettleLeaves g j r s h work
        → (ended : Result BatchEnd FrontFault)
        → HandsIn g j (Applied work) input before now r h away u ended
        → Batches g j input before now s h away u (Err (unsettled_fault ended))
    unfolding breaks_by
    ends_unsettled leaves (Ok (end.Ended refused)) (it, settled) = inr (inr (
      record {
        lines = it.lines;
        text = it.text;
        refused = refused;
        read = all_first input it.lines it.read;
        told = it.told;
        answered = left_unsettled leaves it.lines it.text refused it.answered;
      },
      IfSome_then input settled (λ bytes no. absurd (no refl)),
    ))
    ends_unsettled leaves (Ok (end.Stopped fault)) (is, stops) = absurd (let no : ⊥ = cc in no)
    ends_unsettled leaves (Err fault) (inl it) =
        inr (inr (breaks_by (left_unsettled leaves) it.0, it.1 refl))
    ends_unsettled leaves (Err fault) (inr (f, is, stops)) = absurd (let no : ⊥ = cc in no)
