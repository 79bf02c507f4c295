-- Which phase a bench is in that may be asked something, and isn't in the phase for it.
use Rattle.gm_bench.proofs.Common.{◌≡◌, ◌∙◌, inl, inr, ℕ, refl, sym, ap, subst, Result, Ok, Err, IsErrOf, OnErr, OnOk, Reply, Work, Progress, Ready, Pending, Applied, Failed, Accepted, Answer, Done, Repeated, Sizes, IsWorkAtHand, AreAtHand, TakesCommands, TakesNext, phase_carried, phase_of, progress_after}
use Rattle.gm_bench.specs.declared.answer.Accepted.TheVariants as accepted
use Rattle.gm_bench.specs.declared.answer.Answer.TheVariants.{Refused}
use Rattle.gm_bench.specs.declared.phase.Phase.TheVariants as phase

-- a bench that takes a command and didn't fail is at rest
pub takes_ready : (p : Progress) → TakesCommands p → (p ≡ Failed → ⊥) → p ≡ Ready
takes_ready Ready t other = refl
takes_ready (Pending work) (inl t) other = cc
takes_ready (Pending work) (inr t) other = cc
takes_ready (Applied work) (inl t) other = cc
takes_ready (Applied work) (inr t) other = cc
takes_ready Failed t other = absurd (other refl)

is_failed : (p : Progress) → phase_of p ≡ phase.Failed → p ≡ Failed
is_failed Ready is = cc
is_failed (Pending work) is = cc
is_failed (Applied work) is = cc
is_failed Failed is = refl

pub is_ready : (p : Progress) → phase_of p ≡ phase.Ready → p ≡ Ready
is_ready Ready is = refl
is_ready (Pending work) is = cc
is_ready (Applied work) is = cc
is_ready Failed is = cc

-- what fails doesn't succeed
pub not_ok : {T E : Type 0} {e : E} (r : Result T E) → IsErrOf r e → OnOk r ⊥
not_ok (Ok x) is = let no : ⊥ = cc in no
not_ok (Err e) is = tt

-- what holds anyway holds of a call that fails
pub in_fault : {T E : Type 0} {P : Type 0} (r : Result T E) → P → OnErr r P
in_fault (Ok x) p = tt
in_fault (Err e) p = p

-- nothing is to be carried out if a command may be handed in
pub never_pending : (p : Progress) → TakesNext p → phase_of p ≡ phase.Pending → ⊥
never_pending Ready takes is = cc
never_pending (Pending work) (inl (inl t)) is = let no : ⊥ = cc in no
never_pending (Pending work) (inl (inr t)) is = let no : ⊥ = cc in no
never_pending (Pending work) (inr t) is = let no : ⊥ = cc in no
never_pending (Applied work) takes is = cc
never_pending Failed takes is = cc

pub pending_work : (a b : Work) → Pending a ≡ Pending b → a ≡ b
pending_work a b e = cc

-- a bench that didn't fail hasn't failed after an answer
pub carried_open : (p q : Progress) (a : Answer) → (p ≡ Failed → ⊥)
    → phase_of q ≡ phase_carried (phase_of p) a → q ≡ Failed → ⊥
carried_open p q (Done n reply) other is failed =
    let e : phase.Failed ≡ phase.Applied = sym (ap phase_of failed) ∙ is in
    let no : ⊥ = cc in no
carried_open p q (Repeated n reply) other is failed =
    other (is_failed p (sym is ∙ ap phase_of failed))
carried_open p q (Refused why) other is failed =
    other (is_failed p (sym is ∙ ap phase_of failed))

-- it is accepted, and this is pending
pub record WasDone (it : Accepted) (p : Progress) : Type 0 where
  pub number : ℕ
  pub count : ℕ
  pub reply : Reply
  pub work : Work
  pub is : it ≡ accepted.Done number count reply work
  pub progress : p ≡ Pending work

-- what is pending was accepted
pub was_done : (before : Progress) (it : Accepted) (p : Progress)
    → (phase_of before ≡ phase.Pending → ⊥) → p ≡ progress_after before it
    → phase_of p ≡ phase.Pending → WasDone it p
was_done before (accepted.Done n count reply work) p none is pending = record {
  number = n;
  count = count;
  reply = reply;
  work = work;
  is = refl;
  progress = is;
}
was_done before (accepted.Repeated n reply) p none is pending =
    absurd (none (sym (ap phase_of is) ∙ pending))
was_done before (accepted.Refused why) p none is pending =
    absurd (none (sym (ap phase_of is) ∙ pending))

-- it is what is to be carried out of that
pub work_hand : (size : Sizes) (before : Progress) (it : Accepted) (work : Work)
    → (phase_of before ≡ phase.Pending → ⊥) → progress_after before it ≡ Pending work
    → IsWorkAtHand size it → AreAtHand size work.intents.items
work_hand size before (accepted.Done n count reply mine) work none is handy =
    subst (λ (w : Work). AreAtHand size w.intents.items) (pending_work mine work is) handy
work_hand size before (accepted.Repeated n reply) work none is handy =
    absurd (none (ap phase_of is))
work_hand size before (accepted.Refused why) work none is handy = absurd (none (ap phase_of is))

-- what is pending, by the phase that a caller sees
pub has_pending : (p : Progress) → phase_of p ≡ phase.Pending → (work : Work) × (p ≡ Pending work)
has_pending Ready is = cc
has_pending (Pending work) is = (work, refl)
has_pending (Applied work) is = cc
has_pending Failed is = cc
