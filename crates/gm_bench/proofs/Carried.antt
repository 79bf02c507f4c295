-- What a command that is handed in is answered, from what its parts do.
use Rattle.gm_bench.proofs.Common.{◌≡◌, ◌∙◌, inl, inr, ℕ, List, [], length, refl, sym, ap, subst, subst₂, Ghosts, Held, Image, Command, Call, Reply, World, Accepted, Answer, Done, Repeated, SeriesAnswer, Work, Progress, Ready, Pending, Applied, LeavesSteps, AreAnswered, AreBegun, AreDone, AcceptAnswers, AcceptBegins, AcceptLeaves, ApplyDoes, ApplyLeaves, IsCountOf, LeavesRun, answer_of, one_call, phase_carried, phase_of, progress_after, series_answer_of, waiting_of, IsAt, LeavesOnly, IsRun, AreHandedIn, IsHandedIn, Stands}
use Rattle.gm_rules.proofs.SeriesTurns.{steps_of_run}
use Rattle.gm_shelf.specs.declared.shelf.Shelf.{Ghosts as ShelfGhosts}
use Rattle.gm_bench.specs.declared.answer.Accepted.TheVariants as accepted
use Rattle.gm_bench.specs.declared.answer.Answer.TheVariants.{Refused}
use Rattle.gm_bench.specs.declared.phase.Phase.TheVariants as phase
use Rattle.gm_bench.specs.Standing.{Carries}
use Rattle.gm_bench.proofs.Phases.{is_ready, was_done}
use Rattle.gm_bench.proofs.RegistryLeaves.{then_only}
use Rattle.gm_bench.proofs.Standing.{carried_so, stands_still}

-- what is told of calls that are handed in to a bench that was so far before
abbrev pub Told : {S H : Type 0} → Ghosts S → ShelfGhosts H → Held S → Held S → H → H
    → List Call → SeriesAnswer → Progress → Progress → Type 0
Told g j r s h k calls a p before =
    (it : Accepted) × (a ≡ series_answer_of it) × (p ≡ progress_after before it)
    × AcceptAnswers g j (waiting_of before) r s h k calls it

-- accepted with r and h before and s and k after, by a bench that was so far before
module _ {S H : Type 0} (g : Ghosts S) (j : ShelfGhosts H) (r s : Held S) (h k : H)
    (calls : List Call) (before : Progress)
    (leaves : AcceptLeaves g j (waiting_of before) r s h k calls) where
  left_step : (away : Image) (v u : World) → Stands g j before r h away v u
      → LeavesSteps g j r s h k away v u calls
  left_step away v u stands =
      let was = carried_so g j before r h away v u stands in
      leaves away was.intents was.bytes v u was.at was.waits

  -- they are those of the command under the first of the keys
  pub begins : (c : Command) (keys : List (List ℕ)) → AcceptBegins g j r h c keys calls
      → (away : Image) (v u : World) → Stands g j before r h away v u → AreBegun c keys calls
  begins c keys begun away v u stands =
      let was = carried_so g j before r h away v u stands in
      begun away was.intents was.bytes v u was.at

  -- they were stopped before they were accepted
  pub unaccepted : j.size k ≡ j.size h → (away : Image) (v u : World)
      → Stands g j before r h away v u → LeavesRun g j r s h k away v u calls
  unaccepted sizes away v u stands = record {
    registry = s;
    shelf = k;
    sizes = sizes;
    accepting = left_step away v u stands;
    carrying = inl (refl, refl);
  }

  module _ (a : SeriesAnswer) (p : Progress) (never : phase_of before ≡ phase.Pending → ⊥)
      (told : Told g j r s h k calls a p before) where
    -- an answer that leaves nothing to be carried out
    rests : (it : Accepted) → p ≡ progress_after before it
        → (phase_of p ≡ phase.Pending → ⊥)
        → AcceptAnswers g j (waiting_of before) r s h k calls it
        → (away : Image) (v u : World) → Stands g j before r h away v u
        → IsCountOf calls (series_answer_of it)
        × AreHandedIn g j p r s h k away v u calls (answer_of it)
    rests (accepted.Done n count reply work) is other answers away v u stands =
        absurd (other (ap phase_of is))
    rests (accepted.Repeated n reply) is other answers away v u stands =
        let was = carried_so g j before r h away v u stands in
        let it = answers away was.intents was.bytes v u was.at was.waits in (
          refl,
          (
            it.0,
            left_step away v u stands,
            subst (λ (q : Progress). Stands g j q s k away v u) (sym is)
                (stands_still g j before r s h k away v u stands it.1),
          ),
        )
    rests (accepted.Refused why) is other answers away v u stands =
        let was = carried_so g j before r h away v u stands in
        let it = answers away was.intents was.bytes v u was.at was.waits in (
          refl,
          (
            it.0,
            left_step away v u stands,
            subst (λ (q : Progress). Stands g j q s k away v u) (sym is)
                (stands_still g j before r s h k away v u stands it.1),
          ),
        )

    pub rest_handed : (phase_of p ≡ phase.Pending → ⊥) → (away : Image) (v u : World)
        → Stands g j before r h away v u
        → IsCountOf calls a × AreHandedIn g j p r s h k away v u calls a.answer
    rest_handed other away v u stands =
        subst (λ (x : SeriesAnswer). IsCountOf calls x
        × AreHandedIn g j p r s h k away v u calls x.answer)
        (sym told.1) (rests told.0 told.2 other told.3 away v u stands)

    module _ (pending : phase_of p ≡ phase.Pending) where
      abbrev pub work : Work
      work = (was_done before told.0 p never told.2 pending).work

      pub is_work : p ≡ Pending work
      is_work = (was_done before told.0 p never told.2 pending).progress

      abbrev number : ℕ
      number = (was_done before told.0 p never told.2 pending).number

      abbrev count : ℕ
      count = (was_done before told.0 p never told.2 pending).count

      abbrev reply : Reply
      reply = (was_done before told.0 p never told.2 pending).reply

      is_done : told.0 ≡ accepted.Done number count reply work
      is_done = (was_done before told.0 p never told.2 pending).is

      done : (away : Image) (v u : World) → Stands g j before r h away v u
          → (length calls ≡ count) × AreDone g j s k away u calls number reply work
      done away v u stands =
          let was = carried_so g j before r h away v u stands in
          subst (λ (x : Accepted).
          AreAnswered g j s k away was.intents was.bytes v u calls x) is_done
          (told.3 away was.intents was.bytes v u was.at was.waits)

      pub carried_handed : (end : Held S) (l : H) (q : Progress) → end ≡ s → j.size k ≡ j.size h
          → q ≡ Applied work → ApplyDoes g j s k l work → ApplyLeaves g j s k l work
          → (away : Image) (v u : World) → Stands g j before r h away v u
          → IsCountOf calls a × AreHandedIn g j q r end h l away v u calls a.answer
      carried_handed end l q same sizes is does goes away v u stands =
          let both = done away v u stands in
          let d = both.1 in
          let carries : Carries g j r s h l away v u d.world calls = record {
            registry = s;
            shelf = k;
            sizes = sizes;
            accepting = left_step away v u stands;
            pending = (work, d.at);
            carrying = goes away u d.world d.at;
          } in
          let standing : Stands g j q s l away u d.world =
          subst (λ (x : Progress). Stands g j x s l away u d.world) (sym is)
          (does away u d.world d.at) in
          subst (λ (x : SeriesAnswer). IsCountOf calls x
          × AreHandedIn g j q r end h l away v u calls x.answer)
          (sym (told.1 ∙ (λ i. series_answer_of (is_done i)))) (
            both.0,
            subst (λ (x : Held S). AreHandedIn g j q r x h l away v u calls
                (Done number reply)) (sym same)
                (d.world, d.answers, d.run, d.done, carries, standing),
          )

      pub uncarried : (end : Held S) (l : H) → end ≡ s → j.size k ≡ j.size h
          → ApplyLeaves g j s k l work
          → (away : Image) (v u : World) → Stands g j before r h away v u
          → LeavesRun g j r end h l away v u calls
      uncarried end l same sizes goes away v u stands =
          let d = (done away v u stands).1 in
          subst (λ (x : Held S). LeavesRun g j r x h l away v u calls) (sym same)
          (record {
            registry = s;
            shelf = k;
            sizes = sizes;
            accepting = left_step away v u stands;
            carrying = inr (
              d.world,
              steps_of_run u d.world calls d.answers number reply d.run d.done,
              (work, d.at),
              goes away u d.world d.at,
            );
          })

-- a command that was handed in to a bench at rest, and what is settled then
module _ {S H : Type 0} (g : Ghosts S) (j : ShelfGhosts H) (r mid s : Held S)
    (h k l : H) (key : List ℕ) (c : Command) (p : Progress) (away : Image) (u : World) where
  pub run_answers : (a : Answer) → IsHandedIn g j p r mid h k away u u key c a
      → ((v w : World) → Stands g j p mid k away v w
      → IsAt g j s l away [] [] w w) → IsRun g j s l away u key c a
  run_answers (Done n told) it settles =
      record { world = it.0; calls = it.1; at = settles u it.0 it.3 }
  run_answers (Repeated n told) it settles =
      record { world = u; calls = it.0; at = settles u u it.2 }
  run_answers (Refused why) it settles =
      record { world = u; calls = it.0; at = settles u u it.2 }

  undone_leaves : s ≡ mid → l ≡ k → j.size k ≡ j.size h
      → LeavesSteps g j r mid h k away u u (one_call key c)
      → LeavesRun g j r s h l away u u (one_call key c)
  undone_leaves same there sizes step =
      subst₂ (λ (x : Held S) (y : H). LeavesRun g j r x h y away u u (one_call key c)) (sym same)
      (sym there) (record {
        registry = mid;
        shelf = k;
        sizes = sizes;
        accepting = step;
        carrying = inl (refl, refl);
      })

  pub run_leaves : (a : Answer) → IsHandedIn g j p r mid h k away u u key c a
      → phase_of p ≡ phase_carried phase.Ready a → (p ≡ Ready → (s ≡ mid) × (l ≡ k))
      → j.size k ≡ j.size h → l ≡ k
      → ((v w : World) → Stands g j p mid k away v w
      → LeavesOnly g j mid s k l away v w)
      → LeavesRun g j r s h l away u u (one_call key c)
  run_leaves (Done n told) it is still sizes same settling = record {
    registry = it.2.registry;
    shelf = it.2.shelf;
    sizes = it.2.sizes;
    accepting = it.2.accepting;
    carrying = inr (
      it.0,
      (it.0, told, it.1.3, refl),
      it.2.pending,
      then_only g j it.2.registry mid s it.2.shelf k l away u it.0 same
          (sizes ∙ sym it.2.sizes) it.2.carrying (settling u it.0 it.3),
    );
  }
  run_leaves (Repeated n told) it is still sizes same settling =
      let none = still (is_ready p is) in
      undone_leaves none.0 none.1 sizes it.1
  run_leaves (Refused why) it is still sizes same settling =
      let none = still (is_ready p is) in
      undone_leaves none.0 none.1 sizes it.1
