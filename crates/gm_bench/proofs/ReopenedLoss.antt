-- From what an opening without a provider does over its registry to what it leaves of the store.
use Rattle.gm_bench.proofs.Common.{◌≡◌, ◌∙◌, ◌⊎◌, inl, inr, Ok, ℕ, List, sym, subst, arith, Ghosts, Trees, Held, Image, IsLawful, Call, Intent, Reply, Plain, World, Tables, IsStored, Opens, CrashLeaves, DiskKept, HasTables, IsOpen, IsRegistry, LeavesAlone, MayLeave, WasClean, stored, first_is_ours, second_is_ours, Answer, Done, Repeated, Bench, Opened, Carried, redone_of, registry_of, shelf_of, AnswersLoss, AreUntouched, GivesUp, LacksImage, LeavesUndone, dropped, IsLeft, IsFound, IsStepWithout, LeavesCommit, WithoutCarries, WithoutDoes, WithoutLeaves, Carries, Commits, DoesLoss, DoesWithout, KeepsUndone, LacksFirst, LeavesLoss, LeavesWithout, loss_call}
use Rattle.gm_shelf.specs.declared.shelf.Shelf.{Ghosts as ShelfGhosts}
use Rattle.gm_bench.specs.declared.answer.Answer.TheVariants.{Refused as NotDone}
use Rattle.gm_bench.proofs.DecidesOnly.{alone_then}
use Rattle.gm_bench.proofs.ReopenedStore.{carried_then, found_at, is_opening, only_opened, opens_over}

module _ {S H : Type 0} (g : Ghosts S) (j : ShelfGhosts H) (store mid : Held S)
    (h : H) (opened : (t : Tables) → IsStored (stored g store) t → HasTables g mid t) where
  abbrev at_opened : (away : Image) (u w : World) → (left : IsLeft g j store h away u w)
      → IsFound g j mid h away left.recovers.intents left.recovers.bytes u w
  at_opened = found_at g j store mid h opened

  module _ (p : List ℕ) (call : Call) (gone : List Intent)
      (are : (away : Image) (ts : List Intent) (bytes : List (List ℕ)) (u w : World)
      → IsFound g j mid h away ts bytes u w → gone ≡ dropped p ts) where
    gone_is : (away : Image) (u w : World) → (left : IsLeft g j store h away u w)
        → gone ≡ dropped p left.recovers.intents
    gone_is away u w left = are away left.recovers.intents left.recovers.bytes u w
        (at_opened away u w left)

    committed : (s : Held S) → Commits g j (IsFound g j mid h) call p mid s h
        → WithoutLeaves g j store mid s h call p gone
    committed s commits away u w left = (
      gone_is away u w left,
      subst (λ (is : List Intent). LeavesCommit g j mid s h away u w call p is)
          (sym (gone_is away u w left))
          (commits away left.recovers.intents left.recovers.bytes u w (at_opened away u w left)),
    )

    carried : (m s : Held S) (k : H)
        → Carries g j (IsFound g j mid h) call p m s h k
        → WithoutCarries g j store m s h k call p gone
    carried m s k carries away u w left =
        let it = carries away left.recovers.intents left.recovers.bytes u w
        (at_opened away u w left) in (
          gone_is away u w left,
          it.0,
          subst (λ (is : List Intent). IsStepWithout w call p is it.0)
              (sym (gone_is away u w left)) it.1,
          it.2,
          it.3,
        )

    pub done : (s : Held S) (k : H) (n : ℕ) (reply : Reply)
        → DoesLoss g j (IsFound g j mid h) call p s k n reply
        → WithoutDoes g j store s h k call p gone
    done s k n reply does away u w left =
        let it = does away left.recovers.intents left.recovers.bytes u w (at_opened away u w left)
        in (
          gone_is away u w left,
          it.0,
          subst (λ (is : List Intent). IsStepWithout w call p is it.0)
              (sym (gone_is away u w left)) it.1,
          it.4,
        )

    pub lost_behind : (s : Held S) (k : H)
        → LeavesLoss g j (IsFound g j mid h) call p mid s h k
        → (WithoutLeaves g j store mid s h call p gone × (k ≡ h))
        ⊎ ((m : Held S) × WithoutLeaves g j store mid m h call p gone
        × WithoutCarries g j store m s h k call p gone)
    lost_behind s k (inl was) = inl (committed s was.0, was.1)
    lost_behind s k (inr is) = inr (is.0, committed is.0 is.1, carried is.0 s k is.2)

  module _ (lawful : IsLawful (j.view h))
      (only : (db : Trees) → CrashLeaves g store db → db ≡ stored g store) (clean : DiskKept g mid)
      (may : (t : Tables) → IsStored (stored g store) t → MayLeave g store mid t) where
    pub undone : (key p : List ℕ) (b : Bench S H) (answer : Answer) (redone : ℕ)
        → KeepsUndone g j key p mid (registry_of b) h (shelf_of b) (Carried answer redone)
        → LeavesUndone g j store h key p (Opened b answer)
    undone key p b (Done n reply) redone keeps = tt
    undone key p b (Repeated n reply) redone keeps =
        opens_over g j store mid h lawful only clean may opened (registry_of b) (shelf_of b) keeps
    undone key p b (NotDone why) redone keeps = tt

    pub given_up : (key p : List ℕ) (s : Held S) (k : H)
        → LeavesWithout g j key p mid s h k → GivesUp g j store h key p s k
    given_up key p s k (inl was) =
        inl (opens_over g j store mid h lawful only clean may opened s k was)
    given_up key p s k (inr it) = inr (record {
      registry = mid;
      opened = is_opening g j store mid h lawful only clean may opened;
      opening = only_opened g j store mid h lawful only clean may opened;
      mirror = it.0;
      gone = it.1;
      committing = lost_behind p (loss_call key it.0 p) it.1 it.2 s k it.3;
    })

    pub lacking : (key p : List ℕ) (s : Held S) (k : H) (q : List ℕ)
        → LacksFirst g j key p mid s h k q → LacksImage g j store h key p s k q
    lacking key p s k q lacks = (
      opens_over g j store mid h lawful only clean may opened s k lacks.0,
      λ away u w left. lacks.1 away left.recovers.intents left.recovers.bytes u w
          (at_opened away u w left),
    )

  pub answered : (key p : List ℕ) (b : Bench S H) (answer : Answer) (redone : ℕ)
      → redone_of b ≡ redone
      → DoesWithout g j key p mid (registry_of b) h (shelf_of b) (Carried answer redone)
      → AnswersLoss g j store h key p (Opened b answer)
  answered key p b (Done n reply) redone same does = (
    does.0,
    does.1,
    done p (loss_call key does.0 p) does.1 (λ away ts bytes u w at. (does.2 away ts bytes u w at).0)
        (registry_of b) (shelf_of b) n reply does.3,
    λ away u w left. (
        let at = at_opened away u w left in
        let it = does.3 away left.recovers.intents left.recovers.bytes u w at in
        let plain : it.1.reply ≡ Plain = it.1.step.reply in (
          it.3,
          sym it.2 ∙ plain,
          same ∙ (does.2 away left.recovers.intents left.recovers.bytes u w
              at).1,
        )),
  )
  answered key p b (Repeated n reply) redone same does = λ away u w left. (
      let it = does away left.recovers.intents left.recovers.bytes u w (at_opened away u w left) in
      (it.0, same ∙ it.1, it.2))
  answered key p b (NotDone why) redone same does = absurd does

-- both media after an opening of the registry that was left alone then
pub are_untouched : {S H : Type 0} (g : Ghosts S) (start mid new : Held S) (h k : H) → k ≡ h
    → WasClean g mid new → (IsOpen g start → Opens g start mid (Ok tt))
    → (DiskKept g new → IsRegistry g mid → LeavesAlone g mid new)
    → AreUntouched g start h new k
are_untouched g start mid new h k same was_clean opens alone = record {
  shelf_is = same;
  alone = λ is_open clean sound.
      let early : DiskKept g mid = omega (arith, was_clean, clean) in
      let it = opens is_open in
      let is = it.registry early (second_is_ours (stored g start) sound) in
      alone_then g start mid new is was_clean (it.second sound).alone (alone clean is);
  first_alone = λ is_open clean sound.
      let early : DiskKept g mid = omega (arith, was_clean, clean) in
      let it = opens is_open in
      let is = it.registry early (first_is_ours (stored g start) sound) in
      let over = it.first sound in
      carried_then g start mid new (over.done early) over.left (alone clean is);
}
