-- What contracts see of a shelf whose calls fail.
use Rattle.std.specs.Prelude.{◌≡◌, ◌<◌, ◌+◌, ◌⊎◌, ℕ, Ok, IsErr, IsErrOf}
use Rattle.gm_shelf.specs.Disk.{Answer}
use Rattle.gm_shelf.specs.Faults.{fault_after, count_after}
use Rattle.gm_shelf.specs.Turns.{turn_at}
use Rattle.gm_shelf.specs.declared.fault_shelf.FaultShelf.{FaultShelf}
use Rattle.gm_shelf.specs.declared.turns.Turn.{Turn}
use Rattle.gm_shelf.specs.declared.turns.Turn.TheVariants.{Passes, FailsBeforeActing, ActsAndFails}

module _ {H : Type 0} where
  -- the shelf that is wrapped
  abbrev pub inner_of : FaultShelf H → H
  inner_of s = s.inner

  -- how the nth call from now goes, counted from 1
  abbrev pub turn_of : FaultShelf H → ℕ → Turn
  turn_of s = turn_at s.plan

  -- how many failures the wrapper has counted
  abbrev pub failures_of : FaultShelf H → ℕ
  failures_of s = s.failures

  -- a failure of the device, which the wrapper counts
  pub record IsFailure (answer : Answer) (old new : FaultShelf H) : Type 0 where
    pub fault : IsErrOf answer (fault_after old.failures)
    pub counted : new.failures ≡ count_after old.failures

  -- a call that passes: it gives what the shelf in it gives, and the wrapper counts nothing
  pub record IsPassed (inner_gives : Answer → Type 0) (answer : Answer)
      (old new : FaultShelf H) : Type 0 where
    pub inner : inner_gives answer
    pub uncounted : new.failures ≡ old.failures

  -- a call that fails before it acts: a failure of the device, unless the place isn't there
  pub record IsStopped (is_there : Type 0) (answer : Answer) (old new : FaultShelf H) : Type 0 where
    pub untouched : new.inner ≡ old.inner
    pub fails : is_there → IsFailure answer old new
    pub uncounted : (is_there → ⊥) → new.failures ≡ old.failures

  -- a call that the shelf in it did, and that then fails
  pub record IsDoneAndFails (inner_gives : Answer → Type 0) (answer : Answer)
      (old new : FaultShelf H) : Type 0 where
    pub inner : inner_gives (Ok tt)
    pub fails : IsFailure answer old new

  -- a call that the shelf in it failed, and that fails as it did
  pub record IsFailedWithin (inner_gives : Answer → Type 0) (answer : Answer)
      (old new : FaultShelf H) : Type 0 where
    pub fault : IsErr answer
    pub passed : IsPassed inner_gives answer old new

  -- a call goes by its turn, and each later one goes as it would have
  pub record TakesTurn (inner_gives : Answer → Type 0) (is_there : Type 0) (answer : Answer)
      (old new : FaultShelf H) : Type 0 where
    pub passes : turn_of old 1 ≡ Passes → IsPassed inner_gives answer old new
    pub stops : turn_of old 1 ≡ FailsBeforeActing → IsStopped is_there answer old new
    pub acts_and_fails : turn_of old 1 ≡ ActsAndFails
        → IsDoneAndFails inner_gives answer old new ⊎ IsFailedWithin inner_gives answer old new
    pub later : (n : ℕ) → 0 < n → turn_of new n ≡ turn_of old (n + 1)
