-- What a call that only reads leaves of a connection, if its text is known to be a query over
-- some schemas.
use Rattle.std.specs.Prelude.{◌≡◌, ◌⊎◌, IsTrue}
use Rattle.sqlite.specs.Schema.{Schema}
use Rattle.sqlite.specs.State.{State, HasCleanDisk, IsUnchanged, IsRolledBack, Survives}

-- a read that was answered: over a schema that is known it changed nothing, and commits nothing
pub record HasReadOver (Known : Schema → Type 0) (old new : State) : Type 0 where
  pub unchanged : HasCleanDisk new → Known old.now.schema → IsUnchanged old new
  pub left : Survives old new (λ _. ¬ (Known old.now.schema))

-- a read that failed: the most it did is to end a transaction
pub record HasFailedOver (Known : Schema → Type 0) (old new : State) : Type 0 where
  pub refused : HasCleanDisk new → Known old.now.schema → IsTrue new.is_open
      → IsUnchanged old new ⊎ IsRolledBack old new
  pub left : Survives old new (λ _. ¬ (Known old.now.schema))

-- whatever the tables hold, they stay while the connection is open, and a crash leaves them and
-- nothing else
pub record LeavesAlone (old new : State) : Type 0 where
  pub tables : HasCleanDisk new → IsTrue new.is_open → new.committed ≡ old.committed
  pub crash : Survives old new (λ _. ⊥)
