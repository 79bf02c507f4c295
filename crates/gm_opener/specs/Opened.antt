-- What an opening finds in two files, and what it leaves of them if it fails.
use Rattle.std.specs.Prelude.{◌≡◌, ◌⊎◌, IsTrue}
use Rattle.sqlite.specs.Files.{file_state, image_of, Finds, HoldsDatabase, IsEmpty, IsOpened, LeavesFiles}
use Rattle.sqlite.specs.Held.{Held, IsNew}
use Rattle.sqlite.specs.Start.{FindsIn}
use Rattle.sqlite.specs.State.{HasCleanDisk, State}
use Rattle.sqlite.specs.Steps.{IsFresh}
use Rattle.sqlite.specs.declared.error.Error.{Error}
use Rattle.sqlite.specs.declared.error.Error.TheVariants.{SqliteFailure}
use Rattle.sqlite.specs.declared.error.ErrorCode.TheVariants.{CannotOpen, DatabaseBusy, OutOfMemory}
use Rattle.sqlite.specs.declared.file.Leftover.{Leftover}
use Rattle.sqlite.specs.declared.file.Leftover.TheVariants as left
use Rattle.sqlite_disk.specs.declared.Disk.{Ghosts}
use Rattle.sqlite_disk.specs.declared.Files.{Files}
use Rattle.sqlite_pool.specs.Opening.{IsBlankFile}
use Rattle.sqlite_store.specs.FileStore.{is_shielded, recovers, view}
use Rattle.sqlite_store.specs.Unopened.{state_of}
use Rattle.sqlite_store.specs.declared.store.FileStore.{FileStore}
use Rattle.sqlite_trees.specs.Tree.{Trees}
use Rattle.sqlite_wal.specs.Files.{outcomes}
use Rattle.sqlite_wal.specs.Reads.{AreClean}
use Rattle.sqlite_wal.specs.Recovery.{Image}

-- there is no database yet, or no more of one than a stop leaves while its first page is written
abbrev pub IsBlank : Image → Type 0
IsBlank = IsBlankFile 2048

-- a database was made there without a table, or the one that was there is open
abbrev pub TakesIn : Image → State → Type 0
TakesIn image s = (IsBlank image × IsEmpty s.committed.trees) ⊎ FindsIn image s

-- a stop while a database is made leaves what was there, still none, or one without a table
abbrev pub IsBegun : Image → Type 0
IsBegun image = IsBlank image ⊎ ∥ ((db : Trees) × HoldsDatabase image db × IsEmpty db) ∥₁

-- before it is opened for the first time no one can call
abbrev pub IsUnopened : Error → Type 0
IsUnopened e =
    (e ≡ SqliteFailure CannotOpen)
    ⊎ ((e ≡ SqliteFailure OutOfMemory) ⊎ (e ≡ SqliteFailure DatabaseBusy))

module _ {D : Type 0} {g : Ghosts D} where
  -- a store that was just made, without a table
  pub record IsMade (it : FileStore D g) : Type 0 where
    pub fresh : IsFresh (view it)
    pub is_open : IsTrue (view it).is_open
    pub empty : IsEmpty (view it).trees
    pub shielded : is_shielded it

  pub record IsMadeIn (files : Files D) (c : Held (FileStore D g)) : Type 0 where
    pub clean : AreClean g files.log files.db
    pub blank : IsBlank (image_of g files)
    pub empty : IsEmpty (file_state c).committed.trees

  -- a connection that was just opened, whose later reads are tested
  pub record IsReady (c : Held (FileStore D g)) : Type 0 where
    pub opened : HasCleanDisk (file_state c) → IsOpened c
    pub guarded : HasCleanDisk (file_state c) → (file_state c).IsShielded
    pub fresh : IsNew c

  abbrev pub Takes : Files D → Held (FileStore D g) → Type 0
  Takes files c = IsMadeIn files c ⊎ Finds files c

  -- where there was no database, a stop finds what it could find before, still none, or an empty one
  abbrev pub IsStillEmpty : Files D → Leftover D g → Type 0
  IsStillEmpty files (left.Files now) =
      (image : Image) → outcomes g now.log now.db image → outcomes g files.log files.db image
  IsStillEmpty files (left.Unopened now) =
      (image : Image) → (state_of now).may_leave image
      → outcomes g files.log files.db image ⊎ IsBegun image
  IsStillEmpty files (left.Store now) = (found : Trees) → recovers now found → IsEmpty found

  abbrev pub Leaves : Files D → Leftover D g → Type 0
  Leaves files left =
      (IsBlank (image_of g files) × IsStillEmpty files left) ⊎ LeavesFiles files left
