-- The last sector of a provider, and one sector that is written and then fixed.
use Rattle.std.specs.Prelude.{◌≡◌, ◌≤◌, ◌⊎◌, ◌+◌, ◌-◌, ◌==◌, ℕ, List, Option, Some, None, OnOk, OnErr, if◌then◌else◌}
use Rattle.std.specs.Option.{option_and_then}
use Rattle.gm_metadata.specs.declared.label.Label.{Label}
use Rattle.gm_metadata.specs.Images.{Image, Same, Sizes, put, zeros}
use Rattle.gm_shelf.specs.declared.shelf.Shelf.{Ghosts}
use Rattle.gm_shelf.specs.Disk.{View, Answer, Torn, From, faults_after}
use Rattle.gm_shelf.specs.Keeping.{FailsJustAs, Keeps}

-- the last of so many sectors; zeros are the one of a provider without sectors
abbrev pub last_of : ℕ → (ℕ → List ℕ) → List ℕ
last_of n sectors = if n == 0 then zeros else sectors (n - 1)

-- the last sector of a provider that is there and has one
abbrev pub last_sector : Sizes → Image → Label → Option (List ℕ)
last_sector size seen p =
    option_and_then (λ n. if n == 0 then None else Some (seen p (n - 1))) (size p)

-- the sector is old or new, and every other is as it was: in what a read gives, and in each image
-- that a crash may leave, now or at any moment since
pub record OldOrNew (p : Label) (i : ℕ) (s : List ℕ) (old new : View) : Type 0 where
  pub seen : Torn p i s old.seen new.seen
  pub left : (x : Image) → new.may_leave x → From old.may_leave (λ d. Torn p i s d x)
  pub later : old.moment ≤ new.moment
  pub since : (t : ℕ) (x : Image) → t ≤ old.moment → new.left_since t x
      → old.left_since t x ⊎ From old.may_leave (λ d. Torn p i s d x)

-- the sector is new, in what a read gives and in each image that a crash may leave, every other is
-- as it was, and nothing of the provider is unsynced
pub record IsDone (p : Label) (i : ℕ) (s : List ℕ) (old new : View) : Type 0 where
  pub seen : Same new.seen (put p i s old.seen)
  pub left : (x : Image) → new.may_leave x → From old.may_leave (λ d. Same x (put p i s d))
  pub fixed : (x : Image) → new.may_leave x → (j : ℕ) → x p j ≡ new.seen p j

-- one write, then one sync if the write was done, and nothing else; the answer is that of the
-- last of them
pub record WritesThenSyncs {S : Type 0} (write_gives sync_gives : Answer → S → S → Type 0)
    (answer : Answer) (old new : S) : Type 0 where
  pub between : S
  pub wrote : Answer
  pub write : write_gives wrote old between
  pub failed : OnErr wrote ((answer ≡ wrote) × (new ≡ between))
  pub synced : OnOk wrote (sync_gives answer between new)

-- A call that writes the provider's last sector, then syncs the provider.
pub record WritesLast {H : Type 0} (g : Ghosts H) (old new : H) (result : Answer) (p : Label)
    (s : List ℕ) : Type 0 where
  -- At Ok the sector is fixed, and at every moment of the call it was old or new.
  pub done : (i : ℕ) → g.honest old → g.size old p ≡ Some (i + 1)
      → OnOk result (IsDone p i s (g.view old) (g.view new))
  pub moments : (i : ℕ) → g.honest old → g.size old p ≡ Some (i + 1)
      → OldOrNew p i s (g.view old) (g.view new)
  -- the provider isn't there, or it has no sectors, and then nothing is done
  pub fails : FailsJustAs g old new result (λ size. size p ≡ None) (λ size. size p ≡ Some 0)
  pub nothing_done : (g.size old p ≡ None) ⊎ (g.size old p ≡ Some 0) → new ≡ old
  -- It writes once and syncs once, and does nothing else.
  pub calls : (i : ℕ) → g.size old p ≡ Some (i + 1) → WritesThenSyncs
      (λ answer before after. g.write_gives before p i s answer after)
      (λ answer before after. g.sync_gives before p answer after) result old new
  pub keeps : Keeps g old new
  pub counted : (g.view new).faults ≡ faults_after result (g.view old).faults
