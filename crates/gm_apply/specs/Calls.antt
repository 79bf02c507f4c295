-- What calls on a shelf owe that write sectors, carry out intents or compare providers: one record
-- for calls that owe the same.
use Rattle.std.specs.Prelude.{◌≡◌, ◌≤◌, ◌+◌, ◌-◌, ◌&&◌, ℕ, List, Option, Some, Result, is_some, length, OnOk, IfOk}
use Rattle.gm_metadata.specs.declared.label.Label.{Label}
use Rattle.gm_metadata.specs.declared.metadata.Metadata.{Metadata}
use Rattle.gm_metadata.specs.Images.{Image, Sizes, Same}
use Rattle.gm_shelf.specs.declared.fault.ShelfFault.{ShelfFault}
use Rattle.gm_shelf.specs.declared.shelf.Shelf.{Ghosts}
use Rattle.gm_shelf.specs.Disk.{Answer, From, IsRun, IsRunWrite, put_run, sector_of}
use Rattle.gm_shelf.specs.Keeping.{Keeps, Looks, ReadsOnly}
use Rattle.gm_lists.specs.Ordered.{Has}
use Rattle.gm_state.specs.declared.intents.Intent.{Intent}
use Rattle.gm_state.specs.declared.intents.Intent.TheVariants.{Copy, Patch}
use Rattle.gm_state.specs.Intents.{IsRedo, is_place, names}
use Rattle.gm_state.specs.Records.{Records}
use Rattle.gm_apply.specs.declared.differing_data.Difference.{Difference}
use Rattle.gm_apply.specs.DifferingData.{IsDifference, IsWithin, sectors_from}
use Rattle.gm_apply.specs.EqualData.{CountsEqual, IsEqualPart, reach_of}
use Rattle.gm_apply.specs.Failing.{EndsBefore, FailsAs, HasFewer, IsAbsent, OneOf}
use Rattle.gm_apply.specs.Redo.{CrashLeaves, IsFound, IsLaid, IsPartlyDone, IsUnderWay, KeepsOthers, LacksProvider, LacksSector, Moments, Places, PlacesAreNew, is_written, last_of, with_places, writes}

-- what a copy or a patch brings to the sectors that it names, where the pending bytes are these and
-- the shelf holds x
abbrev pub brought : Intent → List (List ℕ) → Image → Image
brought (Copy source target first end) bytes x = λ q j. x source j
brought (Patch p first end) bytes x = λ q j. sector_of bytes (j - first)
brought t bytes x = x

-- there are bytes for all sectors of a patch
abbrev pub HasBytes : Intent → List (List ℕ) → Type 0
HasBytes (Patch p first end) bytes = end ≤ first + length bytes
HasBytes t bytes = Unit {0}

module _ {H : Type 0} (g : Ghosts H) (old new : H) (result : Answer) where
  -- A call that writes a run of sectors to the provider, from this one on. It is told sectors that
  -- the provider holds there already, if it knows any.
  pub record WritesRun (p : Label) (first : ℕ) (run held : List (List ℕ)) : Type 0 where
    -- at Ok a read gives the run, if what it was told is so
    pub written : g.honest old → IsRun p first (g.view old).seen held
        → OnOk result (Same (g.view new).seen (put_run p first run (g.view old).seen))
    -- it is a write of the run, also one that failed
    pub law : g.honest old → IsRunWrite p first run (g.view old) (g.view new)
    pub fails : FailsAs g old new result (IsAbsent p) (EndsBefore (first + length run) p)
    pub keeps : Keeps g old new

  -- A call that does what a copy or a patch says, and leaves its sectors to be synced.
  pub record Fills (t : Intent) (bytes : List (List ℕ)) : Type 0 where
    -- at Ok a read gives all that is brought, if there are bytes for it
    pub done : g.honest old → HasBytes t bytes → OnOk result (Same (g.view new).seen
        (with_places (names (g.size old) t) (brought t bytes (g.view old).seen) (g.view old).seen))
    -- some of it is there, whether or not the call failed
    pub under_way : g.honest old → IsUnderWay (names (g.size old) t)
        (brought t bytes (g.view old).seen) (g.view old) (g.view new)
    pub fails : FailsAs g old new result (λ size. LacksProvider size t)
        (λ size. LacksSector size t)
    pub keeps : Keeps g old new

  -- A call that does what a copy or a patch says, and syncs.
  pub record FillsSynced (t : Intent) (bytes : List (List ℕ)) : Type 0 where
    -- at Ok all that is brought is there, whatever a crash does, if there are bytes for it
    pub done : g.honest old → HasBytes t bytes → OnOk result (PlacesAreNew (names (g.size old) t)
        (brought t bytes (g.view old).seen) (g.view old) (g.view new))
    -- a crash at any moment of the call leaves some of it
    pub moments : g.honest old → Moments (names (g.size old) t)
        (brought t bytes (g.view old).seen) (g.view old) (g.view new)
    -- no other sector is touched
    pub others : g.honest old → KeepsOthers (names (g.size old) t) (g.view old) (g.view new)
    pub fails : FailsAs g old new result (λ size. LacksProvider size t)
        (λ size. LacksSector size t)
    pub keeps : Keeps g old new

  -- A call that writes these places, each as an image says that has `Told`, and syncs.
  pub record WritesPlaces (place : Places) (Told : Image → Type 0) (written : Places)
      (Lacks Ends : Sizes → Type 0) : Type 0 where
    -- at Ok they are so, whatever a crash does
    pub done : g.honest old → (w : Image) → Told w
        → OnOk result (PlacesAreNew place w (g.view old) (g.view new))
    -- a crash at any moment of the call leaves some of them so
    pub moments : g.honest old → (w : Image) → Told w
        → Moments place w (g.view old) (g.view new)
    -- no sector is touched but those that are written
    pub others : g.honest old → KeepsOthers written (g.view old) (g.view new)
    pub fails : FailsAs g old new result Lacks Ends
    pub keeps : Keeps g old new

  -- the metadata that were found, if any were, go to the provider's last sector
  abbrev pub WritesFound : Label → Option Metadata → Type 0
  WritesFound p found = WritesPlaces (last_of (g.size old) p)
      (IsFound (last_of (g.size old) p) found)
      (λ q j. is_some found && last_of (g.size old) p q j)
      (IsAbsent p) (λ size. size p ≡ Some 0)

  -- one intent is carried out
  abbrev pub CarriesOut : Records → List (List ℕ) → Intent → Type 0
  CarriesOut s bytes t = WritesPlaces (names (g.size old) t)
      (IsLaid s bytes (g.size old) t (g.view old).seen) (writes s (g.size old) t)
      (λ size. LacksProvider size t) (λ size. LacksSector size t)

  -- A call that carries out intents in order, whatever a crash has left of them.
  pub record AppliesIntents (s : Records) (bytes : List (List ℕ)) (ts : List Intent)
      : Type 0 where
    -- At Ok each place holds what its intent says, also in every image that a crash may leave, and
    -- all else is as before.
    pub done : g.honest old → OnOk result ((w : Image)
        → IsRedo s bytes (g.size old) ts (g.view old).seen w
        → PlacesAreNew (is_place (g.size old) ts) w (g.view old) (g.view new))
    -- At every moment of the call a crash leaves a part of that, with data before claims and dirt
    -- before the data of a patch.
    pub moments : g.honest old → (w : Image)
        → IsRedo s bytes (g.size old) ts (g.view old).seen w → CrashLeaves (g.view old) (g.view new)
        (λ x. From (g.view old).may_leave (λ d. IsPartlyDone s (g.size old) ts w d x))
    -- Whatever the intents are: no sector is touched but those that they write.
    pub others : g.honest old
        → KeepsOthers (is_written s (g.size old) ts) (g.view old) (g.view new)
    -- one of them reads or writes what isn't there
    pub fails : FailsAs g old new result (λ size. (t : Intent) × Has ts t × LacksProvider size t)
        (λ size. (t : Intent) × Has ts t × LacksSector size t)
    pub keeps : Keeps g old new

module _ {H T : Type 0} (g : Ghosts H) (old new : H) (result : Result T ShelfFault) where
  -- A call that compares two providers, and tells what has `Told`.
  pub record Compares (Told Bound : T → Type 0) (Lacks Ends : Sizes → Type 0) : Type 0 where
    pub told : g.honest old → IfOk result Told
    pub within : IfOk result Bound  -- also if the shelf isn't honest
    pub fails : FailsAs g old new result Lacks Ends
    pub only : ReadsOnly g old new

  -- a run of n sectors, from this one on
  abbrev pub ComparesRun : (Told Bound : T → Type 0) → Label → Label → ℕ → ℕ → Type 0
  ComparesRun Told Bound p q first n =
      Compares Told Bound (OneOf IsAbsent p q) (OneOf (EndsBefore (first + n)) p q)

  -- their first n sectors
  abbrev pub ComparesFirst : (Told Bound : T → Type 0) → Label → Label → ℕ → Type 0
  ComparesFirst Told Bound p q n =
      Compares Told Bound (OneOf (HasFewer n) p q) (OneOf (HasFewer n) p q)

module _ {H : Type 0} (g : Ghosts H) (old new : H) (result : Result Difference ShelfFault) where
  -- how the two differ in that run
  abbrev pub TellsRun : Label → Label → ℕ → ℕ → Type 0
  TellsRun p q first n = ComparesRun g old new result
      (IsDifference (sectors_from (g.view old).seen p first)
      (sectors_from (g.view old).seen q first) n) (IsWithin n) p q first n

  -- how their first n sectors differ
  abbrev pub TellsDifference : Label → Label → ℕ → Type 0
  TellsDifference p q n = ComparesFirst g old new result
      (IsDifference ((g.view old).seen p) ((g.view old).seen q) n) (IsWithin n) p q n

module _ {H : Type 0} (g : Ghosts H) (old new : H) (result : Result ℕ ShelfFault) where
  -- how many first sectors of that run are equal
  abbrev pub CountsRun : Label → Label → ℕ → ℕ → Type 0
  CountsRun p q first n = ComparesRun g old new result
      (IsEqualPart (g.view old).seen p q first n) (λ m. m ≤ n) p q first n

  -- how many of the first n sectors are equal
  abbrev pub CountsFirst : Label → Label → ℕ → Type 0
  CountsFirst p q n = ComparesFirst g old new result
      (CountsEqual (g.view old).seen p q n) (λ m. m ≤ n) p q n

  -- A call that counts equal first sectors, up to a limit and to the ends of both providers.
  pub record CountsReach (p q : Label) (limit : ℕ) : Type 0 where
    pub equal : g.honest old → IfOk result
        (CountsEqual (g.view old).seen p q (reach_of (g.size old) p q limit))
    pub within : IfOk result (λ n. n ≤ reach_of (g.size old) p q limit)
    pub looks : Looks g old new result
