-- What the calls owe, of both media, that carry out what is pending and settle it: of intents that
-- are known, of those that a registry was found with, and of an opening.
use Rattle.std.specs.Prelude.{◌≡◌, ℕ, List, [], length, Result, IfOk, OnOk}
use Rattle.sqlite_trees.specs.declared.store.Store.{Ghosts as StoreGhosts}
use Rattle.gm_metadata.specs.Images.{Image}
use Rattle.gm_shelf.specs.declared.shelf.Shelf.{Ghosts as ShelfGhosts}
use Rattle.gm_state.specs.declared.intents.Intent.{Intent}
use Rattle.gm_state.specs.Records.{Records}
use Rattle.gm_state.specs.Rows.{Tables}
use Rattle.gm_state.specs.World.{World}
use Rattle.gm_rows.specs.ReadableTables.{AreTablesOf}
use Rattle.gm_rows.specs.declared.said_state.Loaded.{Loaded}
use Rattle.gm_registry.specs.Registry.{DiskKept, HasTables}
use Rattle.gm_bench.specs.declared.fault.BenchFault.{BenchFault}
use Rattle.gm_bench.specs.declared.media.Media.{Media}
use Rattle.gm_bench.specs.Calls.{Finishes, Keep, SettlesMedia, TellsDisk, TellsStore, WritesShelf}
use Rattle.gm_bench.specs.Faults.{IsOfMedia, IsOfOpening}
use Rattle.gm_bench.specs.Leading.{AllLead}
use Rattle.gm_bench.specs.Opened.{ChecksImages, LoadsOnly, StaysBefore, TellsOfTables}
use Rattle.gm_bench.specs.Presence.{AreAtHand}
use Rattle.gm_bench.specs.Recovering.{Cover, IsAt, IsFound, IsShelfOf, LeavesOnly}

module _ {S H T : Type 0} (s : StoreGhosts S) (h : ShelfGhosts H) (old new : Media S H)
    (result : Result T BenchFault) where
  -- what was pending is settled, once the shelf is the world's
  pub record SettlesIntents : Type 0 where
    -- a stop leaves what led to w, or w at rest
    pub leaves : h.honest old.shelf → DiskKept s new.registry
        → (away : Image) (ts : List Intent) (bytes : List (List ℕ)) (u w : World)
        → IsAt s h old.registry old.shelf away ts bytes u w
        → IsShelfOf (h.view old.shelf) w (h.size old.shelf)
        → LeavesOnly s h old.registry new.registry old.shelf new.shelf away u w
    -- the media are then at rest in w
    pub done : h.honest old.shelf → DiskKept s new.registry → OnOk result
        ((away : Image) (ts : List Intent) (bytes : List (List ℕ)) (u w : World)
        → IsAt s h old.registry old.shelf away ts bytes u w
        → IsShelfOf (h.view old.shelf) w (h.size old.shelf)
        → IsAt s h new.registry new.shelf away [] [] w w)
    -- it writes the registry alone
    pub settles : SettlesMedia s old new result

  -- of intents, with the sectors that they lay, and a part of the records that covers them
  module _ (part : Records) (ts : List Intent) (bytes : List (List ℕ)) where
    -- with each image that a stop may leave meanwhile the intents lead to w as before
    abbrev pub LeadMeanwhile : Type 0
    LeadMeanwhile = h.honest old.shelf → (away : Image) (u w : World)
        → (at : IsAt s h old.registry old.shelf away ts bytes u w) → Cover part w.state ts
        → AllLead at.tables ts bytes (h.size old.shelf) away
        ((h.view new.shelf).left_since (h.view old.shelf).moment) u w

    -- F3 comes only if the shelf failed, wherever the providers of the intents are at hand
    abbrev pub TellsDiskAtHand : Type 0
    TellsDiskAtHand = AreAtHand (h.size old.shelf) ts → TellsDisk h old.shelf new.shelf result

    -- they are carried out, and stay pending
    pub record AppliesWork : Type 0 where
      pub moments : LeadMeanwhile
      -- the shelf is then the world's
      pub done : h.honest old.shelf → OnOk result ((away : Image) (u w : World)
          → IsAt s h old.registry old.shelf away ts bytes u w → Cover part w.state ts
          → IsAt s h new.registry new.shelf away ts bytes u w
          × IsShelfOf (h.view new.shelf) w (h.size new.shelf))
      -- a stop leaves what leads to w
      pub leaves : h.honest old.shelf → (away : Image) (u w : World)
          → IsAt s h old.registry old.shelf away ts bytes u w → Cover part w.state ts
          → LeavesOnly s h old.registry new.registry old.shelf new.shelf away u w
      pub disk : TellsDiskAtHand
      -- it writes the shelf alone
      pub writes : WritesShelf h old new result

    -- they are carried out and settled
    pub record FinishesIntents : Type 0 where
      pub moments : LeadMeanwhile
      -- a stop leaves what leads to w
      pub leaves : h.honest old.shelf → DiskKept s new.registry → (away : Image) (u w : World)
          → IsAt s h old.registry old.shelf away ts bytes u w → Cover part w.state ts
          → LeavesOnly s h old.registry new.registry old.shelf new.shelf away u w
      -- the media are then at rest in w
      pub done : h.honest old.shelf → DiskKept s new.registry → OnOk result
          ((away : Image) (u w : World)
          → IsAt s h old.registry old.shelf away ts bytes u w → Cover part w.state ts
          → IsAt s h new.registry new.shelf away [] [] w w)
      pub disk : TellsDiskAtHand
      -- its faults are those of the media
      pub finishes : Finishes s h old new IsOfMedia result

    -- All records, and the intents that were found with them, are carried out and settled, if each
    -- image that they need is there.
    pub record FinishesFound : Type 0 where
      -- with each image that a stop may leave meanwhile the intents lead to w as before
      pub moments : h.honest old.shelf → (away : Image) (u w : World)
          → (at : IsFound s h old.registry old.shelf away ts bytes u w) → part ≡ w.state
          → AllLead at.tables ts bytes (h.size old.shelf) away
          ((h.view new.shelf).left_since (h.view old.shelf).moment) u w
      -- a stop leaves what leads to w
      pub leaves : h.honest old.shelf → DiskKept s new.registry → (away : Image) (u w : World)
          → IsFound s h old.registry old.shelf away ts bytes u w → part ≡ w.state
          → LeavesOnly s h old.registry new.registry old.shelf new.shelf away u w
      -- the media are then at rest in w
      pub done : h.honest old.shelf → DiskKept s new.registry → OnOk result
          ((away : Image) (u w : World)
          → IsFound s h old.registry old.shelf away ts bytes u w → part ≡ w.state
          → IsAt s h new.registry new.shelf away [] [] w w)
      -- F3 comes only if the shelf failed, wherever tables say these records and intents
      pub disk : (t : Tables) → AreTablesOf t part ts bytes
          → TellsDisk h old.shelf new.shelf result
      -- F5 comes exactly if an image isn't there
      pub checks : ChecksImages h old new part ts result
      -- its other faults are those of the media
      pub finishes : Finishes s h old new IsOfOpening result

module _ {S H : Type 0} (s : StoreGhosts S) (h : ShelfGhosts H) (old new : Media S H) where
  -- all that the registry holds is loaded
  pub record LoadsTables (result : Result Loaded BenchFault) : Type 0 where
    -- of a registry that leads to w: the records of w, and what is pending
    pub says : h.honest old.shelf → DiskKept s new.registry → IfOk result
        (λ l. (away : Image) (ts : List Intent) (bytes : List (List ℕ)) (u w : World)
        → (at : IsFound s h old.registry old.shelf away ts bytes u w)
        → (l.state ≡ w.state) × (l.intents.items ≡ ts) × (l.bytes.items ≡ bytes)
        × HasTables s new.registry at.tables)
    -- of any tables: what they say
    pub loaded : DiskKept s new.registry → IfOk result (λ l. (t : Tables)
        → HasTables s old.registry t → AreTablesOf t l.state l.intents.items l.bytes.items
        × HasTables s new.registry t)
    -- it reads the registry alone
    pub loads : LoadsOnly s old new result

  -- what is found pending is carried out and settled, and answered is how many intents it was
  pub record TakesUp (result : Result ℕ BenchFault) : Type 0 where
    -- a stop leaves what leads to w
    pub leaves : h.honest old.shelf → DiskKept s new.registry
        → (away : Image) (ts : List Intent) (bytes : List (List ℕ)) (u w : World)
        → IsFound s h old.registry old.shelf away ts bytes u w
        → LeavesOnly s h old.registry new.registry old.shelf new.shelf away u w
    -- the media are then at rest in w
    pub done : h.honest old.shelf → DiskKept s new.registry → IfOk result
        (λ n. (away : Image) (ts : List Intent) (bytes : List (List ℕ)) (u w : World)
        → IsFound s h old.registry old.shelf away ts bytes u w
        → (n ≡ length ts) × IsAt s h new.registry new.shelf away [] [] w w)
    -- by the tables and the sizes alone
    pub tells : TellsOfTables s h old new result
    -- F2 comes only if the store failed
    pub store : TellsStore s old.registry new.registry result
    -- some faults come before anything is written
    pub before : StaysBefore s old new result
    -- it keeps both media
    pub keep : Keep s h old.registry new.registry old.shelf new.shelf
