-- What the calls owe that find out what the rules answer to a command. They write nothing.
use Rattle.std.specs.Prelude.{◌≡◌, ◌≤◌, ℕ, List, length, Result, IfOk, IfErr, OnOk, IsErrOf}
use Rattle.sqlite_trees.specs.declared.store.Store.{Ghosts as StoreGhosts}
use Rattle.gm_metadata.specs.Images.{Image, Sizes}
use Rattle.gm_shelf.specs.declared.shelf.Shelf.{Ghosts as ShelfGhosts}
use Rattle.gm_commands.specs.declared.command.Command.{Command}
use Rattle.gm_commands.specs.Commands.{CommandFits}
use Rattle.gm_state.specs.declared.intents.Intent.{Intent}
use Rattle.gm_state.specs.Records.{Records, IsState}
use Rattle.gm_state.specs.Rows.{Tables}
use Rattle.gm_state.specs.World.{World}
use Rattle.gm_refusals.specs.declared.facts.Fact.{Fact}
use Rattle.gm_refusals.specs.declared.refusals.Refusal.{Refusal}
use Rattle.gm_refusals.specs.PartOf.{IsPartToDecide}
use Rattle.gm_refusals.specs.Seen.{seen_in}
use Rattle.gm_refusals.specs.WorldFacts.{AreFacts}
use Rattle.gm_rules.specs.Itself.{IsItself}
use Rattle.gm_rows.specs.ReadableTables.{AreRecordsOf}
use Rattle.gm_registry.specs.declared.part.Part.{Part}
use Rattle.gm_registry.specs.Parts.{IsPartFor}
use Rattle.gm_registry.specs.Registry.{DiskKept, HasTables, IsRegistry, LeavesAlone, Reads}
use Rattle.gm_registry.specs.Replies.{count_of}
use Rattle.gm_bench.specs.declared.fault.BenchFault.{BenchFault}
use Rattle.gm_bench.specs.declared.fault.BenchFault.TheVariants.{Disk, Store, Unreadable}
use Rattle.gm_bench.specs.declared.media.Media.{Media}
use Rattle.gm_bench.specs.declared.phase.Waiting.{Waiting}
use Rattle.gm_bench.specs.declared.plan.Gathered.{Gathered}
use Rattle.gm_bench.specs.declared.plan.Planned.{Planned}
use Rattle.gm_bench.specs.Accepting.{left_by}
use Rattle.gm_bench.specs.Calls.{OnlyLooks, OnlyLooksUp, TellsStore}
use Rattle.gm_bench.specs.Faults.{IsOfCall}
use Rattle.gm_bench.specs.Planning.{IsDecided, IsKnown, IsPartKnown, IsPlanAtHand, IsPlanFitting, IsPlannedOnce, IsToDecide}
use Rattle.gm_bench.specs.Recovering.{IsCarriedOut}
use Rattle.gm_bench.specs.ShelfFacts.{IsHonestToAdopt, TellSizes}

module _ {S H T : Type 0} (s : StoreGhosts S) (old new : Media S H)
    (result : Result T BenchFault) where
  -- the accepted commands are counted, and this is told of how many there are
  pub record Counts (Tells : T → ℕ → Type 0) : Type 0 where
    pub told : DiskKept s new.registry → IfOk result (λ it. (t : Tables)
        → HasTables s old.registry t → Tells it (count_of t) × HasTables s new.registry t)
    -- no disk fault comes
    pub disk : IsErrOf result Disk → ⊥
    -- F2 comes only if the store failed
    pub store : TellsStore s old.registry new.registry result
    -- its faults are those of a call
    pub fault : IfErr result IsOfCall
    -- F6 comes only of more commands than may be accepted
    pub readable : DiskKept s new.registry → IsErrOf result Unreadable → (t : Tables)
        → HasTables s old.registry t → count_of t ≤ 100000 → ⊥
    -- it only reads the registry
    pub reads : Reads s old.registry new.registry
    -- whatever rows there are stay
    pub untouched : IsRegistry s old.registry → LeavesAlone s old.registry new.registry
    -- at Ok it is a registry still
    pub still : DiskKept s new.registry → OnOk result (IsRegistry s old.registry
        → IsRegistry s new.registry)
    -- the shelf stays
    pub shelf : new.shelf ≡ old.shelf

  -- something is looked up in the registry, and this is told of the tables; they can be read if
  -- they are such
  pub record LooksUp (Tells : T → Tables → Type 0) (AreRead : Tables → Type 0) : Type 0 where
    pub told : DiskKept s new.registry → IfOk result (λ it. (t : Tables)
        → HasTables s old.registry t → Tells it t × HasTables s new.registry t)
    -- F2 comes only if the store failed
    pub store : TellsStore s old.registry new.registry result
    -- F6 comes only of other tables
    pub readable : DiskKept s new.registry → IsErrOf result Unreadable → (t : Tables)
        → HasTables s old.registry t → AreRead t → ⊥
    pub looks : OnlyLooksUp s old new result

-- the part of the records is read that a command asks for, and that has each of these mids
pub record ReadsPart {S H : Type 0} (g : StoreGhosts S) (old new : Media S H)
    (result : Result Part BenchFault) (c : Command) (mids : List ℕ) : Type 0 where
  pub part : DiskKept g new.registry → IfOk result (λ r. (t : Tables) (s : Records)
      → HasTables g old.registry t → AreRecordsOf t s
      → IsPartFor s c mids r × HasTables g new.registry t)
  -- no disk fault comes
  pub disk : IsErrOf result Disk → ⊥
  -- F2 comes only if the store failed
  pub store : TellsStore g old.registry new.registry result
  -- its faults are those of a call
  pub fault : IfErr result IsOfCall
  -- F6 comes only if the rows say no state
  pub readable : DiskKept g new.registry → IsErrOf result Unreadable → (t : Tables) (s : Records)
      → HasTables g old.registry t → AreRecordsOf t s → ⊥
  -- it only reads the registry
  pub reads : Reads g old.registry new.registry
  -- the shelf stays
  pub shelf : new.shelf ≡ old.shelf

-- what is to be known is gathered to decide on a command
pub record Gathers {S H : Type 0} (g : StoreGhosts S) (h : ShelfGhosts H) (old new : Media S H)
    (result : Result Gathered BenchFault) (c : Command) : Type 0 where
  -- of a bench that stands for u: what is known of u
  pub known : h.honest old.shelf → DiskKept g new.registry → IfOk result
      (λ r. (away : Image) (ts : List Intent) (bytes : List (List ℕ)) (v u : World)
      → (at : IsCarriedOut g h old.registry old.shelf away ts bytes v u)
      → IsKnown u c r × HasTables g new.registry at.tables)
  -- of rows that say a state: it serves to decide, and if the shelf is honest to adopt it is known
  pub serves : DiskKept g new.registry → IfOk result (λ r. (t : Tables) (s : Records)
      → HasTables g old.registry t → AreRecordsOf t s
      → IsToDecide h old.shelf c r × HasTables g new.registry t
      × (IsHonestToAdopt h old.shelf c → IsPartKnown s c r))
  -- F6 comes only if the rows say no state
  pub readable : DiskKept g new.registry → IsErrOf result Unreadable → (t : Tables) (s : Records)
      → HasTables g old.registry t → AreRecordsOf t s → ⊥
  -- it only looks at both media
  pub looks : OnlyLooks g h old new result

-- The rules decide on a command, by a part of the records, how many mirrors there are, and facts.
pub record DecidesPart (part : Records) (count : ℕ) (facts : List Fact) (c : Command)
    (result : Result (Result Planned Refusal) BenchFault) : Type 0 where
  -- it is what is decided of each world that the part and the facts are of
  pub decides : IfOk result (λ r. (u : World) → IsPartToDecide part (seen_in facts) c u.state
      → count ≡ length u.state.mirrors → AreFacts facts u c → IsDecided u c r)
  -- no disk fault comes
  pub disk : IsErrOf result Disk → ⊥
  -- nor one of the store
  pub not_store : IsErrOf result Store → ⊥
  -- its faults are those of a call
  pub fault : IfErr result IsOfCall
  -- the change fits the tables of each state that the part is of
  pub fits : IfOk result (λ r. (t : Tables) (s : Records) → AreRecordsOf t s
      → IsPartToDecide part (seen_in facts) c s → count ≡ length s.mirrors
      → CommandFits c → IsItself (seen_in facts) c → IsPlanFitting c t r)
  -- nothing is planned under a further key
  pub once : IfOk result (λ r. IsState part → length part.mirrors ≤ count → count ≤ 64
      → IsPlannedOnce r)
  -- F6 comes only of a part that is no state
  pub readable : IsErrOf result Unreadable → CommandFits c → IsState part
      → length part.mirrors ≤ count → count ≤ 64 → IsItself (seen_in facts) c → ⊥
  -- what is then to be carried out is at hand
  pub at_hand : IfOk result (λ r. CommandFits c → IsState part → length part.mirrors ≤ count
      → count ≤ 64 → (size : Sizes) → TellSizes facts size → IsPlanAtHand size r)

-- the rules are asked of a command
pub record AsksRules {S H : Type 0} (g : StoreGhosts S) (h : ShelfGhosts H) (old new : Media S H)
    (result : Result (Result Planned Refusal) BenchFault) (c : Command) : Type 0 where
  -- of a bench that stands for u it is what is decided there
  pub decides : h.honest old.shelf → DiskKept g new.registry → IfOk result
      (λ r. (away : Image) (ts : List Intent) (bytes : List (List ℕ)) (v u : World)
      → (at : IsCarriedOut g h old.registry old.shelf away ts bytes v u)
      → IsDecided u c r × HasTables g new.registry at.tables)
  -- of rows that say a state, what is then to be carried out is at hand, and of one key
  pub at_hand : DiskKept g new.registry → IfOk result (λ r. (t : Tables) (s : Records)
      → HasTables g old.registry t → AreRecordsOf t s → HasTables g new.registry t
      × (CommandFits c → IsPlanAtHand (h.size old.shelf) r) × IsPlannedOnce r)
  -- and the change fits the tables
  pub fits : DiskKept g new.registry → IfOk result (λ r. (t : Tables) (s : Records)
      → HasTables g old.registry t → AreRecordsOf t s → CommandFits c
      → IsHonestToAdopt h old.shelf c → (waiting : Waiting)
      → IsPlanFitting c (left_by waiting t) r)
  -- F6 comes only if the rows say no state
  pub readable : DiskKept g new.registry → IsErrOf result Unreadable → (t : Tables) (s : Records)
      → HasTables g old.registry t → AreRecordsOf t s → CommandFits c
      → IsHonestToAdopt h old.shelf c → ⊥
  -- it only looks at both media
  pub looks : OnlyLooks g h old new result
