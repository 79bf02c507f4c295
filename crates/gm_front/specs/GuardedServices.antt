-- What a request over HTTP comes to whose command is carried out only if nothing stands in its way.
use Rattle.std.specs.Prelude.{◌≡◌, ◌≢◌, ◌⊎◌, ℕ, Bool, false, List, [], Option, None, Result, Ok, Err, IfSome}
use Rattle.std.specs.Io.KnownBytes.{Appends}
use Rattle.sqlite_trees.specs.declared.store.Store.{Ghosts as StoreGhosts}
use Rattle.gm_metadata.specs.Images.{Image}
use Rattle.gm_shelf.specs.declared.shelf.Shelf.{Ghosts as ShelfGhosts}
use Rattle.gm_commands.specs.declared.command.Command.{Command}
use Rattle.gm_state.specs.World.{World}
use Rattle.gm_looks.specs.declared.unlike.Unlike.{Unlike}
use Rattle.gm_bench.specs.Benches.{registry_of, shelf_of}
use Rattle.gm_bench.specs.Owed.{LookDoes}
use Rattle.gm_bench.specs.declared.bench.Bench.{Bench}
use Rattle.gm_bench.specs.declared.fault.BenchFault.{BenchFault}
use Rattle.gm_http.specs.Requests.{Asked, Asks}
use Rattle.gm_http.specs.Responses.{code_of}
use Rattle.gm_http.specs.Senders.{IsFromPage}
use Rattle.gm_front.specs.Batch.{AppendsFront}
use Rattle.gm_front.specs.Demands.{Demand, Carry, Told, demand_of}
use Rattle.gm_front.specs.Findings.{ComesToFinding, withheld_told}
use Rattle.gm_front.specs.Guards.{StoodInTheWay}
use Rattle.gm_front.specs.Services.{LeavesAll, Serves, TurnsAway, bytes_of}
use Rattle.gm_front.specs.declared.answer_lines.FrontFault.{FrontFault}
use Rattle.gm_front.specs.declared.answer_lines.FrontFault.TheVariants.{Memory, Read, Write}
use Rattle.gm_front.specs.declared.finding.Finding.{Finding}
use Rattle.gm_front.specs.declared.finding.Finding.TheVariants as finding

-- All of what is told was written, or a beginning of it.
abbrev pub TellsOf : Told → Option (List ℕ) → Option (List ℕ) → Result ℕ FrontFault → Type 0
TellsOf told before now (Ok code) =
    (code ≡ code_of told.status) × Appends before now (bytes_of told)
TellsOf told before now (Err Read) = ⊥
TellsOf told before now (Err Memory) = AppendsFront before now (bytes_of told)
TellsOf told before now (Err Write) = AppendsFront before now (bytes_of told)

module _ {S H : Type 0} (s : StoreGhosts S) (h : ShelfGhosts H) (old new : Bench S H) where
  -- The demand is a command that isn't handed in because of these components. Both media were only
  -- looked at.
  pub record IsWithheld (demand : Demand) (list : List Unlike) : Type 0 where
    pub key : List ℕ
    pub command : Command
    pub carry : demand ≡ Carry key command
    pub some : list ≢ []
    pub stood : StoodInTheWay s h old key command list
    pub looked : LookDoes s h (registry_of old) (registry_of new) (shelf_of old) (shelf_of new)

  -- the command that is demanded, if one is, had nothing in its way
  abbrev pub HasNothingInTheWay : Demand → Type 0
  HasNothingInTheWay demand = (key : List ℕ) (command : Command)
      → demand ≡ Carry key command → StoodInTheWay s h old key command []

  -- a command that was withheld had something in its way, and one that came to its end nothing
  abbrev pub HadNothing : Demand → Finding → Type 0
  HadNothing demand (finding.Withheld list) = IsWithheld demand list.items
  HadNothing demand (finding.Failed fault) = Unit {0}
  HadNothing demand _ = HasNothingInTheWay demand

  -- the request couldn't be read, so that nothing was asked of the bench
  abbrev pub IsUnserved : Option (List ℕ) → Option (List ℕ) → Result ℕ FrontFault
      → Option BenchFault → Type 0
  IsUnserved before now (Ok code) fault = ⊥
  IsUnserved before now (Err Write) fault = ⊥
  IsUnserved before now (Err Read) fault = LeavesAll s h before now
      (registry_of old) (registry_of new) (shelf_of old) (shelf_of new) fault
  IsUnserved before now (Err Memory) fault = LeavesAll s h before now
      (registry_of old) (registry_of new) (shelf_of old) (shelf_of new) fault

  module _ (away : Image) (u : World) where
    -- After a look the demand came to this.
    pub record FoundBehindLook (demand : Demand) (finding : Finding) : Type 0 where
      pub mid : Bench S H
      pub looked : LookDoes s h (registry_of old) (registry_of mid) (shelf_of old) (shelf_of mid)
      pub comes : ComesToFinding s h (registry_of mid) (registry_of new)
          (shelf_of mid) (shelf_of new) away u demand finding

    -- what a demand comes to, unless it is a command that is withheld
    abbrev pub FindsUnlessWithheld : Demand → Finding → Type 0
    FindsUnlessWithheld demand (finding.Withheld list) = Unit {0}
    FindsUnlessWithheld demand finding = FoundBehindLook demand finding

    -- After a look the request was served. Unless the bench failed, a command that it asks for had
    -- nothing in its way.
    pub record ServesBehindLook (input before now : Option (List ℕ))
        (result : Result ℕ FrontFault) (fault : Option BenchFault) : Type 0 where
      pub asked : Asked
      pub asks : IfSome input (λ bytes. Asks bytes asked)
      pub nothing : fault ≡ None → HasNothingInTheWay (demand_of asked)
      pub mid : Bench S H
      pub looked : LookDoes s h (registry_of old) (registry_of mid) (shelf_of old) (shelf_of mid)
      pub serves : Serves s h input before now (registry_of mid) (registry_of new)
          (shelf_of mid) (shelf_of new) away u result fault

  -- The request asks for a command that isn't handed in, and that is told.
  pub record Withholds (input before now : Option (List ℕ))
      (result : Result ℕ FrontFault) (fault : Option BenchFault) : Type 0 where
    pub asked : Asked
    pub asks : IfSome input (λ bytes. Asks bytes asked)
    pub list : List Unlike
    pub withheld : IsWithheld (demand_of asked) list
    pub told : TellsOf (withheld_told list) before now result
    pub none : fault ≡ None

  -- what serving a request comes to if a command is withheld that something stands in the way of
  abbrev pub ServesOrWithholds : Image → World → Option (List ℕ) → Option (List ℕ)
      → Option (List ℕ) → Result ℕ FrontFault → Option BenchFault → Type 0
  ServesOrWithholds away u input before now result fault =
      IsUnserved before now result fault
      ⊎ ServesBehindLook away u input before now result fault
      ⊎ Withholds input before now result fault

  -- the same if a page's request is turned away, unless those of any origin are wanted
  abbrev pub ServesGuarded : Bool → Image → World → Option (List ℕ) → Option (List ℕ)
      → Option (List ℕ) → Result ℕ FrontFault → Option BenchFault → Type 0
  ServesGuarded any_origin away u input before now result fault =
      ServesOrWithholds away u input before now result fault
      ⊎ ((any_origin ≡ false) × IfSome input IsFromPage × (registry_of new ≡ registry_of old)
      × (shelf_of new ≡ shelf_of old) × (fault ≡ None) × TurnsAway before now result)
