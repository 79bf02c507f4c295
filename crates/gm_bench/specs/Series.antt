-- Several calls of one command, under keys in turn: which of the keys may be taken, what is planned
-- under them, and what they come to.
use Rattle.std.specs.Prelude.{◌≡◌, ◌≢◌, ◌≤◌, ℕ, List, [], ◌∷◌, ◌++◌, length, map, Option, Some, None, IfOk, IfErr, IsErrOf, IsSomeAnd, Result}
use Rattle.std.specs.String.{string_bytes}
use Rattle.sqlite_trees.specs.declared.store.Store.{Ghosts}
use Rattle.sqlite.specs.Held.{Held}
use Rattle.gm_metadata.specs.Images.{Image, Sizes}
use Rattle.gm_shelf.specs.declared.shelf.Shelf.{Ghosts as ShelfGhosts}
use Rattle.gm_commands.specs.declared.command.Command.{Command}
use Rattle.gm_commands.specs.Commands.{words_of}
use Rattle.gm_state.specs.declared.intents.Intent.{Intent}
use Rattle.gm_state.specs.declared.intents.Intent.TheVariants.{Copy, Meta}
use Rattle.gm_state.specs.declared.records.Component.{Component}
use Rattle.gm_state.specs.declared.records.Mirror.{Mirror}
use Rattle.gm_state.specs.Lookups.{component_of, mirror_of}
use Rattle.gm_state.specs.Records.{Records, IsState}
use Rattle.gm_state.specs.World.{World}
use Rattle.gm_changes.specs.declared.change.Further.{Further}
use Rattle.gm_changes.specs.Decides.{Changed, changed_by}
use Rattle.gm_changes.specs.Stretches.{IsUnfilled, stretched, stretch_reply}
use Rattle.gm_rules.specs.AbstractCalls as run
use Rattle.gm_rules.specs.AbstractCalls.{Call}
use Rattle.gm_rules.specs.Series.{SeriesPlan, calls_of, keyed_in}
use Rattle.gm_bench.specs.declared.fault.BenchFault.{BenchFault}
use Rattle.gm_bench.specs.declared.fault.BenchFault.TheVariants.{Disk, Store, Unreadable}
use Rattle.gm_bench.specs.declared.judgement.Judgement.{Judgement}
use Rattle.gm_bench.specs.declared.judgement.Judgement.TheVariants.{New, Refused, Repeated}
use Rattle.gm_bench.specs.declared.plan.Planned.{Planned}
use Rattle.gm_bench.specs.Accepting.{one_call}
use Rattle.gm_bench.specs.Faults.{IsOfCall}
use Rattle.gm_bench.specs.Recovering.{Cover, IsCarriedOut}

-- the calls of a command under these keys
abbrev pub calls_under : Command → List (List ℕ) → List Call
calls_under c keys = map (λ key. record { key = key; command = c }) keys

-- the calls of the command under the first of these keys, at least one of them
pub record AreBegun (c : Command) (keys : List (List ℕ)) (calls : List Call) : Type 0 where
  pub some : calls ≢ []
  pub rest : List (List ℕ)
  pub all : calls ++ calls_under c rest ≡ calls_under c keys

-- ---- what is planned

-- a further key, and what is answered to the next stretch of the component
abbrev pub further_of : Mirror → Component → List ℕ → Further → Type 0
further_of m k key f = (string_bytes f.key ≡ key) × (f.reply ≡ stretch_reply m k)

-- from one change to another by the next stretches of its component, under these keys
abbrev pub IsStretchedBy : Mirror → List (List ℕ) → Changed → Changed → Type 0
IsStretchedBy m [] a b = b ≡ a
IsStretchedBy m (key ∷ keys) a b = (k : Component) × (f : Further) × IsUnfilled a k
    × further_of m k key f × IsStretchedBy m keys (stretched m k f a) b

-- from one change to another by the next stretches under the first of these keys
pub record GoesOnUnder (m : Mirror) (keys : List (List ℕ)) (a b : Changed) : Type 0 where
  pub taken : List (List ℕ)
  pub rest : List (List ℕ)
  pub all : taken ++ rest ≡ keys
  pub stretched : IsStretchedBy m taken a b

-- a provider of this size has room for so many sectors
abbrev pub HasRoomFor : Option ℕ → ℕ → Type 0
HasRoomFor size n = IsSomeAnd size (λ all. n ≤ all)

-- the intents are a copy of no more than so many sectors between images that have room for these,
-- and a write of metadata to one that has room for it
abbrev pub HaveRoomFor : Sizes → ℕ → List Intent → Type 0
HaveRoomFor size n (Copy source target first end ∷ (Meta p ∷ [])) =
    (end ≤ n) × HasRoomFor (size source) n × HasRoomFor (size target) n × HasRoomFor (size p) 1
HaveRoomFor size n ts = ⊥

-- the change does nothing to records but put components
pub record PutsComponents (ch : Changed) : Type 0 where
  pub no_mirror : ch.mirror ≡ None
  pub no_gone_mirror : ch.gone_mirror ≡ None
  pub none_gone : ch.gone_components ≡ []

-- The change puts a component alone, that is registered so in this mirror by then, in records that
-- are a state, and the images that it copies between have room for the mirror's data.
pub record CanGoOn (size : Sizes) (part : Records) (ch : Changed) (m : Mirror) : Type 0 where
  pub state : IsState part
  pub component : Component
  pub unfilled : IsUnfilled ch component
  pub there : component_of part component.provider ≡ Some component
  pub mirror_is : mirror_of part m.name ≡ Some m
  pub own : component.mirror ≡ m.name
  pub puts : PutsComponents ch
  pub room : HaveRoomFor size m.data_sectors ch.intents

-- What is planned of an advance that goes on under these keys; it fails for want of memory, or if
-- the records that it leaves of the part are no state.
pub record IsFurtherPlan (planned : Planned) (m : Mirror) (keys : List (List ℕ))
    (result : Result Planned BenchFault) : Type 0 where
  pub goes_on : IfOk result (λ p. GoesOnUnder m keys planned.change p.change)
  pub work : IfOk result (λ p. (p.work.part ≡ changed_by p.change planned.work.part)
      × (p.work.intents.items ≡ p.change.intents) × (p.work.bytes.items ≡ p.change.bytes))
  pub readable : IsErrOf result Unreadable → (ch : Changed) × GoesOnUnder m keys planned.change ch
      × (IsState (changed_by ch planned.work.part) → ⊥)
  pub disk : IsErrOf result Disk → ⊥
  pub not_store : IsErrOf result Store → ⊥
  pub fault : IfErr result IsOfCall

-- What is planned of a command under several keys: what carries all its calls out, and a part of
-- the records that covers it.
pub record ArePlanned (u : World) (key : List ℕ) (c : Command) (p : Planned) : Type 0 where
  pub world : World
  pub plan : SeriesPlan u key c p.change world
  pub intents : p.work.intents.items ≡ p.change.intents
  pub bytes : p.work.bytes.items ≡ p.change.bytes
  pub cover : Cover p.work.part world.state p.change.intents

-- under how many further keys a judgement can be accepted
abbrev pub further_in : Judgement → ℕ
further_in (New words planned) = length planned.change.further
further_in _ = 0

-- nothing is planned: the command is repeated or refused
abbrev pub IsUnplanned : Judgement → Type 0
IsUnplanned (New words planned) = ⊥
IsUnplanned _ = Unit {0}

-- the calls that a judgement can accept, or the one that it doesn't
abbrev pub calls_in : List ℕ → Command → Judgement → List Call
calls_in key c (New words planned) = calls_of c (keyed_in key planned.change)
calls_in key c _ = one_call key c

-- what the abstract bench answers to the first call without a step, or what is planned of all
abbrev pub AreJudged : World → List ℕ → Command → Judgement → Type 0
AreJudged u key c (Repeated n reply) =
    run.Calls u (record { key = key; command = c }) u (run.Repeated n reply)
AreJudged u key c (Refused why) =
    run.Calls u (record { key = key; command = c }) u (run.Refused why)
AreJudged u key c (New words planned) =
    ArePlanned u key c planned × (string_bytes words ≡ words_of c)

-- of a bench that stands for a world, the calls are those of the command under the first of the
-- keys
abbrev pub AcceptBegins : {S H : Type 0} → Ghosts S → ShelfGhosts H → Held S → H → Command
    → List (List ℕ) → List Call → Type 0
AcceptBegins g j r h c keys calls = (away : Image) (ts : List Intent) (bytes : List (List ℕ))
    (v u : World) → IsCarriedOut g j r h away ts bytes v u → AreBegun c keys calls
