-- What is decided on a command, and what is carried out once that is accepted.
use Rattle.std.specs.Prelude.{◌≡◌, ◌≤◌, ℕ, List, [], length, Result, Ok, Err}
use Rattle.gm_commands.specs.declared.command.Command.{Command}
use Rattle.gm_commands.specs.Commands.{words_of}
use Rattle.gm_state.specs.Records.{Records, IsState}
use Rattle.gm_state.specs.Rows.{Tables, joined}
use Rattle.gm_state.specs.World.{World}
use Rattle.gm_refusals.specs.declared.refusals.Refusal.{Refusal}
use Rattle.gm_changes.specs.Decides.{Changed, Makes, changed_by}
use Rattle.gm_refusals.specs.Applies.{IsLeast}
use Rattle.gm_refusals.specs.PartOf.{IsPartToDecide}
use Rattle.gm_changes.specs.PartChange.{LeavesPart}
use Rattle.gm_refusals.specs.Seen.{seen_in}
use Rattle.gm_refusals.specs.WorldFacts.{AreFacts, seen_of}
use Rattle.gm_metadata.specs.Images.{Sizes}
use Rattle.gm_shelf.specs.declared.shelf.Shelf.{Ghosts as ShelfGhosts}
use Rattle.gm_rules.specs.Itself.{IsItself}
use Rattle.gm_registry.specs.Accepting.{RepliesFit}
use Rattle.gm_registry.specs.FittingChanges.{FitsRecords}
use Rattle.gm_bench.specs.declared.answer.Accepted.{Accepted}
use Rattle.gm_bench.specs.declared.answer.Accepted.TheVariants.{Done}
use Rattle.gm_bench.specs.Presence.{AreAtHand}
use Rattle.gm_bench.specs.ShelfFacts.{IsHonestToAdopt, TellSizes}
use Rattle.gm_bench.specs.declared.plan.Planned.{Planned}
use Rattle.gm_bench.specs.declared.plan.Gathered.{Gathered}

-- the change is the command's, the intents and the bytes are the change's, and the part is what the
-- change leaves of one
pub record IsPlanned (u : World) (c : Command) (p : Planned) : Type 0 where
  pub makes : Makes u.state (seen_of u) c p.change
  pub intents : p.work.intents.items ≡ p.change.intents
  pub bytes : p.work.bytes.items ≡ p.change.bytes
  pub part : Records
  pub leaves : LeavesPart part c u.state p.change
  pub is : p.work.part ≡ changed_by p.change part

-- the least refusal, or what the command makes
abbrev pub IsDecided : World → Command → Result Planned Refusal → Type 0
IsDecided u c (Ok planned) = IsPlanned u c planned
IsDecided u c (Err r) = IsLeast u.state (seen_of u) c r

-- a part of the records that serves to decide on the command, how many mirrors there are, and facts
-- of the world
pub record IsKnown (u : World) (c : Command) (g : Gathered) : Type 0 where
  pub part : IsPartToDecide g.part.state (seen_in g.facts) c u.state
  pub mirrors : g.part.mirrors ≡ length u.state.mirrors
  pub facts : AreFacts g.facts u c

-- the same of these records alone, whatever the world is
pub record IsPartKnown (s : Records) (c : Command) (g : Gathered) : Type 0 where
  pub part : IsPartToDecide g.part.state (seen_in g.facts) c s
  pub mirrors : g.part.mirrors ≡ length s.mirrors

-- What serves to decide on the command, whatever the shelf is: a part of a state, of which there
-- are no fewer mirrors and no more than there may be, and facts with the shelf's sizes.
pub record IsToDecide {H : Type 0} (h : ShelfGhosts H) (shelf : H) (c : Command)
    (g : Gathered) : Type 0 where
  pub state : IsState g.part.state
  pub few : length g.part.state.mirrors ≤ g.part.mirrors
  pub most : g.part.mirrors ≤ 64
  pub sizes : TellSizes g.facts (h.size shelf)
  pub itself : IsHonestToAdopt h shelf c → IsItself (seen_in g.facts) c

-- what is planned is planned once, under no further key
abbrev pub IsPlannedOnce : Result Planned Refusal → Type 0
IsPlannedOnce (Ok planned) = planned.change.further ≡ []
IsPlannedOnce (Err r) = Unit {0}

-- what is planned is at hand
abbrev pub IsPlanAtHand : Sizes → Result Planned Refusal → Type 0
IsPlanAtHand size (Ok planned) = AreAtHand size planned.work.intents.items
IsPlanAtHand size (Err r) = Unit {0}

-- The records of a change break no rule of these tables, it puts no more than a mirror has, writes
-- at most three times to each and lays at most 64 sectors, and its replies and the words of its
-- command are in range.
pub record IsFitting (ch : Changed) (words : List ℕ) (t : Tables) : Type 0 where
  pub records : FitsRecords ch t
  pub few_put : length ch.components ≤ 16
  pub few_written : length ch.intents ≤ 48
  pub few_laid : length (joined ch.bytes) ≤ 32768
  pub replies : RepliesFit ch
  pub short : length words ≤ 70000

-- the same of what is planned for a command
abbrev pub IsPlanFitting : Command → Tables → Result Planned Refusal → Type 0
IsPlanFitting c t (Ok planned) = IsFitting planned.change (words_of c) t
IsPlanFitting c t (Err r) = Unit {0}

-- what is to be carried out of an accepted command is at hand
abbrev pub IsWorkAtHand : Sizes → Accepted → Type 0
IsWorkAtHand size (Done n count reply work) = AreAtHand size work.intents.items
IsWorkAtHand size _ = Unit {0}
