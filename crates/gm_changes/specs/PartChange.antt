-- What a change that is made of a part is of the whole.
use Rattle.std.specs.Prelude.{◌≡◌, Some}
use Rattle.gm_commands.specs.declared.command.Command.{Command}
use Rattle.gm_state.specs.declared.records.Mirror.{Mirror}
use Rattle.gm_state.specs.declared.records.Component.{Component}
use Rattle.gm_state.specs.Intents.{IsOf}
use Rattle.gm_state.specs.Records.{Records, IsState}
use Rattle.gm_refusals.specs.Seen.{Seen}
use Rattle.gm_refusals.specs.Applies.{name_of, IsGood}
use Rattle.gm_changes.specs.Decides.{Changed, Makes, changed_by}
use Rattle.gm_refusals.specs.PartOf.{IsPartToDecide}

-- the change is what the command makes of each whole state that the part is of, if no refusal
-- applies
abbrev pub IsMade : Records → Seen → Command → Changed → Type 0
IsMade part x c ch = (s : Records) → IsPartToDecide part x c s → IsGood s x c → Makes s x c ch

-- The change leaves of the part what it leaves of the whole, as far as the command's mirror: a
-- state if that is one, and each component of the mirror that the command names.
pub record LeavesPart (part : Records) (c : Command) (s : Records) (ch : Changed) : Type 0 where
  pub state : IsState (changed_by ch s) → IsState (changed_by ch part)
  pub own : (m : Mirror) (k : Component) → IsOf (changed_by ch s) m k → name_of c ≡ Some m.name
      → IsOf (changed_by ch part) m k
