-- Which intents a loss left that came while others were pending, and which command was stopped.
use Rattle.std.specs.Prelude.{ℕ, ◌+◌, ◌-◌, Bool, false, List, [], ◌∷◌, length, take, drop, Option, Some, None, unwrap_or, nat_lt, if◌then◌else◌}
use Rattle.std.specs.List.{list_all}
use Rattle.gm_metadata.specs.Images.{same_label}
use Rattle.gm_commands.specs.declared.command.Command.{Command}
use Rattle.gm_commands.specs.declared.command.Command.TheVariants.{Lost}
use Rattle.gm_state.specs.declared.intents.Intent.{Intent}
use Rattle.gm_state.specs.declared.intents.Intent.TheVariants.{Meta}
use Rattle.gm_state.specs.declared.records.Component.{Component}
use Rattle.gm_state.specs.Lookups.{component_of}
use Rattle.gm_state.specs.Records.{Records, members}
use Rattle.gm_stopped.specs.declared.stopped.Stopped.{Stopped}

-- the component is of the mirror
abbrev pub is_member : List ℕ → Option Component → Bool
is_member name None = false
is_member name (Some k) = same_label k.mirror name

-- the intent writes the metadata of a component of the mirror
abbrev pub is_own : Records → List ℕ → Intent → Bool
is_own s name (Meta p) = is_member name (component_of s p)
is_own s name _ = false

-- how many intents come before the last ones, if those write the metadata of the mirror's
-- components, so many
abbrev pub before_own : Records → List ℕ → List Intent → ℕ → Option ℕ
before_own s name ts n =
    if nat_lt (length ts) n then None
    else if list_all (is_own s name) (drop (length ts - n) ts) then Some (length ts - n)
    else None

-- how many were pending before the command, if it is a loss
abbrev pub before_loss : Records → List Intent → Command → Option ℕ
before_loss s ts (Lost name ps) = before_own s name ts (length (members s.components name))
before_loss s ts _ = None

-- whether so many intents, at least one, came before a loss
abbrev pub passes : Option ℕ → Bool
passes None = false
passes (Some n) = nat_lt 0 n

-- the command that was stopped, of these, the newest first, after so many losses were passed
abbrev pub stopped_after : Records → List Intent → ℕ → List Command → Stopped
stopped_after s ts passed [] = record { command = None; losses = passed }
stopped_after s ts passed (c ∷ older) =
    if passes (before_loss s ts c)
    then stopped_after s (take (unwrap_or (before_loss s ts c) 0) ts) (passed + 1) older
    else record { command = Some c; losses = passed }

-- the command that was stopped, of those that were accepted last, the newest first
abbrev pub stopped_by : Records → List Intent → List Command → Stopped
stopped_by s ts commands = stopped_after s ts 0 commands
