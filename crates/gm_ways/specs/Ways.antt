-- In which order an image takes another one's place.
use Rattle.std.specs.Prelude.{ℕ, Bool, true, false, not, ◌==◌, ◌&&◌, List, [], ◌∷◌, Option, Some, None, if◌then◌else◌}
use Rattle.std.specs.List.{list_any}
use Rattle.std.specs.Option.{option_map_or}
use Rattle.gm_metadata.specs.Images.{same_label}
use Rattle.gm_commands.specs.declared.command.Command.{Command}
use Rattle.gm_commands.specs.declared.command.Command.TheVariants as commands
use Rattle.gm_state.specs.declared.records.Component.{Component}
use Rattle.gm_state.specs.declared.states.ComponentState.{ComponentState}
use Rattle.gm_state.specs.declared.states.ComponentState.TheVariants.{Active, Stale, Synchronizing, Inactive}
use Rattle.gm_state.specs.Lookups.{component_of, is_active, mirror_of}
use Rattle.gm_state.specs.Records.{Records}
use Rattle.gm_state.specs.States.{component_state}
use Rattle.gm_ways.specs.declared.step.Act.{Act}
use Rattle.gm_ways.specs.declared.step.Act.TheVariants.{Insert, Remove, Lost, Forget}
use Rattle.gm_ways.specs.declared.step.Exchange.{Exchange}
use Rattle.gm_ways.specs.declared.step.Step.{Step}
use Rattle.gm_ways.specs.declared.step.Step.TheVariants.{HandIn, Fill}
use Rattle.gm_ways.specs.declared.way.OldImage.{OldImage}
use Rattle.gm_ways.specs.declared.way.OldImage.TheVariants.{There, Ruined, Gone}
use Rattle.gm_ways.specs.declared.way.Way.{Way}
use Rattle.gm_ways.specs.declared.way.Way.TheVariants.{InsertFirst, LostFirst, RemoveFirst, Inserted, Filled, OnlyFill}

-- the command that does it; a new component gets this number
abbrev pub command_of : Act → Exchange → ℕ → Command
command_of Insert e did = commands.Insert (record {
  name = e.mirror;
  provider = e.new;
  did = did;
  priority = 0;
  hardcoded = false;
})
command_of Remove e did = commands.Remove e.mirror e.old
command_of Lost e did = commands.Lost e.mirror (e.old ∷ [])
command_of Forget e did = commands.Forget e.mirror

-- the steps of a way, each command with the number of its key
abbrev pub steps_of : Way → List Step
steps_of InsertFirst = HandIn Insert 1 ∷ Fill ∷ HandIn Remove 2 ∷ []
steps_of LostFirst = HandIn Lost 1 ∷ HandIn Forget 2 ∷ HandIn Insert 3 ∷ Fill ∷ []
steps_of RemoveFirst = HandIn Remove 1 ∷ HandIn Insert 2 ∷ Fill ∷ []
steps_of Inserted = Fill ∷ HandIn Remove 2 ∷ []
steps_of Filled = Fill ∷ HandIn Remove 2 ∷ []
steps_of OnlyFill = Fill ∷ []

-- the first of them gives the old image up
abbrev pub gives_up : Act → Bool
gives_up Insert = false
gives_up Remove = true
gives_up Lost = true
gives_up Forget = false

abbrev pub gives_up_first : List Step → Bool
gives_up_first [] = false
gives_up_first (Fill ∷ steps) = false
gives_up_first (HandIn act number ∷ steps) = gives_up act

-- the first command of them, with the number of its key
abbrev pub first_command : List Step → Option (Act × ℕ)
first_command [] = None
first_command (Fill ∷ steps) = first_command steps
first_command (HandIn act number ∷ steps) = Some (act, number)

-- none removes an image before another was filled
abbrev pub removes_filled : List Step → Bool
removes_filled [] = true
removes_filled (Fill ∷ steps) = true
removes_filled (HandIn Remove number ∷ steps) = false
removes_filled (HandIn Insert number ∷ steps) = removes_filled steps
removes_filled (HandIn Lost number ∷ steps) = removes_filled steps
removes_filled (HandIn Forget number ∷ steps) = removes_filled steps

-- the image is a component of the mirror
abbrev pub is_member : Records → List ℕ → List ℕ → Bool
is_member s mirror p = option_map_or (λ k. same_label k.mirror mirror) (component_of s p) false

-- one of them is ACTIVE in the mirror, and is another image than this one
abbrev pub another_stays : List Component → List ℕ → List ℕ → Bool
another_stays ks mirror old = list_any
    (λ k. same_label k.mirror mirror && not (same_label k.provider old) && is_active k.disk) ks

-- the mirror has as many components as one may have, and one is ACTIVE beside this one
abbrev pub must_make_room : Records → List ℕ → List ℕ → Bool
must_make_room s mirror old =
    option_map_or (λ m. m.all == 16 && another_stays s.components mirror old) (mirror_of s mirror)
    false

-- the old one is given up: its image is gone, or it is ruined and another one is ACTIVE
abbrev pub is_given_up : Records → Exchange → OldImage → Bool
is_given_up s e There = false
is_given_up s e Ruined = another_stays s.components e.mirror e.old
is_given_up s e Gone = true

-- the new one is in the mirror: it is ACTIVE, or not
abbrev pub way_of_new : Option ComponentState → Way
way_of_new (Some Active) = Filled
way_of_new (Some Stale) = Inserted
way_of_new (Some Synchronizing) = Inserted
way_of_new (Some Inactive) = Inserted
way_of_new None = Inserted

-- the way of the two images, if one of them is in the mirror
abbrev pub way_by : Records → Exchange → OldImage → Option Way
way_by s e image =
    if is_member s e.mirror e.old
    then Some (if is_member s e.mirror e.new
    then way_of_new (component_state s e.new)
    else (if is_given_up s e image then LostFirst
    else (if must_make_room s e.mirror e.old then RemoveFirst else InsertFirst)))
    else (if is_member s e.mirror e.new then Some OnlyFill else None)
