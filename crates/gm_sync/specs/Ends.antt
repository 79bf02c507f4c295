-- How a sync may end, and the filling of one component.
use Rattle.std.specs.Prelude.{◌≡◌, ◌≢◌, ℕ, List, Option, Some, None}
use Rattle.gm_refusals.specs.declared.refusals.CallRefusal.{CallRefusal}
use Rattle.gm_refusals.specs.declared.refusals.CallRefusal.TheVariants.{NoRoom}
use Rattle.gm_state.specs.Records.{Records}
use Rattle.gm_sync.specs.declared.due.Due.{Due}
use Rattle.gm_sync.specs.declared.fill.ComponentEnd.{ComponentEnd}
use Rattle.gm_sync.specs.declared.fill.ComponentEnd.TheVariants as component
use Rattle.gm_sync.specs.declared.fill.Unfilled.{Unfilled}
use Rattle.gm_sync.specs.declared.synced.Ending.{Ending}
use Rattle.gm_sync.specs.declared.synced.Ending.TheVariants.{Whole, Refused}
use Rattle.gm_sync.specs.Scopes.{next_of}

-- how many turns a loop takes at most
abbrev pub most_turns : ℕ
most_turns = 18446744073709551615

-- A refusal is this of the component that it names. If it names none, there was no room to go on
-- after so many commands.
abbrev pub RefusesAs : (List ℕ → CallRefusal → Type 0) → (ℕ → Type 0) → Option (List ℕ)
    → CallRefusal → Type 0
RefusesAs Q N (Some provider) why = Q provider why
RefusesAs Q N None why = (why ≡ NoRoom) × N most_turns

-- if nothing is left, this of the mirrors, and else that of the refusal
abbrev pub EndsAs : (Records → Type 0) → (List ℕ → CallRefusal → Type 0) → (ℕ → Type 0) → Ending
    → Type 0
EndsAs P Q N (Whole state) = P state
EndsAs P Q N (Refused provider why) = RefusesAs Q N provider why

-- The filling of a component ended so: if it is filled, a command was handed in, if an advance is
-- refused, this of the refusal, and else so many commands were.
abbrev pub ComponentEnds : (CallRefusal → Type 0) → (ℕ → Type 0) → ComponentEnd → Type 0
ComponentEnds Q N component.Filled = N 1
ComponentEnds Q N (component.Refused why) = Q why
ComponentEnds Q N component.Endless = N most_turns

-- What isn't filled of what is due is this of the refusal. If all is, a command was handed in,
-- unless nothing was to be filled.
abbrev pub FillsEach : (List ℕ → CallRefusal → Type 0) → (ℕ → Type 0) → Due → Records
    → Option Unfilled → Type 0
FillsEach Q N due state None = next_of due state ≢ None → N 1
FillsEach Q N due state (Some unfilled) = RefusesAs Q N unfilled.provider unfilled.why

-- what isn't filled if the filling of the component on a provider ended so
abbrev pub unfilled_at : List ℕ → ComponentEnd → Option Unfilled
unfilled_at provider component.Filled = None
unfilled_at provider (component.Refused why) =
    Some (record { provider = Some provider; why = why })
unfilled_at provider component.Endless = Some (record { provider = None; why = NoRoom })
