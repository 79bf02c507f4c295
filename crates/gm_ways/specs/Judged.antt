-- What steps come to that are decided one after the other.
use Rattle.std.specs.Prelude.{◌≡◌, ◌+◌, ◌<◌, ◌^◌, ℕ, zero, suc, List, length, get_or, Option, Some, None, Result, Ok, Err, Bool, true, false}
use Rattle.gm_commands.specs.declared.command.Command.{Command}
use Rattle.gm_commands.specs.declared.command.Command.TheVariants.{Advance}
use Rattle.gm_state.specs.declared.states.ComponentState.{ComponentState}
use Rattle.gm_state.specs.declared.states.ComponentState.TheVariants.{Active, Stale, Synchronizing, Inactive}
use Rattle.gm_state.specs.Records.{Records}
use Rattle.gm_state.specs.States.{component_state}
use Rattle.gm_refusals.specs.declared.refusals.Refusal.{Refusal}
use Rattle.gm_refusals.specs.Applies.{IsGood, IsLeast}
use Rattle.gm_refusals.specs.Seen.{Seen}
use Rattle.gm_changes.specs.After.{after}
use Rattle.gm_ways.specs.Ways.{command_of}
use Rattle.gm_ways.specs.declared.step.Exchange.{Exchange}
use Rattle.gm_ways.specs.declared.step.Step.{Step}
use Rattle.gm_ways.specs.declared.step.Step.TheVariants.{HandIn, Fill}
use Rattle.gm_ways.specs.declared.judging.Judged.{Judged}
use Rattle.gm_ways.specs.declared.judging.Passed.{Passed}

-- nothing refuses the command, and it leaves these records
pub record Follows (s : Records) (x : Seen) (c : Command) (w : Records) : Type 0 where
  pub good : IsGood s x c
  pub left : w ≡ after x c s

-- what a command leaves, or the least refusal
abbrev pub FollowsOr : Records → Seen → Command → Result Records Refusal → Type 0
FollowsOr s x c (Ok w) = Follows s x c w
FollowsOr s x c (Err r) = IsLeast s x c r

-- a component is there, and it is ACTIVE
abbrev pub is_active : Option ComponentState → Bool
is_active (Some Active) = true
is_active (Some Stale) = false
is_active (Some Synchronizing) = false
is_active (Some Inactive) = false
is_active None = false

-- the image is an ACTIVE component
abbrev pub is_filled : Records → List ℕ → Bool
is_filled s image = is_active (component_state s image)

-- so many commands, one after the other, leave these records
abbrev pub Repeats : Seen → Command → ℕ → Records → Records → Type 0
Repeats x c zero s w = s ≡ w
Repeats x c (suc n) s w = (v : Records) × Repeats x c n s v × Follows v x c w

module _ (x : Seen) (e : Exchange) (did : ℕ) where
  -- a step leaves these records, by so many commands that nothing refuses: a filling, when the new
  -- image is ACTIVE
  abbrev pub Passes : Step → Records → ℕ → Records → Type 0
  Passes (HandIn act number) s n w = (n ≡ 1) × Follows s x (command_of act e did) w
  Passes Fill s n w = Repeats x (Advance e.mirror e.new) n s w
      × (is_filled w e.new ≡ true)

  -- a step is refused for this, perhaps after a part of its commands
  abbrev pub IsRefused : Step → Records → Refusal → Type 0
  IsRefused (HandIn act number) s r = IsLeast s x (command_of act e did) r
  IsRefused Fill s r = (n : ℕ) × (v : Records) × Repeats x (Advance e.mirror e.new) n s v
      × (is_filled v e.new ≡ false) × IsLeast v x (Advance e.mirror e.new) r

  abbrev pub PassesOr : Step → Records → Result Passed Refusal → Type 0
  PassesOr step s (Ok passed) = Passes step s passed.commands passed.state
  PassesOr step s (Err r) = IsRefused step s r

  module _ (steps : List Step) (s : Records) where
    -- the first i of the steps leave these records, by so many commands
    abbrev pub Lead : ℕ → ℕ → Records → Type 0
    Lead zero n w = (n ≡ 0) × (s ≡ w)
    Lead (suc i) n w = (v : Records) × (m : ℕ) × (k : ℕ) × (step : Step) × Lead i m v
        × (step ≡ get_or steps i step) × Passes step v k w × (n ≡ m + k)

    -- what is told of them: the records that each step finds, up to the one that is refused, and
    -- how many commands they take
    pub record Judges (told : Judged) : Type 0 where
      pub found : (i : ℕ) → i < length told.found.items → (v : Records)
          → v ≡ get_or told.found.items i v → (n : ℕ) × Lead i n v
      pub whole : told.refused ≡ None → (n : ℕ) × (w : Records) × Lead (length steps) n w
          × (length told.found.items ≡ length steps) × (n < 2 ^ 64 → told.commands ≡ n)
      pub refused : (r : Refusal) → told.refused ≡ Some r → (i : ℕ) × (n : ℕ) × (v : Records)
          × (step : Step) × (i < length steps) × Lead i n v × (step ≡ get_or steps i step)
          × (length told.found.items ≡ i + 1) × (v ≡ get_or told.found.items i v)
          × IsRefused step v r
      -- then those before it are counted
      pub counted : (r : Refusal) → told.refused ≡ Some r → (i : ℕ) × (n : ℕ) × (v : Records)
          × Lead i n v × (length told.found.items ≡ i + 1) × (n < 2 ^ 64 → told.commands ≡ n)
