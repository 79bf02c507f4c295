-- What is seen of a world, and facts of it.
use Rattle.std.specs.Prelude.{◌≡◌, ◌≤◌, ◌-◌, ◌++◌, ◌==◌, ℕ, true, nat_le, List, map, Option, Some, option_map, if◌then◌else◌}
use Rattle.gm_metadata.specs.Images.{agree, zeros}
use Rattle.gm_taste.specs.declared.tasted.Member.{Member}
use Rattle.gm_commands.specs.declared.command.Command.{Command}
use Rattle.gm_commands.specs.declared.command.Command.TheVariants.{Adopt}
use Rattle.gm_lists.specs.Ordered.{Has}
use Rattle.gm_state.specs.Records.{Records, provider}
use Rattle.gm_state.specs.World.{World, present}
use Rattle.gm_refusals.specs.declared.facts.Fact.{Fact}
use Rattle.gm_refusals.specs.Facts.{size_in, last_in, equals_in}
use Rattle.gm_refusals.specs.Seen.{Seen}
use Rattle.gm_refusals.specs.Adoptable.{source_in, data_of, is_adoptable}
use Rattle.gm_refusals.specs.Applies.{looked_at, awaited}

-- the last sector of a provider that is there; zeros stand for the one of a provider without
-- sectors
abbrev pub last_of : World → List ℕ → Option (List ℕ)
last_of u p = option_map (λ n. if n == 0 then zeros else u.shelf p (n - 1)) (present u p)

-- what is seen of a world: of the providers that are there
abbrev pub seen_of : World → Seen
seen_of u = record { size = present u; last = last_of u; equal = agree u.shelf }

-- the providers that a command needs to know of: those that it looks at, and those of the
-- components that it waits for
abbrev pub needed_by : Records → Command → List (List ℕ)
needed_by s c = looked_at c ++ map provider (awaited s c)

-- if a mirror can be adopted, the facts tell which first sectors equal those of its source, up
-- to its data
abbrev pub TellEqual : List Fact → World → Command → Type 0
TellEqual facts u (Adopt n ps) = is_adoptable (seen_of u) n ps ≡ true → (b : Member)
    → source_in (seen_of u) ps ≡ Some b
    → (p : List ℕ) → Has ps p → (k : ℕ) → k ≤ data_of b.metadata
    → nat_le k (equals_in facts p) ≡ agree u.shelf b.provider p k
TellEqual facts u _ = Unit {0}

-- the facts are those of the world, for each provider that the command needs
pub record AreFacts (facts : List Fact) (u : World) (c : Command) : Type 0 where
  pub size : (q : List ℕ) → Has (needed_by u.state c) q → size_in facts q ≡ present u q
  pub last : (q : List ℕ) → Has (needed_by u.state c) q → last_in facts q ≡ last_of u q
  pub equal : TellEqual facts u c
