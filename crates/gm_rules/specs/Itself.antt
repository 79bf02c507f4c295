-- What an adoption rests on beside refusals: that its source is equal to itself.
use Rattle.std.specs.Prelude.{◌≡◌, true, Some}
use Rattle.gm_taste.specs.declared.tasted.Member.{Member}
use Rattle.gm_commands.specs.declared.command.Command.{Command}
use Rattle.gm_commands.specs.declared.command.Command.TheVariants.{Adopt}
use Rattle.gm_refusals.specs.Seen.{Seen}
use Rattle.gm_refusals.specs.Adoptable.{source_in, data_of, is_adoptable}

-- if a mirror can be adopted, its source is equal to itself as far as the data go
abbrev pub IsItself : Seen → Command → Type 0
IsItself x (Adopt n ps) = is_adoptable x n ps ≡ true → (b : Member) → source_in x ps ≡ Some b
    → x.equal b.provider b.provider (data_of b.metadata) ≡ true
IsItself x _ = Unit {0}
