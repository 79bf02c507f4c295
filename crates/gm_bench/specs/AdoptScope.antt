-- What is to be known of the images that a mirror is adopted from.
use Rattle.std.specs.Prelude.{ℕ, List, []}
use Rattle.gm_taste.specs.declared.tasted.Member.{Member}
use Rattle.gm_commands.specs.declared.command.Command.{Command}
use Rattle.gm_commands.specs.declared.command.Command.TheVariants.{Adopt}
use Rattle.gm_refusals.specs.Adoptable.{data_of}
use Rattle.gm_bench.specs.declared.adopt_scope.Compared.{Compared}

-- the providers that the command adopts a mirror from
abbrev pub adopted_from : Command → List (List ℕ)
adopted_from (Adopt n ps) = ps
adopted_from _ = []

-- the data of a source are what others are compared with
abbrev pub compared_with : Member → Compared
compared_with b = record { source = b.provider; limit = data_of b.metadata }
