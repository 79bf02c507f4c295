-- What commands of each kind take, and the table of commands by their kinds.
use Rattle.std.specs.Prelude.{List, fold, true}
use Rattle.std.specs.Borrow.{Bor}
use Rattle.clap.specs.Walk.{Rule, Text}
use Rattle.clap.specs.Simple.{App, on_top, with_rule, with_subcommand}
use Rattle.gm_words.specs.Table.{configure, insert, label, name, names, on_component, on_mirror, on_provider, on_several, optional, patch, possible, wanted}
use Rattle.gm_words.specs.declared.clap_table.Kind.{Kind}
use Rattle.gm_words.specs.declared.clap_table.Kind.TheVariants.{Label, Insert, Configure, Patch, Mirror, Provider, Component, Several}
use Rattle.gm_words.specs.declared.clap_table.Word.{Word}
use Rattle.gm_words.specs.declared.clap_table.Word.TheVariants.{Name, Names, Wanted, Optional, Possible}

abbrev pub rule_of_word : Word → Rule
rule_of_word (Name id) = name id.now
rule_of_word (Names id) = names id.now
rule_of_word (Wanted id) = wanted id.now
rule_of_word (Optional id other) = optional id.now other.now
rule_of_word (Possible id) = possible id.now

abbrev pub with_word : App → Word → App
with_word command word = with_rule command (rule_of_word word)

-- the command that takes these too
abbrev pub with_words : App → List Word → App
with_words = fold with_word

-- the command by another word
abbrev pub called : Text → App → App
called word = on_top (λ s. record s { name = word })

-- the command of this word that takes what its kind does
abbrev pub command_of_kind : Text → Kind → App
command_of_kind word Label = called word label
command_of_kind word Insert = called word insert
command_of_kind word Configure = called word configure
command_of_kind word Patch = called word patch
command_of_kind word Mirror = on_mirror word
command_of_kind word Provider = on_provider word
command_of_kind word Component = on_component word
command_of_kind word Several = on_several word

-- the command by itself: its words are those after its own, and none of them asks for help
abbrev pub alone : Text → Kind → App
alone word kind =
    on_top (λ s. record s { no_binary_name = true; disable_help_flag = true })
    (command_of_kind word kind)

abbrev pub with_row : App → Bor Text × Kind → App
with_row command row = with_subcommand command (command_of_kind row.0.now row.1).top

-- the command that has these as its subcommands too
abbrev pub with_rows : App → List (Bor Text × Kind) → App
with_rows = fold with_row
