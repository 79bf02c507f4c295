-- The table of the commands' words, as clap has it: the options and the names of each, all of them
-- texts.
use Rattle.std.specs.Prelude.{[], ◌∷◌, List, Some, codes, fold, true}
use Rattle.clap.specs.Walk.{Rule, Text}
use Rattle.clap.specs.Simple.{App, new_app, new_rule, on_top, with_rule, with_subcommand}
use Rattle.clap.specs.declared.builder.ArgAction.TheVariants.{Append, Set}

-- a name, by its place
unfoldable pub name : Text → Rule
name id = record (new_rule id) { required = true; action = Some Set }

-- one name or more, by their places: the last words
unfoldable pub names : Text → Rule
names id = record (new_rule id) { required = true; action = Some Append }

-- an option that must be given
unfoldable pub wanted : Text → Rule
wanted id = record (new_rule id) { long = Some id; required = true; action = Some Set }

-- an option that has this value if it isn't given
unfoldable pub optional : Text → Text → Rule
optional id other = record (new_rule id) {
  long = Some id;
  action = Some Set;
  defaults = other ∷ [];
}

-- an option that may be left out, and has no value then
unfoldable pub possible : Text → Rule
possible id = record (new_rule id) { long = Some id; action = Some Set }

-- the command with the name of a mirror
abbrev pub with_mirror : App → App
with_mirror command = with_rule command (name (codes "name"))

-- the command with a provider
abbrev pub with_provider : App → App
with_provider command = with_rule command (name (codes "prov"))

-- a command of this word that takes the name of a mirror alone
abbrev pub on_mirror : Text → App
on_mirror command = with_mirror (new_app command)

-- a command of this word that takes a provider alone
abbrev pub on_provider : Text → App
on_provider command = with_provider (new_app command)

-- a command of this word that takes a component: the name of its mirror and its provider
abbrev pub on_component : Text → App
on_component command = with_provider (on_mirror command)

abbrev pub label : App
label = with_provider
    (with_mirror
    (with_rule (with_rule
    (with_rule (with_rule (with_rule (with_rule (with_rule (new_app (codes "label"))
    (wanted (codes "mid")))
    (wanted (codes "did")))
    (optional (codes "balance") (codes "load")))
    (optional (codes "slice") (codes "4096")))
    (optional (codes "autosync") (codes "on")))
    (optional (codes "failsync") (codes "on")))
    (optional (codes "hardcode") (codes "off"))))

abbrev pub insert : App
insert = with_provider (with_mirror (with_rule (with_rule (with_rule (new_app (codes "insert"))
    (wanted (codes "did")))
    (optional (codes "priority") (codes "0")))
    (optional (codes "hardcode") (codes "off"))))

abbrev pub configure : App
configure = with_mirror
    (with_rule (with_rule
    (with_rule (with_rule (with_rule (with_rule (with_rule (new_app (codes "configure"))
    (possible (codes "balance")))
    (possible (codes "slice")))
    (possible (codes "autosync")))
    (possible (codes "failsync")))
    (possible (codes "hardcode")))
    (possible (codes "prov")))
    (possible (codes "priority")))

abbrev pub patch : App
patch = with_mirror (with_rule (with_rule (new_app (codes "patch"))
    (wanted (codes "first")))
    (wanted (codes "data")))

-- a command on a mirror and one or more providers
abbrev pub on_several : Text → App
on_several word = with_rule (on_mirror word) (names (codes "prov"))

-- one of these, and no words that ask for help
abbrev pub commands : App
commands = on_top (λ s. record s {
  no_binary_name = true;
  disable_help_flag = true;
  disable_help_subcommand = true;
  subcommand_required = true;
}) (new_app (codes "gmbench"))

-- the commands, in their order
abbrev pub subcommands : List App
subcommands = label ∷ insert ∷ on_component (codes "remove") ∷ on_component (codes "deactivate")
    ∷ on_component (codes "activate")
    ∷ on_mirror (codes "forget") ∷ on_component (codes "rebuild") ∷ configure
    ∷ on_provider (codes "clear")
    ∷ on_mirror (codes "destroy") ∷ on_several (codes "lost") ∷ on_component (codes "advance")
    ∷ on_several (codes "adopt") ∷ patch ∷ []

abbrev pub table : App
table = fold (λ above more. with_subcommand above more.top) commands subcommands
