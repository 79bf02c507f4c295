-- Commands that read their own words as the whole table does.
use Rattle.std.specs.Prelude.{◌≡◌, ◌∷◌, List, Some, true}
use Rattle.clap.specs.Walk.{Text}
use Rattle.clap.specs.Simple.{App, matches_of}
use Rattle.clap.specs.Words.{fault_of, is_simple_and_free, subcommand_of}
use Rattle.gm_words.specs.Table.{table}

-- by the command a alone, these words have the faults that they have by the whole table after this
-- word, and the same is found of them
pub record ReadsAlike (a : App) (word : Text) (own : List Text) : Type 0 where
  pub simple : is_simple_and_free a ≡ true
  pub faults : fault_of a own ≡ fault_of table (word ∷ own)
  pub found : Some (word, matches_of a own) ≡ subcommand_of table (word ∷ own)
