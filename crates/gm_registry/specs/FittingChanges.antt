-- What a change needs of the tables, so that no rule of theirs refuses it.
use Rattle.std.specs.Prelude.{ℕ, ◌+◌, List, [], ◌∷◌, length, IfSome}
use Rattle.std.specs.String.{string_bytes}
use Rattle.gm_lists.specs.Ordered.{Has}
use Rattle.sqlite.specs.Tree.{Trees}
use Rattle.gm_state.specs.declared.records.Component.{Component}
use Rattle.gm_state.specs.Rows.{Tables, mirror_row, component_row}
use Rattle.gm_changes.specs.Decides.{Changed}
use Rattle.gm_changes.specs.declared.change.Further.{Further}
use Rattle.gm_registry.specs.Changes.{changed_in, command_row, with_command, with_component, with_some_mirror, without_components, without_some_mirror}
use Rattle.gm_registry.specs.Fitting.{AreShort, HasFreeNumber, HasNoComponents, HasRoom, IsPlaced, TakesBytes, TakesIntents, TakesNumbers}
use Rattle.gm_registry.specs.Replies.{IsFree, count_of}
use Rattle.gm_registry.specs.declared.accept.Entry.{Entry}

-- each of them is placed once those before it were put
abbrev pub ArePlacedInTurn : List Component → Tables → Type 0
ArePlacedInTurn [] t = Unit {0}
ArePlacedInTurn (k ∷ ks) t =
    IsPlaced (component_row k) t × ArePlacedInTurn ks (with_component (component_row k) t)

-- the tables without what a change drops
abbrev pub without_gone : Changed → Tables → Tables
without_gone ch t = without_some_mirror ch.gone_mirror (without_components ch.gone_components t)

-- the records of a change break no rule of the tables
pub record FitsRecords (ch : Changed) (t : Tables) : Type 0 where
  pub gone : IfSome ch.gone_mirror
      (λ n. HasNoComponents n (without_components ch.gone_components t))
  pub put : IfSome ch.mirror (λ m. HasFreeNumber (mirror_row m) (without_gone ch t))
  pub placed : ArePlacedInTurn ch.components (with_some_mirror ch.mirror (without_gone ch t))

-- each further key is free once the command is there under those before it
abbrev pub AreFreeInTurn : List Further → ℕ → List ℕ → Tables → Type 0
AreFreeInTurn [] number words t = Unit {0}
AreFreeInTurn (f ∷ more) number words t = IsFree t (string_bytes f.key)
    × AreFreeInTurn more (number + 1) words
    (with_command (command_row (string_bytes f.key) number words f.reply) t)

-- the same after its first key, under which it gets the next number
abbrev pub IsFreeUnderFurther : Changed → List ℕ → List ℕ → Tables → Type 0
IsFreeUnderFurther ch key words t = AreFreeInTurn ch.further (count_of t + 2) words
    (with_command (command_row key (count_of t + 1) words ch.reply) t)

-- nor do its intents, its bytes, its keys and its words, when they are added to these tables
pub record FitsTables (ch : Changed) (key words : List ℕ) (t : Tables) : Type 0 where
  pub records : FitsRecords ch t
  pub intents : TakesIntents (length ch.intents) t
  pub bytes : TakesBytes ch.bytes t
  pub key_free : IsFree t key
  pub short : AreShort key words
  pub further_free : IsFreeUnderFurther ch key words t
  pub further_short : (f : Further) → Has ch.further f → AreShort (string_bytes f.key) words

-- the command can be added under each further key, numbered on from this number
pub record TakesFurther (fs : List Further) (number : ℕ) (words : List ℕ) (db : Trees)
    (t : Tables) : Type 0 where
  pub free : AreFreeInTurn fs number words t
  pub numbers : TakesNumbers number (length fs) t
  pub short : (f : Further) → Has fs f → AreShort (string_bytes f.key) words
  pub room : HasRoom (length fs) db

-- so many rows of a table it has at most, with those of the command
abbrev pub rows_in : Entry → ℕ
rows_in e = length e.change.now.components + length e.change.now.further + 2

-- a command fits under this number and the next ones, and there is room for its rows
abbrev pub FitsEntry : Entry → ℕ → Trees → Tables → Type 0
FitsEntry e number db t =
    FitsTables (changed_in e) e.key.now e.words.now t
    × TakesNumbers number (length e.change.now.further + 1) t × HasRoom (rows_in e) db
