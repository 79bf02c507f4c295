-- What a command and its end make of the tables.
use Rattle.std.specs.Prelude.{◌≡◌, ℕ, ◌+◌, length, List, [], ◌∷◌, ◌++◌, Option, Some, None}
use Rattle.std.specs.String.{string_bytes}
use Rattle.gm_state.specs.declared.records.Mirror.{Mirror}
use Rattle.gm_state.specs.declared.records.Component.{Component}
use Rattle.gm_state.specs.declared.intents.Intent.{Intent}
use Rattle.gm_state.specs.declared.intents.Reply.{Reply}
use Rattle.gm_lists.specs.Ordered.{without}
use Rattle.gm_state.specs.Records.{Records, IsState}
use Rattle.gm_state.specs.Rows.{Tables, MirrorRow, ComponentRow, CommandRow, IntentRow, mirror_row, component_row, intent_rows, patch_rows, copied_of, total_of}
use Rattle.gm_changes.specs.declared.change.Further.{Further}
use Rattle.gm_changes.specs.Decides.{Changed, changed_by}
use Rattle.gm_rows.specs.ReadableTables.{HoldState}
use Rattle.gm_registry.specs.declared.accept.Entry.{Entry}
use Rattle.gm_registry.specs.declared.intents.Pending.{Pending}
use Rattle.gm_registry.specs.declared.intents.Pending.TheVariants.{Stays, Goes}

abbrev pub mirror_key : MirrorRow → List ℕ
mirror_key m = m.name

abbrev pub component_key : ComponentRow → List ℕ
component_key k = k.prov

-- without the mirror of this name
abbrev pub without_mirror : List ℕ → Tables → Tables
without_mirror name t = record t { mirrors = without mirror_key name t.mirrors }

-- this mirror, in place of the one of its name
abbrev pub with_mirror : MirrorRow → Tables → Tables
with_mirror m t = record t { mirrors = m ∷ without mirror_key m.name t.mirrors }

-- without the component on this provider
abbrev pub without_component : List ℕ → Tables → Tables
without_component prov t = record t { components = without component_key prov t.components }

-- this component, in place of the one on its provider
abbrev pub with_component : ComponentRow → Tables → Tables
with_component k t = record t { components = k ∷ without component_key k.prov t.components }

abbrev pub with_command : CommandRow → Tables → Tables
with_command c t = record t { commands = c ∷ t.commands }

abbrev pub without_some_mirror : Option (List ℕ) → Tables → Tables
without_some_mirror None t = t
without_some_mirror (Some name) t = without_mirror name t

abbrev pub with_some_mirror : Option Mirror → Tables → Tables
with_some_mirror None t = t
with_some_mirror (Some m) t = with_mirror (mirror_row m) t

-- without the components on these providers
abbrev pub without_components : List (List ℕ) → Tables → Tables
without_components [] t = t
without_components (prov ∷ more) t = without_components more (without_component prov t)

-- each of these components in place of the one on its provider
abbrev pub with_components : List Component → Tables → Tables
with_components [] t = t
with_components (k ∷ more) t = with_components more (with_component (component_row k) t)

-- with these rows of intents
abbrev pub with_intents : List IntentRow → Tables → Tables
with_intents more t = record t { intents = more ++ t.intents }

-- with a record of these bytes
abbrev pub with_patch : List ℕ → Tables → Tables
with_patch bytes t = record t { patches = bytes ∷ t.patches }

-- with the record of these bytes, if there are some
abbrev pub with_bytes : List (List ℕ) → Tables → Tables
with_bytes bytes t = record t { patches = patch_rows bytes ++ t.patches }

-- the tables with the records of a change: what is gone goes first
abbrev pub with_records : Changed → Tables → Tables
with_records ch t =
    with_components ch.components (with_some_mirror ch.mirror
    (without_some_mirror ch.gone_mirror (without_components ch.gone_components t)))

-- the row of an intent of this kind, by its number
abbrev pub row_of_kind : ℕ → ℕ → List ℕ → List ℕ → ℕ → ℕ → IntentRow
row_of_kind kind number provider source first end =
    record {
      ord = number;
      kind = kind;
      prov = provider;
      source = source;
      first_sector = first;
      end_sector = end;
    }

-- the row of a command under its key, with the two numbers of its reply
abbrev pub row_under : List ℕ → ℕ → List ℕ → ℕ → ℕ → CommandRow
row_under key number words copied of_total =
    record {
      call_key = key;
      seq = number;
      words = words;
      copied = copied;
      of_total = of_total;
    }

-- the same with its reply
abbrev pub command_row : List ℕ → ℕ → List ℕ → Reply → CommandRow
command_row key number words reply =
    row_under key number words (copied_of reply) (total_of reply)

-- the command under each further key as well, numbered on from this number
abbrev pub with_further : List Further → ℕ → List ℕ → Tables → Tables
with_further [] number words t = t
with_further (f ∷ more) number words t = with_further more (number + 1) words
    (with_command (command_row (string_bytes f.key) number words f.reply) t)

-- the tables with the change: its records, its intents, numbered from 1, the bytes that they lay,
-- and the command under its key and its further ones
abbrev pub with_change : Changed → List ℕ → ℕ → List ℕ → Tables → Tables
with_change ch key number words t =
    with_further ch.further (number + 1) words
    (with_command (command_row key number words ch.reply)
    (with_bytes ch.bytes (with_intents (intent_rows 1 ch.intents) (with_records ch t))))

-- the same under the next number
abbrev pub with_accepted : Changed → List ℕ → List ℕ → Tables → Tables
with_accepted ch key words t = with_change ch key (length t.commands + 1) words t

abbrev pub without_intents : Tables → Tables
without_intents t = record t { intents = [] }

abbrev pub without_bytes : Tables → Tables
without_bytes t = record t { patches = [] }

-- no intent is pending, and no bytes are to be laid
abbrev pub settled : Tables → Tables
settled t = record t { intents = []; patches = [] }

-- the tables with what stays pending when a command is accepted: all, or nothing
abbrev pub left_of : Pending → Tables → Tables
left_of Stays t = t
left_of Goes t = settled t

-- the change with these intents and bytes in place of its own
abbrev pub with_pending : Changed → List Intent → List (List ℕ) → Changed
with_pending ch ts bytes = record ch { intents = ts; bytes = bytes }

-- the change of a command as it is written
abbrev pub changed_in : Entry → Changed
changed_in e = with_pending e.change.now e.intents.now e.bytes.now

-- the tables with that command under this number
abbrev pub with_entry : Entry → ℕ → Tables → Tables
with_entry e number = with_change (changed_in e) e.key.now number e.words.now

-- The tables before and after a change that is accepted under a key.
pub record HoldsChange (ch : Changed) (key words : List ℕ) (old new : Tables) : Type 0 where
  -- those of a state hold it with the change
  pub records : (s : Records) → IsState s → HoldState s old → HoldState (changed_by ch s) new
  -- its intents come before those that were pending
  pub intents : new.intents ≡ intent_rows 1 ch.intents ++ old.intents
  -- and its bytes before theirs
  pub patches : new.patches ≡ patch_rows ch.bytes ++ old.patches
  -- the command is there under its key, by the next number, and then under its further ones
  pub commands : new.commands ≡ (with_further ch.further (length old.commands + 2) words
      (with_command (command_row key (length old.commands + 1) words ch.reply) old)).commands
