-- What each text means.
use Rattle.gm_registry.proofs.Common.{◌≡◌, List, [], ◌∷◌, ℕ, Ok, refl, codes, pos, Some, Bool, false, true, Table, Schema, Command, CreateTable, Select, Delete, Insert, InsertOr, Values, Term, lit, col, op2, Query, Null, Int, Binary, Compare, Eq, reads_listing, command_of, statement_of, is_all_of, scan, about_text, mirrors_text, components_text, intents_text, commands_text, patches_text, put_about_text, upsert_mirror_text, drop_mirror_text, upsert_component_text, drop_component_text, put_intent_text, put_command_text, put_patch_text, settle_text, drop_patches_text, drop_about_text, find_command_text, last_command_text, about, mirrors, components, intents, commands, patches, no_schema, with_about, with_mirrors, first_schema, registry_schema}
use Rattle.sqlite.specs.Compile.{table_defined_by}
use Rattle.sqlite.specs.Change.{created}
use Rattle.sqlite_schema.specs.declared.command.Conflict.TheVariants.{Abort}
use Rattle.sqlite.specs.Listing.{understood}
use Rattle.sqlite.proofs.Callers.{IsPlain}
use Rattle.sqlite_tied.specs.Compute.{everything}
use Rattle.gm_rows.specs.Schema.{with_components, with_intents}

-- the text makes this table over a schema that was there before
pub record Defines (before after : Schema) (text : List ℕ) (table : Table) : Type 0 where
  pub command : command_of (understood before text) ≡ CreateTable
  pub alone : statement_of text (understood before text) ≡ text
  pub plain : IsPlain (understood before text)
  pub whole : is_all_of text 0 (understood before text) ≡ true
  pub table_is : table_defined_by text ≡ Ok (record table { tree = 0 })
  pub schema_is : created before (record table { tree = 0 }) ≡ after

pub about_is : Defines no_schema with_about about_text about
unfolding understood everything
about_is = record {
  command = refl;
  alone = refl;
  plain = (refl, refl);
  whole = refl;
  table_is = refl;
  schema_is = refl;
}

pub mirrors_is : Defines with_about with_mirrors mirrors_text mirrors
unfolding understood everything
mirrors_is = record {
  command = refl;
  alone = refl;
  plain = (refl, refl);
  whole = refl;
  table_is = refl;
  schema_is = refl;
}

pub components_is : Defines with_mirrors with_components components_text components
unfolding understood everything
components_is = record {
  command = refl;
  alone = refl;
  plain = (refl, refl);
  whole = refl;
  table_is = refl;
  schema_is = refl;
}

pub intents_is : Defines with_components with_intents intents_text intents
unfolding understood everything
intents_is = record {
  command = refl;
  alone = refl;
  plain = (refl, refl);
  whole = refl;
  table_is = refl;
  schema_is = refl;
}

pub commands_is : Defines with_intents first_schema commands_text commands
unfolding understood everything
commands_is = record {
  command = refl;
  alone = refl;
  plain = (refl, refl);
  whole = refl;
  table_is = refl;
  schema_is = refl;
}

pub patches_is : Defines first_schema registry_schema patches_text patches
unfolding understood everything
patches_is = record {
  command = refl;
  alone = refl;
  plain = (refl, refl);
  whole = refl;
  table_is = refl;
  schema_is = refl;
}

-- the text is this command, over the registry's schema
pub record Means (text : List ℕ) (command : Command) : Type 0 where
  pub command_is : command_of (understood registry_schema text) ≡ command
  pub plain : IsPlain (understood registry_schema text)

abbrev pub put_about : Command
put_about = Insert 0 (Values (lit (Int (pos 1)) ∷ lit Null ∷ lit (Int (pos 2)) ∷ []) 3)

pub put_about_is : Means put_about_text put_about
unfolding understood everything
put_about_is = record { command_is = refl; plain = (refl, refl) }

-- a row of nine columns after a rowid that is to be chosen
abbrev pub nine_terms : List Term
nine_terms = lit Null ∷ col 0 0 ∷ col 0 1 ∷ col 0 2 ∷ col 0 3 ∷ col 0 4 ∷ col 0 5 ∷ col 0 6
    ∷ col 0 7 ∷ col 0 8 ∷ []

-- the row that stood there under its rowid and key, with the eight other columns of the new one
abbrev pub updated : List Term
updated = col 1 0 ∷ col 1 0 ∷ col 1 1 ∷ col 0 12 ∷ col 0 13 ∷ col 0 14 ∷ col 0 15 ∷ col 0 16
    ∷ col 0 17 ∷ col 0 18 ∷ col 0 19 ∷ []

-- puts a row of nine columns in place of the one of its key
abbrev pub upsert : ℕ → ℕ → Command
upsert at tree =
    InsertOr at Abort (Values nine_terms 10)
    (record {
      target = Some (1 ∷ []);
      update = Some (record {
        lets = [];
        body = scan tree (op2 (Compare Eq Binary) (col 1 0) (col 0 9) ∷ []) updated [];
      });
    } ∷ [])

pub upsert_mirror_is : Means upsert_mirror_text (upsert 1 1)
unfolding understood everything
upsert_mirror_is = record { command_is = refl; plain = (refl, refl) }

pub upsert_component_is : Means upsert_component_text (upsert 2 4)
unfolding understood everything
upsert_component_is = record { command_is = refl; plain = (refl, refl) }

-- the first column is the parameter
abbrev pub by_key : Term
by_key = op2 (Compare Eq Binary) (col 1 1) (col 0 0)

-- deletes the rows of the key
abbrev pub drop : ℕ → ℕ → Command
drop at tree = Delete at (record { lets = []; body = scan tree (by_key ∷ []) (col 1 0 ∷ []) [] })

pub drop_mirror_is : Means drop_mirror_text (drop 1 1)
unfolding understood everything
drop_mirror_is = record { command_is = refl; plain = (refl, refl) }

pub drop_component_is : Means drop_component_text (drop 2 4)
unfolding understood everything
drop_component_is = record { command_is = refl; plain = (refl, refl) }

-- a row whose first column is its rowid
abbrev pub intent_terms : List Term
intent_terms = col 0 0 ∷ lit Null ∷ col 0 1 ∷ col 0 2 ∷ col 0 3 ∷ col 0 4 ∷ col 0 5 ∷ []

pub put_intent_is : Means put_intent_text (Insert 3 (Values intent_terms 7))
unfolding understood everything
put_intent_is = record { command_is = refl; plain = (refl, refl) }

abbrev pub command_terms : List Term
command_terms = lit Null ∷ col 0 0 ∷ col 0 1 ∷ col 0 2 ∷ col 0 3 ∷ col 0 4 ∷ []

pub put_command_is : Means put_command_text (Insert 4 (Values command_terms 6))
unfolding understood everything
put_command_is = record { command_is = refl; plain = (refl, refl) }

-- the bytes are the parameter
abbrev pub patch_terms : List Term
patch_terms = lit (Int (pos 1)) ∷ lit Null ∷ col 0 0 ∷ []

pub put_patch_is : Means put_patch_text (Insert 5 (Values patch_terms 3))
unfolding understood everything
put_patch_is = record { command_is = refl; plain = (refl, refl) }

-- deletes all rows of a table
abbrev pub clear : ℕ → ℕ → Command
clear at tree = Delete at (record { lets = []; body = scan tree [] (col 1 0 ∷ []) [] })

pub settle_is : Means settle_text (clear 3 7)
unfolding understood everything
settle_is = record { command_is = refl; plain = (refl, refl) }

pub drop_patches_is : Means drop_patches_text (clear 5 11)
unfolding understood everything
drop_patches_is = record { command_is = refl; plain = (refl, refl) }

pub drop_about_is : Means drop_about_text (clear 0 0)
unfolding understood everything
drop_about_is = record { command_is = refl; plain = (refl, refl) }

-- the text is this query over the tables of the schema
pub record AsksOver (schema : Schema) (text : List ℕ) (query : Query) (names : List (List ℕ)) :
    Type 0 where
  pub command_is : command_of (understood schema text)
      ≡ Select (record { lets = []; body = query }) names
  pub plain : IsPlain (understood schema text)
  pub of_tables : reads_listing schema text ≡ false

-- over those of the registry
abbrev pub Asks : List ℕ → Query → List (List ℕ) → Type 0
Asks = AsksOver registry_schema

abbrev pub shown_terms : List Term
shown_terms = col 1 2 ∷ col 1 3 ∷ col 1 4 ∷ col 1 5 ∷ []

abbrev pub find_query : Query
find_query = scan 8 (by_key ∷ []) shown_terms []

pub find_is : Asks find_command_text find_query (codes "seq" ∷ codes "words" ∷ codes "copied"
    ∷ codes "of_total" ∷ [])
unfolding understood everything
find_is = record { command_is = refl; plain = (refl, refl); of_tables = refl }

-- the first row by its number, from below or from above
abbrev pub end_query : Bool → Query
end_query descending =
    record (scan 8 [] (col 1 2 ∷ []) ((
      col 1 2,
      record {
        collation = Binary;
        descending = descending;
      },
    ) ∷ [])) { limit = lit (Int (pos 1)) }

abbrev pub last_query : Query
last_query = end_query true

pub last_is : Asks last_command_text last_query (codes "seq" ∷ [])
unfolding understood everything
last_is = record { command_is = refl; plain = (refl, refl); of_tables = refl }
