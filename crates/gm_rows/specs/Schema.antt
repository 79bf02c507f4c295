-- The schemas of the registry, as its texts define them.
use Rattle.std.specs.Prelude.{codes, List, ℕ, [], ◌∷◌, Bool, true, false, Some, None, pos}
use Rattle.sqlite.specs.Collation.TheVariants.{Binary}
use Rattle.sqlite.specs.declared.types.Value.TheVariants.{Null, Int}
use Rattle.sqlite.specs.Kind.TheVariants.{Integer, Text, Blob}
use Rattle.sqlite_schema.specs.declared.schema.Kind.{Kind}
use Rattle.sqlite_schema.specs.declared.schema.Column.{Column}
use Rattle.sqlite.specs.Term.{lit, col, op2}
use Rattle.sqlite_sql.specs.declared.ops.BinaryOp.TheVariants.{Compare}
use Rattle.sqlite_sql.specs.declared.ops.CompareOp.TheVariants.{Eq}
use Rattle.sqlite_schema.specs.declared.schema.Action.TheVariants.{NoAction}
use Rattle.sqlite.specs.Table.{Table}
use Rattle.sqlite.specs.Schema.{Schema}
use Rattle.sqlite_value.specs.Keys.{plain}
use Rattle.sqlite_schema.specs.declared.schema.Index.{Index}

-- a column of a STRICT table that takes values of its type alone
abbrev column : List ℕ → Kind → Bool → Column
column name kind not_null = record {
  name = name;
  kind = kind;
  is_strict = true;
  not_null = not_null;
  default = Null;
  collation = Binary;
}

-- a number that is always there
abbrev number : List ℕ → Column
number name = column name Integer true

-- a text that is always there
abbrev text : List ℕ → Column
text name = column name Text true

-- bytes that are always there
abbrev bytes : List ℕ → Column
bytes name = column name Blob true

-- the column that is the rowid
abbrev row_number : List ℕ → Column
row_number name = column name Integer false

abbrev pub about : Table
about = record {
  name = codes "about";
  tree = 0;
  columns = row_number (codes "one") ∷ number (codes "schema_no") ∷ [];
  key = Some 0;
  primary = 0 ∷ [];
  uniques = [];
  orders = [];
  checks = op2 (Compare Eq Binary) (col 1 0) (lit (Int (pos 1))) ∷ [];
  references = [];
  computed = [];
  stamps = record { places = []; terms = []; formats = [] };
  is_counted = false;
}

abbrev pub mirrors : Table
mirrors = record {
  name = codes "mirrors";
  tree = 1;
  columns = text (codes "name") ∷ number (codes "mid") ∷ number (codes "total")
      ∷ number (codes "genid") ∷ number (codes "syncid") ∷ number (codes "slice")
      ∷ number (codes "balance") ∷ number (codes "mediasize") ∷ number (codes "mflags") ∷ [];
  key = None;
  primary = 1 ∷ [];
  uniques = (1 ∷ []) ∷ (2 ∷ []) ∷ [];
  orders = plain ∷ plain ∷ [];
  checks = [];
  references = [];
  computed = [];
  stamps = record { places = []; terms = []; formats = [] };
  is_counted = false;
}

abbrev pub components : Table
components = record {
  name = codes "components";
  tree = 4;
  columns = text (codes "prov") ∷ text (codes "mirror") ∷ number (codes "did")
      ∷ number (codes "syncid") ∷ number (codes "priority") ∷ number (codes "sync_offset")
      ∷ number (codes "dflags") ∷ number (codes "hard") ∷ number (codes "provsize") ∷ [];
  key = None;
  primary = 1 ∷ [];
  uniques = (1 ∷ []) ∷ (2 ∷ 3 ∷ []) ∷ [];
  orders = plain ∷ plain ∷ [];
  checks = [];
  references =
      (record {
        columns = 2 ∷ [];
        parent = codes "mirrors";
        parent_columns = codes "name" ∷ [];
        on_delete = NoAction;
        on_update = NoAction;
        is_deferred = false;
      }) ∷ [];
  computed = [];
  stamps = record { places = []; terms = []; formats = [] };
  is_counted = false;
}

abbrev pub intents : Table
intents = record {
  name = codes "intents";
  tree = 7;
  columns = row_number (codes "ord") ∷ number (codes "kind") ∷ text (codes "prov")
      ∷ text (codes "source") ∷ number (codes "first_sector") ∷ number (codes "end_sector") ∷ [];
  key = Some 0;
  primary = 0 ∷ [];
  uniques = [];
  orders = [];
  checks = [];
  references = [];
  computed = [];
  stamps = record { places = []; terms = []; formats = [] };
  is_counted = false;
}

abbrev pub commands : Table
commands = record {
  name = codes "commands";
  tree = 8;
  columns = text (codes "call_key") ∷ number (codes "seq") ∷ text (codes "words")
      ∷ number (codes "copied") ∷ number (codes "of_total") ∷ [];
  key = None;
  primary = 1 ∷ [];
  uniques = (1 ∷ []) ∷ (2 ∷ []) ∷ [];
  orders = plain ∷ plain ∷ [];
  checks = [];
  references = [];
  computed = [];
  stamps = record { places = []; terms = []; formats = [] };
  is_counted = false;
}

abbrev pub patches : Table
patches = record {
  name = codes "patches";
  tree = 11;
  columns = row_number (codes "one") ∷ bytes (codes "bytes") ∷ [];
  key = Some 0;
  primary = 0 ∷ [];
  uniques = [];
  orders = [];
  checks = op2 (Compare Eq Binary) (col 1 0) (lit (Int (pos 1))) ∷ [];
  references = [];
  computed = [];
  stamps = record { places = []; terms = []; formats = [] };
  is_counted = false;
}

abbrev pub mirrors_by_name : Index
mirrors_by_name = record {
  name = codes "sqlite_autoindex_mirrors_1";
  tree = 2;
  table = 1;
  columns = 1 ∷ [];
  order = plain;
  is_unique = true;
}

abbrev pub mirrors_by_mid : Index
mirrors_by_mid = record {
  name = codes "sqlite_autoindex_mirrors_2";
  tree = 3;
  table = 1;
  columns = 2 ∷ [];
  order = plain;
  is_unique = true;
}

abbrev pub components_by_prov : Index
components_by_prov = record {
  name = codes "sqlite_autoindex_components_1";
  tree = 5;
  table = 4;
  columns = 1 ∷ [];
  order = plain;
  is_unique = true;
}

abbrev pub components_by_did : Index
components_by_did = record {
  name = codes "sqlite_autoindex_components_2";
  tree = 6;
  table = 4;
  columns = 2 ∷ 3 ∷ [];
  order = plain;
  is_unique = true;
}

abbrev pub commands_by_key : Index
commands_by_key = record {
  name = codes "sqlite_autoindex_commands_1";
  tree = 9;
  table = 8;
  columns = 1 ∷ [];
  order = plain;
  is_unique = true;
}

abbrev pub commands_by_seq : Index
commands_by_seq = record {
  name = codes "sqlite_autoindex_commands_2";
  tree = 10;
  table = 8;
  columns = 2 ∷ [];
  order = plain;
  is_unique = true;
}

abbrev pub no_schema : Schema
no_schema = record { tables = []; indexes = []; views = [] }

abbrev pub with_about : Schema
with_about = record { tables = about ∷ []; indexes = []; views = [] }

abbrev pub with_mirrors : Schema
with_mirrors = record {
  tables = about ∷ mirrors ∷ [];
  indexes = mirrors_by_name ∷ mirrors_by_mid ∷ [];
  views = [];
}

abbrev pub with_components : Schema
with_components = record {
  tables = about ∷ mirrors ∷ components ∷ [];
  indexes = mirrors_by_name ∷ mirrors_by_mid ∷ components_by_prov ∷ components_by_did ∷ [];
  views = [];
}

abbrev pub with_intents : Schema
with_intents = record {
  tables = about ∷ mirrors ∷ components ∷ intents ∷ [];
  indexes = mirrors_by_name ∷ mirrors_by_mid ∷ components_by_prov ∷ components_by_did ∷ [];
  views = [];
}

-- the first schema of a registry, without a table of bytes
abbrev pub first_schema : Schema
first_schema = record {
  tables = about ∷ mirrors ∷ components ∷ intents ∷ commands ∷ [];
  indexes = mirrors_by_name ∷ mirrors_by_mid ∷ components_by_prov ∷ components_by_did
      ∷ commands_by_key ∷ commands_by_seq ∷ [];
  views = [];
}

-- the second, which is this one
abbrev pub registry_schema : Schema
registry_schema = record {
  tables = about ∷ mirrors ∷ components ∷ intents ∷ commands ∷ patches ∷ [];
  indexes = mirrors_by_name ∷ mirrors_by_mid ∷ components_by_prov ∷ components_by_did
      ∷ commands_by_key ∷ commands_by_seq ∷ [];
  views = [];
}
