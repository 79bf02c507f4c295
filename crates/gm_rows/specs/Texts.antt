-- The texts that make the six tables.
use Rattle.std.specs.Prelude.{codes, List, ℕ}

abbrev pub about_text : List ℕ
about_text =
    codes "CREATE TABLE about(one INTEGER PRIMARY KEY CHECK (one = 1), schema_no INTEGER NOT NULL) STRICT"

abbrev pub mirrors_text : List ℕ
mirrors_text =
    codes "CREATE TABLE mirrors(name TEXT PRIMARY KEY NOT NULL, mid INTEGER NOT NULL UNIQUE,\n  total INTEGER NOT NULL, genid INTEGER NOT NULL, syncid INTEGER NOT NULL, slice INTEGER NOT NULL,\n  balance INTEGER NOT NULL, mediasize INTEGER NOT NULL, mflags INTEGER NOT NULL) STRICT"

abbrev pub components_text : List ℕ
components_text =
    codes "CREATE TABLE components(prov TEXT PRIMARY KEY NOT NULL, mirror TEXT NOT NULL REFERENCES mirrors(name),\n  did INTEGER NOT NULL, syncid INTEGER NOT NULL, priority INTEGER NOT NULL, sync_offset INTEGER NOT NULL,\n  dflags INTEGER NOT NULL, hard INTEGER NOT NULL, provsize INTEGER NOT NULL, UNIQUE (mirror, did)) STRICT"

abbrev pub intents_text : List ℕ
intents_text =
    codes "CREATE TABLE intents(ord INTEGER PRIMARY KEY, kind INTEGER NOT NULL, prov TEXT NOT NULL,\n  source TEXT NOT NULL, first_sector INTEGER NOT NULL, end_sector INTEGER NOT NULL) STRICT"

abbrev pub commands_text : List ℕ
commands_text =
    codes "CREATE TABLE commands(call_key TEXT PRIMARY KEY NOT NULL, seq INTEGER NOT NULL UNIQUE,\n  words TEXT NOT NULL, copied INTEGER NOT NULL, of_total INTEGER NOT NULL) STRICT"

abbrev pub patches_text : List ℕ
patches_text =
    codes "CREATE TABLE patches(one INTEGER PRIMARY KEY CHECK (one = 1), bytes BLOB NOT NULL) STRICT"
