-- The texts of the statements that the calls run.
use Rattle.std.specs.Prelude.{codes, List, ℕ}

abbrev pub put_about_text : List ℕ
put_about_text = codes "INSERT INTO about (one, schema_no) VALUES (1, 2)"

abbrev pub drop_about_text : List ℕ
drop_about_text = codes "DELETE FROM about"

abbrev pub upsert_mirror_text : List ℕ
upsert_mirror_text =
    codes "INSERT INTO mirrors (name, mid, total, genid, syncid, slice, balance, mediasize, mflags) VALUES (?1, ?2, ?3, ?4, ?5, ?6, ?7, ?8, ?9) ON CONFLICT (name) DO UPDATE SET mid = excluded.mid, total = excluded.total, genid = excluded.genid, syncid = excluded.syncid, slice = excluded.slice, balance = excluded.balance, mediasize = excluded.mediasize, mflags = excluded.mflags"

abbrev pub drop_mirror_text : List ℕ
drop_mirror_text = codes "DELETE FROM mirrors WHERE name = ?1"

abbrev pub upsert_component_text : List ℕ
upsert_component_text =
    codes "INSERT INTO components (prov, mirror, did, syncid, priority, sync_offset, dflags, hard, provsize) VALUES (?1, ?2, ?3, ?4, ?5, ?6, ?7, ?8, ?9) ON CONFLICT (prov) DO UPDATE SET mirror = excluded.mirror, did = excluded.did, syncid = excluded.syncid, priority = excluded.priority, sync_offset = excluded.sync_offset, dflags = excluded.dflags, hard = excluded.hard, provsize = excluded.provsize"

abbrev pub drop_component_text : List ℕ
drop_component_text = codes "DELETE FROM components WHERE prov = ?1"

abbrev pub put_intent_text : List ℕ
put_intent_text =
    codes "INSERT INTO intents (ord, kind, prov, source, first_sector, end_sector) VALUES (?1, ?2, ?3, ?4, ?5, ?6)"

abbrev pub put_command_text : List ℕ
put_command_text =
    codes "INSERT INTO commands (call_key, seq, words, copied, of_total) VALUES (?1, ?2, ?3, ?4, ?5)"

abbrev pub settle_text : List ℕ
settle_text = codes "DELETE FROM intents"

abbrev pub put_patch_text : List ℕ
put_patch_text = codes "INSERT INTO patches (one, bytes) VALUES (1, ?1)"

abbrev pub drop_patches_text : List ℕ
drop_patches_text = codes "DELETE FROM patches"

abbrev pub find_command_text : List ℕ
find_command_text = codes "SELECT seq, words, copied, of_total FROM commands WHERE call_key = ?1"

abbrev pub last_command_text : List ℕ
last_command_text = codes "SELECT seq FROM commands ORDER BY seq DESC LIMIT 1"

abbrev pub load_texts_text : List ℕ
load_texts_text = codes "SELECT rowid, sql FROM sqlite_schema WHERE sql IS NOT NULL"
