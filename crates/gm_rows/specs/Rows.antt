-- The rows of the tables.
use Rattle.std.specs.Prelude.{ℕ, pos, List, [], ◌∷◌}
use Rattle.sqlite.specs.declared.types.Value.TheVariants.{Null, Int, Text, Blob}
use Rattle.sqlite.specs.Order.{Row}
use Rattle.gm_state.specs.Rows.{MirrorRow, ComponentRow, IntentRow, CommandRow}

-- the one record of `about`, (1, 2), whose first column is its rowid; in a store of the first
-- schema it is (1, 1)
abbrev pub about_numbered : ℕ → Row
about_numbered schema_no = Int (pos 1) ∷ Null ∷ Int (pos schema_no) ∷ []

abbrev pub about_values : Row
about_values = about_numbered 2

abbrev pub mirror_values : MirrorRow → Row
mirror_values m =
    Text m.name ∷ Int (pos m.mid) ∷ Int (pos m.total) ∷ Int (pos m.genid) ∷ Int (pos m.syncid)
    ∷ Int (pos m.slice)
    ∷ Int (pos m.balance) ∷ Int (pos m.mediasize) ∷ Int (pos m.mflags) ∷ []

abbrev pub component_values : ComponentRow → Row
component_values k =
    Text k.prov ∷ Text k.mirror ∷ Int (pos k.did) ∷ Int (pos k.syncid) ∷ Int (pos k.priority)
    ∷ Int (pos k.sync_offset)
    ∷ Int (pos k.dflags) ∷ Int (pos k.hard) ∷ Int (pos k.provsize) ∷ []

-- with the rowid, for which the column `ord` stands
abbrev pub intent_values : IntentRow → Row
intent_values i =
    Int (pos i.ord) ∷ Null ∷ Int (pos i.kind) ∷ Text i.prov ∷ Text i.source
    ∷ Int (pos i.first_sector) ∷ Int (pos i.end_sector) ∷ []

abbrev pub command_values : CommandRow → Row
command_values c = Text c.call_key ∷ Int (pos c.seq) ∷ Text c.words ∷ Int (pos c.copied)
    ∷ Int (pos c.of_total) ∷ []

-- the one record of `patches`, (1, bytes), whose first column is its rowid
abbrev pub patch_values : List ℕ → Row
patch_values bytes = Int (pos 1) ∷ Null ∷ Blob bytes ∷ []
