-- The records of a world in the shapes of the tables.
use Rattle.std.specs.Prelude.{◌≡◌, ◌*◌, ◌+◌, ℕ, List, [], ◌∷◌, map, if◌then◌else◌}
use Rattle.std.specs.List.Sorted.{IsPermutation}
use Rattle.gm_metadata.specs.Balance.{balance_code}
use Rattle.gm_metadata.specs.Flags.{mirror_bits, disk_bits}
use Rattle.gm_state.specs.declared.intents.Intent.{Intent}
use Rattle.gm_state.specs.declared.intents.Intent.TheVariants.{Meta, Clear, Copy, Dirty, Patch}
use Rattle.gm_state.specs.declared.intents.Reply.{Reply}
use Rattle.gm_state.specs.declared.intents.Reply.TheVariants.{Plain, Copied}
use Rattle.gm_state.specs.declared.records.Mirror.{Mirror}
use Rattle.gm_state.specs.declared.records.Component.{Component}
use Rattle.gm_state.specs.Lookups.{disk_flags, held_of}
use Rattle.gm_commands.specs.Commands.{words_of}
pub use Rattle.gm_commands.specs.Sectors.{joined}
use Rattle.gm_state.specs.World.{World, Answered}

pub record MirrorRow : Type 0 where
  pub name : List ℕ
  pub mid : ℕ
  pub total : ℕ
  pub genid : ℕ
  pub syncid : ℕ
  pub slice : ℕ
  pub balance : ℕ
  pub mediasize : ℕ
  pub mflags : ℕ

pub record ComponentRow : Type 0 where
  pub prov : List ℕ
  pub mirror : List ℕ
  pub did : ℕ
  pub syncid : ℕ
  pub priority : ℕ
  pub sync_offset : ℕ
  pub dflags : ℕ
  pub hard : ℕ
  pub provsize : ℕ

pub record IntentRow : Type 0 where
  pub ord : ℕ
  pub kind : ℕ
  pub prov : List ℕ
  pub source : List ℕ
  pub first_sector : ℕ
  pub end_sector : ℕ

pub record CommandRow : Type 0 where
  pub call_key : List ℕ
  pub seq : ℕ
  pub words : List ℕ
  pub copied : ℕ
  pub of_total : ℕ

-- what the five tables hold; of `patches` the bytes of each record
pub record Tables : Type 0 where
  pub mirrors : List MirrorRow
  pub components : List ComponentRow
  pub intents : List IntentRow
  pub commands : List CommandRow
  pub patches : List (List ℕ)

-- sizes are bytes, balance and flags are numbers
abbrev pub mirror_row : Mirror → MirrorRow
mirror_row m = record {
  name = m.name;
  mid = m.mid;
  total = m.all;
  genid = m.genid;
  syncid = m.syncid;
  slice = m.slice;
  balance = balance_code m.balance;
  mediasize = 512 * m.data_sectors;
  mflags = mirror_bits m.flags;
}

abbrev pub component_row : Component → ComponentRow
component_row k = record {
  prov = k.provider;
  mirror = k.mirror;
  did = k.did;
  syncid = k.syncid;
  priority = k.priority;
  sync_offset = 512 * held_of k.disk;
  dflags = disk_bits (disk_flags k.disk);
  hard = if k.hardcoded then 1 else 0;
  provsize = 512 * k.sectors;
}

-- kind 1 is Meta, 2 Clear, 3 Copy, 4 Dirty, 5 Patch; only a Copy has a source, and a Copy and a
-- Patch sectors
abbrev pub intent_row : ℕ → Intent → IntentRow
intent_row n (Meta p) = record {
  ord = n;
  kind = 1;
  prov = p;
  source = [];
  first_sector = 0;
  end_sector = 0;
}
intent_row n (Clear p) = record {
  ord = n;
  kind = 2;
  prov = p;
  source = [];
  first_sector = 0;
  end_sector = 0;
}
intent_row n (Copy from to first end) =
    record { ord = n; kind = 3; prov = to; source = from; first_sector = first; end_sector = end }
intent_row n (Dirty p) = record {
  ord = n;
  kind = 4;
  prov = p;
  source = [];
  first_sector = 0;
  end_sector = 0;
}
intent_row n (Patch p first end) =
    record { ord = n; kind = 5; prov = p; source = []; first_sector = first; end_sector = end }

-- the rows of intents, which count from n
abbrev pub intent_rows : ℕ → List Intent → List IntentRow
intent_rows n [] = []
intent_rows n (t ∷ ts) = intent_row n t ∷ intent_rows (n + 1) ts

-- the bytes that are to be laid, in one record; none if there are none
abbrev pub patch_rows : List (List ℕ) → List (List ℕ)
patch_rows [] = []
patch_rows (sector ∷ more) = joined (sector ∷ more) ∷ []

abbrev pub copied_of : Reply → ℕ
copied_of Plain = 0
copied_of (Copied held total) = held

abbrev pub total_of : Reply → ℕ
total_of Plain = 0
total_of (Copied held total) = total

-- the key, its number, the canonical words, and the two numbers of the reply
abbrev pub answer_row : Answered → CommandRow
answer_row a = record {
  call_key = a.key;
  seq = a.number;
  words = words_of a.command;
  copied = copied_of a.reply;
  of_total = total_of a.reply;
}

-- Beside intents and bytes, the tables hold one row for each mirror, component and answered key of
-- the world, in some order.
pub record HoldRecords (w : World) (t : Tables) : Type 0 where
  pub mirrors : IsPermutation (map mirror_row w.state.mirrors) t.mirrors
  pub components : IsPermutation (map component_row w.state.components) t.components
  pub commands : IsPermutation (map answer_row w.answered) t.commands

-- The tables hold the rows of the world, no intent and no bytes to be laid.
pub record AreRows (w : World) (t : Tables) : Type 0 where
  pub records : HoldRecords w t
  pub intents : t.intents ≡ []
  pub patches : t.patches ≡ []
