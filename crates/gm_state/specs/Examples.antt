-- A world that is sound, and worlds that break one clause each.
use Rattle.std.specs.Prelude.{◌==◌, ℕ, Bool, true, false, not, List, [], ◌∷◌, codes, Option, Some, None, if◌then◌else◌}
use Rattle.gm_metadata.specs.Images.{Image, same_label}
use Rattle.gm_metadata.specs.Reading.{encoded}
use Rattle.gm_metadata.specs.declared.balance.Balance.TheVariants as balances
use Rattle.gm_commands.specs.declared.command.Command.TheVariants.{Clear}
use Rattle.gm_state.specs.declared.intents.Reply.TheVariants.{Plain}
use Rattle.gm_state.specs.declared.records.Mirror.{Mirror}
use Rattle.gm_state.specs.declared.records.Component.{Component}
use Rattle.gm_state.specs.declared.records.Disk.TheVariants.{InSync, Copying}
use Rattle.gm_state.specs.Records.{Records}
use Rattle.gm_state.specs.Lookups.{metadata}
use Rattle.gm_state.specs.World.{World, Answered}
use Rattle.gm_state.specs.Rows.{Tables}

-- gm0 with 3 data sectors: a.img holds them, b.img holds the first one, and 1 of 3 are copied to it
abbrev pub gm0 : Mirror
gm0 = record {
  name = codes "gm0";
  mid = 7;
  all = 2;
  genid = 0;
  syncid = 1;
  slice = 4096;
  balance = balances.Load;
  data_sectors = 3;
  flags = record { no_autosync = false; no_failsync = true };
}

abbrev pub a_img : Component
a_img = record {
  provider = codes "a.img";
  mirror = codes "gm0";
  did = 1;
  syncid = 1;
  priority = 0;
  disk = InSync;
  hardcoded = true;
  sectors = 4;
}

abbrev pub b_img : Component
b_img = record {
  provider = codes "b.img";
  mirror = codes "gm0";
  did = 2;
  syncid = 1;
  priority = 5;
  disk = Copying true 1;
  hardcoded = false;
  sectors = 5;
}

abbrev pub records : Records
records = record { mirrors = gm0 ∷ []; components = a_img ∷ b_img ∷ [] }

-- the data of gm0: no two sectors are alike
abbrev pub data_of_gm0 : ℕ → List ℕ
data_of_gm0 i = i ∷ []

-- what a.img and b.img hold
abbrev pub sector_of_a : ℕ → List ℕ
sector_of_a i = if i == 3 then encoded (metadata gm0 a_img) else data_of_gm0 i

abbrev pub sector_of_b : ℕ → List ℕ
sector_of_b i = if i == 4 then encoded (metadata gm0 b_img) else if i
    == 0 then data_of_gm0 0 else []

abbrev pub shelf_with : (ℕ → List ℕ) → (ℕ → List ℕ) → Image
shelf_with a b p i = if same_label p (codes "a.img") then a i else b i

-- the key k1 was answered: c.img was cleared
abbrev pub cleared : ℕ → Answered
cleared number = record {
  key = codes "k1";
  command = Clear (codes "c.img");
  number = number;
  reply = Plain;
}

abbrev pub size_of : List ℕ → Option ℕ
size_of p = if same_label p (codes "a.img") then Some 4 else if same_label p
    (codes "b.img") then Some 5 else None

abbrev pub example : World
example = record {
  state = records;
  holds = λ name i. data_of_gm0 i;
  answered = cleared 1 ∷ [];
  shelf = shelf_with sector_of_a sector_of_b;
  size = size_of;
  there = λ p. true;
}

-- the same while b.img is away: what its shelf shows then, and the world
abbrev pub is_home : List ℕ → Bool
is_home p = not (same_label p (codes "b.img"))

abbrev pub shown_without_b : Image
shown_without_b = shelf_with sector_of_a (λ i. [])

abbrev pub without_b : World
without_b = record example { there = is_home }

-- a.img is registered with another size than it has
abbrev pub resized : World
resized = record example { size = λ p. if same_label p (codes "a.img") then Some 5 else size_of p }

-- gm0 has fewer components in all than are registered
abbrev pub crowded : World
crowded = record example {
  state = record {
    mirrors = record gm0 { all = 1 } ∷ [];
    components = a_img ∷ b_img ∷ [];
  };
}

-- the numbers of the answered keys begin with 2
abbrev pub misnumbered : World
misnumbered = record example { answered = cleared 2 ∷ [] }

-- the last sector of b.img is longer than its metadata
abbrev pub unmarked : World
unmarked = record example {
  shelf = shelf_with sector_of_a
      (λ i. if i == 4 then 0 ∷ encoded (metadata gm0 b_img) else sector_of_b i);
}

-- a.img is ACTIVE, and lacks its third data sector
abbrev pub lacking : World
lacking = record example {
  shelf = shelf_with (λ i. if i == 2 then [] else sector_of_a i)
      sector_of_b;
}

-- b.img lacks the one sector that it is said to hold
abbrev pub overclaiming : World
overclaiming =
    record example { shelf = shelf_with sector_of_a (λ i. if i == 0 then [] else sector_of_b i) }

-- the rows of the example, written by hand
abbrev pub example_tables : Tables
example_tables = record {
  mirrors = record {
    name = codes "gm0";
    mid = 7;
    total = 2;
    genid = 0;
    syncid = 1;
    slice = 4096;
    balance = 2;
    mediasize = 1536;
    mflags = 2;
  } ∷ [];
  components =
      record {
        prov = codes "a.img";
        mirror = codes "gm0";
        did = 1;
        syncid = 1;
        priority = 0;
        sync_offset = 0;
        dflags = 0;
        hard = 1;
        provsize = 2048;
      }
      ∷ record {
        prov = codes "b.img";
        mirror = codes "gm0";
        did = 2;
        syncid = 1;
        priority = 5;
        sync_offset = 512;
        dflags = 6;
        hard = 0;
        provsize = 2560;
      } ∷ [];
  intents = [];
  commands = record {
    call_key = codes "k1";
    seq = 1;
    words = codes "clear c.img";
    copied = 0;
    of_total = 0;
  } ∷ [];
  patches = [];
}

-- the same without the row of b.img, and the same with a row of an intent
abbrev pub short_tables : Tables
short_tables = record example_tables {
  components = record {
    prov = codes "a.img";
    mirror = codes "gm0";
    did = 1;
    syncid = 1;
    priority = 0;
    sync_offset = 0;
    dflags = 0;
    hard = 1;
    provsize = 2048;
  } ∷ [];
}

abbrev pub pending_tables : Tables
pending_tables = record example_tables {
  intents = record {
    ord = 1;
    kind = 1;
    prov = codes "a.img";
    source = [];
    first_sector = 0;
    end_sector = 0;
  } ∷ [];
}
