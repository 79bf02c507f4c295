-- How the data of a component stand.
use Rattle.std.specs.Prelude.{ℕ, Bool, true, false}
use Rattle.gm_metadata.specs.declared.flags.DiskFlags.{DiskFlags}
use Rattle.gm_state.specs.declared.records.Disk.{Disk}
use Rattle.gm_state.specs.declared.records.Disk.TheVariants.{InSync, Inactive, Copying}

-- it holds the mirror's data: SYNCHRONIZING and INACTIVE are clear
abbrev pub is_active : Disk → Bool
is_active InSync = true
is_active Inactive = false
is_active (Copying forced held) = false

-- INACTIVE is set
abbrev pub is_inactive : Disk → Bool
is_inactive InSync = false
is_inactive Inactive = true
is_inactive (Copying forced held) = false

-- the disk flags of g_mirror.h: 0, 8, and 2 or 6
abbrev pub disk_flags : Disk → DiskFlags
disk_flags InSync = record {
  dirty = false;
  synchronizing = false;
  force_sync = false;
  inactive = false;
}
disk_flags Inactive = record {
  dirty = false;
  synchronizing = false;
  force_sync = false;
  inactive = true;
}
disk_flags (Copying forced held) =
    record { dirty = false; synchronizing = true; force_sync = forced; inactive = false }

-- the sync_offset in sectors: 0 unless SYNCHRONIZING is set
abbrev pub held_of : Disk → ℕ
held_of InSync = 0
held_of Inactive = 0
held_of (Copying forced held) = held

-- how many of the mirror's n data sectors the component holds
abbrev pub held_by : Disk → ℕ → ℕ
held_by InSync n = n
held_by Inactive n = 0
held_by (Copying forced held) n = held
