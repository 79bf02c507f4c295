-- Flags as numbers.
use Rattle.std.specs.Prelude.{ℕ, ◌+◌, ◌/◌, ◌%◌, ◌==◌, nat_lt, Option, Some, None, if◌then◌else◌}
use Rattle.gm_metadata.specs.declared.flags.MirrorFlags.{MirrorFlags}
use Rattle.gm_metadata.specs.declared.flags.DiskFlags.{DiskFlags}

-- NOAUTOSYNC 1, NOFAILSYNC 2
abbrev pub mirror_bits : MirrorFlags → ℕ
mirror_bits f = (if f.no_autosync then 1 else 0) + (if f.no_failsync then 2 else 0)

-- the flags whose bits are set
abbrev pub mirror_flags_in : ℕ → MirrorFlags
mirror_flags_in n = record { no_autosync = n % 2 == 1; no_failsync = n / 2 % 2 == 1 }

-- a number below 4 is such flags
abbrev pub mirror_flags_of : ℕ → Option MirrorFlags
mirror_flags_of n = if nat_lt n 4 then Some (mirror_flags_in n) else None

-- DIRTY 1, SYNCHRONIZING 2, FORCE_SYNC 4, INACTIVE 8
abbrev pub disk_bits : DiskFlags → ℕ
disk_bits f =
    (((if f.dirty then 1 else 0) + (if f.synchronizing then 2 else 0))
    + (if f.force_sync then 4 else 0)) + (if f.inactive then 8 else 0)

-- the flags whose bits are set
abbrev pub disk_flags_in : ℕ → DiskFlags
disk_flags_in n = record {
  dirty = n % 2 == 1;
  synchronizing = n / 2 % 2 == 1;
  force_sync = n / 4 % 2 == 1;
  inactive = n / 8 % 2 == 1;
}

-- a number below 16 is such flags
abbrev pub disk_flags_of : ℕ → Option DiskFlags
disk_flags_of n = if nat_lt n 16 then Some (disk_flags_in n) else None
