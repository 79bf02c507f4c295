-- Flags are small numbers.
use Rattle.gm_rows.proofs.Common.{◌≤◌, ℕ, Bool, true, false, if◌then◌else◌, arith, MirrorFlags, mirror_bits, disk_bits}
use Rattle.gm_metadata.specs.declared.flags.DiskFlags.{DiskFlags}

bit_low : (b : Bool) (n : ℕ) → (if b then n else 0) ≤ n
bit_low true n = omega arith
bit_low false n = omega arith

pub mirror_bits_low : (f : MirrorFlags) → mirror_bits f ≤ 3
mirror_bits_low f = omega (arith, bit_low f.no_autosync 1, bit_low f.no_failsync 2)

pub disk_bits_low : (f : DiskFlags) → disk_bits f ≤ 15
disk_bits_low f = omega (
  arith,
  bit_low f.dirty 1,
  bit_low f.synchronizing 2,
  bit_low f.force_sync 4,
  bit_low f.inactive 8,
)
