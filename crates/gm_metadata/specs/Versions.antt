-- The versions that are read: what sets one apart from another.
use Rattle.std.specs.Prelude.{◌≡◌, ℕ, ◌<◌, ◌+◌, ◌==◌, Option, Some, None, if◌then◌else◌}
use Rattle.gm_metadata.specs.Flags.{mirror_bits}
use Rattle.gm_metadata.specs.declared.metadata.Metadata.{Metadata}
use Rattle.gm_metadata.specs.declared.version.Version.{Version}
use Rattle.gm_metadata.specs.declared.version.Version.TheVariants.{Two, Three, Four}

-- the number in the sector
abbrev pub version_number : Version → ℕ
version_number Two = 2
version_number Three = 3
version_number Four = 4

-- the version that a number stands for, if any
abbrev pub version_numbered : ℕ → Option Version
version_numbered n =
    if n == 2 then Some Two
    else (if n == 3 then Some Three
    else (if n == 4 then Some Four
    else None))

-- where the fields end and their hash begins: version 2 has no size of the provider
abbrev pub fields_end : Version → ℕ
fields_end Two = 111
fields_end Three = 119
fields_end Four = 119

-- where the hash of 16 bytes ends, and with it all that is spelled
abbrev pub hash_end : Version → ℕ
hash_end v = fields_end v + 16

-- a number that is kept at the place of the provider's size; version 2 has no such place
abbrev pub kept_size : Version → ℕ → ℕ
kept_size Two n = 0
kept_size Three n = n
kept_size Four n = n

-- the mirror's flags are below this number: NOFAILSYNC is of version 4
abbrev pub mirror_flags_end : Version → ℕ
mirror_flags_end Two = 2
mirror_flags_end Three = 2
mirror_flags_end Four = 4

-- the version can say all that the metadata say
pub record CanSay (v : Version) (m : Metadata) : Type 0 where
  pub size : kept_size v m.provsize ≡ m.provsize
  pub flags : mirror_bits m.mflags < mirror_flags_end v
