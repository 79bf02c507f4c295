-- The sector of metadata: which bytes say what in each version, and why a sector says nothing.
use Rattle.std.specs.Prelude.{◌≡◌, ◌≢◌, ℕ, ◌≤◌, ◌<◌, ◌-◌, ◌^◌, ◌⊎◌, Bool, IsTrue, List, [], ◌∷◌, ◌++◌, length, take, drop, replicate, slice_index, Option, Some, None, IfSome, codes}
use Rattle.std.specs.Str.{bytes_eq}
use Rattle.byteorder.specs.Endian.{little_bytes, little_number}
use Rattle.md5.specs.Md5.{md5}
use Rattle.gm_metadata.specs.Balance.{balance_code}
use Rattle.gm_metadata.specs.Faults.{fault_number}
use Rattle.gm_metadata.specs.Flags.{mirror_bits, disk_bits}
use Rattle.gm_metadata.specs.Labels.{is_label, padded}
use Rattle.gm_metadata.specs.Versions.{version_number, fields_end, hash_end, mirror_flags_end, CanSay}
use Rattle.gm_metadata.specs.declared.metadata.Metadata.{Metadata}
use Rattle.gm_metadata.specs.declared.version.Version as versions
use Rattle.gm_metadata.specs.declared.version.Version.TheVariants.{Two, Three, Four}
use Rattle.gm_metadata.specs.declared.fault.DecodeFault.{DecodeFault}
use Rattle.gm_metadata.specs.declared.fault.DecodeFault.TheVariants.{Magic, Version, Hash, Name, Provider, Balance, Flags, SectorSize}

-- the name of the format and four zeros
unfoldable pub magic : List ℕ
magic = codes "GEOM::MIRROR" ++ replicate 4 0

-- a number of 4 or 8 bytes, the lowest first
unfoldable pub u32_field : ℕ → List ℕ
u32_field n = little_bytes 4 n

unfoldable pub u64_field : ℕ → List ℕ
u64_field n = little_bytes 8 n

-- the name of a provider and zeros, or zeros alone
abbrev pub provider_field : Option (List ℕ) → List ℕ
provider_field None = replicate 16 0
provider_field (Some name) = padded name

-- the size of the provider, which version 2 doesn't have
abbrev pub provsize_field : versions.Version → ℕ → List ℕ
provsize_field Two n = []
provsize_field Three n = u64_field n
provsize_field Four n = u64_field n

-- so many bytes from a place on
abbrev pub bytes_at : ℕ → ℕ → List ℕ → List ℕ
bytes_at at count b = take count (drop at b)

-- a record that a `Metadata` can hold: each number in its field's range, each name a label
pub record IsMetadata (m : Metadata) : Type 0 where
  pub name_ok : IsTrue (is_label m.name)
  pub mid_ok : m.mid < 2 ^ 32
  pub did_ok : m.did < 2 ^ 32
  pub all_ok : m.all < 2 ^ 8
  pub genid_ok : m.genid < 2 ^ 32
  pub syncid_ok : m.syncid < 2 ^ 32
  pub priority_ok : m.priority < 2 ^ 8
  pub slice_ok : m.slice < 2 ^ 32
  pub mediasize_ok : m.mediasize < 2 ^ 64
  pub sync_offset_ok : m.sync_offset < 2 ^ 64
  pub provider_ok : IfSome m.provider (λ name. IsTrue (is_label name))
  pub provsize_ok : m.provsize < 2 ^ 64

-- the bytes b are the metadata m in a version, field by field
pub record Spells (m : Metadata) (v : versions.Version) (b : List ℕ) : Type 0 where
  pub can_say : CanSay v m
  pub length_is : length b ≡ hash_end v
  pub magic_is : bytes_at 0 16 b ≡ magic
  pub version_is : bytes_at 16 4 b ≡ u32_field (version_number v)
  pub name_is : bytes_at 20 16 b ≡ padded m.name
  pub mid_is : bytes_at 36 4 b ≡ u32_field m.mid
  pub did_is : bytes_at 40 4 b ≡ u32_field m.did
  pub all_is : bytes_at 44 1 b ≡ m.all ∷ []
  pub genid_is : bytes_at 45 4 b ≡ u32_field m.genid
  pub syncid_is : bytes_at 49 4 b ≡ u32_field m.syncid
  pub priority_is : bytes_at 53 1 b ≡ m.priority ∷ []
  pub slice_is : bytes_at 54 4 b ≡ u32_field m.slice
  pub balance_is : bytes_at 58 1 b ≡ balance_code m.balance ∷ []
  pub mediasize_is : bytes_at 59 8 b ≡ u64_field m.mediasize
  pub sector_size_is : bytes_at 67 4 b ≡ u32_field 512
  pub sync_offset_is : bytes_at 71 8 b ≡ u64_field m.sync_offset
  pub mflags_is : bytes_at 79 8 b ≡ u64_field (mirror_bits m.mflags)
  pub dflags_is : bytes_at 87 8 b ≡ u64_field (disk_bits m.dflags)
  pub provider_is : bytes_at 95 16 b ≡ provider_field m.provider
  pub provsize_is : bytes_at 111 (fields_end v - 111) b ≡ provsize_field v m.provsize
  pub hash_is : bytes_at (fields_end v) 16 b ≡ md5 (take (fields_end v) b)

-- the sector begins with the metadata in this version
abbrev pub BearsIn : versions.Version → List ℕ → Metadata → Type 0
BearsIn v x m = Spells m v (take (hash_end v) x)

-- the sector begins with the metadata in some version
abbrev pub Bears : List ℕ → Metadata → Type 0
Bears x m = (v : versions.Version) × BearsIn v x m

-- and the version has this number
abbrev pub SaidIn : ℕ → List ℕ → Type 0
SaidIn n x = (v : versions.Version) × (m : Metadata) × BearsIn v x m × (n ≡ version_number v)

-- the sector begins with them in version 4, and has zeros after them
pub record Full (x : List ℕ) (m : Metadata) : Type 0 where
  pub bears : BearsIn Four x m
  pub rest_is : drop 135 x ≡ replicate 377 0

-- the sector carries metadata: it begins with the magic field, whatever follows
abbrev pub carries : List ℕ → Bool
carries x = bytes_eq (take 16 x) magic

-- the field holds a label and zeros
abbrev pub HoldsLabel : List ℕ → Type 0
HoldsLabel field = (name : List ℕ) × IsTrue (is_label name) × (field ≡ padded name)

-- the number of so many bytes from a place on
abbrev pub number_at : ℕ → ℕ → List ℕ → ℕ
number_at at count x = little_number count (drop at x)

-- the sector names the version
abbrev pub IsOf : List ℕ → versions.Version → Type 0
IsOf x v = number_at 16 4 x ≡ version_number v

-- the hash isn't that of the version's fields
abbrev pub WrongHash : List ℕ → versions.Version → Type 0
WrongHash x v = bytes_at (fields_end v) 16 x ≢ md5 (take (fields_end v) x)

-- a flag is set that the version doesn't have
abbrev pub WrongFlags : List ℕ → versions.Version → Type 0
WrongFlags x v = (mirror_flags_end v ≤ number_at 79 8 x) ⊎ (16 ≤ number_at 87 8 x)

-- the fault stands in the sector, by the version that it names
abbrev pub Stands : List ℕ → DecodeFault → Type 0
Stands x Magic = bytes_at 0 16 x ≢ magic
Stands x Version = (v : versions.Version) → IsOf x v → ⊥
Stands x Hash = (v : versions.Version) × IsOf x v × WrongHash x v
Stands x Name = HoldsLabel (bytes_at 20 16 x) → ⊥
Stands x Provider = (HoldsLabel (bytes_at 95 16 x) ⊎ (bytes_at 95 16 x ≡ replicate 16 0)) → ⊥
Stands x Balance = 4 < slice_index x 58
Stands x Flags = (v : versions.Version) × IsOf x v × WrongFlags x v
Stands x SectorSize = number_at 67 4 x ≢ 512

-- the fault stands in the sector, and none with a smaller number does
pub record Cause (x : List ℕ) (k : DecodeFault) : Type 0 where
  pub stands : Stands x k
  pub first : (j : DecodeFault) → fault_number j < fault_number k → Stands x j → ⊥
