-- What a sector says as a function: the form by which code and proofs go. The relations are in
-- `Sector`.
use Rattle.std.specs.Prelude.{ℕ, Bool, true, not, ◌==◌, nat_lt, List, [], ◌∷◌, ◌++◌, take, replicate, Option, Some, None, Result, Ok, Err, slice_index, if◌then◌else◌}
use Rattle.std.specs.Str.{bytes_eq}
use Rattle.std.specs.List.{list_all}
use Rattle.md5.specs.Md5.{md5}
use Rattle.gm_metadata.specs.Balance.{balance_code, balance_in}
use Rattle.gm_metadata.specs.Flags.{mirror_flags_in, disk_flags_in, mirror_bits, disk_bits}
use Rattle.gm_metadata.specs.Labels.{is_label_field, name_in, padded}
use Rattle.gm_metadata.specs.Sector.{magic, u32_field, u64_field, provider_field, provsize_field, bytes_at, number_at, carries}
use Rattle.gm_metadata.specs.Versions.{version_number, version_numbered, fields_end, kept_size, mirror_flags_end}
use Rattle.gm_metadata.specs.declared.metadata.Metadata.{Metadata}
use Rattle.gm_metadata.specs.declared.decoding.Reading.{Reading}
use Rattle.gm_metadata.specs.declared.decoding.Settings.{Settings}
use Rattle.gm_metadata.specs.declared.version.Version as versions
use Rattle.gm_metadata.specs.declared.version.Version.TheVariants.{Four}
use Rattle.gm_metadata.specs.declared.fault.DecodeFault.{DecodeFault}
use Rattle.gm_metadata.specs.declared.fault.DecodeFault.TheVariants.{Magic, Version, Hash, Name, Provider, Balance, Flags, SectorSize}

-- the field is zeros, or a label and zeros
abbrev pub is_provider_field : List ℕ → Bool
is_provider_field field = if list_all (λ b. b == 0) field then true else is_label_field field

-- the provider that such a field names
abbrev pub provider_in : List ℕ → Option (List ℕ)
provider_in field = if list_all (λ b. b == 0) field then None else Some (name_in field)

-- the version that the sector names, if it is one
abbrev pub version_in : List ℕ → Option versions.Version
version_in x = version_numbered (number_at 16 4 x)

-- the hash is that of the version's fields
abbrev pub has_hash : versions.Version → List ℕ → Bool
has_hash v x = bytes_eq (md5 (take (fields_end v) x)) (bytes_at (fields_end v) 16 x)

-- the balance, the flags and the sector size: the settings, or the first fault
unfoldable pub settings_of : versions.Version → List ℕ → Result Settings DecodeFault
settings_of v x =
    if not (nat_lt (slice_index x 58) 5) then Err Balance
    else (if not (nat_lt (number_at 79 8 x) (mirror_flags_end v)) then Err Flags
    else (if not (nat_lt (number_at 87 8 x) 16) then Err Flags
    else (if not (number_at 67 4 x == 512) then Err SectorSize
    else Ok (record {
      balance = balance_in (slice_index x 58);
      mflags = mirror_flags_in (number_at 79 8 x);
      dflags = disk_flags_in (number_at 87 8 x);
    }))))

-- the other fields, each at its place
abbrev pub metadata_in : versions.Version → Settings → List ℕ → Metadata
metadata_in v s x = record {
  name = name_in (bytes_at 20 16 x);
  mid = number_at 36 4 x;
  did = number_at 40 4 x;
  all = slice_index x 44;
  genid = number_at 45 4 x;
  syncid = number_at 49 4 x;
  priority = slice_index x 53;
  slice = number_at 54 4 x;
  balance = s.balance;
  mediasize = number_at 59 8 x;
  sync_offset = number_at 71 8 x;
  mflags = s.mflags;
  dflags = s.dflags;
  provider = provider_in (bytes_at 95 16 x);
  provsize = kept_size v (number_at 111 8 x);
}

-- with the settings, what the sector says
abbrev pub with_settings : versions.Version → Result Settings DecodeFault → List ℕ
    → Result Metadata DecodeFault
with_settings v (Err fault) x = Err fault
with_settings v (Ok s) x = Ok (metadata_in v s x)

-- what the sector says in this version, or the first fault
unfoldable pub said_in : versions.Version → List ℕ → Result Metadata DecodeFault
said_in v x =
    if not (has_hash v x) then Err Hash
    else (if not (is_label_field (bytes_at 20 16 x)) then Err Name
    else (if not (is_provider_field (bytes_at 95 16 x)) then Err Provider
    else with_settings v (settings_of v x) x))

-- in the version that it names, and with it
abbrev pub with_version : versions.Version → Result Metadata DecodeFault
    → Result Reading DecodeFault
with_version v (Err fault) = Err fault
with_version v (Ok m) = Ok (record { version = v; metadata = m })

abbrev pub read_as : Option versions.Version → List ℕ → Result Reading DecodeFault
read_as None x = Err Version
read_as (Some v) x = with_version v (said_in v x)

-- what the sector says and in which version, or the first fault
unfoldable pub reading_of : List ℕ → Result Reading DecodeFault
reading_of x = if not (carries x) then Err Magic else read_as (version_in x) x

-- what was read, without the version
abbrev pub said : Result Reading DecodeFault → Result Metadata DecodeFault
said (Err fault) = Err fault
said (Ok r) = Ok r.metadata

abbrev pub decode_of : List ℕ → Result Metadata DecodeFault
decode_of x = said (reading_of x)

-- the version of what was read
abbrev pub version_read : Result Reading DecodeFault → Option ℕ
version_read (Err fault) = None
version_read (Ok r) = Some (version_number r.version)

-- the fields before the hash, in their order
unfoldable pub fields : versions.Version → Metadata → List ℕ
fields v m =
    magic ++ (u32_field (version_number v) ++ (padded m.name
    ++ (u32_field m.mid ++ (u32_field m.did ++ (m.all ∷ []
    ++ (u32_field m.genid
    ++ (u32_field m.syncid
    ++ (m.priority ∷ [] ++ (u32_field m.slice ++ (balance_code m.balance ∷ []
    ++ (u64_field m.mediasize
    ++ (u32_field 512 ++ (u64_field m.sync_offset ++ (u64_field (mirror_bits m.mflags)
    ++ (u64_field (disk_bits m.dflags)
    ++ (provider_field m.provider ++ provsize_field v m.provsize))))))))))))))))

-- the fields and their hash
unfoldable pub spelling : versions.Version → Metadata → List ℕ
spelling v m = fields v m ++ md5 (fields v m)

-- the one sector that is full with m
unfoldable pub encoded : Metadata → List ℕ
encoded m = spelling Four m ++ replicate 377 0
