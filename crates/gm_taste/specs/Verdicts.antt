-- Which providers are taken, and why the others aren't.
use Rattle.std.specs.Prelude.{ℕ, ◌*◌, Bool, true, false, not, ◌||◌, ◌==◌, List, Option, Some, None, Result, Ok, Err, if◌then◌else◌}
use Rattle.gm_metadata.specs.Images.{same_label}
use Rattle.gm_metadata.specs.Reading.{decode_of}
use Rattle.gm_metadata.specs.declared.metadata.Metadata.{Metadata}
use Rattle.gm_metadata.specs.declared.fault.DecodeFault.{DecodeFault}
use Rattle.gm_metadata.specs.declared.fault.DecodeFault.TheVariants.{Magic, Version, Hash, Name, Balance, Flags, SectorSize}
use Rattle.gm_metadata.specs.declared.fault.DecodeFault.TheVariants as faults
use Rattle.gm_taste.specs.declared.provider.Provider.{Provider}
use Rattle.gm_taste.specs.declared.tasted.Reason.{Reason}
use Rattle.gm_taste.specs.declared.tasted.Reason.TheVariants.{Decode, OtherName, OtherSize}

-- the field names no provider, or this one
abbrev pub names_own : List ℕ → Option (List ℕ) → Bool
names_own own None = true
names_own own (Some name) = same_label name own

abbrev pub own_name : Provider → Metadata → Bool
own_name p m = names_own p.name m.provider

-- the size is 0, or this provider's in bytes
abbrev pub own_size : Provider → Metadata → Bool
own_size p m = m.provsize == 0 || m.provsize == p.sectors * 512

-- what was read is taken if it names this provider or none, and gives its size or none
abbrev pub judged : Provider → Result Metadata DecodeFault → Result Metadata Reason
judged p (Err fault) = Err (Decode fault)
judged p (Ok m) =
    if not (own_name p m) then Err OtherName else
    (if not (own_size p m) then Err OtherSize else Ok m)

-- what the provider's last sector is taken to say, or the first reason to leave the provider out
abbrev pub verdict : Provider → Result Metadata Reason
verdict p = judged p (decode_of p.last)

-- the sector doesn't begin with the magic field
abbrev pub is_magic : DecodeFault → Bool
is_magic Magic = true
is_magic Version = false
is_magic Hash = false
is_magic Name = false
is_magic faults.Provider = false
is_magic Balance = false
is_magic Flags = false
is_magic SectorSize = false

-- what is left out for this reason carries metadata
abbrev pub of_metadata : Reason → Bool
of_metadata (Decode fault) = not (is_magic fault)
of_metadata OtherName = true
of_metadata OtherSize = true
