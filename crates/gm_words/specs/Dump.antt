-- The text of a sector.
use Rattle.std.specs.Prelude.{ℕ, List, ◌++◌, codes, Option, Some, None, Result, Ok, Err}
use Rattle.std.specs.Fmt.{decimal}
use Rattle.hex.specs.Hex.{encode_lower}
use Rattle.gm_metadata.specs.Balance.{balance_name}
use Rattle.gm_metadata.specs.Faults.{fault_number}
use Rattle.gm_metadata.specs.Reading.{reading_of}
use Rattle.gm_metadata.specs.Sector.{bytes_at}
use Rattle.gm_metadata.specs.Versions.{version_number, fields_end}
use Rattle.gm_metadata.specs.declared.fault.DecodeFault.{DecodeFault}
use Rattle.gm_metadata.specs.declared.decoding.Reading.{Reading}
use Rattle.gm_metadata.specs.declared.metadata.Metadata.{Metadata}
use Rattle.gm_metadata.specs.declared.version.Version.{Version}
use Rattle.gm_words.specs.Lines.{line, field, number, mirror_flag_names, disk_flag_names, joined}

-- the provider that a component was hardcoded for
abbrev pub provider_name : Option (List ℕ) → List ℕ
provider_name (Some name) = name
provider_name None = codes "(none)"

-- the lines from the magic to the balance
abbrev pub first_lines : Version → Metadata → List ℕ
first_lines v m =
    field (codes "magic") (codes "GEOM::MIRROR")
    ++ number (codes "version") (version_number v)
    ++ field (codes "name") m.name
    ++ number (codes "mid") m.mid
    ++ number (codes "did") m.did
    ++ number (codes "all") m.all
    ++ number (codes "genid") m.genid
    ++ number (codes "syncid") m.syncid
    ++ number (codes "priority") m.priority
    ++ number (codes "slice") m.slice
    ++ field (codes "balance") (balance_name m.balance)

-- those from the sizes to the size of the provider
abbrev pub last_lines : Metadata → List ℕ
last_lines m =
    number (codes "mediasize") m.mediasize
    ++ number (codes "sectorsize") 512
    ++ number (codes "sync_offset") m.sync_offset
    ++ field (codes "mflags") (joined (mirror_flag_names m.mflags))
    ++ field (codes "dflags") (joined (disk_flag_names m.dflags))
    ++ field (codes "provider") (provider_name m.provider)
    ++ number (codes "provsize") m.provsize

-- the lines of what was read, with the hash of its version
abbrev pub reading_text : Reading → List ℕ → List ℕ
reading_text r hash =
    first_lines r.version r.metadata ++ last_lines r.metadata
    ++ field (codes "md5") (encode_lower hash)

-- what the sector says, or the first fault that stands in it
abbrev pub text_of : Result Reading DecodeFault → List ℕ → List ℕ
text_of (Ok r) sector = reading_text r (bytes_at (fields_end r.version) 16 sector)
text_of (Err fault) sector = line (codes "fault " ++ decimal (fault_number fault))

abbrev pub dump_text : List ℕ → List ℕ
dump_text sector = text_of (reading_of sector) sector
