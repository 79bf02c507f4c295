-- What is told of a last sector.
use Rattle.std.specs.Prelude.{ℕ, List, [], ◌∷◌, ◌++◌, codes, Option, Some, None}
use Rattle.gm_metadata.specs.Balance.{balance_name}
use Rattle.gm_metadata.specs.Faults.{fault_number}
use Rattle.gm_metadata.specs.Flags.{disk_bits, mirror_bits}
use Rattle.gm_metadata.specs.declared.fault.DecodeFault.{DecodeFault}
use Rattle.gm_metadata.specs.declared.metadata.Metadata.{Metadata}
use Rattle.serde_json.specs.Data.{Data}
use Rattle.gm_json.specs.Fields.{Field, number_at, object_of, text_at, text_of}

-- the provider that a component was hardcoded for, or nothing
abbrev pub provider_name : Option (List ℕ) → List ℕ
provider_name (Some name) = name
provider_name None = []

-- the members from all to mid
abbrev pub first_fields : Metadata → List Field
first_fields m =
    number_at (codes "all") m.all
    ∷ text_at (codes "balance") (balance_name m.balance)
    ∷ number_at (codes "dflags") (disk_bits m.dflags)
    ∷ number_at (codes "did") m.did
    ∷ number_at (codes "genid") m.genid
    ∷ number_at (codes "mediasize") m.mediasize
    ∷ number_at (codes "mflags") (mirror_bits m.mflags)
    ∷ number_at (codes "mid") m.mid
    ∷ []

-- those from name to syncid
abbrev pub last_fields : Metadata → List Field
last_fields m =
    text_at (codes "name") m.name
    ∷ number_at (codes "priority") m.priority
    ∷ text_at (codes "provider") (provider_name m.provider)
    ∷ number_at (codes "provsize") m.provsize
    ∷ number_at (codes "slice") m.slice
    ∷ number_at (codes "sync_offset") m.sync_offset
    ∷ number_at (codes "syncid") m.syncid
    ∷ []

-- what the sector says
abbrev pub metadata_data : Metadata → Data
metadata_data m = object_of (first_fields m ++ last_fields m)

-- why it says nothing
abbrev pub decode_data : DecodeFault → Data
decode_data fault = object_of (number_at (codes "decode") (fault_number fault) ∷ [])

-- the texts
abbrev pub metadata_json : Metadata → List ℕ
metadata_json m = text_of (metadata_data m)

abbrev pub decode_json : DecodeFault → List ℕ
decode_json fault = text_of (decode_data fault)
