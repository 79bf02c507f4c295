-- What is told of images that were tasted, and of what in their folder is none.
use Rattle.std.specs.Prelude.{ℕ, ◌/◌, List, [], ◌∷◌, ◌++◌, codes, Option, Some, None, if◌then◌else◌}
use Rattle.std.specs.Fmt.{decimal}
use Rattle.std.specs.String.{string_bytes}
use Rattle.gm_metadata.specs.Faults.{fault_number}
use Rattle.gm_taste.specs.declared.tasted.MemberState.{MemberState}
use Rattle.gm_taste.specs.declared.tasted.MemberState.TheVariants.{Inactive, Broken, Stale, Synchronizing, Active}
use Rattle.gm_taste.specs.declared.tasted.Reason.{Reason}
use Rattle.gm_taste.specs.declared.tasted.Reason.TheVariants.{Decode, OtherName, OtherSize}
use Rattle.gm_taste.specs.declared.tasted.Member.{Member}
use Rattle.gm_taste.specs.declared.tasted.Group.{Group}
use Rattle.gm_taste.specs.declared.tasted.LeftOut.{LeftOut}
use Rattle.gm_taste.specs.declared.tasted.Tasted.{Tasted}
use Rattle.gm_taste.specs.Sources.{has_sure_member, source_of}
use Rattle.gm_taste.specs.States.{member_state_name}
use Rattle.gm_taste.specs.Verdicts.{is_magic}
use Rattle.gm_shelf.specs.declared.passed_over.PassedOver.{PassedOver}
use Rattle.gm_shelf.specs.Entries.{no_image_text}
use Rattle.serde_json.specs.Data.{Data}
use Rattle.gm_json.specs.Fields.{each_at, number_at, object_of, text_at, text_of, truth_at}
use Rattle.gm_json.specs.Sectors.{provider_name}

-- up to where a component has the data that is to be filled, in bytes
abbrev pub filled_to : MemberState → Option ℕ
filled_to Inactive = None
filled_to Broken = None
filled_to (Stale offset) = Some offset
filled_to (Synchronizing offset) = Some offset
filled_to Active = None

-- a component; if it is to be filled, also how many sectors of how many it has
abbrev pub tasted_with : Option ℕ → Member → Data
tasted_with None x = object_of (
    truth_at (codes "dirty") x.metadata.dflags.dirty
    ∷ text_at (codes "name") x.provider
    ∷ text_at (codes "state") (member_state_name x.state)
    ∷ [])
tasted_with (Some offset) x = object_of (
    number_at (codes "copied") (offset / 512)
    ∷ truth_at (codes "dirty") x.metadata.dflags.dirty
    ∷ text_at (codes "name") x.provider
    ∷ number_at (codes "of") (x.metadata.mediasize / 512)
    ∷ text_at (codes "state") (member_state_name x.state)
    ∷ [])

abbrev pub tasted_component : Member → Data
tasted_component x = tasted_with (filled_to x.state) x

-- a mirror, the component that its data are taken from, or nothing, and whether any is sure
abbrev pub tasted_mirror : Group → Data
tasted_mirror g = object_of (
    each_at (codes "components") tasted_component g.members.items
    ∷ number_at (codes "genid") g.genid
    ∷ number_at (codes "mid") g.mid
    ∷ text_at (codes "name") g.name
    ∷ text_at (codes "source") (provider_name (source_of g))
    ∷ truth_at (codes "sure") (has_sure_member g)
    ∷ number_at (codes "syncid") g.syncid
    ∷ [])

-- why an image is left out
abbrev pub reason_text : Reason → List ℕ
reason_text (Decode fault) = if is_magic fault then codes "no metadata" else codes "fault "
    ++ decimal (fault_number fault)
reason_text OtherName = codes "names another image"
reason_text OtherSize = codes "tells another size"

-- an image that is left out
abbrev pub left_data : LeftOut → Data
left_data x = object_of (
    text_at (codes "name") x.provider
    ∷ text_at (codes "reason") (reason_text x.reason)
    ∷ [])

-- an entry of the folder that isn't an image
abbrev pub passed_data : PassedOver → Data
passed_data x = object_of (
    text_at (codes "name") (string_bytes x.name)
    ∷ text_at (codes "reason") (no_image_text x.reason)
    ∷ [])

-- all that was tasted, and what was passed over
abbrev pub tasting_data : Tasted → List PassedOver → Data
tasting_data t passed = object_of (
    each_at (codes "left_out") left_data t.left.items
    ∷ each_at (codes "mirrors") tasted_mirror t.groups.items
    ∷ each_at (codes "passed_over") passed_data passed
    ∷ [])

-- its text
abbrev pub tasting_json : Tasted → List PassedOver → List ℕ
tasting_json t passed = text_of (tasting_data t passed)
