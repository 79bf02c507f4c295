-- The text of what the last sectors of images tell.
use Rattle.std.specs.Prelude.{ℕ, ◌/◌, Bool, List, [], ◌∷◌, ◌++◌, codes, flat_map, Option, Some, None, if◌then◌else◌}
use Rattle.std.specs.Fmt.{decimal}
use Rattle.gm_metadata.specs.Faults.{fault_number}
use Rattle.gm_taste.specs.declared.tasted.MemberState.{MemberState}
use Rattle.gm_taste.specs.declared.tasted.MemberState.TheVariants.{Inactive, Broken, Stale, Synchronizing, Active}
use Rattle.gm_taste.specs.declared.tasted.Reason.{Reason}
use Rattle.gm_taste.specs.declared.tasted.Reason.TheVariants.{Decode, OtherName, OtherSize}
use Rattle.gm_taste.specs.declared.tasted.Member.{Member}
use Rattle.gm_taste.specs.declared.tasted.Group.{Group}
use Rattle.gm_taste.specs.declared.tasted.LeftOut.{LeftOut}
use Rattle.gm_taste.specs.declared.tasted.Tasted.{Tasted}
use Rattle.gm_taste.specs.Sources.{has_sure_member, source_of}
use Rattle.gm_taste.specs.States.{member_state_name}
use Rattle.gm_taste.specs.Verdicts.{is_magic}
use Rattle.gm_words.specs.Lines.{line, field, left_in_15}

-- how many sectors of how many, both told in bytes
abbrev pub sectors_of : ℕ → ℕ → List ℕ
sectors_of offset mediasize = codes " " ++ decimal (offset / 512) ++ codes " of "
    ++ decimal (mediasize / 512)

-- of a member that is to be filled
abbrev pub filled : MemberState → ℕ → List ℕ
filled Inactive mediasize = []
filled Broken mediasize = []
filled (Stale offset) mediasize = sectors_of offset mediasize
filled (Synchronizing offset) mediasize = sectors_of offset mediasize
filled Active mediasize = []

-- of a member that says DIRTY
abbrev pub dirty_mark : Bool → List ℕ
dirty_mark dirty = if dirty then codes " DIRTY" else []

-- how a member stands
abbrev pub standing : Member → List ℕ
standing x = codes " " ++ member_state_name x.state ++ filled x.state x.metadata.mediasize
    ++ dirty_mark x.metadata.dflags.dirty

abbrev pub member_line : Member → List ℕ
member_line x = line (codes "  " ++ left_in_15 x.provider ++ standing x)

-- a number after its name
abbrev pub named_number : List ℕ → ℕ → List ℕ
named_number name value = codes " " ++ name ++ codes " " ++ decimal value

abbrev pub group_line : Group → List ℕ
group_line g =
    line (left_in_15 g.name ++ named_number (codes "mid") g.mid
    ++ named_number (codes "genid") g.genid
    ++ named_number (codes "syncid") g.syncid)

-- a source, and that no member is sure if none is
abbrev pub named_source : List ℕ → Bool → List ℕ
named_source name sure =
    if sure then name else name ++ codes ", but none is sure: each ACTIVE one is DIRTY"

-- the same, or (none), which is no name
abbrev pub source_text : Option (List ℕ) → Bool → List ℕ
source_text (Some name) sure = named_source name sure
source_text None sure = codes "(none)"

-- the member that the data are taken from
abbrev pub source_line : Group → List ℕ
source_line g =
    field (codes "  source") (source_text (source_of g) (has_sure_member g))

-- a mirror, below it its members, and its source
abbrev pub group_block : Group → List ℕ
group_block g = group_line g ++ flat_map member_line g.members.items ++ source_line g

-- a block for each mirror, or that there is none
abbrev pub groups_text : List Group → List ℕ
groups_text [] = line (codes "no mirrors")
groups_text (g ∷ gs) = flat_map group_block (g ∷ gs)

-- why an image is left out
abbrev pub reason_text : Reason → List ℕ
reason_text (Decode fault) = if is_magic fault then codes "no metadata" else codes "fault "
    ++ decimal (fault_number fault)
reason_text OtherName = codes "names another image"
reason_text OtherSize = codes "tells another size"

abbrev pub left_line : LeftOut → List ℕ
left_line x = line (codes "  " ++ left_in_15 x.provider ++ codes " " ++ reason_text x.reason)

-- those that are left out, if some are
abbrev pub left_text : List LeftOut → List ℕ
left_text [] = []
left_text (x ∷ xs) = line (codes "left out:") ++ flat_map left_line (x ∷ xs)

abbrev pub tasting_text : Tasted → List ℕ
tasting_text t = groups_text t.groups.items ++ left_text t.left.items
