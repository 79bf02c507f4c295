-- The state of a member of a group, and its name.
use Rattle.std.specs.Prelude.{ℕ, Bool, true, false, not, ◌&&◌, nat_lt, List, codes, if◌then◌else◌}
use Rattle.gm_metadata.specs.declared.metadata.Metadata.{Metadata}
use Rattle.gm_taste.specs.declared.tasted.MemberState.{MemberState}
use Rattle.gm_taste.specs.declared.tasted.MemberState.TheVariants.{Inactive, Broken, Stale, Synchronizing, Active}

-- it lacks data from this offset on: STALE under NOAUTOSYNC without FORCE_SYNC, else SYNCHRONIZING
abbrev pub behind : Metadata → ℕ → MemberState
behind m offset =
    if m.mflags.no_autosync && not m.dflags.force_sync then Stale offset else Synchronizing offset

-- by its own bits, in a group with this genid and syncid
abbrev pub state_of : ℕ → ℕ → Metadata → MemberState
state_of genid syncid m =
    if m.dflags.inactive then Inactive
    else (if nat_lt m.genid genid then Broken
    else (if nat_lt m.syncid syncid then behind m 0
    else (if m.dflags.synchronizing then behind m m.sync_offset
    else Active)))

-- it holds the data
abbrev pub is_active : MemberState → Bool
is_active Inactive = false
is_active Broken = false
is_active (Stale offset) = false
is_active (Synchronizing offset) = false
is_active Active = true

-- the names of the states in texts
abbrev pub member_state_name : MemberState → List ℕ
member_state_name Inactive = codes "INACTIVE"
member_state_name Broken = codes "BROKEN"
member_state_name (Stale offset) = codes "STALE"
member_state_name (Synchronizing offset) = codes "SYNCHRONIZING"
member_state_name Active = codes "ACTIVE"
