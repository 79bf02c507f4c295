-- How a mirror is adopted: from what the images say that it is found on.
use Rattle.std.specs.Prelude.{ℕ, Bool, false, not, ◌&&◌, ◌||◌, ◌==◌, ◌/◌, ◌%◌, nat_le, nat_lt, List, [], ◌∷◌, length, map, Option, Some, None, is_some, unwrap_or, Result, Ok, Err, if◌then◌else◌}
use Rattle.std.specs.List.{filter_map, list_all, list_any}
use Rattle.gm_metadata.specs.Images.{same_label}
use Rattle.gm_metadata.specs.Reading.{decode_of}
use Rattle.gm_metadata.specs.declared.metadata.Metadata.{Metadata}
use Rattle.gm_metadata.specs.declared.fault.DecodeFault.{DecodeFault}
use Rattle.gm_taste.specs.declared.groups.Taken.{Taken}
use Rattle.gm_taste.specs.declared.tasted.Member.{Member}
use Rattle.gm_taste.specs.declared.tasted.MemberState.{MemberState}
use Rattle.gm_taste.specs.declared.tasted.MemberState.TheVariants as tasted
use Rattle.gm_taste.specs.Tasting.{taken_by, member, genid_in, syncid_in}
use Rattle.gm_taste.specs.Sources.{first_from}
use Rattle.gm_state.specs.declared.records.Mirror.{Mirror}
use Rattle.gm_state.specs.declared.records.Component.{Component}
use Rattle.gm_state.specs.declared.records.Disk.{Disk}
use Rattle.gm_state.specs.declared.records.Disk.TheVariants.{InSync, Inactive, Copying}
use Rattle.gm_state.specs.Records.{provider}
use Rattle.gm_lists.specs.Ordered.{put_all}
use Rattle.gm_commands.specs.Sectors.{is_bytes}
use Rattle.gm_refusals.specs.Seen.{Seen, is_there_and}

-- ---- what the last sectors say

-- what was read, if it decodes
abbrev pub decoded : Result Metadata DecodeFault → Option Metadata
decoded (Ok m) = Some m
decoded (Err fault) = None

-- what a last sector says, taken or not
abbrev pub told : Option (List ℕ) → Option Metadata
told None = None
told (Some sector) = decoded (decode_of sector)

-- it tells of this mid, or of this did
abbrev pub tells_mid : Seen → ℕ → List ℕ → Bool
tells_mid x mid p = is_there_and (told (x.last p)) (λ m. m.mid == mid)

abbrev pub tells_did : Seen → ℕ → List ℕ → Bool
tells_did x did p = is_there_and (told (x.last p)) (λ m. m.did == did)

-- the mids that the last sectors tell of
abbrev pub mid_of : Option Metadata → Option ℕ
mid_of None = None
mid_of (Some m) = Some m.mid

abbrev pub found_mids : Seen → List (List ℕ) → List ℕ
found_mids x ps = filter_map (λ p. mid_of (told (x.last p))) ps

-- two entries of the list tell of one did
abbrev pub tells_did_twice : Seen → List (List ℕ) → Bool
tells_did_twice x [] = false
tells_did_twice x (p ∷ ps) =
    is_there_and (told (x.last p)) (λ m. list_any (tells_did x m.did) ps) || tells_did_twice x ps

-- ---- the mirror that the providers would be, by tasting

-- the provider if tasting takes it; its last sector is bytes, as every one is that was read
abbrev pub taken_with : List ℕ → Option ℕ → Option (List ℕ) → Option Taken
taken_with p None last = None
taken_with p (Some n) None = None
taken_with p (Some n) (Some sector) =
    if is_bytes sector then taken_by (record { name = p; sectors = n; last = sector }) else None

abbrev pub taken : Seen → List ℕ → Option Taken
taken x p = taken_with p (x.size p) (x.last p)

-- those of the providers that are taken, and the genid and the syncid of a group of them
abbrev pub all_taken : Seen → List (List ℕ) → List Taken
all_taken x ps = filter_map (taken x) ps

abbrev pub genid_of : Seen → List (List ℕ) → ℕ
genid_of x ps = genid_in (all_taken x ps)

abbrev pub syncid_of : Seen → List (List ℕ) → ℕ
syncid_of x ps = syncid_in (genid_of x ps) (all_taken x ps)

-- what they are as its members
abbrev pub found : Seen → List (List ℕ) → List Member
found x ps = map (member (genid_of x ps) (syncid_of x ps)) (all_taken x ps)

-- a provider is taken, and tells of the mirror that m tells of
abbrev pub is_beside : Seen → Metadata → List ℕ → Bool
is_beside x m p =
    is_there_and (taken x p) (λ t. same_label t.metadata.name m.name && (t.metadata.mid == m.mid))

-- the first of the ACTIVE members, if all providers are taken, and in one group
abbrev pub first_where : Seen → List (List ℕ) → Option Member → Option Member
first_where x ps None = None
first_where x ps (Some b) = if list_all (is_beside x b.metadata) ps then Some b else None

-- the member that the data of the mirror are taken from
abbrev pub source_in : Seen → List (List ℕ) → Option Member
source_in x ps = first_where x ps (first_from None (found x ps))

-- ---- whether it is adoptable

-- how many data sectors metadata tell of
abbrev pub data_of : Metadata → ℕ
data_of m = m.mediasize / 512

-- what the source says fits a mirror with so many components
abbrev pub is_whole : Metadata → ℕ → Bool
is_whole m count =
    (m.mediasize % 512 == 0 && nat_lt 0 (data_of m)) && (nat_le count m.all && nat_le m.all 16)

-- a provider carries the name, tells of the source's mid, genid and mediasize, and has room for the
-- data
abbrev pub is_like : Seen → List ℕ → Metadata → List ℕ → Bool
is_like x n m p = is_there_and (taken x p) (λ t. same_label t.metadata.name n
    && (t.metadata.mid == m.mid && (t.metadata.genid == m.genid && t.metadata.mediasize
    == m.mediasize)))

abbrev pub has_room : Seen → Metadata → List ℕ → Bool
has_room x m p = is_there_and (x.size p) (λ k. nat_lt (data_of m) k)

-- a provider is named twice
abbrev pub has_twice : List (List ℕ) → Bool
has_twice [] = false
has_twice (p ∷ ps) = list_any (λ q. same_label q p) ps || has_twice ps

abbrev pub is_adoptable : Seen → List ℕ → List (List ℕ) → Bool
is_adoptable x n ps = not (has_twice ps) && is_there_and (source_in x ps) (λ b.
    is_whole b.metadata (length ps) && list_all
    (λ p. is_like x n b.metadata p && has_room x b.metadata p) ps)

-- ---- what is registered of it

-- the mirror: as the source says, which as an ACTIVE member has the genid and the syncid of the
-- group
abbrev pub adopted_mirror : List ℕ → Metadata → Mirror
adopted_mirror n m = record {
  name = n;
  mid = m.mid;
  all = m.all;
  genid = m.genid;
  syncid = m.syncid;
  slice = m.slice;
  balance = m.balance;
  data_sectors = data_of m;
  flags = m.mflags;
}

-- The offset of a copy is kept, in sectors, if it is a sector's below the end of the data, the
-- member has the syncid of the source b, and its data up to there are the source's.
abbrev pub is_borne_out : Seen → Member → Member → Bool
is_borne_out x b k = (k.metadata.syncid == b.metadata.syncid && k.metadata.sync_offset % 512 == 0)
    && (nat_lt k.metadata.sync_offset b.metadata.mediasize && x.equal b.provider k.provider
    (k.metadata.sync_offset / 512))

abbrev pub kept_offset : Seen → Member → Member → ℕ
kept_offset x b k = if is_borne_out x b k then k.metadata.sync_offset / 512 else 0

-- how the data of a member stand: an ACTIVE one is taken at its word if its data are the
-- source's
abbrev pub adopted_disk : Seen → Member → Member → MemberState → Disk
adopted_disk x b k tasted.Inactive = Inactive
adopted_disk x b k tasted.Active =
    if x.equal b.provider k.provider (data_of b.metadata) then InSync else Copying false 0
adopted_disk x b k tasted.Broken = Copying k.metadata.dflags.force_sync (kept_offset x b k)
adopted_disk x b k (tasted.Stale offset) = Copying k.metadata.dflags.force_sync (kept_offset x b k)
adopted_disk x b k (tasted.Synchronizing offset) =
    Copying k.metadata.dflags.force_sync (kept_offset x b k)

-- an INACTIVE one keeps its syncid
abbrev pub adopted_syncid : Member → Member → MemberState → ℕ
adopted_syncid b k tasted.Inactive = k.metadata.syncid
adopted_syncid b k tasted.Active = b.metadata.syncid
adopted_syncid b k tasted.Broken = b.metadata.syncid
adopted_syncid b k (tasted.Stale offset) = b.metadata.syncid
adopted_syncid b k (tasted.Synchronizing offset) = b.metadata.syncid

-- a component: it keeps its number, its priority and whether its name was hardcoded, and has its
-- provider's size
abbrev pub adopted_component : Seen → List ℕ → Member → Member → Component
adopted_component x n b k = record {
  provider = k.provider;
  mirror = n;
  did = k.metadata.did;
  syncid = adopted_syncid b k k.state;
  priority = k.metadata.priority;
  disk = adopted_disk x b k k.state;
  hardcoded = is_some k.metadata.provider;
  sectors = unwrap_or (x.size k.provider) 0;
}

-- all of them, in byte order
abbrev pub adopted : Seen → List ℕ → List (List ℕ) → Member → List Component
adopted x n ps b = put_all provider (map (adopted_component x n b) (found x ps)) []
