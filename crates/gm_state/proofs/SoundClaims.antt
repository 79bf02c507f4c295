-- What the metadata of a sound world's components claim.
use Rattle.gm_state.proofs.Common.{◌≡◌, ◌≢◌, ◌∙◌, ℕ, ◌*◌, ◌/◌, ◌-◌, ◌<◌, Bool, true, false, List, None, Some, refl, sym, ap, subst, arith, if◌then◌else◌, IsSome, Option, Image, SameThere, same_label, Disk, InSync, Inactive, Copying, Mirror, Component, metadata, mirror_of, Records, held_by, World, Sound, Claims, claimed, has_syncid, data_at, Has, found_none, not_both, same_refl}
use Rattle.gm_state.specs.Lookups.{disk_flags, held_of}
use Rattle.gm_state.proofs.EncodedSectors.{bears_one}

-- metadata without INACTIVE claim what their component holds, of a mirror with as many data sectors
pub claims_of : (a m : Mirror) (k : Component) → (metadata m k).dflags.inactive ≡ false
    → claimed a (metadata m k) ≡ held_by k.disk a.data_sectors
claims_of a m k e = by k.disk e
  where
    by : (d : Disk) → (disk_flags d).inactive ≡ false
        → (if (disk_flags d).synchronizing then 512 * held_of d / 512 else a.data_sectors)
        ≡ held_by d a.data_sectors
    by InSync e = refl
    by Inactive e = cc
    by (Copying forced held) e = omega arith

pub some_there : {X : Type 0} (o : Option X) (x : X) → o ≡ Some x → IsSome o
some_there o x e = rw e refl

-- a mirror is found by its name
pub mirror_found : (s : Records) (m : Mirror) → Has s.mirrors m → mirror_of s m.name ≢ None
mirror_found s m h none =
    not_both (same_label m.name m.name) (same_refl m.name)
    (found_none (λ (a : Mirror). same_label a.name m.name) s.mirrors none m h)

-- data that stay the same are claimed whichever syncid an image has
pub same_data : (u w : World) (n : List ℕ) (syncid i : ℕ) → w.holds n i ≡ u.holds n i
    → data_at u w n syncid i ≡ u.holds n i
same_data u w n syncid i same = by (has_syncid (mirror_of w.state n) syncid)
  where
    by : (b : Bool) → (if b then w.holds n i else u.holds n i) ≡ u.holds n i
    by true = same
    by false = refl

-- in a sound world all claims are true
pub sound_claims : (w : World) (x : Image) → Sound w → SameThere w.size x w.shelf → Claims w w x
sound_claims w x sound same m k d o ok bears named mid active clean i below =
    let there : IsSome (w.size k.provider) =
    some_there (w.size k.provider) k.sectors (sound.sizes m k o) in
    let last : x k.provider (k.sectors - 1) ≡ w.shelf k.provider (k.sectors - 1) =
    same k.provider there (k.sectors - 1) in
    let is = bears_one w.state m k sound.state o (x k.provider (k.sectors - 1))
    (last ∙ sound.full m k o) d ok bears in
    let n : claimed m d ≡ held_by k.disk m.data_sectors =
    ap (claimed m) is ∙ claims_of m m k (sym (ap (λ e. e.dflags.inactive) is) ∙ active) in
    same k.provider there i ∙ (sound.whole m k o i (subst (λ (n : ℕ). i < n) n below)
    ∙ sym (same_data w w m.name d.syncid i refl))
