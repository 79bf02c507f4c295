-- What an encoded sector bears: its metadata and no other; and zeros bear nothing.
use Rattle.gm_state.proofs.Common.{◌≡◌, ◌∙◌, ℕ, Bool, true, false, IsTrue, ◌+◌, ◌<◌, ◌≤◌, ◌^◌, arith, if◌then◌else◌, refl, sym, ap, subst, List, length, take, true≢false, Some, None, lit≤, IfSome, zeros, is_label, encoded, IsMetadata, Bears, BearsIn, carries, Mirror, Component, IsOf, IsDirt, metadata, with_dirty, Records, IsState, IsMirror, members}
use Rattle.std.proofs.lemmas.Slice.Eq.{bytes_eq-Decides}
use Rattle.gm_metadata.specs.Sector.{magic}
use Rattle.gm_metadata.specs.declared.metadata.Metadata.{Metadata}
use Rattle.gm_metadata.specs.declared.version.Version.TheVariants.{Four}
use Rattle.gm_metadata.proofs.Laid.{named, encoded_is_full, length-encoded}
use Rattle.gm_metadata.proofs.Numbers.{front_of_front}
use Rattle.gm_metadata.proofs.Read.{before_hash, read_once}
use Rattle.gm_state.specs.Lookups.{held_of}

provider_fits : (h : Bool) (p : List ℕ) → IsTrue (is_label p)
    → IfSome (if h then Some p else None) (λ n. IsTrue (is_label n))
provider_fits true p e = e
provider_fits false p e = tt

-- what the rules let a component's metadata be fits a sector
metadata_fits : (s : Records) (m : Mirror) (k : Component) → IsState s → IsOf s m k
    → IsMetadata (metadata m k)
metadata_fits s m k state of =
    let r : IsMirror m (members s.components m.name) = state.each m of.mirror in
    let kf = r.members_fit k of.component in
    let all : m.all ≤ 16 = r.all in
    let size : m.data_sectors + 1 ≤ k.sectors = r.sizes k of.component in
    let limit : k.sectors ≤ 1048576 = r.limits k of.component in
    let held : held_of k.disk < m.data_sectors = r.held k of.component in
    let old : k.syncid ≤ m.syncid = r.syncids k of.component in
    let new : m.syncid < 2 ^ 32 = r.fits.syncid in
    record {
      name_ok = r.fits.name;
      mid_ok = r.fits.mid;
      did_ok = kf.did;
      all_ok = omega arith;
      genid_ok = r.fits.genid;
      syncid_ok = omega arith;
      priority_ok = kf.priority;
      slice_ok = r.fits.slice;
      mediasize_ok = omega arith;
      sync_offset_ok = omega arith;
      provider_ok = provider_fits k.hardcoded k.provider kf.provider;
      provsize_ok = omega arith;
    }

-- metadata fit a sector with DIRTY as well
dirty_fits : (d : Metadata) → IsMetadata d → IsMetadata (with_dirty d)
dirty_fits d fits = record {
  name_ok = fits.name_ok;
  mid_ok = fits.mid_ok;
  did_ok = fits.did_ok;
  all_ok = fits.all_ok;
  genid_ok = fits.genid_ok;
  syncid_ok = fits.syncid_ok;
  priority_ok = fits.priority_ok;
  slice_ok = fits.slice_ok;
  mediasize_ok = fits.mediasize_ok;
  sync_offset_ok = fits.sync_offset_ok;
  provider_ok = fits.provider_ok;
  provsize_ok = fits.provsize_ok;
}

-- an encoded sector bears its metadata alone
bears_own : (e : Metadata) → IsMetadata e → (x : List ℕ) → x ≡ encoded e → (d : Metadata)
    → IsMetadata d → Bears x d → d ≡ e
bears_own e fits x is d ok bears =
    let n = length-encoded e (named e fits) in
    let own : BearsIn Four x e =
    subst (λ (y : List ℕ). BearsIn Four y e) (sym is) (encoded_is_full e (named e fits)).bears in
    (read_once x d e bears.0 Four (ap length is ∙ n) ok fits bears.1 own).0

-- the last sector of a component bears its metadata alone
pub bears_one : (s : Records) (m : Mirror) (k : Component) → IsState s → IsOf s m k → (x : List ℕ)
    → x ≡ encoded (metadata m k) → (d : Metadata) → IsMetadata d → Bears x d → d ≡ metadata m k
bears_one s m k state of = bears_own (metadata m k) (metadata_fits s m k state of)

-- and with DIRTY those that say DIRTY
pub dirt_bears_dirty : (s : Records) (p : List ℕ) (x : List ℕ) → IsState s → IsDirt s p x
    → (d : Metadata) → IsMetadata d → Bears x d → d.dflags.dirty ≡ true
dirt_bears_dirty s p x state dirt d ok bears =
    let own : Metadata = metadata dirt.0 dirt.1 in
    let is : d ≡ with_dirty own = bears_own (with_dirty own)
    (dirty_fits own (metadata_fits s dirt.0 dirt.1 state dirt.2)) x dirt.4 d ok bears in
    ap (λ (e : Metadata). e.dflags.dirty) is

-- what bears metadata carries them
pub bears_carries : (x : List ℕ) (d : Metadata) → Bears x d → carries x ≡ true
bears_carries x d bears =
    (bytes_eq-Decides (take 16 x) magic).1
    (sym (front_of_front 16 _ x (before_hash bears.0 16 (lit≤ tt))) ∙ bears.1.magic_is)

zeros_carry_nothing : carries zeros ≡ false
unfolding magic
zeros_carry_nothing = refl

pub bears_not_zeros : (d : Metadata) → Bears zeros d → ⊥
bears_not_zeros d bears = true≢false (sym (bears_carries zeros d bears) ∙ zeros_carry_nothing)
