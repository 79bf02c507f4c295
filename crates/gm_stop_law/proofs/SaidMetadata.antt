-- What the last sector of a component says of it, as it is or as it was before.
use Rattle.gm_stop_law.proofs.Common.{◌≡◌, ◌∙◌, inl, inr, ℕ, ◌<◌, ◌≤◌, ◌+◌, ◌*◌, ◌^◌, ◌==◌, Bool, true, false, IsTrue, refl, sym, ap, arith, List, Some, None, Result, Ok, if◌then◌else◌, eq-eqb, IfSome, cases_Bool, le-leb, bytes_eq, is_label, encoded, IsMetadata, decode_of, Metadata, same_from, taken_by, judged, names_own, own_size, Provider, IsOf, dirty_metadata, held_of, metadata, IsMirror, IsState, Records, members, Component, Mirror, is_at_most_older, is_of_component, says, says_but_losses, says_with}
use Rattle.gm_metadata.proofs.Read.{encoded_decodes}
use Rattle.gm_metadata.specs.declared.fault.DecodeFault.{DecodeFault}
use Rattle.gm_taste.specs.Tasting.{taken_as}
use Rattle.gm_rules.proofs.GrownRecords.{IsGrown, IsKept}

-- ---- a provider that says metadata of its own

-- the size that they give is the provider's
own_bytes : (p : Provider) (d : Metadata) → d.provsize ≡ 512 * p.sectors → own_size p d ≡ true
own_bytes p d e =
    let same : (d.provsize == p.sectors * 512) ≡ true =
    eq-eqb d.provsize (p.sectors * 512) (omega arith) in
    elim (cases_Bool (d.provsize == 0)) [ inl z ↦ rw z refl | inr z ↦ rw (z, same) refl ]

-- it is taken to say them
pub taken_as_said : (d : Metadata) (p : Provider) → IsMetadata d → p.last ≡ encoded d
    → names_own p.name d.provider ≡ true → d.provsize ≡ 512 * p.sectors
    → taken_by p ≡ Some (record { provider = p.name; metadata = d })
taken_as_said d p fits last named size =
    let read : decode_of p.last ≡ Ok d = ap decode_of last ∙ encoded_decodes d fits in
    let own : judged p (Ok d) ≡ Ok d = rw (named, own_bytes p d size) refl in
    ap (λ (r : Result Metadata DecodeFault). taken_as p.name (judged p r)) read
    ∙ ap (taken_as p.name) own

-- ---- metadata of a component

-- metadata that the image of a component may say: of it, and as old as it is or older
pub record IsFormer (m : Mirror) (k : Component) (d : Metadata) : Type 0 where
  pub name : d.name ≡ m.name
  pub mid : d.mid ≡ m.mid
  pub mediasize : d.mediasize ≡ 512 * m.data_sectors
  pub genid : d.genid ≤ m.genid
  pub syncid : d.syncid ≤ m.syncid
  pub did : d.did ≡ k.did
  pub own_syncid : d.syncid ≤ k.syncid

-- they are of the component
pub is_former : (m : Mirror) (k : Component) (d : Metadata) → IsFormer m k d
    → is_of_component m k d ≡ true
is_former m k d old = rw (
  same_from d.name m.name old.name,
  eq-eqb d.mid m.mid old.mid,
  eq-eqb d.mediasize (512 * m.data_sectors) old.mediasize,
  le-leb d.genid m.genid old.genid,
  le-leb d.syncid m.syncid old.syncid,
  eq-eqb d.did k.did old.did,
  le-leb d.syncid k.syncid old.own_syncid,
) refl

-- a provider that is taken to say them says the component
pub former_says : (m : Mirror) (k : Component) (d : Metadata) (p : Provider) → IsFormer m k d
    → taken_by p ≡ Some (record { provider = p.name; metadata = d })
    → says (is_of_component m k) p ≡ true
former_says m k d p old taken =
    ap (says_with (is_of_component m k)) taken ∙ is_former m k d old

-- ---- what is registered

-- the provider of a component is a name that fits its field
provider_fits : (h : Bool) (p : List ℕ) → IsTrue (is_label p)
    → IfSome (if h then Some p else None) (λ n. IsTrue (is_label n))
provider_fits true p e = e
provider_fits false p e = tt

-- a component's metadata fit a sector, with a genid that its mirror has or had
pub metadata_fits : (s : Records) (m : Mirror) (k : Component) (g : ℕ) → IsState s → IsOf s m k
    → g ≤ m.genid → IsMetadata (metadata (record m { genid = g }) k)
metadata_fits s m k g state of low =
    let r : IsMirror m (members s.components m.name) = state.each m of.mirror in
    let kf = r.members_fit k of.component in
    let all : m.all ≤ 16 = r.all in
    let size : m.data_sectors + 1 ≤ k.sectors = r.sizes k of.component in
    let limit : k.sectors ≤ 1048576 = r.limits k of.component in
    let held : held_of k.disk < m.data_sectors = r.held k of.component in
    let old : k.syncid ≤ m.syncid = r.syncids k of.component in
    let new : m.syncid < 2 ^ 32 = r.fits.syncid in
    let last : m.genid < 2 ^ 32 = r.fits.genid in
    record {
      name_ok = r.fits.name;
      mid_ok = r.fits.mid;
      did_ok = kf.did;
      all_ok = omega arith;
      genid_ok = omega arith;
      syncid_ok = omega arith;
      priority_ok = kf.priority;
      slice_ok = r.fits.slice;
      mediasize_ok = omega arith;
      sync_offset_ok = omega arith;
      provider_ok = provider_fits k.hardcoded k.provider kf.provider;
      provsize_ok = omega arith;
    }

-- and with DIRTY as well
pub dirty_fits : (s : Records) (m : Mirror) (k : Component) (g : ℕ) → IsState s → IsOf s m k
    → g ≤ m.genid → IsMetadata (dirty_metadata (record m { genid = g }) k)
dirty_fits s m k g state of low =
    let fits = metadata_fits s m k g state of low in
    record {
      name_ok = fits.name_ok;
      mid_ok = fits.mid_ok;
      did_ok = fits.did_ok;
      all_ok = fits.all_ok;
      genid_ok = fits.genid_ok;
      syncid_ok = fits.syncid_ok;
      priority_ok = fits.priority_ok;
      slice_ok = fits.slice_ok;
      mediasize_ok = fits.mediasize_ok;
      sync_offset_ok = fits.sync_offset_ok;
      provider_ok = fits.provider_ok;
      provsize_ok = fits.provsize_ok;
    }

-- ---- the image of a component

-- the name that a component hardcodes is its own
own_hardcoded : (hardcoded : Bool) (own k : List ℕ) → own ≡ k
    → names_own own (if hardcoded then Some k else None) ≡ true
own_hardcoded true own k e = same_from k own (sym e)
own_hardcoded false own k e = refl

module _ (s : Records) (m : Mirror) (k : Component) (g : ℕ) (state : IsState s) (of : IsOf s m k)
    (low : g ≤ m.genid) where
  within : k.syncid ≤ m.syncid
  within = (state.each m of.mirror).syncids k of.component

  module _ (p : Provider) (named : p.name ≡ k.provider) (sectors : p.sectors ≡ k.sectors) where
    own_provider : names_own p.name (if k.hardcoded then Some k.provider else None) ≡ true
    own_provider = own_hardcoded k.hardcoded p.name k.provider named

    -- an image that says the component with a genid of before is taken to say so
    pub taken_as_registered : p.last ≡ encoded (metadata (record m { genid = g }) k)
        → taken_by p
        ≡ Some (record { provider = p.name; metadata = metadata (record m { genid = g }) k })
    taken_as_registered last =
        taken_as_said (metadata (record m { genid = g }) k) p (metadata_fits s m k g state of low)
        last own_provider (omega arith)

    -- so it says the component
    pub since_says : p.last ≡ encoded (metadata (record m { genid = g }) k)
        → says (is_of_component m k) p ≡ true
    since_says last = former_says m k (metadata (record m { genid = g }) k) p (record {
      name = refl;
      mid = refl;
      mediasize = refl;
      genid = low;
      syncid = within;
      did = refl;
      own_syncid = omega arith;
    }) (taken_as_registered last)

    -- and so does one that says DIRTY as well
    pub since_says_dirty : p.last ≡ encoded (dirty_metadata (record m { genid = g }) k)
        → says (is_of_component m k) p ≡ true
    since_says_dirty last =
        let d : Metadata = dirty_metadata (record m { genid = g }) k in
        former_says m k d p (record {
          name = refl;
          mid = refl;
          mediasize = refl;
          genid = low;
          syncid = within;
          did = refl;
          own_syncid = omega arith;
        }) (taken_as_said d p (dirty_fits s m k g state of low) last own_provider (omega arith))

-- the metadata of a component that stays say what it was, or is
pub grown_former : (s : Records) (a m : Mirror) (j k : Component) → IsState s → IsOf s a j
    → IsGrown a m → IsKept j k → IsFormer m k (metadata a j)
grown_former s a m j k state of grown kept =
    let within : j.syncid ≤ a.syncid = (state.each a of.mirror).syncids j of.component in
    let later : a.syncid ≤ m.syncid = grown.syncid in
    record {
      name = grown.name;
      mid = grown.mid;
      mediasize = ap (λ (n : ℕ). 512 * n) grown.data_sectors;
      genid = grown.genid;
      syncid = omega arith;
      did = kept.did;
      own_syncid = kept.syncid;
    }

-- so an image that says them says the component
pub grown_says : (s : Records) (a m : Mirror) (j k : Component) → IsState s → IsOf s a j
    → IsGrown a m → IsKept j k → (p : Provider) → p.name ≡ k.provider → p.sectors ≡ k.sectors
    → p.last ≡ encoded (metadata a j) → says (is_of_component m k) p ≡ true
grown_says s a m j k state of grown kept p named sectors last =
    former_says m k (metadata a j) p (grown_former s a m j k state of grown kept)
    (taken_as_registered s a j a.genid state of (omega arith) p (named ∙ sym kept.provider)
    (sectors ∙ sym kept.sectors) last)

-- ---- metadata that losses left behind

-- a sector that says a component with a genid of before says it but for so many losses
pub says_but : (m : Mirror) (k : Component) (g losses : ℕ) (x : List ℕ)
    → IsMetadata (metadata (record m { genid = g }) k) → g ≤ m.genid → m.genid ≤ g + losses
    → x ≡ encoded (metadata (record m { genid = g }) k)
    → says_but_losses (metadata m k) losses x ≡ true
says_but m k g losses x fits low high is =
    let d : Metadata = metadata (record m { genid = g }) k in
    let read : decode_of x ≡ Ok d = ap decode_of is ∙ encoded_decodes d fits in
    let whole : bytes_eq x (encoded d) ≡ true = same_from x (encoded d) is in
    ap (is_at_most_older (metadata m k) losses x) read
    ∙ rw (le-leb g m.genid low, le-leb m.genid (g + losses) high, whole) refl
