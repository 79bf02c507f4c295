-- The tests of the rules tell the rules.
use Rattle.gm_state.proofs.Common.{◌≡◌, ◌≢◌, ◌∙◌, inl, inr, ⊎_elim, ℕ, ◌<◌, ◌≤◌, ◌+◌, ◌^◌, ◌==◌, ◌&&◌, ◌||◌, not, nat_lt, nat_le, Bool, true, false, refl, sym, ap, arith, List, [], ◌∷◌, length, true≢false, eqb-true, eq-eqb, ltb-true, list_any, list_all, and_parts, leb-true, le-leb, lt-ltb, or_cases, or_left, or_right, is_label, Mirror, Component, Disk, InSync, Inactive, Copying, Has, Ascends, Records, MirrorFits, ComponentFits, IsMirror, IsState, members, name, provider, mirror_fits, component_fits, is_current, is_component, is_mirror, are_mirrors, has_own_mid, has_own_did, has_home, is_state, ascending, same_is, same_from, one, Has-filter, filter-Has, all_has, has_all, ascending_tells, ascending_from}
use Rattle.std.specs.Str.{bytes_eq}
use Rattle.gm_state.specs.Disks.{is_active, is_inactive, held_of}

pub any_tells : {X : Type 0} (p : X → Bool) (xs : List X) → list_any p xs ≡ true
    → (x : X) × Has xs x × (p x ≡ true)
any_tells p [] e = absurd (true≢false (sym e))
any_tells p (y ∷ ys) e =
    ⊎_elim (λ (f : p y ≡ true). (y, inl refl, f))
    (λ (f : list_any p ys ≡ true). let r = any_tells p ys f in
    (r.0, inr r.1, r.2)) (or_cases (p y) (list_any p ys) e)

pub any_from : {X : Type 0} (p : X → Bool) (xs : List X) (x : X) → Has xs x → p x ≡ true
    → list_any p xs ≡ true
any_from p [] x h e = absurd h
any_from p (y ∷ ys) x (inl s) e = or_left (p y) (list_any p ys) (ap p s ∙ e)
any_from p (y ∷ ys) x (inr h) e = or_right (p y) (list_any p ys) (any_from p ys x h e)

-- ---- one mirror

mirror_fits_tells : (m : Mirror) → mirror_fits m ≡ true → MirrorFits m
mirror_fits_tells m e =
    let a = and_parts (is_label m.name && nat_lt m.mid (2 ^ 32) && nat_lt m.genid
    (2 ^ 32) && nat_lt m.syncid (2 ^ 32)) (nat_lt m.slice (2 ^ 32)) e in
    let b = and_parts (is_label m.name && nat_lt m.mid (2 ^ 32) && nat_lt m.genid (2 ^ 32))
    (nat_lt m.syncid (2 ^ 32)) a.0 in
    let c = and_parts (is_label m.name && nat_lt m.mid (2 ^ 32)) (nat_lt m.genid (2 ^ 32)) b.0 in
    let d = and_parts (is_label m.name) (nat_lt m.mid (2 ^ 32)) c.0 in
    record {
      name = d.0;
      mid = ltb-true m.mid (2 ^ 32) d.1;
      genid = ltb-true m.genid (2 ^ 32) c.1;
      syncid = ltb-true m.syncid (2 ^ 32) b.1;
      slice = ltb-true m.slice (2 ^ 32) a.1;
    }

mirror_fits_from : (m : Mirror) → MirrorFits m → mirror_fits m ≡ true
mirror_fits_from m f = rw (
  f.name,
  lt-ltb m.mid (2 ^ 32) f.mid,
  lt-ltb m.genid (2 ^ 32) f.genid,
  lt-ltb m.syncid (2 ^ 32) f.syncid,
  lt-ltb m.slice (2 ^ 32) f.slice,
) refl

component_fits_tells : (k : Component) → component_fits k ≡ true → ComponentFits k
component_fits_tells k e =
    let a = and_parts (is_label k.provider && nat_lt k.did (2 ^ 32))
    (nat_lt k.priority (2 ^ 8)) e in
    let b = and_parts (is_label k.provider) (nat_lt k.did (2 ^ 32)) a.0 in
    record {
      provider = b.0;
      did = ltb-true k.did (2 ^ 32) b.1;
      priority = ltb-true k.priority (2 ^ 8) a.1;
    }

component_fits_from : (k : Component) → ComponentFits k → component_fits k ≡ true
component_fits_from k f =
    rw (f.provider, lt-ltb k.did (2 ^ 32) f.did, lt-ltb k.priority (2 ^ 8) f.priority) refl

current_tells : (d : Disk) (a b : ℕ) → (is_inactive d || a == b) ≡ true → d ≢ Inactive → a ≡ b
current_tells InSync a b e n = eqb-true a b e
current_tells Inactive a b e n = absurd (n refl)
current_tells (Copying forced held) a b e n = eqb-true a b e

current_from : (d : Disk) (a b : ℕ) → (d ≢ Inactive → a ≡ b) → (is_inactive d || a == b) ≡ true
current_from InSync a b h = eq-eqb a b (h (λ e. let z : ⊥ = cc in z))
current_from Inactive a b h = refl
current_from (Copying forced held) a b h = eq-eqb a b (h (λ e. let z : ⊥ = cc in z))

active_tells : (d : Disk) → is_active d ≡ true → d ≡ InSync
active_tells InSync e = refl
active_tells Inactive e = cc
active_tells (Copying forced held) e = cc

-- what the test of a component says
pub record ComponentRules (m : Mirror) (k : Component) : Type 0 where
  pub fits : ComponentFits k
  pub size : m.data_sectors + 1 ≤ k.sectors
  pub limit : k.sectors ≤ 1048576
  pub held : held_of k.disk < m.data_sectors
  pub syncid : k.syncid ≤ m.syncid
  pub current : k.disk ≢ Inactive → k.syncid ≡ m.syncid

component_tells : (m : Mirror) (k : Component) → is_component m k ≡ true → ComponentRules m k
component_tells m k e =
    let a = and_parts (component_fits k && nat_lt m.data_sectors k.sectors && nat_le k.sectors
    1048576 && nat_lt (held_of k.disk) m.data_sectors && nat_le k.syncid m.syncid)
    (is_current m k) e in
    let b = and_parts (component_fits k && nat_lt m.data_sectors k.sectors && nat_le k.sectors
    1048576 && nat_lt (held_of k.disk) m.data_sectors) (nat_le k.syncid m.syncid) a.0 in
    let c = and_parts (component_fits k && nat_lt m.data_sectors k.sectors && nat_le k.sectors
    1048576) (nat_lt (held_of k.disk) m.data_sectors) b.0 in
    let d = and_parts (component_fits k && nat_lt m.data_sectors k.sectors)
    (nat_le k.sectors 1048576) c.0 in
    let f = and_parts (component_fits k) (nat_lt m.data_sectors k.sectors) d.0 in
    let size : m.data_sectors < k.sectors = ltb-true m.data_sectors k.sectors f.1 in
    record {
      fits = component_fits_tells k f.0;
      size = omega arith;
      limit = leb-true k.sectors 1048576 d.1;
      held = ltb-true (held_of k.disk) m.data_sectors c.1;
      syncid = leb-true k.syncid m.syncid b.1;
      current = current_tells k.disk k.syncid m.syncid a.1;
    }

component_from : (m : Mirror) (k : Component) → ComponentRules m k → is_component m k ≡ true
component_from m k r =
    let size : m.data_sectors + 1 ≤ k.sectors = r.size in
    rw (
      component_fits_from k r.fits,
      lt-ltb m.data_sectors k.sectors (omega arith),
      le-leb k.sectors 1048576 r.limit,
      lt-ltb (held_of k.disk) m.data_sectors r.held,
      le-leb k.syncid m.syncid r.syncid,
    )
    (current_from k.disk k.syncid m.syncid r.current)

-- the rules of a mirror but for the numbers of its components
mirror_tells : (m : Mirror) (ks : List Component) → is_mirror ks m ≡ true
    → ((j : Component) → Has ks j → (k : Component) → Has ks k → j.did ≡ k.did → j ≡ k)
    → IsMirror m ks
mirror_tells m ks e dids =
    let a = and_parts (mirror_fits m && nat_le m.all 16 && nat_le (length ks) m.all && list_any
    (λ (k : Component). is_active k.disk) ks)
    (list_all (λ (k : Component). is_component m k) ks) e in
    let b = and_parts (mirror_fits m && nat_le m.all 16 && nat_le (length ks) m.all)
    (list_any (λ (k : Component). is_active k.disk) ks) a.0 in
    let c = and_parts (mirror_fits m && nat_le m.all 16) (nat_le (length ks) m.all) b.0 in
    let d = and_parts (mirror_fits m) (nat_le m.all 16) c.0 in
    let active = any_tells (λ (k : Component). is_active k.disk) ks b.1 in
    let rules : (k : Component) → Has ks k → ComponentRules m k =
    λ k h. component_tells m k (all_has (λ (k : Component). is_component m k) ks a.1 k h) in
    let some : held_of active.0.disk < m.data_sectors = (rules active.0 active.1).held in
    record {
      fits = mirror_fits_tells m d.0;
      members_fit = λ k h. (rules k h).fits;
      some = omega arith;
      all = leb-true m.all 16 d.1;
      room = leb-true (length ks) m.all c.1;
      active = (active.0, active.1, active_tells active.0.disk active.2);
      sizes = λ k h. (rules k h).size;
      limits = λ k h. (rules k h).limit;
      held = λ k h. (rules k h).held;
      dids = dids;
      syncids = λ k h. (rules k h).syncid;
      current = λ k h. (rules k h).current;
    }

mirror_from : (m : Mirror) (ks : List Component) → IsMirror m ks → is_mirror ks m ≡ true
mirror_from m ks r =
    let active : list_any (λ (k : Component). is_active k.disk) ks ≡ true =
    any_from (λ (k : Component). is_active k.disk) ks r.active.0 r.active.1
    (ap is_active r.active.2) in
    let all : list_all (λ (k : Component). is_component m k) ks ≡ true =
    has_all (λ (k : Component). is_component m k) ks (λ k h. component_from m k (record {
      fits = r.members_fit k h;
      size = r.sizes k h;
      limit = r.limits k h;
      held = r.held k h;
      syncid = r.syncids k h;
      current = r.current k h;
    })) in
    rw (
      mirror_fits_from m r.fits,
      le-leb m.all 16 r.all,
      le-leb (length ks) m.all r.room,
      active,
    ) all

-- ---- numbers and homes

same_number_tells : (p q : Bool) → (not p || q) ≡ true → p ≡ true → q ≡ true
same_number_tells true q e f = e
same_number_tells false q e f = cc

same_number_from : (p q : Bool) → (p ≡ true → q ≡ true) → (not p || q) ≡ true
same_number_from true q h = h refl
same_number_from false q h = refl

module _ (s : Records) where
  -- the components of a mirror are components
  pub member : (n : List ℕ) (k : Component) → Has (members s.components n) k
      → Has s.components k × (k.mirror ≡ n)
  member n k h = let r = Has-filter (λ (c : Component). bytes_eq c.mirror n) s.components k h in
      (r.0, same_is k.mirror n r.1)

  dids_told : Ascends provider s.components
      → list_all (has_own_did s.components) s.components ≡ true → (n : List ℕ) (j : Component)
      → Has (members s.components n) j → (k : Component) → Has (members s.components n) k
      → j.did ≡ k.did → j ≡ k
  dids_told order e n j g k h d =
      let a = member n j g in
      let b = member n k h in
      let test = all_has (λ (b : Component). not (bytes_eq j.mirror b.mirror && j.did == b.did) ||
      bytes_eq j.provider b.provider) s.components
      (all_has (has_own_did s.components) s.components e j a.0) k b.0 in
      let both : (bytes_eq j.mirror k.mirror && j.did == k.did) ≡ true =
      rw (same_from j.mirror k.mirror (a.1 ∙ sym b.1)) (eq-eqb j.did k.did d) in
      one provider s.components order j k a.0 b.0
      (same_is j.provider k.provider
      (same_number_tells (bytes_eq j.mirror k.mirror && j.did == k.did)
      (bytes_eq j.provider k.provider) test both))

  -- the tests tell the rules
  pub is_state_tells : is_state s ≡ true → IsState s
  is_state_tells e =
      let a = and_parts (ascending name s.mirrors && ascending provider s.components && nat_le
      (length s.mirrors) 64 && are_mirrors s.components s.mirrors && list_all
      (has_home s.mirrors) s.components && list_all (has_own_mid s.mirrors) s.mirrors)
      (list_all (has_own_did s.components) s.components) e in
      let b = and_parts (ascending name s.mirrors && ascending provider s.components && nat_le
      (length s.mirrors) 64 && are_mirrors s.components s.mirrors && list_all
      (has_home s.mirrors) s.components) (list_all (has_own_mid s.mirrors) s.mirrors) a.0 in
      let c = and_parts (ascending name s.mirrors && ascending provider s.components && nat_le
      (length s.mirrors) 64 && are_mirrors s.components s.mirrors)
      (list_all (has_home s.mirrors) s.components) b.0 in
      let d = and_parts (ascending name s.mirrors && ascending provider s.components && nat_le
      (length s.mirrors) 64) (are_mirrors s.components s.mirrors) c.0 in
      let f = and_parts (ascending name s.mirrors && ascending provider s.components)
      (nat_le (length s.mirrors) 64) d.0 in
      let g = and_parts (ascending name s.mirrors) (ascending provider s.components) f.0 in
      let mirrors : Ascends name s.mirrors = ascending_tells name s.mirrors g.0 in
      let components : Ascends provider s.components = ascending_tells provider s.components g.1 in
      record {
        mirrors_in_order = mirrors;
        components_in_order = components;
        count = leb-true (length s.mirrors) 64 f.1;
        each = λ m h. mirror_tells m (members s.components m.name)
            (all_has (λ (m : Mirror). is_mirror (members s.components m.name) m) s.mirrors d.1 m h)
            (dids_told components a.1 m.name);
        mids = λ x y h k i.
            let test = all_has (λ (b : Mirror). not (x.mid == b.mid) || bytes_eq x.name b.name)
            s.mirrors (all_has (has_own_mid s.mirrors) s.mirrors b.1 x h) y k in
            one name s.mirrors mirrors x y h k
            (same_is x.name y.name (same_number_tells (x.mid == y.mid)
            (bytes_eq x.name y.name) test (eq-eqb x.mid y.mid i)));
        homes = λ k h. let r = any_tells (λ (m : Mirror). bytes_eq m.name k.mirror) s.mirrors
            (all_has (has_home s.mirrors) s.components c.1 k h) in
            (r.0, r.1, same_is r.0.name k.mirror r.2);
      }

  dids_from : IsState s → (j : Component) → Has s.components j → (k : Component)
      → Has s.components k → j.mirror ≡ k.mirror → j.did ≡ k.did → j ≡ k
  dids_from r j g k h e d =
      let home = r.homes j g in
      let in_home : (c : Component) → Has s.components c → home.0.name ≡ c.mirror
      → Has (members s.components home.0.name) c =
      λ c i f. filter-Has (λ (c : Component). bytes_eq c.mirror home.0.name) s.components c i
      (same_from c.mirror home.0.name (sym f)) in
      (r.each home.0 home.1).dids j (in_home j g home.2) k (in_home k h (home.2 ∙ e)) d

  -- and the rules meet the tests
  pub is_state_from : IsState s → is_state s ≡ true
  is_state_from r =
      let each : are_mirrors s.components s.mirrors ≡ true =
      has_all (λ (m : Mirror). is_mirror (members s.components m.name) m) s.mirrors
      (λ m h. mirror_from m (members s.components m.name) (r.each m h)) in
      let mids : list_all (has_own_mid s.mirrors) s.mirrors ≡ true =
      has_all (has_own_mid s.mirrors) s.mirrors
      (λ x h. has_all (λ (b : Mirror). not (x.mid == b.mid) || bytes_eq x.name b.name) s.mirrors
      (λ y k.
      same_number_from (x.mid == y.mid) (bytes_eq x.name y.name)
      (λ e. same_from x.name y.name (ap name (r.mids x y h k (eqb-true x.mid y.mid e)))))) in
      let dids : list_all (has_own_did s.components) s.components ≡ true =
      has_all (has_own_did s.components) s.components
      (λ x h. has_all (λ (b : Component). not (bytes_eq x.mirror b.mirror && x.did == b.did) ||
      bytes_eq x.provider b.provider) s.components (λ y k.
      same_number_from (bytes_eq x.mirror y.mirror && x.did == y.did)
      (bytes_eq x.provider y.provider) (λ e.
      let parts = and_parts (bytes_eq x.mirror y.mirror) (x.did == y.did) e in
      same_from x.provider y.provider
      (ap provider (dids_from r x h y k (same_is x.mirror y.mirror parts.0)
      (eqb-true x.did y.did parts.1)))))) in
      let homes : list_all (has_home s.mirrors) s.components ≡ true =
      has_all (has_home s.mirrors) s.components (λ k h. let m = r.homes k h in
      any_from (λ (m : Mirror). bytes_eq m.name k.mirror) s.mirrors m.0 m.1
      (same_from m.0.name k.mirror m.2)) in
      rw (
        ascending_from name s.mirrors r.mirrors_in_order,
        ascending_from provider s.components r.components_in_order,
        le-leb (length s.mirrors) 64 r.count,
        each,
        homes,
        mids,
      ) dids
