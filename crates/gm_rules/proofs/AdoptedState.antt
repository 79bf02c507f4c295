-- What is registered of a mirror that is adopted: its record and its components keep the rules.
use Rattle.gm_rules.proofs.Common.{◌≡◌, ◌≢◌, ◌∙◌, ⊎_elim, ℕ, ◌<◌, ◌≤◌, ◌+◌, true, false, IsTrue, refl, sym, ap, subst, arith, List, [], ◌∷◌, length, map, Option, Some, None, unwrap_or, list_all, list_any, filter_map, cons_option, or_parts, length-map, is_label, Metadata, Taken, Member, MemberState, Active, member, Has-map, map-Has, Mirror, Component, InSync, Inactive, Has, Ascends, IsMirror, ComponentFits, held_by, held_of, provider, none_any, not_both, all_has, Seen, is_there_and, told, tells_did, tells_did_twice, taken, all_taken, genid_of, syncid_of, found, data_of, adopted_mirror, adopted_component, adopted_disk, adopted, Fits, is_taken, taken_fits, taken_told, Ascends-put_all, put_all_or, put_all_there, length-put_all_le}
use Rattle.std.proofs.lemmas.Bool.{eq-eqb}
use Rattle.gm_rules.proofs.FoundMembers.{IsFoundAs, IsAdoptable, active_is, member_found, syncid_bound}
use Rattle.gm_rules.proofs.AdoptedEqual.{held_below, held_equal, syncid_within, syncid_current}

-- ---- no did is told twice

tells : (x : Seen) (p : List ℕ) (m : Metadata) (did : ℕ) → told (x.last p) ≡ Some m → m.did ≡ did
    → tells_did x did p ≡ true
tells x p m did e d = rw e (eq-eqb m.did did d)

-- if no did is given twice, it determines the provider
one_did : (x : Seen) (ps : List (List ℕ)) → tells_did_twice x ps ≡ false → (p q : List ℕ) → Has ps p
    → Has ps q → (m n : Metadata) → told (x.last p) ≡ Some m → told (x.last q) ≡ Some n
    → m.did ≡ n.did → p ≡ q
one_did x [] e p q h i m n tp tq d = absurd h
one_did x (r ∷ rs) e p q h i m n tp tq d =
    let parts = or_parts (is_there_and (told (x.last r)) (λ m. list_any (tells_did x m.did) rs))
    (tells_did_twice x rs) e in
    let apart : (l : Metadata) (s : List ℕ) (k : Metadata) → told (x.last r) ≡ Some l → Has rs s
    → told (x.last s) ≡ Some k → k.did ≡ l.did → ⊥ = λ l s k tr j ts same.
    (let none : list_any (tells_did x l.did) rs ≡ false = rw tr at parts.0 in
    not_both (tells_did x l.did s) (tells x s k l.did ts same)
    (none_any (tells_did x l.did) rs none s j)) in
    ⊎_elim
    (λ (a : r ≡ p). ⊎_elim (λ (b : r ≡ q). sym a ∙ b)
    (λ (b : Has rs q). absurd (apart m q n (ap (λ (z : List ℕ). told (x.last z)) a ∙ tp) b tq
    (sym d))) i)
    (λ (a : Has rs p).
    ⊎_elim (λ (b : r ≡ q).
    absurd (apart n p m (ap (λ (z : List ℕ). told (x.last z)) b ∙ tq) a tp d))
    (λ (b : Has rs q). one_did x rs parts.1 p q a b m n tp tq d) i)
    h

-- ---- how many

length_some : {X Y : Type 0} (f : X → Option Y) (xs : List X) → length (filter_map f xs) ≤ length xs
length_some f [] = omega arith
length_some {X} {Y} f (x ∷ xs) = by (f x) (length_some f xs)
  where
    by : (o : Option Y) → length (filter_map f xs) ≤ length xs
        → length (cons_option o (filter_map f xs)) ≤ length (x ∷ xs)
    by None l = omega arith
    by (Some y) l = omega arith

-- ---- the components

module _ (x : Seen) (n : List ℕ) (ps : List (List ℕ)) (b : Member)
    (can : IsAdoptable x n ps b) where
  abbrev pub m : Mirror
  m = adopted_mirror n b.metadata

  abbrev as_member : Taken → Member
  as_member t = member (genid_of x ps) (syncid_of x ps) t

  -- one of them: that of a provider as it is taken
  pub record IsAdopted (k : Component) : Type 0 where
    pub at : List ℕ
    pub listed : Has ps at
    pub entry : Taken
    pub taken_is : taken x at ≡ Some entry
    pub name : entry.provider ≡ at
    pub is : k ≡ adopted_component x n b (as_member entry)

  abbrev unordered : List Component
  unordered = map (adopted_component x n b) (found x ps)

  found_component : (k : Component) → Has unordered k → IsAdopted k
  found_component k h =
      let o = Has-map (adopted_component x n b) (found x ps) k h in
      let f = member_found x ps o.0 o.1 in
      record {
        at = f.at;
        listed = f.listed;
        entry = f.entry;
        taken_is = f.taken_is;
        name = (is_taken x f.at f.entry f.taken_is).name;
        is =
            sym o.2 ∙ ap (adopted_component x n b) f.is;
      }

  pub is_adopted : (k : Component) → Has (adopted x n ps b) k → IsAdopted k
  is_adopted k h = ⊎_elim (λ (i : Has unordered k). found_component k i) (λ (i : ⊥). absurd i)
      (put_all_or provider unordered [] k h)

  -- its provider tells it
  same_at : (j k : Component) (a : IsAdopted j) (c : IsAdopted k) → a.at ≡ c.at → j ≡ k
  same_at j k a c e =
      let one : taken x a.at ≡ Some c.entry = ap (taken x) e ∙ c.taken_is in
      let two : taken x a.at ≡ Some a.entry = a.taken_is in
      let same : a.entry ≡ c.entry = cc in
      a.is ∙ ap (λ (t : Taken). adopted_component x n b (as_member t)) same ∙ sym c.is

  pub provider_is : (k : Component) (a : IsAdopted k) → k.provider ≡ a.at
  provider_is k a = ap provider a.is ∙ a.name

  is_there : (k : Component) → Has unordered k → Has (adopted x n ps b) k
  is_there k h =
      put_all_there provider unordered [] k (λ j i e. let a = found_component j i in
      let c = found_component k h in
      same_at j k a c (sym (provider_is j a) ∙ e ∙ provider_is k c)) h

  pub in_order : Ascends provider (adopted x n ps b)
  in_order = Ascends-put_all provider unordered [] tt

  -- it is there with its size
  pub size_is : (k : Component) (a : IsAdopted k) → x.size k.provider ≡ Some k.sectors
  size_is k a =
      let e : x.size k.provider ≡ Some (can.each a.at a.listed).sectors =
      ap x.size (provider_is k a) ∙ (can.each a.at a.listed).size_is in
      let l : k.sectors ≡ unwrap_or (x.size a.entry.provider) 0 =
      ap (λ (j : Component). j.sectors) a.is in
      let q : a.entry.provider ≡ k.provider = sym (ap provider a.is) in
      let s : k.sectors ≡ (can.each a.at a.listed).sectors = l ∙ rw (q, e) refl in
      e ∙ ap Some (sym s)

  pub roomy : (k : Component) (a : IsAdopted k) → m.data_sectors + 1 ≤ k.sectors
  roomy k a =
      let e : x.size k.provider ≡ Some (can.each a.at a.listed).sectors =
      ap x.size (provider_is k a) ∙ (can.each a.at a.listed).size_is in
      let f : x.size k.provider ≡ Some k.sectors = size_is k a in
      let same : (can.each a.at a.listed).sectors ≡ k.sectors = cc in
      let l : data_of b.metadata < (can.each a.at a.listed).sectors =
      (can.each a.at a.listed).room in
      omega (arith, same, l)

  -- what it is said to hold is the source's
  pub equal_held : (k : Component) → IsAdopted k → (i : ℕ) → i < held_by k.disk m.data_sectors
      → x.equal b.provider k.provider (held_by k.disk m.data_sectors) ≡ true
  equal_held k a i l =
      let P : Component → Type 0 = λ j. i < held_by j.disk m.data_sectors
      → x.equal b.provider j.provider (held_by j.disk m.data_sectors) ≡ true in
      subst P (sym a.is) (λ l. held_equal x b (as_member a.entry) (as_member a.entry).state i l) l

  count : length (adopted x n ps b) ≤ length ps
  count =
      let a : length (adopted x n ps b) ≤ length unordered + length {A = Component} [] =
      length-put_all_le provider unordered [] in
      let c : length unordered ≡ length (found x ps) =
      length-map (found x ps) (adopted_component x n b) in
      let d : length (found x ps) ≡ length (all_taken x ps) =
      length-map (all_taken x ps) (member (genid_of x ps) (syncid_of x ps)) in
      let e : length (all_taken x ps) ≤ length ps = length_some (taken x) ps in
      omega (arith, a, c, d, e)

  -- what holds of each as it is taken
  each : (P : Component → Type 0) → ((p : List ℕ) (t : Taken) → Has ps p → taken x p ≡ Some t
      → t.provider ≡ p → P (adopted_component x n b (as_member t))) → (k : Component)
      → Has (adopted x n ps b) k → P k
  each P all k h = let a = is_adopted k h in
      subst P (sym a.is) (all a.at a.entry a.listed a.taken_is a.name)

  source_taken : IsFoundAs x ps b
  source_taken = member_found x ps b can.one

  source_fits : Fits b.metadata
  source_fits = subst (λ (k : Member). Fits k.metadata) (sym source_taken.is)
      (taken_fits x source_taken.at source_taken.entry source_taken.taken_is)

  active_disk : (s : MemberState) → s ≡ Active
      → x.equal b.provider b.provider (data_of b.metadata) ≡ true → adopted_disk x b b s ≡ InSync
  active_disk s e itself = rw e (rw itself refl)

  module _ (label : IsTrue (is_label n)) (labels : IsTrue (list_all is_label ps))
      (itself : x.equal b.provider b.provider (data_of b.metadata) ≡ true)
      (limit : (p : List ℕ) → Has ps p → (k : ℕ) → x.size p ≡ Some k → k ≤ 1048576)
      (once : tells_did_twice x ps ≡ false) where
    dids : (j k : Component) → Has (adopted x n ps b) j → Has (adopted x n ps b) k → j.did ≡ k.did
        → j ≡ k
    dids j k h i d =
        let a = is_adopted j h in
        let c = is_adopted k i in
        let e : a.entry.metadata.did ≡ c.entry.metadata.did =
        sym (ap (λ (l : Component). l.did) a.is) ∙ d ∙ ap (λ (l : Component). l.did) c.is in
        same_at j k a c (one_did x ps once a.at c.at a.listed c.listed a.entry.metadata
        c.entry.metadata (taken_told x a.at a.entry a.taken_is)
        (taken_told x c.at c.entry c.taken_is) e)

    pub adopted_rules : IsMirror m (adopted x n ps b)
    adopted_rules = record {
      fits = record {
        name = label;
        mid = source_fits.mid;
        genid = source_fits.genid;
        syncid = source_fits.syncid;
        slice = source_fits.slice;
      };
      members_fit = each ComponentFits (λ p t h e s. record {
        provider = subst (λ (l : List ℕ). IsTrue (is_label l)) (sym s)
            (all_has is_label ps labels p h);
        did = (taken_fits x p t e).did;
        priority = (taken_fits x p t e).priority;
      });
      some = can.some;
      all = can.all;
      room = (let a : length (adopted x n ps b) ≤ length ps = count in
          let c : length ps ≤ b.metadata.all = can.room in omega (arith, a, c));
      active = (
        adopted_component x n b b,
        is_there (adopted_component x n b b)
            (map-Has (adopted_component x n b) (found x ps) b can.one),
        active_disk b.state (active_is b.state can.active) itself,
      );
      sizes = λ k h. roomy k (is_adopted k h);
      limits = λ k h. let a = is_adopted k h in
          limit a.at a.listed k.sectors (ap x.size (sym (provider_is k a)) ∙ size_is k a);
      held = each (λ k. held_of k.disk < data_of b.metadata)
          (λ p t h e s. held_below x b (as_member t) (as_member t).state can.even can.some);
      dids = λ j h k i d. dids j k h i d;
      syncids = each (λ k. k.syncid ≤ b.metadata.syncid)
          (λ p t h e s. syncid_within x b (as_member t) (as_member t).state
          (syncid_bound x n ps b can p h t e));
      current = each (λ k. k.disk ≢ Inactive → k.syncid ≡ b.metadata.syncid)
          (λ p t h e s d. syncid_current x b (as_member t) (as_member t).state d);
    }
