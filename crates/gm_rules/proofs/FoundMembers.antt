-- What adoptable providers are found to be: each is taken as a member of the mirror, and one is the
-- source of its data.
use Rattle.gm_rules.proofs.Common.{◌≡◌, ◌∙◌, ◌⊎◌, inl, inr, ⊎_elim, ℕ, ◌<◌, ◌≤◌, ◌==◌, ◌%◌, ◌&&◌, true, false, not, nat_lt, nat_le, refl, sym, ap, subst, arith, List, [], ◌∷◌, length, Option, Some, None, eqb-true, eq-eqb, ltb-true, ltb-false, list_all, cases_Bool, and_parts, leb-true, same_label, Metadata, Taken, Member, MemberState, Active, member, goes_before, takes_place, first_of_two, first_from, behind, state_of, Has-map, Has-filter_map, filter_map-Has, Has, same_is, all_has, Seen, taken, all_taken, genid_of, syncid_of, found, source_in, data_of, is_whole, is_like, has_room, has_twice, is_adoptable, passes_there, where_is}
use Rattle.gm_taste.specs.States.{is_active}
use Rattle.gm_taste.proofs.GroupNumbers.{bound, greatest}

-- the provider is taken, tells of the mirror n as m does, and has room for its data
pub record IsAlike (x : Seen) (n : List ℕ) (m : Metadata) (p : List ℕ) : Type 0 where
  pub entry : Taken
  pub taken_is : taken x p ≡ Some entry
  pub name : entry.metadata.name ≡ n
  pub mid : entry.metadata.mid ≡ m.mid
  pub genid : entry.metadata.genid ≡ m.genid
  pub mediasize : entry.metadata.mediasize ≡ m.mediasize
  pub sectors : ℕ
  pub size_is : x.size p ≡ Some sectors
  pub room : data_of m < sectors

alike : (x : Seen) (n : List ℕ) (m : Metadata) (p : List ℕ)
    → (is_like x n m p && has_room x m p) ≡ true → IsAlike x n m p
alike x n m p e =
    let both = and_parts (is_like x n m p) (has_room x m p) e in
    let t = passes_there (taken x p) (λ t. same_label t.metadata.name n &&
    (t.metadata.mid == m.mid && (t.metadata.genid == m.genid && t.metadata.mediasize
    == m.mediasize))) both.0 in
    let k = passes_there (x.size p) (λ k. nat_lt (data_of m) k) both.1 in
    let a = and_parts (same_label t.0.metadata.name n) _ t.2 in
    let b = and_parts (t.0.metadata.mid == m.mid) _ a.1 in
    let c = and_parts (t.0.metadata.genid == m.genid) (t.0.metadata.mediasize == m.mediasize) b.1 in
    record {
      entry = t.0;
      taken_is = t.1;
      name = same_is t.0.metadata.name n a.0;
      mid = eqb-true t.0.metadata.mid m.mid b.0;
      genid = eqb-true t.0.metadata.genid m.genid c.0;
      mediasize = eqb-true t.0.metadata.mediasize m.mediasize c.1;
      sectors = k.0;
      size_is = k.1;
      room = ltb-true (data_of m) k.0 k.2;
    }

-- ---- the first of the ACTIVE members is one of them

place_active : (known : Option Member) (x : Member) → takes_place known x ≡ true
    → is_active x.state ≡ true
place_active None x e = e
place_active (Some known) x e = (and_parts (is_active x.state) (goes_before x known) e).0

first_is : (known : Option Member) (xs : List Member) (b : Member) → first_from known xs ≡ Some b
    → (known ≡ Some b) ⊎ (Has xs b × (is_active b.state ≡ true))
first_is known [] b e = inl e
first_is known (x ∷ xs) b e =
    ⊎_elim
    (λ (f : first_of_two known x ≡ Some b). elim (cases_Bool (takes_place known x)) [
      | inl on ↦ (let g : Some x ≡ Some b = rw on at f in let same : x ≡ b = cc in
          inr (
            inl same,
            subst (λ (y : Member). is_active y.state ≡ true) same
                (place_active known x on),
          ))
      | inr off ↦ (let g : known ≡ Some b = rw off at f in inl g)
    ])
    (λ (h : Has xs b × (is_active b.state ≡ true)). inr (inr h.0, h.1))
    (first_is (first_of_two known x) xs b e)

-- what ACTIVE says of the metadata
not_behind : (m : Metadata) (offset : ℕ) → is_active (behind m offset) ≡ false
not_behind m offset =
    elim (cases_Bool (m.mflags.no_autosync && not m.dflags.force_sync)) [
      | inl e ↦ rw e refl
      | inr e
          ↦ rw e refl
    ]

active_syncid : (genid syncid : ℕ) (m : Metadata) → is_active (state_of genid syncid m) ≡ true
    → syncid ≤ m.syncid
active_syncid genid syncid m e = elim (cases_Bool m.dflags.inactive) [
  | inl a ↦ (let f : false ≡ true = rw a at e in absurd (let h : ⊥ = cc in h))
  | inr a ↦ elim (cases_Bool (nat_lt m.genid genid)) [
    | inl b ↦ (let f : false ≡ true = rw (a, b) at e in absurd (let h : ⊥ = cc in h))
    | inr b ↦ elim (cases_Bool (nat_lt m.syncid syncid)) [
      | inl c ↦ (let f : is_active (behind m 0) ≡ true = rw (a, b, c) at e in
          let g : false ≡ true = sym (not_behind m 0) ∙ f in absurd (let h : ⊥ = cc in h))
      | inr c ↦ ltb-false m.syncid syncid c
    ]
  ]
]

pub active_is : (s : MemberState) → is_active s ≡ true → s ≡ Active
active_is Active e = refl
active_is _ e = cc

-- ---- the members

-- it is what one of the providers is taken to be
pub record IsFoundAs (x : Seen) (ps : List (List ℕ)) (k : Member) : Type 0 where
  pub at : List ℕ
  pub listed : Has ps at
  pub entry : Taken
  pub taken_is : taken x at ≡ Some entry
  pub is : k ≡ member (genid_of x ps) (syncid_of x ps) entry

pub member_found : (x : Seen) (ps : List (List ℕ)) (k : Member) → Has (found x ps) k
    → IsFoundAs x ps k
member_found x ps k h =
    let t = Has-map (member (genid_of x ps) (syncid_of x ps)) (all_taken x ps) k h in
    let p = Has-filter_map (taken x) ps t.0 t.1 in
    record { at = p.0; listed = p.1; entry = t.0; taken_is = p.2; is = sym t.2 }

-- The providers can be adopted as the mirror n, from the source b.
pub record IsAdoptable (x : Seen) (n : List ℕ) (ps : List (List ℕ)) (b : Member) : Type 0 where
  pub source : source_in x ps ≡ Some b
  pub even : b.metadata.mediasize % 512 ≡ 0
  pub some : 0 < data_of b.metadata
  pub room : length ps ≤ b.metadata.all
  pub all : b.metadata.all ≤ 16
  pub each : (p : List ℕ) → Has ps p → IsAlike x n b.metadata p
  pub one : Has (found x ps) b
  pub active : is_active b.state ≡ true

pub adoptable : (x : Seen) (n : List ℕ) (ps : List (List ℕ)) → is_adoptable x n ps ≡ true
    → (b : Member) × IsAdoptable x n ps b
adoptable x n ps e =
    let both = and_parts (not (has_twice ps)) _ e in
    let b = passes_there (source_in x ps)
    (λ b. is_whole b.metadata (length ps) && list_all
    (λ p. is_like x n b.metadata p && has_room x b.metadata p) ps) both.1 in
    let m : Metadata = b.0.metadata in
    let parts = and_parts (is_whole m (length ps))
    (list_all (λ p. is_like x n m p && has_room x m p) ps) b.2 in
    let whole = and_parts (m.mediasize % 512 == 0 && nat_lt 0 (data_of m))
    (nat_le (length ps) m.all && nat_le m.all 16) parts.0 in
    let size = and_parts (m.mediasize % 512 == 0) (nat_lt 0 (data_of m)) whole.0 in
    let count = and_parts (nat_le (length ps) m.all) (nat_le m.all 16) whole.1 in
    let first : first_from None (found x ps) ≡ Some b.0 =
    where_is x ps (first_from None (found x ps)) b.0 b.1 in
    let is : Has (found x ps) b.0 × (is_active b.0.state ≡ true) =
    ⊎_elim (λ (none : None ≡ Some b.0). absurd (let h : ⊥ = cc in
    h)) (λ (h : Has (found x ps) b.0 × (is_active b.0.state ≡ true)). h)
    (first_is None (found x ps) b.0 first) in (
      b.0,
      record {
        source = b.1;
        even = eqb-true (m.mediasize % 512) 0 size.0;
        some = ltb-true 0 (data_of m) size.1;
        room = leb-true (length ps) m.all count.0;
        all = leb-true m.all 16 count.1;
        each = λ p h. alike x n m p
            (all_has (λ p. is_like x n m p && has_room x m p) ps parts.1 p h);
        one = is.0;
        active = is.1;
      },
    )

module _ (x : Seen) (n : List ℕ) (ps : List (List ℕ)) (b : Member)
    (can : IsAdoptable x n ps b) where
  -- one that is taken is as it was found alike
  pub as_alike : (p : List ℕ) → (h : Has ps p) → (t : Taken) → taken x p ≡ Some t
      → (can.each p h).entry ≡ t
  as_alike p h t e = let f : taken x p ≡ Some (can.each p h).entry = (can.each p h).taken_is in cc

  the_source : IsFoundAs x ps b
  the_source = member_found x ps b can.one

  -- all have the genid of the source
  the_genid : (t : Taken) → Has (all_taken x ps) t → t.metadata.genid ≡ b.metadata.genid
  the_genid t h =
      let p = Has-filter_map (taken x) ps t h in
      ap (λ (s : Taken). s.metadata.genid) (sym (as_alike p.0 p.1 t p.2)) ∙ (can.each p.0 p.1).genid

  is_genid : genid_of x ps ≡ b.metadata.genid
  is_genid =
      let o = the_source in
      let g = greatest (λ t. true) (λ t. t.metadata.genid) (all_taken x ps) o.entry
      (filter_map-Has (taken x) ps o.at o.entry o.listed o.taken_is) refl in
      sym g.3 ∙ the_genid g.0 g.1

  -- none has a greater syncid
  pub syncid_bound : (p : List ℕ) → Has ps p → (t : Taken) → taken x p ≡ Some t
      → t.metadata.syncid ≤ b.metadata.syncid
  syncid_bound p h t e =
      let o = the_source in
      let among = filter_map-Has (taken x) ps p t h e in
      let of_group : (t.metadata.genid == genid_of x ps) ≡ true =
      eq-eqb t.metadata.genid (genid_of x ps) (the_genid t among ∙ sym is_genid) in
      let below : t.metadata.syncid ≤ syncid_of x ps =
      bound (λ t. t.metadata.genid == genid_of x ps) (λ t. t.metadata.syncid) 0
      (all_taken x ps) t among of_group in
      let active : is_active (state_of (genid_of x ps) (syncid_of x ps) o.entry.metadata) ≡ true =
      subst (λ (k : Member). is_active k.state ≡ true) o.is can.active in
      let least : syncid_of x ps ≤ o.entry.metadata.syncid =
      active_syncid (genid_of x ps) (syncid_of x ps) o.entry.metadata active in
      let same : o.entry.metadata.syncid ≡ b.metadata.syncid =
      ap (λ (k : Member). k.metadata.syncid) (sym o.is) in
      omega (arith, below, least, same)
