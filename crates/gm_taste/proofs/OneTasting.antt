-- Of the same providers the same is told.
use Rattle.gm_taste.proofs.Common.{◌≡◌, ◌∙◌, inl, inr, ⊎_elim, ℕ, ◌≤◌, Bool, true, refl, sym, ap, ap₂, subst, arith, List, [], ◌∷◌, map, Metadata, Provider, LeftOut, Member, Group, Tasted, label_lt, Has, AscendsBy, state_of, IsMember, IsGroup, IsTasted, SaysOf, SameProviders, Seen, seen, key_lt, lt_trans, lt_irrefl, Has-map, map-Has, AscendsBy-map}
use Rattle.gm_taste.proofs.Keys.{key_lt_trans, key_lt_irrefl}
use Rattle.gm_taste.proofs.Outcome.{group_from}

-- ---- two lists in order with the same elements are one

module _ {X : Type 0} (lt : X → X → Bool) (irrefl : (x : X) → lt x x ≡ true → ⊥)
    (trans : (x y z : X) → lt x y ≡ true → lt y z ≡ true → lt x z ≡ true) where
  differs : (x z : X) → lt x z ≡ true → x ≡ z → ⊥
  differs x z l e = irrefl z (subst (λ (w : X). lt w z ≡ true) e l)

  same_lists : (xs ys : List X) → AscendsBy lt xs → AscendsBy lt ys
      → ((x : X) → Has xs x → Has ys x) → ((x : X) → Has ys x → Has xs x) → xs ≡ ys
  same_lists [] [] a b f g = refl
  same_lists [] (y ∷ ys) a b f g = absurd (g y (inl refl))
  same_lists (x ∷ xs) [] a b f g = absurd (f x (inl refl))
  same_lists (x ∷ xs) (y ∷ ys) a b f g =
      let heads : x ≡ y =
      ⊎_elim (λ (s : x ≡ y). s) (λ (h : Has xs y). ⊎_elim (λ (s : y ≡ x). sym s)
      (λ (k : Has ys x). absurd (irrefl x (trans x y x (a.0 y h) (b.0 x k)))) (f x (inl refl)))
      (g y (inl refl)) in
      let there : (z : X) → Has xs z → Has ys z =
      λ z h. ⊎_elim (λ (s : y ≡ z). absurd (differs x z (a.0 z h) (heads ∙ s)))
      (λ (k : Has ys z). k) (f z (inr h)) in
      let back : (z : X) → Has ys z → Has xs z =
      λ z h. ⊎_elim (λ (s : x ≡ z). absurd (differs y z (b.0 z h) (sym heads ∙ s)))
      (λ (k : Has xs z). k) (g z (inr h)) in
      let tails : xs ≡ ys = same_lists xs ys a.1 b.1 there back in
      cc

-- ---- two groups of one name and mid

module _ (ps : List Provider) where
  -- what a member says, a member of the other group says
  twin : (g h : Group) → IsGroup ps g → IsGroup ps h → g.name ≡ h.name → g.mid ≡ h.mid
      → (x : Member) → Has g.members.items x → (y : Member) × Has h.members.items y
      × (x.metadata ≡ y.metadata)
  twin g h i j n m x k =
      let a : IsMember ps g x = (i.members_are x).0 k in
      let y : Member = record {
        provider = x.provider;
        metadata = x.metadata;
        state = state_of h.genid h.syncid x.metadata;
      } in (
        y,
        (j.members_are y).1 (record {
          says = a.says;
          name_is = a.name_is ∙ n;
          mid_is = a.mid_is ∙ m;
          state_is = refl;
        }),
        refl,
      )

  genid_le : (g h : Group) → IsGroup ps g → IsGroup ps h → g.name ≡ h.name → g.mid ≡ h.mid
      → g.genid ≤ h.genid
  genid_le g h i j n m =
      let r = i.genid_is.reached in
      let w = twin g h i j n m r.0 r.1 in
      subst (λ (k : ℕ). k ≤ h.genid) (sym (ap (λ (d : Metadata). d.genid) w.2) ∙ r.3)
      (j.genid_is.bound w.0 w.1 tt)

  equal : (a b : ℕ) → a ≤ b → b ≤ a → a ≡ b
  equal a b l m = omega arith

  same_genid : (g h : Group) → IsGroup ps g → IsGroup ps h → g.name ≡ h.name → g.mid ≡ h.mid
      → g.genid ≡ h.genid
  same_genid g h i j n m =
      equal g.genid h.genid (genid_le g h i j n m) (genid_le h g j i (sym n) (sym m))

  syncid_le : (g h : Group) → IsGroup ps g → IsGroup ps h → g.name ≡ h.name → g.mid ≡ h.mid
      → g.syncid ≤ h.syncid
  syncid_le g h i j n m =
      let r = i.syncid_is.reached in
      let w = twin g h i j n m r.0 r.1 in
      let e : w.0.metadata.genid ≡ h.genid = sym (ap (λ (d : Metadata). d.genid) w.2)
      ∙ (r.2 ∙ same_genid g h i j n m) in
      subst (λ (k : ℕ). k ≤ h.syncid) (sym (ap (λ (d : Metadata). d.syncid) w.2) ∙ r.3)
      (j.syncid_is.bound w.0 w.1 e)

  same_syncid : (g h : Group) → IsGroup ps g → IsGroup ps h → g.name ≡ h.name → g.mid ≡ h.mid
      → g.syncid ≡ h.syncid
  same_syncid g h i j n m =
      equal g.syncid h.syncid (syncid_le g h i j n m) (syncid_le h g j i (sym n) (sym m))

  moves : (g h : Group) → IsGroup ps g → IsGroup ps h → g.name ≡ h.name → g.mid ≡ h.mid
      → (x : Member) → Has g.members.items x → Has h.members.items x
  moves g h i j n m x k =
      let a : IsMember ps g x = (i.members_are x).0 k in
      let s : x.state ≡ state_of h.genid h.syncid x.metadata =
      a.state_is ∙ ap₂ (λ (p q : ℕ). state_of p q x.metadata) (same_genid g h i j n m)
      (same_syncid g h i j n m) in
      (j.members_are x).1 (record {
        says = a.says;
        name_is = a.name_is ∙ n;
        mid_is = a.mid_is ∙ m;
        state_is = s;
      })

  same_members : (g h : Group) → IsGroup ps g → IsGroup ps h → g.name ≡ h.name → g.mid ≡ h.mid
      → g.members.items ≡ h.members.items
  same_members g h i j n m =
      same_lists (λ (x y : Member). label_lt x.provider y.provider) (λ x. lt_irrefl x.provider)
      (λ x y z. lt_trans x.provider y.provider z.provider)
      g.members.items h.members.items i.members_ascend j.members_ascend (moves g h i j n m)
      (moves h g j i (sym n) (sym m))

  same_seen : (g h : Group) → IsGroup ps g → IsGroup ps h → g.name ≡ h.name → g.mid ≡ h.mid
      → seen g ≡ seen h
  same_seen g h i j n m =
      let a : g.genid ≡ h.genid = same_genid g h i j n m in
      let b : g.syncid ≡ h.syncid = same_syncid g h i j n m in
      let c : g.members.items ≡ h.members.items = same_members g h i j n m in
      ap₂ (λ (w : List ℕ) (k : ℕ). let r : Seen = record {
        name = w;
        mid = k;
        genid = g.genid;
        syncid = g.syncid;
        members = g.members.items;
      } in r) n m
      ∙ (ap₂ (λ (w k : ℕ). let r : Seen = record {
        name = h.name;
        mid = h.mid;
        genid = w;
        syncid = k;
        members = g.members.items;
      } in r) a b
      ∙ ap (λ (w : List Member). let r : Seen = record {
        name = h.name;
        mid = h.mid;
        genid = h.genid;
        syncid = h.syncid;
        members = w;
      } in r) c)

-- ---- all that is told

-- a group is seen among those in which one of its name and mid stands
meets : (ps qs : List Provider) (same : SameProviders ps qs) (us : List Group) (g h : Group)
    (x : Member) → IsGroup ps g → IsMember ps g x → Has us h → IsGroup qs h
    → h.name ≡ x.metadata.name → h.mid ≡ x.metadata.mid → Has (map seen us) (seen g)
meets ps qs same us g h x i m k j n o =
    let e : seen h ≡ seen g =
    sym (same_seen ps g h i (group_from ps qs (λ p. (same p).0) (λ p. (same p).1) h j)
    (sym m.name_is ∙ sym n) (sym m.mid_is ∙ sym o)) in
    subst (λ (w : Seen). Has (map seen us) w) e (map-Has seen us h k)

one_there : (ps qs : List Provider) (u : Tasted) (same : SameProviders ps qs) → IsTasted qs u
    → (g : Group) (x : Member) → IsGroup ps g → IsMember ps g x
    → Has (map seen u.groups.items) (seen g)
one_there ps qs u same b g x i m =
    let says : SaysOf qs x.provider x.metadata =
    (m.says.0, (same m.says.0).0 m.says.1, m.says.2, m.says.3) in
    let h = b.all_in_groups x.provider x.metadata says in
    meets ps qs same u.groups.items g h.0 x i m h.1 (b.groups_are h.0 h.1) h.2 h.3

there : (ps qs : List Provider) (t u : Tasted) → SameProviders ps qs → IsTasted ps t → IsTasted qs u
    → (s : Seen) → Has (map seen t.groups.items) s → Has (map seen u.groups.items) s
there ps qs t u same a b s k =
    let r = Has-map seen t.groups.items s k in
    go r.0 r.2 (a.groups_are r.0 r.1)
  where
    go : (g : Group) → seen g ≡ s → IsGroup ps g → Has (map seen u.groups.items) s
    go g e i =
        let x = i.genid_is.reached in
        subst (λ (w : Seen). Has (map seen u.groups.items) w) e
        (one_there ps qs u same b g x.0 i ((i.members_are x.0).0 x.1))

turned : (ps qs : List Provider) → SameProviders ps qs → SameProviders qs ps
turned ps qs same p = ((same p).1, (same p).0)

abbrev seen_lt : Seen → Seen → Bool
seen_lt s r = key_lt (record { name = s.name; mid = s.mid }) (record { name = r.name; mid = r.mid })

pub same_groups : (ps qs : List Provider) (t u : Tasted) → SameProviders ps qs → IsTasted ps t
    → IsTasted qs u → map seen t.groups.items ≡ map seen u.groups.items
same_groups ps qs t u same a b =
    same_lists seen_lt (λ s. key_lt_irrefl (record { name = s.name; mid = s.mid }))
    (λ s r q. key_lt_trans (record { name = s.name; mid = s.mid })
    (record { name = r.name; mid = r.mid }) (record { name = q.name; mid = q.mid }))
    (map seen t.groups.items) (map seen u.groups.items)
    (AscendsBy-map seen seen_lt t.groups.items a.groups_ascend)
    (AscendsBy-map seen seen_lt u.groups.items b.groups_ascend)
    (there ps qs t u same a b) (there qs ps u t (turned ps qs same) b a)

left_there : (ps qs : List Provider) (t u : Tasted) → SameProviders ps qs → IsTasted ps t
    → IsTasted qs u → (x : LeftOut) → Has t.left.items x → Has u.left.items x
left_there ps qs t u same a b x k = let s = (a.left_are x).0 k in
    (b.left_are x).1 (s.0, (same s.0).0 s.1, s.2, s.3)

pub same_left : (ps qs : List Provider) (t u : Tasted) → SameProviders ps qs → IsTasted ps t
    → IsTasted qs u → t.left.items ≡ u.left.items
same_left ps qs t u same a b =
    same_lists (λ (x y : LeftOut). label_lt x.provider y.provider) (λ x. lt_irrefl x.provider)
    (λ x y z. lt_trans x.provider y.provider z.provider)
    t.left.items u.left.items a.left_ascend b.left_ascend (left_there ps qs t u same a b)
    (left_there qs ps u t (turned ps qs same) b a)
