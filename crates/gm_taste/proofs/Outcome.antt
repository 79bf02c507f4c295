-- What is made of the providers in order is what the definition says of them.
use Rattle.gm_taste.proofs.Common.{◌≡◌, ◌∙◌, ℕ, true, ◌==◌, refl, sym, ap, ap₂, subst, arith, List, filter, map, Some, Result, Ok, Err, filter_map, IsPermutation, slice_cmp, IsPermutation-sym, nat_tests, Metadata, Provider, Reason, LeftOut, Member, Group, Tasted, Key, Taken, label_lt, Has, AscendsBy, Ascends, verdict, state_of, DistinctNames, SaysOf, IsLeftOut, IsMember, IsGreatest, IsGroup, IsTasted, taken_as, taken_by, left_as, left_by, key_of, is_of, member, Made, Grouped, Has-filter, filter-Has, AscendsBy-filter, Has-map, map-Has, AscendsBy-map, Has-filter_map, filter_map-Has, AscendsBy-filter_map, Has-permutation, sorted_ascends}
use Rattle.std.specs.List.Sorted.{IsSortedByKey}
use Rattle.std.specs.Ordering.{nat_cmp}
use Rattle.gm_taste.proofs.Keys.{is_of_tells, is_of_from}
use Rattle.gm_taste.proofs.GroupNumbers.{bound, greatest}

-- ---- one provider

taken_as_is : (name : List ℕ) (r : Result Metadata Reason) (t : Taken) → taken_as name r ≡ Some t
    → (name ≡ t.provider) × (r ≡ Ok t.metadata)
taken_as_is name (Ok m) t e =
    let u : Taken = record { provider = name; metadata = m } in
    let s : u ≡ t = cc in (
      ap (λ (x : Taken). x.provider) s,
      ap (λ (x : Taken). let r : Result Metadata Reason = Ok x.metadata in r) s,
    )
taken_as_is name (Err reason) t e = cc

left_as_is : (name : List ℕ) (r : Result Metadata Reason) (x : LeftOut) → left_as name r ≡ Some x
    → (name ≡ x.provider) × (r ≡ Err x.reason)
left_as_is name (Ok m) x e = cc
left_as_is name (Err reason) x e =
    let u : LeftOut = record { provider = name; reason = reason } in
    let s : u ≡ x = cc in (
      ap (λ (y : LeftOut). y.provider) s,
      ap (λ (y : LeftOut). let r : Result Metadata Reason = Err y.reason in r) s,
    )

-- ---- the taken, and those that are left out

module _ (ps : List Provider) where
  abbrev pub taken : List Taken
  taken = filter_map taken_by ps

  pub taken_says : (t : Taken) → Has taken t → SaysOf ps t.provider t.metadata
  taken_says t h =
      let r = Has-filter_map taken_by ps t h in
      let e = taken_as_is r.0.name (verdict r.0) t r.2 in
      (r.0, r.1, e.0, e.1)

  pub says_taken : (name : List ℕ) (m : Metadata) → SaysOf ps name m
      → Has taken (record { provider = name; metadata = m })
  says_taken name m s =
      let e : taken_by s.0 ≡ taken_as name (Ok m) = ap₂ taken_as s.2 s.3 in
      filter_map-Has taken_by ps s.0 (record { provider = name; metadata = m }) s.1 e

  pub left_are : (x : LeftOut) → (Has (filter_map left_by ps) x → IsLeftOut ps x)
      × (IsLeftOut ps x → Has (filter_map left_by ps) x)
  left_are x = (
    λ h. (let r = Has-filter_map left_by ps x h in
        let e = left_as_is r.0.name (verdict r.0) x r.2 in (r.0, r.1, e.0, e.1)),
    λ s. (let e : left_by s.0 ≡ left_as x.provider (Err x.reason) = ap₂ left_as s.2 s.3 in
        filter_map-Has left_by ps s.0 x s.1 e),
  )

  pub taken_ascend : Ascends (λ (p : Provider). p.name) ps
      → AscendsBy (λ (a b : Taken). label_lt a.provider b.provider) taken
  taken_ascend a = AscendsBy-filter_map taken_by (λ p. p.name) (λ t. t.provider)
      (λ p t e. (taken_as_is p.name (verdict p) t e).0) ps a

  pub left_ascend : Ascends (λ (p : Provider). p.name) ps
      → AscendsBy (λ (a b : LeftOut). label_lt a.provider b.provider) (filter_map left_by ps)
  left_ascend a = AscendsBy-filter_map left_by (λ p. p.name) (λ x. x.provider)
      (λ p x e. (left_as_is p.name (verdict p) x e).0) ps a

-- ---- one group

member_is : (genid syncid : ℕ) (t : Taken) (x : Member) → member genid syncid t ≡ x
    → (t.provider ≡ x.provider) × (t.metadata ≡ x.metadata)
    × (state_of genid syncid x.metadata ≡ x.state)
member_is genid syncid t x e = (
  ap (λ (y : Member). y.provider) e,
  ap (λ (y : Member). y.metadata) e,
  ap (state_of genid syncid) (sym (ap (λ (y : Member). y.metadata) e))
      ∙ ap (λ (y : Member). y.state) e,
)

equal_tells : (a b : ℕ) → (a == b) ≡ true → a ≡ b
equal_tells a b h = grind (arith, nat_tests)

equal_holds : (a b : ℕ) → a ≡ b → (a == b) ≡ true
equal_holds a b h = grind (arith, nat_tests)

module _ (ps : List Provider) (g : Group)
    (made : Made (filter (is_of (key_of g)) (taken ps)) g) where
  abbrev own : List Taken
  own = filter (is_of (key_of g)) (taken ps)

  abbrev as_member : Taken → Member
  as_member t = member g.genid g.syncid t

  to_members : (x : Member) → Has (map as_member own) x → Has g.members.items x
  to_members x h = subst (λ (xs : List Member). Has xs x) (sym made.members_are) h

  from_members : (x : Member) → Has g.members.items x → (t : Taken) × Has own t × (as_member t ≡ x)
  from_members x h =
      Has-map as_member own x (subst (λ (xs : List Member). Has xs x) made.members_are h)

  is_member : (x : Member) → Has g.members.items x → IsMember ps g x
  is_member x h =
      let r = from_members x h in
      let f = Has-filter (is_of (key_of g)) (taken ps) r.0 r.1 in
      let k = is_of_tells (key_of g) r.0 f.1 in
      let e = member_is g.genid g.syncid r.0 x r.2 in
      let s : SaysOf ps r.0.provider r.0.metadata = taken_says ps r.0 f.0 in
      record {
        says = (
          s.0,
          s.1,
          s.2 ∙ e.0,
          s.3 ∙ ap (λ (m : Metadata). let r : Result Metadata Reason = Ok m in r) e.1,
        );
        name_is = sym (ap (λ (m : Metadata). m.name) e.1) ∙ k.0;
        mid_is = sym (ap (λ (m : Metadata). m.mid) e.1) ∙ k.1;
        state_is = sym e.2;
      }

  has_member : (x : Member) → IsMember ps g x → Has g.members.items x
  has_member x i =
      let t : Taken = record { provider = x.provider; metadata = x.metadata } in
      let h : Has own t = filter-Has (is_of (key_of g)) (taken ps) t
      (says_taken ps x.provider x.metadata i.says)
      (is_of_from (key_of g) t i.name_is i.mid_is) in
      let e : as_member t ≡ x =
      ap (λ (s : _). let y : Member = record {
        provider = x.provider;
        metadata = x.metadata;
        state = s;
      } in y) (sym i.state_is) in
      to_members x (subst (λ (y : Member). Has (map as_member own) y) e (map-Has as_member own t h))

  members_ascend : Ascends (λ (p : Provider). p.name) ps
      → AscendsBy (λ x y. label_lt x.provider y.provider) g.members.items
  members_ascend a =
      subst (λ (xs : List Member). AscendsBy (λ x y. label_lt x.provider y.provider) xs)
      (sym made.members_are)
      (AscendsBy-map as_member (λ x y. label_lt x.provider y.provider) own
      (AscendsBy-filter (is_of (key_of g)) (λ a b. label_lt a.provider b.provider) (taken ps)
      (taken_ascend ps a)))

  genid_greatest : (t : Taken) → Has own t
      → IsGreatest g.members.items (λ x. Unit {0}) (λ x. x.metadata.genid) g.genid
  genid_greatest t h =
      let r = greatest (λ u. true) (λ u. u.metadata.genid) own t h refl in
      record {
        reached = (
          as_member r.0,
          to_members (as_member r.0) (map-Has as_member own r.0 r.1),
          tt,
          r.3 ∙ sym made.genid_is,
        );
        bound = λ x i _. (let u = from_members x i in
            let b = bound (λ v. true) (λ v. v.metadata.genid) 0 own u.0 u.1 refl in
            let e = (member_is g.genid g.syncid u.0 x u.2).1 in
            rw (ap (λ (m : Metadata). m.genid) e, ← made.genid_is) at b);
      }

  syncid_greatest : (t : Taken) → Has own t → t.metadata.genid ≡ g.genid
      → IsGreatest g.members.items (λ x. x.metadata.genid ≡ g.genid)
      (λ x. x.metadata.syncid) g.syncid
  syncid_greatest t h e =
      let r = greatest (λ u. u.metadata.genid == g.genid) (λ u. u.metadata.syncid) own t h
      (equal_holds t.metadata.genid g.genid e) in
      record {
        reached = (
          as_member r.0,
          to_members (as_member r.0) (map-Has as_member own r.0 r.1),
          equal_tells r.0.metadata.genid g.genid r.2,
          r.3 ∙ sym made.syncid_is,
        );
        bound = λ x i k. (let u = from_members x i in
            let f = (member_is g.genid g.syncid u.0 x u.2).1 in
            let q : u.0.metadata.genid ≡ g.genid = ap (λ (m : Metadata). m.genid) f ∙ k in
            let b = bound (λ v. v.metadata.genid == g.genid) (λ v. v.metadata.syncid) 0 own u.0 u.1
            (equal_holds u.0.metadata.genid g.genid q) in
            rw (ap (λ (m : Metadata). m.syncid) f, ← made.syncid_is) at b);
      }

  -- a group that has one is a group
  pub is_group : Ascends (λ (p : Provider). p.name) ps → (t : Taken) → Has own t → IsGroup ps g
  is_group a t h =
      let r = greatest (λ u. true) (λ u. u.metadata.genid) own t h refl in
      record {
        members_are = λ x. (is_member x, has_member x);
        members_ascend = members_ascend a;
        genid_is = genid_greatest t h;
        syncid_is = syncid_greatest r.0 r.1 (r.3 ∙ sym made.genid_is);
      }

-- ---- providers in another order

module _ (ps os : List Provider) (to : (p : Provider) → Has ps p → Has os p)
    (from : (p : Provider) → Has os p → Has ps p) where
  says_from : (name : List ℕ) (m : Metadata) → SaysOf os name m → SaysOf ps name m
  says_from name m s = (s.0, from s.0 s.1, s.2, s.3)

  says_to : (name : List ℕ) (m : Metadata) → SaysOf ps name m → SaysOf os name m
  says_to name m s = (s.0, to s.0 s.1, s.2, s.3)

  member_from : (g : Group) (x : Member) → IsMember os g x → IsMember ps g x
  member_from g x i = record {
    says = says_from x.provider x.metadata i.says;
    name_is = i.name_is;
    mid_is = i.mid_is;
    state_is = i.state_is;
  }

  member_to : (g : Group) (x : Member) → IsMember ps g x → IsMember os g x
  member_to g x i = record {
    says = says_to x.provider x.metadata i.says;
    name_is = i.name_is;
    mid_is = i.mid_is;
    state_is = i.state_is;
  }

  pub group_from : (g : Group) → IsGroup os g → IsGroup ps g
  group_from g i = record {
    members_are = λ x. (
      λ h. member_from g x ((i.members_are x).0 h),
      λ m. (i.members_are x).1 (member_to g x m),
    );
    members_ascend = i.members_ascend;
    genid_is = i.genid_is;
    syncid_is = i.syncid_is;
  }

  left_from : (x : LeftOut) → (Has (filter_map left_by os) x → IsLeftOut ps x)
      × (IsLeftOut ps x → Has (filter_map left_by os) x)
  left_from x = (
    λ h. (let s = (left_are os x).0 h in (s.0, from s.0 s.1, s.2, s.3)),
    λ s. (left_are os x).1 (s.0, to s.0 s.1, s.2, s.3),
  )

-- ---- all of them

module _ (ps os : List Provider) (t : Tasted) (ordered : Ascends (λ (p : Provider). p.name) os)
    (to : (p : Provider) → Has ps p → Has os p) (from : (p : Provider) → Has os p → Has ps p)
    (grouped : Grouped (taken os) t.groups.items) where
  groups_are : (g : Group) → Has t.groups.items g → IsGroup ps g
  groups_are g h =
      let u = grouped.has_one g h in
      let own : Has (filter (is_of (key_of g)) (taken os)) u.0 =
      filter-Has (is_of (key_of g)) (taken os) u.0 u.1
      (is_of_from (key_of g) u.0 (ap (λ (k : Key). k.name) u.2) (ap (λ (k : Key). k.mid) u.2)) in
      group_from ps os to from g (is_group os g (grouped.made g h) ordered u.0 own)

  all_in_groups : (name : List ℕ) (m : Metadata) → SaysOf ps name m
      → (g : Group) × Has t.groups.items g × (g.name ≡ m.name) × (g.mid ≡ m.mid)
  all_in_groups name m s =
      let u : Taken = record { provider = name; metadata = m } in
      let r = grouped.all_in_groups u (says_taken os name m (says_to ps os to from name m s)) in
      (r.0, r.1, ap (λ (k : Key). k.name) r.2, ap (λ (k : Key). k.mid) r.2)

  pub is_tasted : t.left.items ≡ filter_map left_by os → IsTasted ps t
  is_tasted e = record {
    groups_are = groups_are;
    all_in_groups = all_in_groups;
    groups_ascend = grouped.ascend;
    left_are = λ x. (let l = left_from ps os to from x in (
      λ h. l.0 (subst (λ (xs : List LeftOut). Has xs x) e h),
      λ s. subst (λ (xs : List LeftOut). Has xs x) (sym e) (l.1 s),
    ));
    left_ascend =
        subst (λ (xs : List LeftOut). AscendsBy (λ x y. label_lt x.provider y.provider) xs) (sym e)
        (left_ascend os ordered);
  }

-- what is made of the providers that were sorted by name
pub tasted : (ps os : List Provider) (t : Tasted) → IsPermutation ps os
    → IsSortedByKey (λ (p : Provider). p.name) (slice_cmp nat_cmp) os
    → Grouped (filter_map taken_by os) t.groups.items
    → t.left.items ≡ filter_map left_by os → DistinctNames ps → IsTasted ps t
tasted ps os t perm up grouped left distinct =
    let back = IsPermutation-sym ps os perm in
    is_tasted ps os t (sorted_ascends (λ (p : Provider). p.name) os ps up back distinct)
    (λ p h. Has-permutation ps os p perm h) (λ p h. Has-permutation os ps p back h) grouped left
