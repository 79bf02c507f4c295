-- What one copy and one write of metadata say of a component that several advances filled: they
-- carry out all of them.
use Rattle.gm_rules.proofs.Common.{◌≡◌, ◌≢◌, ◌∙◌, ◌⊎◌, inl, inr, ⊎_elim, ℕ, ◌+◌, ◌-◌, ◌<◌, ◌≤◌, ◌&&◌, ◌||◌, true, false, refl, sym, ap, ap₂, subst, arith, true≢false, List, [], ◌∷◌, Some, None, nat_le, nat_lt, cases_Bool, leb-false, ltb-false, or_parts, eq-eqb, same_label, Advance, Metadata, Bears, Intent, Copy, Meta, Mirror, Component, InSync, Copying, Has, one, put_stays, not_both, Has-filter, filter-Has, Records, IsMirror, IsOf, IsState, held_by, held_of, members, metadata, provider, mirror_of, source_of, World, Sound, Below, Claims, CopiesData, claimed, present, AreReadable, IsReadable, IsAtHand, IsOfRange, Says, copies, is_last, is_place, names, named, same_is, same_refl, same_tells, differ, bears_one, claims_of, same_data, mirror_found, some_and, copied_at, last_named, IsGood, seen_of, IsOwn}
use Rattle.gm_state.specs.Intents.{IsRedo, InOrder, Lends, fills}
use Rattle.gm_state.proofs.FoundSource.{source_of_is}
use Rattle.gm_state.proofs.Places.{fills_named, or_true}
use Rattle.gm_state.proofs.SoundClaims.{some_there}
use Rattle.gm_changes.proofs.LendingComponent.{lender}
use Rattle.gm_rules.proofs.FilledFurther.{IsFilling, IsFurther, after_on, component_after, its_member, member_after, mirror_named, mirror_there, on_p, present_members, registered}
use Rattle.gm_rules.proofs.StepOfMirror.{held_within}
use Rattle.gm_rules.proofs.WrittenIntents.{last_is, not_last}

-- the component from is the source of a copy to p: another one of the mirror, which is ACTIVE
pub record IsLending (s : Records) (n p : List ℕ) (from : Component) : Type 0 where
  pub source : source_of s p ≡ Some from.provider
  pub member : Has (members s.components n) from
  pub active : from.disk ≡ InSync
  pub apart : from.provider ≢ p

-- a component that is being filled has a source
pub lending_from : (s : Records) (n p : List ℕ) (m : Mirror) (k : Component) → IsState s
    → IsFilling s n p m k → (from : Component) × IsLending s n p from
lending_from s n p m k state of =
    let from = lender s n p state m k of.at_name of.at of.home
    (λ e. let no : InSync ≡ Copying of.forced of.held = sym e ∙ of.copying in
    let z : ⊥ = cc in z) (source_of s p) (source_of_is s p state) in
    (from.0, record { source = from.1; member = from.2; active = from.3; apart = from.4 })

module _ (u w : World) (n p : List ℕ) (m : Mirror) (was now from : Component)
    (of : IsFilling u.state n p m was) (far : IsFurther u w m was now) (before : Sound u)
    (later : Sound w) (good : IsGood u.state (seen_of u) (Advance n p))
    (lends : IsLending u.state n p from) where
  -- what it held before, and what it holds after
  abbrev first : ℕ
  first = held_of was.disk

  abbrev end : ℕ
  end = held_by now.disk m.data_sectors

  -- one copy of all that is new, and then one write of metadata
  abbrev copy : Intent
  copy = Copy from.provider p first end

  abbrev pub long : List Intent
  long = copy ∷ Meta p ∷ []

  -- what holds of both holds of each
  of_two : (P : Intent → Type 0) → P copy → P (Meta p) → (t : Intent) → Has long t → P t
  of_two P a b t (inl e) = subst P e a
  of_two P a b t (inr (inl e)) = subst P e b
  of_two P a b t (inr (inr none)) = absurd none

  -- ---- the components

  -- the mirror is registered still
  here : Has w.state.mirrors m
  here = subst (λ (s : Records). Has s.mirrors m) (sym far.state)
      (mirror_there u.state n p m was of)

  -- it has its name
  called : m.name ≡ n
  called = mirror_named u.state n p m was of

  -- the component is on its provider
  on : now.provider ≡ p
  on = after_on u w n p m was now of far later.state

  -- it has its sectors
  ends : now.sectors ≡ was.sectors
  ends = ap (λ (c : Component). c.sectors) far.same

  -- it is registered as the mirror's
  own_after : IsOf w.state m now
  own_after = record {
    mirror = here;
    component = subst (λ (a : List ℕ). Has (members w.state.components a) now) (sym called)
        (member_after u w n p m was now of far before.state later.state good);
  }

  -- a component on another provider stays
  other_stays : (a : Mirror) (c : Component) → IsOf u.state a c → c.provider ≢ p → IsOf w.state a c
  other_stays a c o d =
      let at = Has-filter (λ (x : Component). same_label x.mirror a.name) u.state.components c
      o.component in
      record {
        mirror = subst (λ (s : Records). Has s.mirrors a) (sym far.state) o.mirror;
        component = filter-Has (λ (x : Component). same_label x.mirror a.name) w.state.components c
            (subst (λ (s : Records). Has s.components c) (sym far.state)
            (put_stays provider now u.state.components c at.0 (λ e. d (e ∙ on)))) at.1;
      }

  -- the one on p is the one that is filled
  only_on : (a : Mirror) (c : Component) → IsOf u.state a c → c.provider ≡ p
      → (c ≡ was) × (a.name ≡ m.name)
  only_on a c o e =
      let at = Has-filter (λ (x : Component). same_label x.mirror a.name) u.state.components c
      o.component in
      let is : c ≡ was =
      one provider u.state.components before.state.components_in_order c was at.0
      (registered u.state n p m was of) (e ∙ sym (on_p u.state n p m was of)) in (
        is,
        sym (same_is c.mirror a.name at.1) ∙ ap (λ (x : Component). x.mirror) is ∙ of.home
            ∙ sym called,
      )

  -- what each component of before is after
  after_of : (a : Mirror) (c : Component) → IsOf u.state a c
      → (d : Component) × IsOf w.state a d × (d.provider ≡ c.provider) × (d.sectors ≡ c.sectors)
  after_of a c o =
      elim (same_tells c.provider p) [
        | inr n ↦ (c, other_stays a c o n.1, refl, refl)
        | inl y ↦
            let is = only_on a c o y.1 in (
              now,
              record {
                mirror = subst (λ (s : Records). Has s.mirrors a) (sym far.state) o.mirror;
                component = subst (λ (x : List ℕ). Has (members w.state.components x) now)
                    (sym is.1) own_after.component;
              },
              on ∙ sym y.1,
              ends ∙ sym (ap (λ (x : Component). x.sectors) is.0),
            )
      ]

  -- the source is registered as the mirror's
  lends_own : IsOf u.state m from
  lends_own = record {
    mirror = mirror_there u.state n p m was of;
    component = subst (λ (a : List ℕ). Has (members u.state.components a) from) (sym called)
        lends.member;
  }

  -- it still is
  lends_after : IsOf w.state m from
  lends_after = other_stays m from lends_own lends.apart

  -- ---- how much there is

  -- the rules of the mirror
  rules : IsMirror m (members w.state.components m.name)
  rules = later.state.each m here

  -- the component holds at most the mirror's data
  within : end ≤ m.data_sectors
  within = held_within now.disk m.data_sectors (rules.held now own_after.component)

  -- its provider has room for them and its last sector
  room : m.data_sectors + 1 ≤ now.sectors
  room = rules.sizes now own_after.component

  -- so has the source's
  room_from : m.data_sectors + 1 ≤ from.sectors
  room_from = rules.sizes from lends_after.component

  -- some sectors are new
  more : first < end
  more =
      let l : held_by was.disk m.data_sectors < end = far.more in
      let e : first ≡ held_by was.disk m.data_sectors = rw of.copying refl in omega arith

  -- the size of its provider
  size_at : u.size p ≡ Some now.sectors
  size_at = sym (far.sizes p) ∙ subst (λ (q : List ℕ). w.size q ≡ Some now.sectors) on
      (later.sizes m now own_after)

  -- ---- what is held

  -- the component has its data
  target_holds : Below w.shelf (w.holds m.name) p end
  target_holds = subst (λ (q : List ℕ). Below w.shelf (w.holds m.name) q end) on
      (later.whole m now own_after)

  -- the source has all
  source_holds : Below w.shelf (w.holds m.name) from.provider m.data_sectors
  source_holds i l = later.whole m from lends_after i (rw lends.active l)

  -- so what is copied is what the source holds
  says_copy : (q : List ℕ) (i : ℕ) → names u.size copy q i ≡ true
      → Says w.state [] w.shelf copy i (w.shelf q i)
  says_copy q i e =
      let at = copied_at from.provider p first end q i e in
      let low : i < end = at.2 in
      let most : end ≤ m.data_sectors = within in
      subst (λ (x : List ℕ). w.shelf x i ≡ w.shelf from.provider i) at.0
      (target_holds i low ∙ sym (source_holds i (omega arith)))

  -- the last sector says the metadata
  says_meta : (q : List ℕ) (i : ℕ) → names u.size (Meta p) q i ≡ true
      → Says w.state [] w.shelf (Meta p) i (w.shelf q i)
  says_meta q i e =
      let at = last_named u.size p q i e in
      let n : i + 1 ≡ now.sectors =
      last_is (u.size q) now.sectors i
      (subst (λ (x : List ℕ). u.size x ≡ Some now.sectors) at.0 size_at) at.1 in
      let last : now.sectors - 1 ≡ i = omega arith in
      (m, now, own_after, on, ap₂ w.shelf (sym (on ∙ at.0)) (sym last) ∙ later.full m now own_after)

  -- nothing is written but on p
  not_a_place : (q : List ℕ) (i : ℕ) → q ≢ p → is_place u.size long q i ≡ false
  not_a_place q i d = rw (differ p q (λ e. d (sym e))) refl

  -- the source lends what isn't written
  lends_copy : Lends u.size long copy
  lends_copy = (
    some_there (u.size from.provider) from.sectors (before.sizes m from lends_own),
    λ i low high. not_a_place from.provider i lends.apart,
  )

  -- what isn't written of the component's provider is as it was
  unwritten_there : (i : ℕ) → is_place u.size long p i ≡ false → u.shelf p i ≡ w.shelf p i
  unwritten_there i off =
      let parts = or_parts (nat_le first i && nat_lt i end) (is_last (u.size p) i || false)
      (rw (same_refl p) at off) in
      let last : is_last (u.size p) i ≡ false =
      (or_parts (is_last (u.size p) i) false parts.1).0 in
      let held : first ≡ held_by was.disk m.data_sectors = rw of.copying refl in
      let range : (i < held_by was.disk m.data_sectors) ⊎ (end ≤ i) =
      elim (cases_Bool (nat_le first i)) [
        | inl t ↦ inr (ltb-false i end (rw t at parts.0))
        | inr t ↦ inl (let l : i < first = leb-false first i t in omega arith)
      ] in
      subst (λ (q : List ℕ). u.shelf q i ≡ w.shelf q i) (on_p u.state n p m was of)
      (sym (far.around i range (λ e. not_both (is_last (u.size p) i)
      (rw size_at (eq-eqb now.sectors (i + 1) (ends ∙ sym e))) last)))

  -- so it is on every provider
  unwritten : (q : List ℕ) (i : ℕ) → is_place u.size long q i ≡ false → u.shelf q i ≡ w.shelf q i
  unwritten q i off =
      elim (same_tells q p) [
        | inr d ↦ sym (far.elsewhere q i (λ e. d.1 (e ∙ on_p u.state n p m was of)))
        | inl y ↦ subst (λ (x : List ℕ). is_place u.size long x i ≡ false
            → u.shelf x i ≡ w.shelf x i) (sym y.1) (unwritten_there i) off
      ]

  -- the intents lead from what was held to what is held
  pub long_redo : IsRedo w.state [] u.size long u.shelf w.shelf
  long_redo = record {
    says = of_two (λ t. (q : List ℕ) (i : ℕ) → names u.size t q i ≡ true
        → Says w.state [] w.shelf t i (w.shelf q i)) says_copy says_meta;
    lends = of_two (Lends u.size long) lends_copy tt;
    clean = (λ q e. absurd (true≢false (sym e)), (λ q e. e, tt));
    agrees = λ q there i off. unwritten q i off;
  }

  -- ---- their order

  -- no last sector is copied to
  no_last : (q : List ℕ) (i : ℕ) → fills copy q i ≡ true → is_last (u.size q) i ≡ false
  no_last q i e =
      let at = copied_at from.provider p first end q i (fills_named u.size copy q i e) in
      let l : i < end = at.2 in
      let most : end ≤ m.data_sectors = within in
      let size : m.data_sectors + 1 ≤ now.sectors = room in
      subst (λ (x : List ℕ). is_last (u.size x) i ≡ false) at.0
      (not_last (u.size p) now.sectors i size_at (omega arith))

  -- they stand in their order
  pub long_order : InOrder u.size long
  long_order = (
    λ q j last e i. refl,
    no_last,
    λ q j e. e,
    (λ q j last e i. refl, λ q j e. absurd (true≢false (sym e)), λ q j e. e, tt),
  )

  -- ---- what images claim

  -- what images claim on the way is true
  pub long_claims : Claims u w w.shelf
  long_claims a c d o ok bears named mid inactive clean i l =
      let x = after_of a c o in
      let is : d ≡ metadata a x.0 =
      bears_one w.state a x.0 later.state x.1 _ (later.full a x.0 x.1) d ok
      (subst (λ (y : List ℕ). Bears y d)
      (ap₂ w.shelf (sym x.2) (ap (λ (k : ℕ). k - 1) (sym x.3))) bears) in
      let count : claimed a d ≡ held_by x.0.disk a.data_sectors =
      ap (claimed a) is ∙ claims_of a a x.0 (sym (ap (λ (y : Metadata). y.dflags.inactive) is)
      ∙ inactive) in
      subst (λ (q : List ℕ). w.shelf q i ≡ w.holds a.name i) x.2
      (later.whole a x.0 x.1 i (subst (λ (k : ℕ). i < k) count l))
      ∙ (far.holds a o.mirror i
      ∙ sym (same_data u w a.name d.syncid i (far.holds a o.mirror i)))

  -- ---- the registry that keeps them

  -- a registry that keeps them can be read
  pub long_readable : AreReadable w.state [] long
  long_readable = record {
    sectors = λ x h. absurd h;
    each = of_two (IsReadable w.state) (record {
      mirror = m;
      to = now;
      from = from;
      to_is = own_after;
      from_is = lends_after;
      target_is = on;
      source_is = refl;
      other = lends.apart;
      active = lends.active;
      ordered = (let l : first < end = more in omega arith);
      within = within;
    }) (λ none. let f : Some now ≡ None =
        sym (component_after u w n p m was now of far later.state) ∙ none in
        let z : ⊥ = cc in z);
    one_copy = omega arith;
    one_patch = record {
      start = 0;
      ranges = of_two (IsOfRange 0 0) tt tt;
      apart = inl refl;
      needed = λ e. refl;
    };
    ordered = (rw (same_refl p) refl, (refl, tt));
  }

  -- what they read and write is there
  pub long_at_hand : (t : Intent) → Has long t → IsAtHand (present u) t
  long_at_hand =
      let most : end ≤ m.data_sectors = within in
      let size : m.data_sectors + 1 ≤ now.sectors = room in
      let size_from : m.data_sectors + 1 ≤ from.sectors = room_from in
      let target : present u p ≡ Some now.sectors =
      subst (λ (q : List ℕ). present u q ≡ Some was.sectors) (on_p u.state n p m was of)
      (present_members u n p good was (its_member u.state n p m was of))
      ∙ ap Some (sym ends) in
      of_two (IsAtHand (present u)) (
        some_and (present u from.provider) from.sectors (λ k. end ≤ k)
            (present_members u n p good from lends.member) (omega arith),
        some_and (present u p) now.sectors (λ k. end ≤ k) target (omega arith),
      ) (some_and (present u p) now.sectors (λ k. 0 < k) target (omega arith))

  -- they write metadata of its mirror alone
  pub long_own : (q : List ℕ) → Has long (Meta q) → IsOwn w.state (Advance n p) q
  long_own q (inl e) = let z : ⊥ = cc in absurd z
  long_own q (inr (inl e)) =
      let same : p ≡ q = cc in
      (now, member_after u w n p m was now of far before.state later.state good, on ∙ same)
  long_own q (inr (inr none)) = absurd none

  -- what is copied is the data of the mirror
  pub long_copies : CopiesData u w long
  long_copies a c o i e =
      let at = ⊎_elim (λ (h : copies copy c.provider i ≡ true).
      copied_at from.provider p first end c.provider i h)
      (λ (h : false ≡ true). absurd (true≢false (sym h)))
      (or_true (copies copy c.provider i) false e) in
      let is = only_on a c o (sym at.0) in
      let holds = far.holds a o.mirror i in (
        subst (λ (x : List ℕ). w.shelf x i ≡ u.holds a.name i) at.0
            (subst (λ (x : List ℕ). w.shelf p i ≡ w.holds x i) (sym is.1) (target_holds i at.2)
            ∙ holds),
        holds,
        subst (λ (x : List ℕ). mirror_of w.state x ≢ None) (sym is.1)
            (mirror_found w.state m here),
      )
