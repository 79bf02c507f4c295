-- A change that puts in place what it puts, and leaves a state, breaks no rule of the tables of the
-- state that it is made of.
use Rattle.gm_registry.proofs.Common.{◌≡◌, ◌≢◌, ◌∙◌, inl, inr, ⊎_elim, ℕ, refl, sym, ap, subst, List, [], ◌∷◌, Option, Some, None, IfSome, find, map, AllByRecursion, IsPermutation-sym, same_label, Mirror, Component, Has, put, put_all, without, without_all, found_none, option_cases, Has-filter, filter-Has, Has-map, map-Has, same_from, same_is, one, put_there, put_stays, Has-permutation, Records, IsState, name, provider, Tables, MirrorRow, ComponentRow, mirror_row, component_row, Changed, PutsInPlace, changed_by, put_some, without_some, with_component, with_some_mirror, without_components, component_key, HoldState, HasFreeNumber, HasNoComponents, IsPlaced, ArePlacedInTurn, FitsRecords, without_gone}
use Rattle.std.specs.List.Sorted.{IsPermutation}
use Rattle.gm_lists.proofs.Finding.{found, not_both}
use Rattle.gm_lists.proofs.PutInPlace.{left_differs}
use Rattle.gm_lists.proofs.PutTogether.{put_all_stays, put_all_there}
use Rattle.gm_registry.proofs.Written.{components_left, left_by, left_held, with_mirror_held}

-- what holds of each one holds of all, and what holds of any one holds of one that is there
all_rows : {X : Type 0} (P : X → Type 0) (xs : List X) → ((x : X) → Has xs x → P x)
    → AllByRecursion P xs
all_rows P [] h = tt
all_rows P (x ∷ xs) h = (h x (inl refl), all_rows P xs (λ y k. h y (inr k)))

if_some : {X : Type 0} (P : X → Type 0) (o : Option X) → ((x : X) → o ≡ Some x → P x) → IfSome o P
if_some P None h = tt
if_some P (Some x) h = h x refl

-- a row of the tables is that of a record
row_of : {X Y : Type 0} (row : X → Y) (xs : List X) (rows : List Y)
    → IsPermutation (map row xs) rows → (y : Y) → Has rows y → (x : X) × Has xs x × (row x ≡ y)
row_of row xs rows p y h =
    Has-map row xs y (Has-permutation rows (map row xs) y (IsPermutation-sym (map row xs) rows p) h)

-- what is left stood there
stood : {X : Type 0} (key : X → List ℕ) (ns : List (List ℕ)) (xs : List X) (x : X)
    → Has (without_all key ns xs) x → Has xs x
stood key [] xs x h = h
stood key (n ∷ ns) xs x h =
    (Has-filter _ xs x (stood key ns (without key n xs) x h)).0

module _ (ch : Changed) (s : Records) (t : Tables) (state : IsState s) (held : HoldState s t)
    (in_place : PutsInPlace s ch) (left : IsState (changed_by ch s)) where
  abbrev after : Records
  after = changed_by ch s

  -- ---- what goes

  -- if a mirror goes, each component that is left is there after the change, and of another mirror
  of_another : (n : List ℕ) → ch.gone_mirror ≡ Some n → (j : Component)
      → Has (left_by ch s).components j → j.mirror ≢ n
  of_another n gone j h e =
      let alone = subst (λ (o : Option (List ℕ)). IfSome o (λ n. (ch.mirror ≡ None)
      × (ch.components ≡ []))) gone in_place.alone in
      let there : Has after.components j =
      subst (λ (ks : List Component). Has (put_all provider ks (left_by ch s).components) j)
      (sym alone.1) h in
      let home = left.homes j there in
      let is : after.mirrors ≡ without name n s.mirrors =
      ap (λ (o : Option Mirror). put_some o (left_by ch s).mirrors) alone.0
      ∙ ap (λ (o : Option (List ℕ)). without_some o s.mirrors) gone in
      let among : Has (without name n s.mirrors) home.0 =
      subst (λ (ms : List Mirror). Has ms home.0) is home.1 in
      not_both (same_label home.0.name n) (same_from home.0.name n (home.2 ∙ e))
      (left_differs name n s.mirrors home.0 among)

  gone_fits : IfSome ch.gone_mirror
      (λ n. HasNoComponents n (without_components ch.gone_components t))
  gone_fits =
      if_some (λ n. HasNoComponents n (without_components ch.gone_components t)) ch.gone_mirror
      (λ n gone. all_rows _ _ (λ x h e.
      let j = row_of component_row (left_by ch s).components _ (components_left ch s t held) x h in
      of_another n gone j.0 j.1 (ap (λ (y : ComponentRow). y.mirror) j.2 ∙ e)))

  -- ---- the mirror that is put

  apart : (m : Mirror) → ch.mirror ≡ Some m → (a : Mirror) → Has (left_by ch s).mirrors a
      → a.name ≢ m.name → a.mid ≢ m.mid
  apart m new a h other e =
      let ms = (left_by ch s).mirrors in
      let is : after.mirrors ≡ put name m ms = rw new refl in
      let old : Has after.mirrors a = rw is (put_stays name m ms a h other) in
      let there : Has after.mirrors m = rw is (put_there name m ms) in
      other (ap name (left.mids a m old there e))

  put_fits : IfSome ch.mirror (λ m. HasFreeNumber (mirror_row m) (without_gone ch t))
  put_fits =
      if_some (λ m. HasFreeNumber (mirror_row m) (without_gone ch t)) ch.mirror
      (λ m new. all_rows _ _ (λ x h other e.
      let a = row_of mirror_row (left_by ch s).mirrors _ (left_held ch s t held).mirrors x h in
      apart m new a.0 a.1 (λ same. other (sym (ap (λ (y : MirrorRow). y.name) a.2) ∙ same))
      (ap (λ (y : MirrorRow). y.mid) a.2 ∙ e)))

  -- ---- the components that are put, each after those before it

  -- after the change a component is on the row's provider, with its mirror and its number
  record IsMatched (x : ComponentRow) : Type 0 where
    component : Component
    there : Has after.components component
    provider_is : component.provider ≡ x.prov
    mirror_is : component.mirror ≡ x.mirror
    did_is : component.did ≡ x.did

  -- tables under way: the mirrors are those after the change, and each component is matched
  record IsUnderWay (a : Tables) : Type 0 where
    mirrors : (m : Mirror) → Has after.mirrors m → Has a.mirrors (mirror_row m)
    rows : (x : ComponentRow) → Has a.components x → IsMatched x

  matched : (k : Component) → Has after.components k → IsMatched (component_row k)
  matched k h = record {
    component = k;
    there = h;
    provider_is = refl;
    mirror_is = refl;
    did_is = refl;
  }

  -- two of one mirror and one number are one
  one_number : (j k : Component) → Has after.components j → Has after.components k
      → j.mirror ≡ k.mirror → j.did ≡ k.did → j ≡ k
  one_number j k h i mirror did =
      let home = left.homes k i in
      (left.each home.0 home.1).dids
      j (filter-Has (λ (c : Component). same_label c.mirror home.0.name) after.components j h
      (same_from j.mirror home.0.name (mirror ∙ sym home.2)))
      k (filter-Has (λ (c : Component). same_label c.mirror home.0.name) after.components k i
      (same_from k.mirror home.0.name (sym home.2))) did

  is_placed : (k : Component) → Has after.components k → (a : Tables) → IsUnderWay a
      → IsPlaced (component_row k) a
  is_placed k h a way = record {
    mirror = (let home = left.homes k h in
        (mirror_row home.0, way.mirrors home.0 home.1, home.2));
    number_free = all_rows _ a.components (λ x i other mirror did.
        let j = way.rows x i in
        other (sym j.provider_is ∙ ap provider (one_number j.component k j.there h
        (j.mirror_is ∙ mirror) (j.did_is ∙ did))));
  }

  placed_from : (ks : List Component) → ((k : Component) → Has ks k → Has after.components k)
      → (a : Tables) → IsUnderWay a → ArePlacedInTurn ks a
  placed_from [] all a way = tt
  placed_from (k ∷ ks) all a way = (
    is_placed k (all k (inl refl)) a way,
    placed_from ks (λ j h. all j (inr h)) (with_component (component_row k) a) (record {
      mirrors = way.mirrors;
      rows = λ x h. ⊎_elim
          (λ (e : component_row k ≡ x). subst IsMatched e (matched k (all k (inl refl))))
          (λ (i : Has (without component_key k.provider a.components) x).
          way.rows x (Has-filter _ a.components x i).0) h;
    }),
  )

  all_there : (k : Component) → Has ch.components k → Has after.components k
  all_there k h =
      put_all_there provider ch.components (left_by ch s).components k
      (λ x i e. one provider ch.components in_place.once x k i h e) h

  -- what is left of the old ones stays, or one is put in its place
  left_matched : (j : Component) → Has (left_by ch s).components j → IsMatched (component_row j)
  left_matched j h =
      elim (option_cases (find (λ k. same_label k.provider j.provider) ch.components)) [
        | inl none ↦ matched j (put_all_stays provider ch.components (left_by ch s).components j
            (λ x i e. not_both (same_label x.provider j.provider)
            (same_from x.provider j.provider e)
            (found_none (λ (c : Component). same_label c.provider j.provider) ch.components none
            x i)) h)
        | inr some ↦
            let k : Component = some.0 in
            let f = found (λ (c : Component). same_label c.provider j.provider) ch.components k
            some.1 in
            let on : k.provider ≡ j.provider = same_is k.provider j.provider f.1 in
            let old : Has s.components j =
            stood provider ch.gone_components s.components j h in
            let same = in_place.numbers k j f.0 old (sym on) in
            record {
              component = k;
              there = all_there k f.0;
              provider_is = on;
              mirror_is = sym same.0;
              did_is = sym same.1;
            }
      ]

  placed_fit : ArePlacedInTurn ch.components (with_some_mirror ch.mirror (without_gone ch t))
  placed_fit =
      let begun = with_mirror_held ch s t held state.mirrors_in_order in
      placed_from ch.components all_there _ (record {
        mirrors = λ m h. Has-permutation (map mirror_row after.mirrors) _ (mirror_row m)
            begun.mirrors (map-Has mirror_row after.mirrors m h);
        rows = λ x h.
            let j = row_of component_row (left_by ch s).components _ begun.components x h in
            subst IsMatched j.2 (left_matched j.0 j.1);
      })

  pub records_fit : FitsRecords ch t
  records_fit = record { gone = gone_fits; put = put_fits; placed = placed_fit }
