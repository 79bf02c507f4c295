-- What is lost of a mirror that gives up components.
use Rattle.gm_losses.proofs.Common.{◌≡◌, ◌∙◌, ◌↔◌, ◌++◌, inl, inr, ℕ, ◌-◌, ◌+◌, ◌<◌, ◌≤◌, ◌&&◌, append-nil, Bool, true, false, refl, sym, ap, subst, List, [], ◌∷◌, length, take, get_or, Option, Some, None, if◌then◌else◌, filter_map, and_from, and_parts, cases_Bool, eq-eqb, eqb-true, Image, Same, Sizes, same_label, encoded, Has, any_from, option_cases, some_any, AscendsBy-filter_map, Ascends-filter, Has-filter_map, filter_map-Has, same_from, same_is, Mirror, IsOf, metadata, mirror_of, IsState, Records, members, provider, is_on_any, has_size, is_there_and, IsAsRegistered, has_item, home_found, AreJust, LosesIntact, provider_of, Loss, Intact}
use Rattle.std.specs.Str.{bytes_eq}
use Rattle.std.proofs.lemmas.List.{take_all, take_more}
use Rattle.gm_state.specs.declared.records.Component.{Component}
use Rattle.gm_state.proofs.TestsTellRules.{member}
use Rattle.gm_losses.proofs.Listed.{in_order}

-- ---- one component

-- what was only read is as it is registered if it was so
pub registered_before : (size size' : Sizes) (x y : Image) → size' ≡ size → Same y x → (m : Mirror)
    (k : Component) → IsAsRegistered size' y m k ↔ IsAsRegistered size x m k
registered_before size size' x y sizes same m k = (
  λ is. record {
    size_is = ap (λ (z : Sizes). z k.provider) (sym sizes) ∙ is.size_is;
    last_is = sym (same k.provider (k.sectors - 1)) ∙ is.last_is;
  },
  λ is. record {
    size_is = ap (λ (z : Sizes). z k.provider) sizes ∙ is.size_is;
    last_is = same k.provider (k.sectors - 1) ∙ is.last_is;
  },
)

has_size_is : (o : Option ℕ) (n : ℕ) → has_size o n ≡ true → o ≡ Some n
has_size_is None n e = cc
has_size_is (Some k) n e = ap Some (eqb-true k n e)

has_size_from : (o : Option ℕ) (n : ℕ) → o ≡ Some n → has_size o n ≡ true
has_size_from o n e = rw e (eq-eqb n n refl)

module _ (size : Sizes) (seen : Image) where
  -- the test of whether a component of the mirror is as it is registered
  abbrev pub is_right : Component → Mirror → Bool
  is_right k m = has_size (size k.provider) k.sectors
      && bytes_eq (seen k.provider (k.sectors - 1)) (encoded (metadata m k))

  right_tells : (m : Mirror) (k : Component) → is_right k m ≡ true → IsAsRegistered size seen m k
  right_tells m k e =
      let parts = and_parts (has_size (size k.provider) k.sectors)
      (bytes_eq (seen k.provider (k.sectors - 1)) (encoded (metadata m k))) e in
      record {
        size_is = has_size_is (size k.provider) k.sectors parts.0;
        last_is = same_is (seen k.provider (k.sectors - 1)) (encoded (metadata m k)) parts.1;
      }

  right_from : (m : Mirror) (k : Component) → IsAsRegistered size seen m k → is_right k m ≡ true
  right_from m k is = and_from (has_size (size k.provider) k.sectors)
      (bytes_eq (seen k.provider (k.sectors - 1)) (encoded (metadata m k)))
      (has_size_from (size k.provider) k.sectors is.size_is)
      (same_from (seen k.provider (k.sectors - 1)) (encoded (metadata m k)) is.last_is)

module _ (s : Records) (size : Sizes) (seen : Image) (ps : List (List ℕ)) where
  -- the same of its mirror
  abbrev pub is_intact : Component → Bool
  is_intact k = is_there_and (mirror_of s k.mirror) (is_right size seen k)

  -- what is said of a component
  abbrev pub intact_as : Component → Option Loss
  intact_as k = if is_on_any ps k && is_intact k then Some (Intact k.provider) else None

  module _ (state : IsState s) where
    intact_is : (m : Mirror) (k : Component) → IsOf s m k → is_intact k ≡ is_right size seen k m
    intact_is m k o =
        ap (λ (a : Option Mirror). is_there_and a (is_right size seen k)) (home_found s state m k o)

    -- it is told by how the image stands
    intact_told : (m : Mirror) (k : Component) (is : Bool) → IsOf s m k
        → ((is ≡ true) ↔ IsAsRegistered size seen m k) → is_intact k ≡ is
    intact_told m k true o tells =
        intact_is m k o ∙ right_from size seen m k (tells.0 refl)
    intact_told m k false o tells = elim (cases_Bool (is_intact k)) [
      | inl e ↦ (let no : false ≡ true =
          tells.1 (right_tells size seen m k (sym (intact_is m k o) ∙ e)) in cc)
      | inr e ↦ e
    ]

    -- a component of the mirror has it
    home_of : (name : List ℕ) (k : Component) → Has (members s.components name) k
        → (m : Mirror) × IsOf s m k × (m.name ≡ name)
    home_of name k h =
        let mine = member s name k h in
        let home = state.homes k mine.0 in
        let so : home.0.name ≡ name = home.2 ∙ mine.1 in (
          home.0,
          record {
            mirror = home.1;
            component = subst (λ (n : List ℕ). Has (members s.components n) k) (sym so) h;
          },
          so,
        )

    -- ---- the components in their order

    filter_map-push : (f : Component → Option Loss) (xs : List Component) (x : Component)
        → filter_map f (xs ++ x ∷ []) ≡ filter_map f xs ++ filter_map f (x ∷ [])
    filter_map-push f [] x = refl
    filter_map-push f (y ∷ ys) x = elim (option_cases (f y)) [
      | inl e ↦ rw e (filter_map-push f ys x)
      | inr e ↦ rw e.1 (ap (λ (l : List Loss). e.0 ∷ l) (filter_map-push f ys x))
    ]

    module _ (ks : List Component) (i : ℕ) (k : Component) (low : i < length ks)
        (is : k ≡ get_or ks i k) where
      more : take (i + 1) ks ≡ take i ks ++ k ∷ []
      more = take_more ks i k low ∙ ap (λ (x : Component). take i ks ++ x ∷ []) (sym is)

      so_far : filter_map intact_as (take (i + 1) ks)
          ≡ filter_map intact_as (take i ks) ++ filter_map intact_as (k ∷ [])
      so_far = ap (filter_map intact_as) more ∙ filter_map-push intact_as (take i ks) k

      -- of one that isn't given up, or isn't as it is registered, nothing is told
      pub passed : (list : List Loss) → list ≡ filter_map intact_as (take i ks)
          → (is_on_any ps k && is_intact k) ≡ false
          → list ≡ filter_map intact_as (take (i + 1) ks)
      passed list was out =
          let none : intact_as k ≡ None = rw out refl in
          let same : filter_map intact_as (take (i + 1) ks) ≡ filter_map intact_as (take i ks) =
          so_far ∙ (rw none (append-nil (filter_map intact_as (take i ks)))) in
          was ∙ sym same

      -- the others are told
      pub told : (list pushed : List Loss) → list ≡ filter_map intact_as (take i ks)
          → (is_on_any ps k && is_intact k) ≡ true → pushed ≡ list ++ Intact k.provider ∷ []
          → pushed ≡ filter_map intact_as (take (i + 1) ks)
      told list pushed was on push =
          let one : intact_as k ≡ Some (Intact k.provider) = rw on refl in
          let more : filter_map intact_as (take (i + 1) ks)
          ≡ filter_map intact_as (take i ks) ++ Intact k.provider ∷ [] =
          so_far ∙ (rw one refl) in
          push ∙ (ap (λ (l : List Loss). l ++ Intact k.provider ∷ []) was ∙ sym more)

      -- what was found of a component of the mirror, if the shelf was only read before it
      module _ (name : List ℕ) (xs : List Component) (at : ks ≡ xs)
          (all : xs ≡ members s.components name) (size' : Sizes) (y : Image) (sizes : size' ≡ size)
          (same : Same y seen) (so : Bool)
          (tells : (m : Mirror) → IsOf s m k → (so ≡ true) ↔ IsAsRegistered size' y m k) where
        pub found : (b : Bool) → so ≡ b → is_intact k ≡ b
        found b e =
            let in_mirror = subst (λ (l : List Component). Has l k) (at ∙ all)
            (has_item ks i k low is) in
            let home = home_of name k in_mirror in
            let was = registered_before size size' seen y sizes same home.0 k in
            let now = tells home.0 home.1 in
            intact_told home.0 k so home.1 (λ t. was.0 (now.0 t), λ r. now.1 (was.1 r)) ∙ e

    -- ---- all of them

    module _ (name : List ℕ) where
      abbrev IsOne : Loss → Type 0
      IsOne x = LosesIntact s size seen name ps x

      intact_name : (k : Component) (x : Loss) → intact_as k ≡ Some x
          → ((is_on_any ps k && is_intact k) ≡ true) × (x ≡ Intact k.provider)
      intact_name k x e = elim (cases_Bool (is_on_any ps k && is_intact k)) [
        | inl on ↦ (let some : Some (Intact k.provider) ≡ Some x = rw on at e in
            let same : x ≡ Intact k.provider = cc in (on, same))
        | inr out ↦ (let none : None ≡ Some x = rw out at e in let never : ⊥ = cc in absurd never)
      ]

      told_one : (x : Loss) → Has (filter_map intact_as (members s.components name)) x → IsOne x
      told_one x h =
          let from = Has-filter_map intact_as (members s.components name) x h in
          let k = from.0 in
          let is = intact_name k x from.2 in
          let parts = and_parts (is_on_any ps k) (is_intact k) is.0 in
          let home = home_of name k from.1 in
          let at = some_any (λ (p : List ℕ). same_label k.provider p) ps parts.0 in (
            home.0,
            k,
            home.1,
            home.2,
            subst (Has ps) (sym (same_is k.provider at.0 at.2)) at.1,
            right_tells size seen home.0 k (sym (intact_is home.0 k home.1) ∙ parts.1),
            is.1,
          )

      one_told : (x : Loss) → IsOne x → Has (filter_map intact_as (members s.components name)) x
      one_told x h =
          let m = h.0 in
          let k = h.1 in
          let on : (is_on_any ps k && is_intact k) ≡ true =
          and_from (is_on_any ps k) (is_intact k)
          (any_from (λ (p : List ℕ). same_label k.provider p) ps k.provider h.4
          (same_from k.provider k.provider refl))
          (intact_is m k h.2 ∙ right_from size seen m k h.5) in
          let told_so : intact_as k ≡ Some (Intact k.provider) = rw on refl in
          subst (Has (filter_map intact_as (members s.components name))) (sym h.6)
          (filter_map-Has intact_as (members s.components name) k (Intact k.provider)
          (subst (λ (n : List ℕ). Has (members s.components n) k) h.3 h.2.component) told_so)

      intact_lost : AreJust IsOne (filter_map intact_as (members s.components name))
      intact_lost = record {
        told = told_one;
        others = one_told;
        order = in_order (filter_map intact_as (members s.components name))
            (AscendsBy-filter_map intact_as provider provider_of
            (λ k x e. ap provider_of (sym (intact_name k x e).1)) (members s.components name)
            (Ascends-filter (λ (k : Component). same_label k.mirror name) provider s.components
            state.components_in_order));
      }

      -- that is what was told, if all were looked at
      pub all_told : (list : List Loss) (ks xs : List Component) (i : ℕ) → length ks ≤ i → ks ≡ xs
          → xs ≡ members s.components name → list ≡ filter_map intact_as (take i ks)
          → AreJust IsOne list
      all_told list ks xs i high at all so =
          let whole : take i ks ≡ members s.components name = take_all i ks high ∙ (at ∙ all) in
          subst (AreJust IsOne) (sym (so ∙ ap (filter_map intact_as) whole)) intact_lost
