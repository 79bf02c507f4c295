-- The mirrors that are passed over are those of the images that are amiss.
use Rattle.gm_sync.proofs.Common.{◌≡◌, ◌∙◌, inl, inr, ℕ, true, refl, sym, ap, subst, List, [], filter, Has, label_lt, any_from, found, not_both, option_cases, some_any, Ascends-filter, AscendsBy-map, Has-filter, Has-map, filter-Has, map-Has, Image, Sizes, same_label, Mirror, Component, IsOf, component_of, Records, IsState, name, IsAudit, PassedOver, Scope, AreAsRegistered, AreMirrorsOf, IsAmiss, IsPassedOver, PassesNone, but, has_image, is_component_of, is_named_beside, is_one_of, is_passed_over, mirrors_of}
use Rattle.gm_lists.proofs.Order.{same_from, same_is}
use Rattle.gm_sync.proofs.Amiss.{amiss_of, component_is}

-- a component that is found and is the mirror's is one of it
one_is : (s : Records) (m : Mirror) (p : List ℕ) → Has s.mirrors m
    → is_component_of s m p ≡ true → (k : Component) × IsOf s m k × (k.provider ≡ p)
one_is s m p has is =
    elim (option_cases (component_of s p)) [
      | inl none ↦ not_both (is_one_of m (component_of s p)) is (ap (is_one_of m) none)
      | inr some ↦ (let at = found (λ (k : Component). same_label k.provider p) s.components some.0
          some.1 in (
            some.0,
            record {
              mirror = has;
              component = filter-Has (λ (k : Component). same_label k.mirror m.name) s.components
                  some.0 at.0 (sym (ap (is_one_of m) some.1) ∙ is);
            },
            same_is some.0.provider p at.1,
          ))
    ]

-- its mirror's name is the mirror's
mirror_is : (s : Records) (m : Mirror) (k : Component) → IsOf s m k
    → same_label k.mirror m.name ≡ true
mirror_is s m k of =
    (Has-filter (λ (x : Component). same_label x.mirror m.name) s.components k of.component).1

-- the mirrors of images are those that have one
pub are_mirrors_of : (s : Records) (images : List (List ℕ)) → IsState s
    → AreMirrorsOf s images (mirrors_of s images)
are_mirrors_of s images state = record {
  named = λ n has.
      let of = Has-map name (filter (λ (m : Mirror). has_image s images m) s.mirrors) n has in
      let kept = Has-filter (λ (m : Mirror). has_image s images m) s.mirrors of.0 of.1 in
      let one = some_any (λ (p : List ℕ). is_component_of s of.0 p) images kept.1 in
      let is = one_is s of.0 one.0 kept.0 one.2 in
      (of.0, is.0, is.1, of.2, subst (λ (p : List ℕ). Has images p) (sym is.2) one.1);
  others = λ m k of has.
      let one : is_component_of s m k.provider ≡ true =
      ap (is_one_of m) (component_is s m k state of) ∙ mirror_is s m k of in
      map-Has name (filter (λ (x : Mirror). has_image s images x) s.mirrors) m
      (filter-Has (λ (x : Mirror). has_image s images x) s.mirrors m of.mirror
      (any_from (λ (p : List ℕ). is_component_of s m p) images k.provider has one));
  ascend = AscendsBy-map name label_lt
      (filter (λ (m : Mirror). has_image s images m) s.mirrors)
      (Ascends-filter (λ (m : Mirror). has_image s images m) name s.mirrors
      state.mirrors_in_order);
}

-- what isn't of one of them is as it is registered
others_are : (scope : Scope) (s : Records) (size : Sizes) (seen : Image) (passed : PassedOver)
    → IsAmiss scope s size seen passed.images.items
    → AreMirrorsOf s passed.images.items passed.mirrors.items
    → AreAsRegistered (but scope passed) s size seen
others_are scope s size seen passed images mirrors m k of beside apart =
    elim (images.others m k of beside) [
      | inl is ↦ is
      | inr has ↦ not_both (is_passed_over passed m.name)
          (any_from (λ (n : List ℕ). same_label n m.name) passed.mirrors.items m.name
          (mirrors.others m k of has) (same_from m.name m.name refl))
          apart
    ]

-- images that are amiss, and their mirrors, are passed over
pub passed_of : (scope : Scope) (s : Records) (size : Sizes) (seen : Image) (passed : PassedOver)
    → IsAmiss scope s size seen passed.images.items
    → AreMirrorsOf s passed.images.items passed.mirrors.items
    → IsPassedOver scope s size seen passed
passed_of scope s size seen passed images mirrors = record {
  images = images;
  mirrors = mirrors;
  others = others_are scope s size seen passed images mirrors;
}

-- so it is by the names of an audit, and by the records that were seen
pub passed_told : (scope : Scope) (s state : Records) (size : Sizes) (seen : Image)
    (names named : List (List ℕ)) (passed : PassedOver) → state ≡ s → named ≡ names
    → passed.images.items ≡ filter (λ p. is_named_beside scope state p) named
    → passed.mirrors.items ≡ mirrors_of state passed.images.items → IsState s
    → IsAudit s size seen names → IsPassedOver scope s size seen passed
passed_told scope s state size seen names named passed same given images mirrors keeps audit =
    passed_of scope s size seen passed
    (subst (λ (ns : List (List ℕ)). IsAmiss scope s size seen ns)
    (sym (images
    ∙ ap (λ (ns : List (List ℕ)). filter (λ p. is_named_beside scope state p) ns) given
    ∙ ap (λ (x : Records). filter (λ p. is_named_beside scope x p) names) same))
    (amiss_of scope s size seen names keeps audit))
    (subst (λ (ns : List (List ℕ)). AreMirrorsOf s passed.images.items ns)
    (sym (mirrors ∙ ap (λ (x : Records). mirrors_of x passed.images.items) same))
    (are_mirrors_of s passed.images.items keeps))

-- an audit that lists none passes over none
pub passed_none : (scope : Scope) (s : Records) (size : Sizes) (seen : Image)
    (names : List (List ℕ)) (passed : PassedOver) → names ≡ [] → PassesNone passed
    → IsAudit s size seen names → IsPassedOver scope s size seen passed
passed_none scope s size seen names passed none nobody audit =
    passed_of scope s size seen passed
    (rw (nobody.1) (record {
      amiss = λ p has. absurd has;
      others = λ m k of beside. elim (audit.others m k of) [
        | inl is ↦ inl is
        | inr has ↦ absurd (subst (λ (xs : List (List ℕ)). Has xs k.provider) none has)
      ];
      ascend = tt;
    }))
    (rw (nobody.0, nobody.1) (record {
      named = λ n has. absurd has;
      others = λ m k of has. absurd has;
      ascend = tt;
    }))
