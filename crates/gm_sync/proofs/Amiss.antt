-- Which components of the mirrors that are meant aren't as they are registered.
use Rattle.gm_sync.proofs.Common.{◌≡◌, ◌∙◌, inl, inr, ℕ, true, sym, ap, subst, List, Some, filter, find_one, Ascends-filter, Has-filter, filter-Has, Image, Sizes, same_label, Mirror, Component, IsOf, component_of, Records, IsState, provider, IsAudit, Scope, IsAmiss, is_beside, is_beside_at, is_named_beside}

-- a component is found by its own name
pub component_is : (s : Records) (m : Mirror) (k : Component) → IsState s → IsOf s m k
    → component_of s k.provider ≡ Some k
component_is s m k state of =
    find_one provider s.components state.components_in_order k
    (Has-filter (λ (x : Component). same_label x.mirror m.name) s.components k of.component).0

-- those of an audit's names that are meant
pub amiss_of : (scope : Scope) (s : Records) (size : Sizes) (seen : Image)
    (names : List (List ℕ)) → IsState s → IsAudit s size seen names
    → IsAmiss scope s size seen (filter (λ p. is_named_beside scope s p) names)
amiss_of scope s size seen names state audit = record {
  amiss = λ p has.
      let kept = Has-filter (λ (q : List ℕ). is_named_beside scope s q) names p has in
      let found = audit.amiss p kept.0 in
      let at : component_of s p ≡ Some found.1 =
      subst (λ (q : List ℕ). component_of s q ≡ Some found.1) found.3
      (component_is s found.0 found.1 state found.2) in
      let beside : is_beside scope found.1 ≡ true =
      ap (is_beside_at scope) (sym at) ∙ kept.1 in
      (found.0, found.1, found.2, found.3, beside, found.4);
  others = λ m k of beside. elim (audit.others m k of) [
    | inl is ↦ inl is
    | inr has ↦ inr (filter-Has (λ (q : List ℕ). is_named_beside scope s q) names k.provider has
        (ap (is_beside_at scope) (component_is s m k state of) ∙ beside))
  ];
  ascend = Ascends-filter (λ (q : List ℕ). is_named_beside scope s q) (λ (q : List ℕ). q) names
      audit.ascend;
}
