-- The components of a copy are found by their names.
use Rattle.gm_state.proofs.Common.{◌≡◌, ◌≢◌, ◌∙◌, ℕ, ◌≤◌, List, sym, ap, subst, Some, None, same_label, Mirror, Component, InSync, Has, Records, IsState, name, provider, component_of, mirror_of, IsOf, same_from, same_is, Has-filter, filter-Has, found, find_one, IsCopyWithin}
use Rattle.gm_state.proofs.FoundRecords.{named}

module _ (s : Records) where
  pub member_is : (m : Mirror) (k : Component) → IsOf s m k
      → Has s.components k × (k.mirror ≡ m.name)
  member_is m k of =
      let it = Has-filter (λ (j : Component). same_label j.mirror m.name) s.components k
      of.component in
      (it.0, same_is k.mirror m.name it.1)

  pub member_from : (m : Mirror) (k : Component) → Has s.mirrors m → Has s.components k
      → k.mirror ≡ m.name → IsOf s m k
  member_from m k has_m has_k is =
      record {
        mirror = has_m;
        component = filter-Has (λ (j : Component). same_label j.mirror m.name) s.components k has_k
            (same_from k.mirror m.name is);
      }

  pub component_named : (p : List ℕ) (k : Component) → component_of s p ≡ Some k
      → Has s.components k × (k.provider ≡ p)
  component_named p k is =
      let it = found (λ (j : Component). same_label j.provider p) s.components k is in
      (it.0, same_is k.provider p it.1)

  -- a component and its mirror are found by their names
  module _ (state : IsState s) (m : Mirror) (k : Component) (of : IsOf s m k) where
    pub component_found : (p : List ℕ) → k.provider ≡ p → component_of s p ≡ Some k
    component_found p on = subst (λ q. component_of s q ≡ Some k) on
        (find_one provider s.components state.components_in_order k (member_is m k of).0)

    pub home_found : mirror_of s k.mirror ≡ Some m
    home_found = subst (λ n. mirror_of s n ≡ Some m) (sym (member_is m k of).1)
        (find_one name s.mirrors state.mirrors_in_order m of.mirror)

  -- what a copy needs is found
  module _ (state : IsState s) (source target : List ℕ) (first end : ℕ)
      (w : IsCopyWithin s source target first end) where
    pub source_found : component_of s source ≡ Some w.from
    source_found = component_found state w.mirror w.from w.from_is source w.source_is

    pub target_found : component_of s target ≡ Some w.to
    target_found = component_found state w.mirror w.to w.to_is target w.target_is

    pub mirror_found : mirror_of s w.to.mirror ≡ Some w.mirror
    mirror_found = home_found state w.mirror w.to w.to_is

    pub no_source : component_of s source ≡ None → ⊥
    no_source none = let e : Some w.from ≡ None = sym source_found ∙ none in cc

    pub no_target : component_of s target ≡ None → ⊥
    no_target none = let e : Some w.to ≡ None = sym target_found ∙ none in cc

    pub no_mirror : (to : Component) → component_of s target ≡ Some to
        → mirror_of s to.mirror ≡ None → ⊥
    no_mirror to is none =
        let e : Some w.to ≡ Some to = sym target_found ∙ is in
        let same : w.to ≡ to = cc in
        let f : Some w.mirror ≡ None =
        sym mirror_found ∙ (ap (λ (k : Component). mirror_of s k.mirror) same ∙ none) in
        cc

    pub lent : (from to : Component) (m : Mirror) → component_of s source ≡ Some from
        → component_of s target ≡ Some to → mirror_of s to.mirror ≡ Some m
        → (from.mirror ≡ to.mirror) × (from.provider ≢ to.provider) × (from.disk ≡ InSync)
        × (first ≤ end) × (end ≤ m.data_sectors)
    lent from to m from_is to_is m_is =
        let e : Some w.from ≡ Some from = sym source_found ∙ from_is in
        let f : Some w.to ≡ Some to = sym target_found ∙ to_is in
        let from_same : w.from ≡ from = cc in
        let to_same : w.to ≡ to = cc in
        let g : Some w.mirror ≡ Some m =
        sym mirror_found ∙ (ap (λ (k : Component). mirror_of s k.mirror) to_same ∙ m_is) in
        let m_same : w.mirror ≡ m = cc in
        let one_mirror : w.from.mirror ≡ w.to.mirror =
        (member_is w.mirror w.from w.from_is).1 ∙ sym (member_is w.mirror w.to w.to_is).1 in (
          ap (λ (k : Component). k.mirror) (sym from_same)
              ∙ (one_mirror ∙ ap (λ (k : Component). k.mirror) to_same),
          (λ same. w.other (sym w.source_is ∙ (ap (λ (k : Component). k.provider) from_same
              ∙ (same ∙ (ap (λ (k : Component). k.provider) (sym to_same) ∙ w.target_is))))),
          ap (λ (k : Component). k.disk) (sym from_same) ∙ w.active,
          w.ordered,
          subst (λ (n : Mirror). end ≤ n.data_sectors) m_same w.within,
        )

  -- and what is found makes a copy
  pub copy_is : (source target : List ℕ) (first end : ℕ) (from to : Component) (m : Mirror)
      → component_of s source ≡ Some from → component_of s target ≡ Some to
      → mirror_of s to.mirror ≡ Some m
      → (from.mirror ≡ to.mirror) × (from.provider ≢ to.provider) × (from.disk ≡ InSync)
      × (first ≤ end) × (end ≤ m.data_sectors) → IsCopyWithin s source target first end
  copy_is source target first end from to m from_is to_is m_is lends =
      let f = component_named source from from_is in
      let t = component_named target to to_is in
      let n = named s to.mirror m m_is in
      record {
        mirror = m;
        to = to;
        from = from;
        to_is = member_from m to n.0 t.0 (sym n.1);
        from_is = member_from m from n.0 f.0 (lends.0 ∙ sym n.1);
        target_is = t.1;
        source_is = f.1;
        other = λ same. lends.1 (f.1 ∙ (same ∙ sym t.1));
        active = lends.2;
        ordered = lends.3;
        within = lends.4;
      }
