-- What the refusals of advance rule out: the component is SYNCHRONIZING, and another one of its
-- mirror lends.
use Rattle.gm_changes.proofs.Common.{◌≡◌, ◌≢◌, ◌∙◌, inl, inr, ℕ, ◌<◌, ◌≤◌, ◌+◌, ◌^◌, ◌&&◌, Bool, true, false, not, refl, sym, ap, subst, arith, List, [], ◌∷◌, Option, Some, option_map, list_any, and_parts, not-false, not-true, same_label, Mirror, Component, InSync, Copying, Has, Records, IsState, members, provider, mirror_of, component_of, held_of, is_active, state_by, IsBest, IsSource, IsSourceOf, lends_to, same_from, same_is, differ, one, Has-filter, filter-Has, found, none_any, not_both, option_cases, is_there_and, is_on_any, is_synchronizing, fails_there, provider_at, rules_of, on_one, active_is}
use Rattle.gm_metadata.specs.declared.flags.MirrorFlags.{MirrorFlags}
use Rattle.gm_state.specs.declared.records.Disk.{Disk}
use Rattle.gm_state.specs.declared.records.Disk.TheVariants.{Inactive}

copying : (flags : MirrorFlags) (d : Disk) → is_synchronizing (state_by flags d) ≡ true
    → (forced : Bool) × (held : ℕ) × (d ≡ Copying forced held)
copying flags InSync e = cc
copying flags Inactive e = cc
copying flags (Copying forced held) e = (forced, held, refl)

module _ (s : Records) (n p : List ℕ) (state : IsState s) (m : Mirror) (k : Component)
    (at_name : mirror_of s n ≡ Some m) (at : component_of s p ≡ Some k) (home : k.mirror ≡ n) where
  in_all : Has s.components k
  in_all = (found (λ (c : Component). same_label c.provider p) s.components k at).0

  mine : Has (members s.components n) k
  mine = filter-Has (λ (c : Component). same_label c.mirror n) s.components k in_all
      (same_from k.mirror n home)

  -- it is being filled
  pub is_copying : is_there_and (mirror_of s n)
      (λ m. list_any (λ k. is_on_any (p ∷ []) k && not (is_synchronizing (state_by m.flags k.disk)))
      (members s.components n)) ≡ false
      → (forced : Bool) × (held : ℕ) × (k.disk ≡ Copying forced held)
  is_copying off =
      let none = fails_there (mirror_of s n) m
      (λ m. list_any (λ k. is_on_any (p ∷ []) k && not
      (is_synchronizing (state_by m.flags k.disk))) (members s.components n)) at_name off in
      let one : (is_on_any (p ∷ []) k && not (is_synchronizing (state_by m.flags k.disk))) ≡ false =
      none_any (λ k. is_on_any (p ∷ []) k && not (is_synchronizing (state_by m.flags k.disk)))
      (members s.components n) none k mine in
      let here : not (is_synchronizing (state_by m.flags k.disk)) ≡ false =
      rw (on_one k p (provider_at s p k at)) at one in
      copying m.flags k.disk (not-false _ here)

  -- what it holds and a stretch more is no great number
  pub held_small : held_of k.disk + 256 < 2 ^ 32
  held_small =
      let r = rules_of s n m state at_name in
      let a : held_of k.disk < m.data_sectors = r.held k mine in
      let b : m.data_sectors + 1 ≤ k.sectors = r.sizes k mine in
      let c : k.sectors ≤ 1048576 = r.limits k mine in
      omega arith

  -- an ACTIVE component of the mirror, if that is another one
  pub lender : k.disk ≢ InSync → (r : Option (List ℕ)) → IsSource s p r
      → (j : Component) × (r ≡ Some j.provider) × Has (members s.components n) j × (j.disk ≡ InSync)
      × (j.provider ≢ p)
  lender idle r source =
      let of : IsSourceOf s (Some k) r =
      subst (λ (o : Option Component). IsSourceOf s o r) at source in
      elim (option_cases of.0) [
        | inl none ↦
            let nobody : (j : Component) → Has s.components j × (lends_to k j ≡ true)
            → ⊥ = subst (λ (o : Option Component). IsBest (λ j. Has s.components j
            × (lends_to k j ≡ true)) o) none of.1 in
            let a = (rules_of s n m state at_name).active in
            let there = Has-filter (λ (c : Component). same_label c.mirror n) s.components a.0
            a.1 in
            let apart : a.0.provider ≢ k.provider =
            λ e. idle (ap (λ (c : Component). c.disk)
            (one provider s.components state.components_in_order k a.0 in_all there.0 (sym e))
            ∙ a.2) in
            absurd (nobody a.0 (
              there.0,
              rw (
                same_from a.0.mirror k.mirror (same_is a.0.mirror n there.1 ∙ sym home),
                a.2,
                differ a.0.provider k.provider apart,
              ) refl,
            ))
        | inr some ↦
            let j : Component = some.0 in
            let best : IsBest (λ j. Has s.components j × (lends_to k j ≡ true)) (Some j) =
            subst (λ (o : Option Component). IsBest (λ j. Has s.components j
            × (lends_to k j ≡ true)) o) some.1 of.1 in
            let parts = and_parts (same_label j.mirror k.mirror)
            (is_active j.disk && not (same_label j.provider k.provider)) best.0.1 in
            let more = and_parts (is_active j.disk) (not (same_label j.provider k.provider))
            parts.1 in (
              j,
              of.2 ∙ ap (option_map provider) some.1,
              filter-Has (λ (c : Component). same_label c.mirror n) s.components j best.0.0
                  (same_from j.mirror n (same_is j.mirror k.mirror parts.0 ∙ home)),
              active_is j.disk more.0,
              λ e. not_both (same_label j.provider k.provider)
                  (same_from j.provider k.provider (e ∙ sym (provider_at s p k at)))
                  (not-true _ more.1),
            )
      ]
