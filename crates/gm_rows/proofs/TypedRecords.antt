-- The records of a state, and the intents that are readable for it, are values of the code.
use Rattle.gm_rows.proofs.Common.{◌≡◌, ◌≢◌, ℕ, ◌<◌, ◌^◌, IsTrue, List, Option, Some, None, refl, sym, subst, arith, same_label, is_label, Intent, Meta, Clear, Copy, Dirty, Patch, Mirror, Component, Has, Records, IsState, members, component_of, IsOf, IsReadable, IsMirrorValue, IsComponentValue, IsIntentValue}
use Rattle.std.specs.Prelude.{IsSomeAnd}
use Rattle.gm_state.specs.declared.records.Disk.TheVariants.{InSync}
use Rattle.gm_lists.proofs.Order.{same_from}
use Rattle.gm_lists.proofs.Lists.{filter-Has}
use Rattle.gm_state.proofs.CopyFound.{component_named, member_is}

module _ (s : Records) (state : IsState s) where
  few_sectors : (m : Mirror) → Has s.mirrors m → m.data_sectors < 2 ^ 32
  few_sectors m has =
      let rules = state.each m has in
      let k = rules.active.0 in
      let low = rules.sizes k rules.active.1 in
      let high = rules.limits k rules.active.1 in
      omega (arith, low, high)

  pub mirror_value : (m : Mirror) → Has s.mirrors m → IsMirrorValue m
  mirror_value m has =
      let rules = state.each m has in
      let all = rules.all in
      record { fits = rules.fits; all = omega (arith, all); data_sectors = few_sectors m has }

  pub component_value : (k : Component) → Has s.components k → IsComponentValue k
  component_value k has =
      let home = state.homes k has in
      let m = home.0 in
      let rules = state.each m home.1 in
      let mine : Has (members s.components m.name) k =
      filter-Has (λ (j : Component). same_label j.mirror m.name) s.components k has
      (same_from k.mirror m.name (sym home.2)) in
      let fits = rules.fits in
      let behind = rules.syncids k mine in
      let below = rules.held k mine in
      let few = few_sectors m home.1 in
      let limit = rules.limits k mine in
      record {
        fits = rules.members_fit k mine;
        mirror = subst (λ n. IsTrue (is_label n)) home.2 fits.name;
        syncid = omega (arith, behind, fits.syncid);
        held = omega (arith, below, few);
        sectors = omega (arith, limit);
      }

  label_of : (k : Component) → Has s.components k → IsTrue (is_label k.provider)
  label_of k has = (component_value k has).fits.provider

  named_label : (p : List ℕ) (o : Option Component) → component_of s p ≡ o → o ≢ None
      → IsTrue (is_label p)
  named_label p None is some = absurd (some refl)
  named_label p (Some k) is some =
      let it = component_named s p k is in
      subst (λ n. IsTrue (is_label n)) it.1 (label_of k it.0)

  of_label : (m : Mirror) (k : Component) (p : List ℕ) → IsOf s m k → k.provider ≡ p
      → IsTrue (is_label p)
  of_label m k p of is = subst (λ n. IsTrue (is_label n)) is (label_of k (member_is s m k of).0)

  pub intent_value : (t : Intent) → IsReadable s t → IsIntentValue t
  intent_value (Meta p) there = named_label p (component_of s p) refl there
  intent_value (Clear p) none = none.0
  intent_value (Copy source target first end) w =
      let few = few_sectors w.mirror w.to_is.mirror in
      let ordered = w.ordered in
      let within = w.within in (
        of_label w.mirror w.from source w.from_is w.source_is,
        of_label w.mirror w.to target w.to_is w.target_is,
        omega (arith, ordered, within, few),
        omega (arith, within, few),
      )
  intent_value (Dirty p) active = named_label p (component_of s p) refl (λ none.
      let f : IsSomeAnd None (λ (k : Component). k.disk ≡ InSync) =
      subst (λ (o : Option Component). IsSomeAnd o (λ (k : Component). k.disk ≡ InSync)) none
      active in f)
  intent_value (Patch p first end) w =
      let few = few_sectors w.mirror w.on_is.mirror in
      let ordered = w.ordered in
      let within = w.within in (
        of_label w.mirror w.on p w.on_is w.provider_is,
        omega (arith, ordered, within, few),
        omega (arith, within, few),
      )
