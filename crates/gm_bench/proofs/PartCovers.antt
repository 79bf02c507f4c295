-- A command's part of the records says what its intents need.
use Rattle.gm_bench.proofs.Common.{◌≡◌, ◌∙◌, ℕ, true, List, Option, Some, None, refl, sym, ap, subst, Command, Intent, Meta, Component, IsOf, Records, IsState, provider, Has, same_is, member, one, Has-filter, name_of, is_member_of, Changed, changed_by, LeavesPart, IsOwn, Cover}

-- a component of the mirror that the command names is of that name
named_by : (o : Option (List ℕ)) (k : Component) → is_member_of o k ≡ true
    → (n : List ℕ) × (o ≡ Some n) × (k.mirror ≡ n)
named_by None k e = cc
named_by (Some n) k e = (n, refl, same_is k.mirror n e)

-- what a change leaves of a part says what the intents after the change need
module _ (c : Command) (part s w : Records) (ch : Changed) (leaves : LeavesPart part c s ch)
    (is : changed_by ch s ≡ w) (state : IsState w) where
  pub covers_after : (ts : List Intent) → ((p : List ℕ) → Has ts (Meta p) → IsOwn w c p)
      → Cover (changed_by ch part) w ts
  covers_after ts own = record {
    state = leaves.state (subst IsState (sym is) state);
    metas = λ p h m k o at.
        let mine = own p h in
        let j : Component = mine.0 in
        let j' = Has-filter (λ (x : Component). is_member_of (name_of c) x) w.components j mine.1 in
        let same : k ≡ j = one provider w.components state.components_in_order k j
        (member w m.name k o.component).0 j'.0 (at ∙ sym mine.2) in
        let n = named_by (name_of c) j j'.1 in
        let named : m.name ≡ n.0 = sym (member w m.name k o.component).1
        ∙ (ap (λ (x : Component). x.mirror) same ∙ n.2) in
        leaves.own m k (subst (λ (r : Records). IsOf r m k) (sym is) o) (n.1 ∙ ap Some (sym named));
  }
