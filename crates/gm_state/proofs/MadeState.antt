-- What sorted lists that fail the tests say of all orders of their records.
use Rattle.gm_state.proofs.Common.{◌≡◌, ◌∙◌, sym, ap, subst, Bool, true, false, List, true≢false, IsPermutation-sym, IsPermutation-trans, Mirror, Component, Records, IsState, IsStateOf, name, provider, is_state, sorted_is, permuted_is}
use Rattle.std.specs.List.Sorted.{IsPermutation, IsSortedByKey}
use Rattle.std.specs.Ordering.{nat_cmp}
use Rattle.std.specs.Cmp.Lexicographic.{slice_cmp}
use Rattle.gm_state.proofs.TestsTellRules.{is_state_from, is_state_tells}

-- the test of two lists is that of two equal ones
pub tested : (ms ms' : List Mirror) (ks ks' : List Component) (b : Bool)
    → is_state (record { mirrors = ms; components = ks }) ≡ b → ms ≡ ms' → ks ≡ ks'
    → is_state (record { mirrors = ms'; components = ks' }) ≡ b
tested ms ms' ks ks' b e p q =
    subst (λ (y : List Component). is_state (record { mirrors = ms'; components = y }) ≡ b) q
    (subst (λ (x : List Mirror). is_state (record { mirrors = x; components = ks }) ≡ b) p e)

-- if the records in order pass, they are a state
pub passed : (ms ms' : List Mirror) (ks ks' : List Component) (b : Bool)
    → b ≡ is_state (record { mirrors = ms; components = ks }) → b ≡ true → ms ≡ ms' → ks ≡ ks'
    → IsState (record { mirrors = ms'; components = ks' })
passed ms ms' ks ks' b e t p q =
    is_state_tells (record { mirrors = ms'; components = ks' })
    (tested ms ms' ks ks' true (sym e ∙ t) p q)

-- if the records in order fail the tests, they are no state in any order
pub refused : (ms sorted_ms : List Mirror) (ks sorted_ks : List Component)
    → IsPermutation ms sorted_ms → IsPermutation ks sorted_ks
    → IsSortedByKey name (slice_cmp nat_cmp) sorted_ms
    → IsSortedByKey provider (slice_cmp nat_cmp) sorted_ks
    → is_state (record { mirrors = sorted_ms; components = sorted_ks }) ≡ false → (s : Records)
    → IsStateOf ms ks s → ⊥
refused ms sorted_ms ks sorted_ks p q up up' e s r =
    let a : sorted_ms ≡ s.mirrors =
    sorted_is name sorted_ms s.mirrors up
    (IsPermutation-trans sorted_ms ms s.mirrors (IsPermutation-sym ms sorted_ms p)
    r.mirrors_are) r.state.mirrors_in_order in
    let b : sorted_ks ≡ s.components =
    sorted_is provider sorted_ks s.components up'
    (IsPermutation-trans sorted_ks ks s.components (IsPermutation-sym ks sorted_ks q)
    r.components_are) r.state.components_in_order in
    let f : is_state (record { mirrors = s.mirrors; components = s.components }) ≡ false =
    tested sorted_ms s.mirrors sorted_ks s.components false e a b in
    true≢false (sym (is_state_from s r.state) ∙ f)

-- two states with the same records are one
pub same_state : (ms : List Mirror) (ks : List Component) (s t : Records) → IsStateOf ms ks s
    → IsStateOf ms ks t → s ≡ t
same_state ms ks s t p q =
    let a : s.mirrors ≡ t.mirrors =
    permuted_is name s.mirrors t.mirrors
    (IsPermutation-trans s.mirrors ms t.mirrors (IsPermutation-sym ms s.mirrors p.mirrors_are)
    q.mirrors_are) p.state.mirrors_in_order q.state.mirrors_in_order in
    let b : s.components ≡ t.components =
    permuted_is provider s.components t.components
    (IsPermutation-trans s.components ks t.components
    (IsPermutation-sym ks s.components p.components_are) q.components_are)
    p.state.components_in_order q.state.components_in_order in
    ap (λ (x : List Mirror). let r : Records = record { mirrors = x; components = s.components } in
    r) a
    ∙ ap (λ (y : List Component). let r : Records = record {
      mirrors = t.mirrors;
      components = y;
    } in r) b
