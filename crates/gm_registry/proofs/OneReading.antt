-- Tables are of one state with one list of intents, and the same bytes.
use Rattle.gm_registry.proofs.Common.{◌≡◌, ◌∙◌, inl, inr, ℕ, ◌+◌, ◌<◌, true, ltb, List, [], ◌∷◌, map, refl, sym, ap, subst, arith, cases_Bool, ltb-false, IsPermutation-trans, IsPermutation-sym, Intent, Meta, Clear, Copy, Dirty, Patch, Mirror, Component, Has, Ascends, label_lt, Records, IsState, name, provider, Tables, IntentRow, intent_row, intent_rows, mirror_row, component_row, permuted_is, AreTablesOf, shown_intent, shown_patch, same_records, one_blob, rows_numbered}
use Rattle.std.specs.List.Sorted.{IsPermutation}
use Rattle.gm_rows.proofs.RowsSayRecords.{one_list as one_said}

-- ---- intents

below : (a b : ℕ) → a < b → label_lt (a ∷ []) (b ∷ []) ≡ true
below a b h = elim (cases_Bool (ltb a b)) [
  | inl low ↦ rw low refl
  | inr high ↦ absurd (omega (arith, ltb-false a b high))
]

abbrev place : IntentRow → List ℕ
place r = r.ord ∷ []

ord_is : (n : ℕ) (t : Intent) → (intent_row n t).ord ≡ n
ord_is n (Meta p) = refl
ord_is n (Clear p) = refl
ord_is n (Copy source target first end) = refl
ord_is n (Dirty p) = refl
ord_is n (Patch p first end) = refl

above : (m n : ℕ) (ts : List Intent) (r : IntentRow) → m < n → Has (intent_rows n ts) r
    → label_lt (m ∷ []) (place r) ≡ true
above m n [] r low has = absurd has
above m n (t ∷ ts) r low (inl same) =
    subst (λ (k : ℕ). label_lt (m ∷ []) (k ∷ []) ≡ true)
    (sym (ord_is n t) ∙ ap (λ (x : IntentRow). x.ord) same) (below m n low)
above m n (t ∷ ts) r low (inr later) = above m (n + 1) ts r (omega arith) later

ascends : (n : ℕ) (ts : List Intent) → Ascends place (intent_rows n ts)
ascends n [] = tt
ascends n (t ∷ ts) = (
  λ r has. subst (λ (k : ℕ). label_lt (k ∷ []) (place r) ≡ true) (sym (ord_is n t))
      (above n (n + 1) ts r (omega arith) has),
  ascends (n + 1) ts,
)

-- rows of intents say them
one_list : (ts is : List Intent) → intent_rows 1 ts ≡ intent_rows 1 is → ts ≡ is
one_list ts is e =
    one_said 1 ts is (sym (rows_numbered 1 ts) ∙ (ap (map shown_intent) e ∙ rows_numbered 1 is))

one_order : (rows : List IntentRow) (ts is : List Intent) → IsPermutation (intent_rows 1 ts) rows
    → IsPermutation (intent_rows 1 is) rows → ts ≡ is
one_order rows ts is first second =
    one_list ts is (permuted_is place (intent_rows 1 ts) (intent_rows 1 is)
    (IsPermutation-trans _ _ _ first (IsPermutation-sym _ _ second)) (ascends 1 ts)
    (ascends 1 is))

-- ---- records

one_table : {A B : Type 0} (row : A → B) → ((a b : A) → row a ≡ row b → a ≡ b)
    → (xs ys : List A) (rows : List B) → IsPermutation (map row xs) rows
    → IsPermutation (map row ys) rows → IsPermutation xs ys
one_table row inj xs ys rows first second =
    same_records row inj xs ys (IsPermutation-trans _ _ _ first (IsPermutation-sym _ _ second))

-- The rows of mirrors and of components are injective, as a law of the records says.
module _ (same_mirror : (a b : Mirror) → mirror_row a ≡ mirror_row b → a ≡ b)
    (same_component : (a b : Component) → component_row a ≡ component_row b → a ≡ b) where
  one_state : (t : Tables) (s r : Records) → IsState s → IsState r
      → IsPermutation (map mirror_row s.mirrors) t.mirrors
      → IsPermutation (map mirror_row r.mirrors) t.mirrors
      → IsPermutation (map component_row s.components) t.components
      → IsPermutation (map component_row r.components) t.components → s ≡ r
  one_state t s r is ir ms mr ks kr =
      let mirrors : s.mirrors ≡ r.mirrors =
      permuted_is name s.mirrors r.mirrors
      (one_table mirror_row same_mirror s.mirrors r.mirrors t.mirrors ms mr) is.mirrors_in_order
      ir.mirrors_in_order in
      let components : s.components ≡ r.components =
      permuted_is provider s.components r.components
      (one_table component_row same_component s.components r.components t.components ks kr)
      is.components_in_order ir.components_in_order in
      λ i. record { mirrors = mirrors i; components = components i }

  pub one_reading : (t : Tables) (s r : Records) (ts is : List Intent)
      (bytes others : List (List ℕ)) → AreTablesOf t s ts bytes → AreTablesOf t r is others
      → (s ≡ r) × (ts ≡ is) × (bytes ≡ others)
  one_reading t s r ts is bytes others first second = (
    one_state t s r first.state second.state first.mirrors second.mirrors first.components
        second.components,
    one_order t.intents ts is first.intents second.intents,
    one_blob bytes others first.readable.sectors second.readable.sectors
        (ap (map shown_patch) (sym first.patches ∙ second.patches)),
  )
