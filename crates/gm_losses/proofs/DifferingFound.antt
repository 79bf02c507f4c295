-- How the data of two images differ, as a function, and when two looks at them tell the same.
use Rattle.gm_losses.proofs.Common.{◌≡◌, ◌≢◌, ◌∙◌, inl, inr, ℕ, zero, suc, ◌<◌, ◌≤◌, ◌==◌, nat_lt, false, if◌then◌else◌, refl, sym, ap, subst, arith, List, [], ◌∷◌, Option, None, Some, cases_Bool, cases_lt, cases_order, lt-ltb, ltb-true, eq-eqb, eqb-true, bytes_eq, same_from, same_is, not_both, Image, Sizes, Same, Has, count_differing, count_equal, IsDifference, Difference, reach_of, data_of, difference_as, first_differing, beside_source, beside_first, is_compared, left_as, adopted_as, adopted_of, sources_among, Group, Loss, Differs}
use Rattle.std.specs.Option.{option_or}
use Rattle.gm_taste.specs.declared.tasted.Member.{Member}
use Rattle.gm_losses.proofs.Walked.{told_same}

module _ (a b : ℕ → List ℕ) where
  abbrev first : ℕ → ℕ
  first n = first_differing a b n

  within : (n : ℕ) → first n ≤ n
  within zero = omega arith
  within (suc n) = elim (cases_Bool (nat_lt (first n) n)) [
    | inl e ↦ rw e (let w = within n in omega (arith, w))
    | inr e ↦ elim (cases_Bool (bytes_eq (a n) (b n))) [
      | inl s ↦ rw (e, s) (omega arith)
      | inr s ↦ rw (e, s) (omega arith)
    ]
  ]

  -- none before it differs
  at_end : (n : ℕ) → nat_lt (first n) n ≡ false → n ≤ first n
  at_end n e = elim (cases_lt (first n) n) [
    | inl low ↦ absurd (not_both (nat_lt (first n) n) (lt-ltb (first n) n low) e)
    | inr high ↦ high
  ]

  equal_before : (n k : ℕ) → k < first n → a k ≡ b k
  equal_before zero k low = absurd (omega (arith, low))
  equal_before (suc n) k low = elim (cases_Bool (nat_lt (first n) n)) [
    | inl e ↦ equal_before n k (rw e at low)
    | inr e ↦ elim (cases_Bool (bytes_eq (a n) (b n))) [
      | inl s ↦ (let few : k < suc n = rw (e, s) at low in elim (cases_lt k n) [
        | inl below ↦ equal_before n k (let h = at_end n e in omega (arith, h, below))
        | inr here ↦ (let is : n ≡ k = omega (arith, few, here) in
            subst (λ (j : ℕ). a j ≡ b j) is (same_is (a n) (b n) s))
      ])
      | inr s ↦ (let few : k < n = rw (e, s) at low in
          equal_before n k (let h = at_end n e in omega (arith, h, few)))
    ]
  ]

  differs_there : (n : ℕ) → first n < n → a (first n) ≢ b (first n)
  differs_there zero low = absurd (omega (arith, low))
  differs_there (suc n) low = elim (cases_Bool (nat_lt (first n) n)) [
    | inl e ↦ rw e (differs_there n (ltb-true (first n) n e))
    | inr e ↦ elim (cases_Bool (bytes_eq (a n) (b n))) [
      | inl s ↦ absurd (let few : suc n < suc n = rw (e, s) at low in omega (arith, few))
      | inr s ↦ rw (e, s) (λ same. not_both (bytes_eq (a n) (b n)) (same_from (a n) (b n) same) s)
    ]
  ]

  -- so that is how the first n differ
  abbrev pub difference : ℕ → Difference
  difference n = record { sectors = count_differing a b n; first = first_differing a b n }

  pub is_difference : (n : ℕ) → IsDifference a b n (difference n)
  is_difference n = record {
    sectors = refl;
    equal = equal_before n;
    first = differs_there n;
  }

  -- and whoever tells that they do tells the same first one
  one_first : (n : ℕ) (d : Difference) → IsDifference a b n d → 0 < d.sectors
      → d.first ≡ first n
  one_first n d is some = elim (cases_order d.first (first n)) [
    | inl e ↦ e
    | inr (inl low) ↦ absurd (is.first (let w = within n in omega (arith, w, low))
        (equal_before n d.first low))
    | inr (inr low) ↦ elim (cases_lt (first n) n) [
      | inl few ↦ absurd (differs_there n few (is.equal (first n) low))
      | inr all ↦ absurd (let none = count_equal a b n (λ k few. equal_before n k
          (omega (arith, few, all))) in let told = is.sectors in omega (arith, none, told, some))
    ]
  ]

  pub told_as : (p : List ℕ) (n : ℕ) (d : Difference) → IsDifference a b n d
      → difference_as p d.sectors d.first
      ≡ difference_as p (count_differing a b n) (first_differing a b n)
  told_as p n d is = elim (cases_lt 0 d.sectors) [
    | inl some ↦ ap (λ (k : ℕ). difference_as p k d.first) is.sectors
        ∙ ap (λ (k : ℕ). difference_as p (count_differing a b n) k) (one_first n d is some)
    | inr none ↦ (let here : d.sectors ≡ 0 = omega (arith, none) in
        let there : count_differing a b n ≡ 0 = sym is.sectors ∙ here in
        ap (λ (k : ℕ). difference_as p k d.first) here
        ∙ sym (ap (λ (k : ℕ). difference_as p k (first_differing a b n)) there))
  ]

-- what is told of some sectors
pub some_told : (p : List ℕ) (n k : ℕ) (x : Loss) → difference_as p n k ≡ Some x
    → (0 < n) × (x ≡ Differs p n k)
some_told p n k x e = elim (cases_Bool (n == 0)) [
  | inl none ↦ (let is : None ≡ Some x = rw none at e in absurd (let never : ⊥ = cc in never))
  | inr some ↦ (let is : Some (Differs p n k) ≡ Some x = rw some at e in
      let same : x ≡ Differs p n k = cc in
      elim (cases_lt 0 n) [
        | inl few ↦ (few, same)
        | inr low ↦ absurd (not_both (n == 0) (eq-eqb n 0 (omega (arith, low))) some)
      ])
]

pub told_some : (p : List ℕ) (n k : ℕ) → 0 < n → difference_as p n k ≡ Some (Differs p n k)
told_some p n k some = elim (cases_Bool (n == 0)) [
  | inl none ↦ absurd (let is = eqb-true n 0 none in omega (arith, is, some))
  | inr e ↦ rw e refl
]

-- what holds the same differs as much
module _ (a b a' b' : ℕ → List ℕ) (e : (k : ℕ) → a k ≡ a' k) (f : (k : ℕ) → b k ≡ b' k) where
  count_same : (n : ℕ) → count_differing a b n ≡ count_differing a' b' n
  count_same zero = refl
  count_same (suc n) = rw (e n, f n, count_same n) refl

  first_same : (n : ℕ) → first_differing a b n ≡ first_differing a' b' n
  first_same zero = refl
  first_same (suc n) = rw (e n, f n, first_same n) refl

-- ---- members

module _ (size : Sizes) (seen : Image) where
  -- one beside itself
  pub beside_itself : (b x : Member) → b.provider ≡ x.provider
      → beside_source size seen b x ≡ None
  beside_itself b x e =
      let n = reach_of size b.provider x.provider (data_of b.metadata) in
      let none : count_differing (seen b.provider) (seen x.provider) n ≡ 0 =
      count_equal (seen b.provider) (seen x.provider) n
      (λ k few. ap (λ (p : List ℕ). seen p k) e) in
      rw none refl

  -- one of the sources, and all of them if what is told beside each is the same
  pub first_told : (bs : List Member) (y : Member) (x : Loss)
      → beside_first size seen bs y ≡ Some x
      → (b : Member) × Has bs b × (beside_source size seen b y ≡ Some x)
  first_told [] y x e = absurd (let never : ⊥ = cc in never)
  first_told (b ∷ bs) y x e = (b, inl refl, e)

  pub told_first : (bs : List Member) (y b : Member) (v : Option Loss) → Has bs b
      → ((c : Member) → Has bs c → beside_source size seen c y ≡ v)
      → beside_first size seen bs y ≡ v
  told_first [] y b v h each = absurd h
  told_first (c ∷ cs) y b v h each = each c (inl refl)

  -- ---- what was only read tells the same

  module _ (size' : Sizes) (y : Image) (sizes : size' ≡ size) (same : Same y seen) where
    source_same : (b x : Member) → beside_source size' y b x ≡ beside_source size seen b x
    source_same b x =
        let n = reach_of size b.provider x.provider (data_of b.metadata) in
        ap (λ (z : Sizes). beside_source z y b x) sizes
        ∙ (ap (λ (k : ℕ). difference_as x.provider k (first_differing (y b.provider)
        (y x.provider) n)) (count_same (y b.provider) (y x.provider) (seen b.provider)
        (seen x.provider) (same b.provider) (same x.provider) n)
        ∙ ap (λ (k : ℕ). difference_as x.provider (count_differing (seen b.provider)
        (seen x.provider) n) k) (first_same (y b.provider) (y x.provider) (seen b.provider)
        (seen x.provider) (same b.provider) (same x.provider) n))

    beside_same : (bs : List Member) (x : Member)
        → beside_first size' y bs x ≡ beside_first size seen bs x
    beside_same [] x = refl
    beside_same (b ∷ bs) x = source_same b x

    pub adopted_same : (xs : List Member) (ps : List (List ℕ)) (sources : List Member)
        (x : Member) → adopted_as size' y xs ps sources x ≡ adopted_as size seen xs ps sources x
    adopted_same xs ps sources x =
        ap (λ (o : Option Loss). option_or (left_as xs ps sources x)
        (if is_compared xs ps x then o else None)) (beside_same sources x)

    pub among_same : (ps : List (List ℕ)) (o : Option Group)
        → adopted_of size' y ps o ≡ adopted_of size seen ps o
    among_same ps None = refl
    among_same ps (Some g) =
        let xs = g.members.items in
        let sources = sources_among xs ps in
        told_same (adopted_as size' y xs ps sources) (adopted_as size seen xs ps sources)
        (adopted_same xs ps sources) xs
