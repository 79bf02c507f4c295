-- Lists of values in another order are those of records in another order.
use Rattle.gm_rows.proofs.Common.{◌≡◌, ◌∙◌, inl, inr, ℕ, ◌+◌, ◌<◌, List, [], ◌∷◌, map, length, get_or, set, refl, sym, ap, subst, arith, All, swap, length-map, map-set, get_or-map, AllByRecursion, IsPermutation, IsPermutation-refl, IsPermutation-trans, IsPermutation-swap, IsPermutation-keeps, All-permutation, All-from_recursion, Row, Has, numbered}

module _ {A B : Type 0} (f : A → B) where
  map-swap : (xs : List A) (i j : ℕ) → i < length xs → j < length xs
      → map f (swap xs i j) ≡ swap (map f xs) i j
  map-swap [] i j low high = refl
  map-swap (x ∷ xs) i j low high =
      let there : f (get_or (x ∷ xs) j x) ≡ get_or (map f (x ∷ xs)) j (f x) =
      sym (get_or-map f (x ∷ xs) j x (f x) high) in
      let here : f (get_or (x ∷ xs) i x) ≡ get_or (map f (x ∷ xs)) i (f x) =
      sym (get_or-map f (x ∷ xs) i x (f x) low) in
      map-set f (set (x ∷ xs) i (get_or (x ∷ xs) j x)) j (get_or (x ∷ xs) i x)
      ∙ (λ t. set ((map-set f (x ∷ xs) i (get_or (x ∷ xs) j x) ∙ ap (set (map f (x ∷ xs)) i) there)
      t) j (here t))

  -- they are the values of the records in that order
  pub unmapped : (xs : List A) (ys : List B) → IsPermutation (map f xs) ys
      → (zs : List A) × IsPermutation xs zs × (map f zs ≡ ys)
  unmapped xs ys h =
      IsPermutation-keeps (map f xs) (λ l. (zs : List A) × IsPermutation xs zs × (map f zs ≡ l))
      (xs, IsPermutation-refl xs, refl)
      (λ l i j low high it.
      let same : length l ≡ length it.0 = ap length (sym it.2) ∙ length-map it.0 f in
      let low' : i < length it.0 = omega arith in
      let high' : j < length it.0 = omega arith in
      let next = IsPermutation-trans xs it.0 (swap it.0 i j) it.1
      (IsPermutation-swap it.0 (swap it.0 i j) i j low' high' refl) in
      (swap it.0 i j, next, map-swap it.0 i j low' high' ∙ ap (λ k. swap k i j) it.2)) ys h

  pub map_one : ((a b : A) → f a ≡ f b → a ≡ b) → (xs ys : List A) → map f xs ≡ map f ys → xs ≡ ys
  map_one inj [] [] e = refl
  map_one inj [] (y ∷ ys) e = cc
  map_one inj (x ∷ xs) [] e = cc
  map_one inj (x ∷ xs) (y ∷ ys) e =
      let heads : f x ≡ f y = cc in
      let tails : map f xs ≡ map f ys = cc in
      let h = inj x y heads in
      let t = map_one inj xs ys tails in
      cc

  -- records whose values are the same in another order are so themselves
  pub same_records : ((a b : A) → f a ≡ f b → a ≡ b) → (xs ys : List A)
      → IsPermutation (map f xs) (map f ys) → IsPermutation xs ys
  same_records inj xs ys h =
      let it = unmapped xs (map f ys) h in
      subst (IsPermutation xs) (map_one inj it.0 ys it.2) it.1

all_has : {A : Type 0} (P : A → Type 0) (xs : List A) → ((x : A) → Has xs x → P x)
    → AllByRecursion P xs
all_has P [] each = tt
all_has P (x ∷ xs) each = (each x (inl refl), all_has P xs (λ y has. each y (inr has)))

-- what holds of each holds of all in another order
pub all_moved : {A : Type 0} (P : A → Type 0) (xs ys : List A) → IsPermutation xs ys
    → ((x : A) → Has xs x → P x) → All P ys
all_moved P xs ys h each = All-permutation P xs ys h (All-from_recursion P xs (all_has P xs each))

pub all_each : {A : Type 0} (P : A → Type 0) (xs : List A) → ((x : A) → Has xs x → P x) → All P xs
all_each P xs each = All-from_recursion P xs (all_has P xs each)

-- rows of records that no number stands in
pub numbered_map : {A : Type 0} (f : A → Row) (n : ℕ) (xs : List A)
    → numbered (λ _ x. f x) n xs ≡ map f xs
numbered_map f n [] = refl
numbered_map f n (x ∷ xs) = ap (λ more. f x ∷ more) (numbered_map f (n + 1) xs)
