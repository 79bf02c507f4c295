-- Numbers that count from one on without gaps.
use Rattle.gm_rows.proofs.Common.{◌≡◌, ◌⊎◌, inl, inr, ℕ, zero, suc, ◌+◌, ◌≤◌, List, [], ◌∷◌, length, refl, subst, arith, IsPermutation, cases_lt, IsPermutation-refl, IsPermutation-cons, IsPermutation-swap, IsPermutation-trans, length_permutation, Has, numbers_of}
use Rattle.std.proofs.lemmas.Bool.Decides.{eqb_tells}

-- so many numbers from n on
abbrev pub count_from : ℕ → ℕ → List ℕ
count_from n zero = []
count_from n (suc k) = n ∷ count_from (n + 1) k

-- no number comes twice
abbrev pub AreApart : List ℕ → Type 0
AreApart [] = Unit {0}
AreApart (n ∷ ns) = (Has ns n → ⊥) × AreApart ns

-- each is from 1 to this one
abbrev pub AreUpTo : ℕ → List ℕ → Type 0
AreUpTo high ns = (n : ℕ) → Has ns n → (1 ≤ n) × (n ≤ high)

-- so are those that count to it
pub counted_up_to : (n : ℕ) → AreUpTo n (numbers_of n)
counted_up_to zero k h = absurd h
counted_up_to (suc n) k (inl same) = (omega (arith, same), omega (arith, same))
counted_up_to (suc n) k (inr later) =
    let it = counted_up_to n k later in
    (it.0, omega (arith, it.1))

-- the others, if n is among them
record Others (n : ℕ) (ns : List ℕ) : Type 0 where
  rest : List ℕ
  among : IsPermutation (n ∷ rest) ns
  had : (m : ℕ) → Has rest m → Has ns m
  gone : Has rest n → ⊥
  apart : AreApart rest

first_gone : (n : ℕ) (ns : List ℕ) → AreApart (n ∷ ns) → Others n (n ∷ ns)
first_gone n ns apart = record {
  rest = ns;
  among = IsPermutation-refl (n ∷ ns);
  had = λ m h. inr h;
  gone = apart.0;
  apart = apart.1;
}

one_kept : (n m : ℕ) (ns : List ℕ) → (m ≡ n → ⊥) → AreApart (m ∷ ns) → Others n ns
    → Others n (m ∷ ns)
one_kept n m ns other apart it = record {
  rest = m ∷ it.rest;
  among = IsPermutation-trans (n ∷ m ∷ it.rest) (m ∷ n ∷ it.rest) (m ∷ ns)
      (IsPermutation-swap (n ∷ m ∷ it.rest) (m ∷ n ∷ it.rest) 0 1 (omega arith) (omega arith) refl)
      (IsPermutation-cons m (n ∷ it.rest) ns it.among);
  had = λ k h. elim h [ inl same ↦ inl same | inr later ↦ inr (it.had k later) ];
  gone = λ h. elim h [ inl same ↦ other same | inr later ↦ it.gone later ];
  apart = (λ h. apart.0 (it.had m h), it.apart);
}

others : (n : ℕ) (ns : List ℕ) → AreApart ns → (Has ns n → ⊥) ⊎ Others n ns
others n [] apart = inl (λ h. h)
others n (m ∷ ns) apart = elim (eqb_tells m n) [
  | inl same ↦ inr (subst (λ k. Others k (m ∷ ns)) same.1 (first_gone m ns apart))
  | inr other ↦ elim (others n ns apart.1) [
    | inl none ↦ inl (λ h. elim h [ inl same ↦ other.1 same | inr later ↦ none later ])
    | inr it ↦ inr (one_kept n m ns other.1 apart it)
  ]
]

-- what isn't the greatest is up to the one below it
lower : (high : ℕ) (ns : List ℕ) → AreUpTo (suc high) ns → (Has ns (suc high) → ⊥)
    → AreUpTo high ns
lower high ns up none n has = elim (cases_lt high n) [
  | inl above ↦
      let e : n ≡ suc high = omega (arith, above, (up n has).1) in
      absurd (none (subst (Has ns) e has))
  | inr below ↦ ((up n has).0, below)
]

no_more : (high : ℕ) (ns : List ℕ) → AreApart ns → AreUpTo high ns → length ns ≤ high
no_more zero [] apart up = omega arith
no_more zero (n ∷ ns) apart up = absurd (let it = up n (inl refl) in omega (arith, it.0, it.1))
no_more (suc high) ns apart up = elim (others (suc high) ns apart) [
  | inl none ↦ omega (arith, no_more high ns apart (lower high ns up none))
  | inr it ↦ omega (
    arith,
    no_more high it.rest it.apart
        (lower high it.rest (λ n has. up n (it.had n has)) it.gone),
    length_permutation (suc high ∷ it.rest) ns it.among,
  )
]

-- numbers from 1 to how many there are, none of which comes twice, are all of these
pub all_numbers : (n : ℕ) (ns : List ℕ) → length ns ≡ n → AreApart ns → AreUpTo n ns
    → IsPermutation (numbers_of n) ns
all_numbers zero [] many apart up = IsPermutation-refl []
all_numbers zero (m ∷ ns) many apart up = absurd (omega (arith, many))
all_numbers (suc n) ns many apart up = elim (others (suc n) ns apart) [
  | inl none ↦ absurd (omega (arith, many, no_more n ns apart (lower n ns up none)))
  | inr it ↦
      let fewer : length it.rest ≡ n =
      omega (arith, many, length_permutation (suc n ∷ it.rest) ns it.among) in
      let less = lower n it.rest (λ m has. up m (it.had m has)) it.gone in
      IsPermutation-trans (numbers_of (suc n)) (suc n ∷ it.rest) ns
      (IsPermutation-cons (suc n) (numbers_of n) it.rest
      (all_numbers n it.rest fewer it.apart less)) it.among
]
