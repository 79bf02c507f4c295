-- The row that a query shows which sorts what it finds, and shows the first alone.
use Rattle.gm_registry.proofs.Common.{◌≡◌, inl, inr, Bool, false, List, [], ◌∷◌, map, take, get_or, IsPermutation, refl, subst₂, ap, ◌∙◌, arith, IsStrictWeakOrder, IsSortedBy, IsPermutation-sym, Contains-permutation, sorted_far, Row, column, Output, Value, contains_had, mapped_from, has_mapped, Has, IsFirstBy, has_from, stands_from, stands_permuted}
use Rattle.gm_registry.proofs.FoundReply.{nothing_found}

-- the value that it is sorted by
abbrev pub key : Output → Value
key o = column o.0 0

module _ (before : Value → Value → Bool)
    (weak : IsStrictWeakOrder (λ (x y : Output). before (key x) (key y))) {A : Type 0}
    (value : A → Value) where
  -- each is sorted by its value, and shows it
  abbrev out : A → Output
  out x = (value x ∷ [], value x ∷ [])

  pub first_shown : (all : List A) (rows : List Row) (ordered : List Output)
      → IsPermutation (map out all) ordered
      → IsSortedBy (λ (x y : Output). before (key x) (key y)) ordered
      → rows ≡ take 1 (map (λ (o : Output). o.1) ordered) → IsFirstBy before value all rows
  first_shown all rows [] among up shows = inl (nothing_found out all among, shows)
  first_shown all rows (o ∷ more) among up shows =
      let back = stands_permuted (o ∷ more) (map out all) o (IsPermutation-sym _ _ among)
      (inl refl) in
      let from = mapped_from out all o back in
      let first : (y : A) → Has all y → before (value y) (value from.0) ≡ false = λ y has.
      let it = Contains-permutation (map out all) (o ∷ more) (out y) among
      (contains_had (map out all) (out y) (has_mapped out all y (stands_from all y has))) in
      let far : before (key (get_or (o ∷ more) it.0 (out y))) (key o) ≡ false =
      sorted_far (λ (x z : Output). before (key x) (key z)) weak (o ∷ more) up 0 it.0 (out y)
      (omega arith) it.1 in
      subst₂ (λ (x z : Output). before (key z) (key x) ≡ false) from.2 it.2 far in
      inr (
        from.0,
        has_from all from.0 from.1,
        first,
        shows ∙ ap (λ (x : Output). x.1 ∷ []) from.2,
      )
