-- What a walk along a list has told so far of its items.
use Rattle.gm_losses.proofs.Common.{◌≡◌, ◌∙◌, ◌+◌, ◌<◌, ◌++◌, ◌∷◌, [], inl, inr, ℕ, List, Option, Some, None, refl, sym, ap, append-nil, length, take, get_or, filter_map, option_cases}
use Rattle.std.proofs.lemmas.List.{take_more}

push : {A B : Type 0} (f : A → Option B) (xs : List A) (x : A)
    → filter_map f (xs ++ x ∷ []) ≡ filter_map f xs ++ filter_map f (x ∷ [])
push f [] x = refl
push {B = B} f (y ∷ ys) x = elim (option_cases (f y)) [
  | inl e ↦ rw e (push f ys x)
  | inr e ↦ rw e.1 (ap (λ (l : List B). e.0 ∷ l) (push f ys x))
]

module _ {A B : Type 0} (f : A → Option B) (xs : List A) (i : ℕ) (x : A) (low : i < length xs)
    (is : x ≡ get_or xs i x) where
  so_far : filter_map f (take (i + 1) xs)
      ≡ filter_map f (take i xs) ++ filter_map f (x ∷ [])
  so_far =
      ap (filter_map f) (take_more xs i x low ∙ ap (λ (y : A). take i xs ++ y ∷ []) (sym is))
      ∙ push f (take i xs) x

  -- of this one nothing is told
  pub passed : (list : List B) → list ≡ filter_map f (take i xs) → f x ≡ None
      → list ≡ filter_map f (take (i + 1) xs)
  passed list was none =
      was ∙ sym (so_far ∙ (rw none (append-nil (filter_map f (take i xs)))))

  -- or that is
  pub told : (list more : List B) (it : B) → list ≡ filter_map f (take i xs) → f x ≡ Some it
      → more ≡ list ++ it ∷ [] → more ≡ filter_map f (take (i + 1) xs)
  told list more it was some more_is =
      more_is ∙ (ap (λ (l : List B). l ++ it ∷ []) was ∙ sym (so_far ∙ (rw some refl)))

-- what is told by equal tests is the same
pub told_same : {A B : Type 0} (f g : A → Option B) → ((x : A) → f x ≡ g x) → (xs : List A)
    → filter_map f xs ≡ filter_map g xs
told_same f g e [] = refl
told_same {B = B} f g e (x ∷ xs) = elim (option_cases (g x)) [
  | inl n ↦ rw (e x ∙ n, n) (told_same f g e xs)
  | inr s ↦ rw (e x ∙ s.1, s.1) (ap (λ (l : List B). s.0 ∷ l) (told_same f g e xs))
]
