-- How many of those that pass one test pass another.
use Rattle.gm_state.proofs.Common.{◌≡◌, ◌∙◌, ◌&&◌, inl, inr, Bool, cond, List, [], ◌∷◌, filter, length, refl, ap, sym, cases_Bool, count_by}
use Rattle.std.proofs.lemmas.List.Sums.{length-filter}

filter_both : {X : Type 0} (q p : X → Bool) (xs : List X)
    → filter (λ x. q x && p x) xs ≡ filter p (filter q xs)
filter_both q p [] = refl
filter_both q p (x ∷ xs) =
    let more = filter_both q p xs in
    elim (cases_Bool (q x)) [
      | inl e ↦ rw e (ap (λ r. cond (p x) (x ∷ r) r) more)
      | inr e ↦ rw e more
    ]

pub count_among : {X : Type 0} (q p : X → Bool) (xs : List X)
    → count_by (λ x. q x && p x) xs ≡ count_by p (filter q xs)
count_among q p xs =
    sym (length-filter _ xs) ∙ (ap length (filter_both q p xs) ∙ length-filter p (filter q xs))
