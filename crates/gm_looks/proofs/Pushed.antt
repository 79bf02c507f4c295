-- What is in a list that was pushed to.
use Rattle.gm_looks.proofs.Common.{inl, inr, refl, List, [], ◌∷◌, ◌++◌, Has}

pub has_left : {X : Type 0} (xs : List X) (x q : X) → Has xs q → Has (xs ++ x ∷ []) q
has_left [] x q h = absurd h
has_left (y ∷ ys) x q (inl e) = inl e
has_left (y ∷ ys) x q (inr h) = inr (has_left ys x q h)

pub has_last : {X : Type 0} (xs : List X) (x : X) → Has (xs ++ x ∷ []) x
has_last [] x = inl refl
has_last (y ∷ ys) x = inr (has_last ys x)
