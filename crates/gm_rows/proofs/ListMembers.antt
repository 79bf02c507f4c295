-- Members of lists, in the words of the rows and in those of the records.
use Rattle.gm_rows.proofs.Common.{inl, inr, List, [], ◌∷◌, sym, Contains-permutation, Has}
use Rattle.std.proofs.Common.{IsPermutation}
use Rattle.sqlite_rules.specs.Lists.{Has as Stands}
use Rattle.sqlite_rules.proofs.ListLemmas.{has_contained, contains_had}

pub has_from : {X : Type 0} (xs : List X) (x : X) → Stands xs x → Has xs x
has_from [] x h = absurd h
has_from (y ∷ ys) x (inl same) = inl (sym same)
has_from (y ∷ ys) x (inr later) = inr (has_from ys x later)

pub stands_from : {X : Type 0} (xs : List X) (x : X) → Has xs x → Stands xs x
stands_from [] x h = absurd h
stands_from (y ∷ ys) x (inl same) = inl (sym same)
stands_from (y ∷ ys) x (inr later) = inr (stands_from ys x later)

pub stands_permuted : {X : Type 0} (xs ys : List X) (x : X) → IsPermutation xs ys → Stands xs x
    → Stands ys x
stands_permuted xs ys x same h =
    has_contained ys x (Contains-permutation xs ys x same (contains_had xs x h))
