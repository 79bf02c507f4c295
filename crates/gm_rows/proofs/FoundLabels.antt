-- What is found of labels one after another.
use Rattle.gm_rows.proofs.Common.{◌≡◌, ◌∙◌, ℕ, suc, ◌+◌, ◌<◌, List, [], ◌∷◌, ◌++◌, take, length, get_or, flat_map, sym, ap, subst, arith, take-suc, flat_map_more, IsPermutation-append}
use Rattle.std.proofs.Common.{IsPermutation}

-- one label more
pub one_more : {X A : Type 0} (f : X → List A) (all : List X) (i : ℕ) (x : X) (found more : List A)
    → i < length all → x ≡ get_or all i x
    → IsPermutation (flat_map f (take i all)) found → IsPermutation (f x) more
    → IsPermutation (flat_map f (take (i + 1) all)) (found ++ more)
one_more f all i x found more low is before next =
    let number : i + 1 ≡ suc i = omega arith in
    let grown : take (i + 1) all ≡ take i all ++ x ∷ [] =
    ap (λ n. take n all) number
    ∙ (take-suc all i x low ∙ ap (λ y. take i all ++ y ∷ []) (sym is)) in
    subst (λ l. IsPermutation l (found ++ more)) (flat_map_more f [] (take i all) x
    ∙ ap (flat_map f) (sym grown)) (IsPermutation-append _ _ _ _ before next)
