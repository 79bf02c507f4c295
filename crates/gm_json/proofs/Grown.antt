-- A list of values that grows by one.
use Rattle.gm_json.proofs.Common.{◌≡◌, ◌∙◌, ℕ, ◌+◌, ◌<◌, List, [], ◌∷◌, ◌++◌, take, length, get_or, map, sym, ap, map-append, map_more}

-- as many values, of one element more
pub one_more : {X Y A : Type 0} (f : X → A) (g : Y
    → A) (all : List X) (i : ℕ) (x : X) (made : List Y) (y : Y) → i < length all
    → x ≡ get_or all i x → map g made ≡ map f (take i all) → g y ≡ f x
    → map g (made ++ y ∷ []) ≡ map f (take (i + 1) all)
one_more f g all i x made y low is so next =
    map-append g made (y ∷ []) ∙ (ap (λ t. t ++ g y ∷ []) so
    ∙ (ap (λ a. map f (take i all) ++ a ∷ []) (next ∙ ap f is) ∙ sym (map_more f all i x low)))
