-- The lines of the intents so far, and one more.
use Rattle.gm_looks.proofs.Common.{◌≡◌, ◌∙◌, ◌+◌, ◌<◌, get_or, length, take, List, [], ◌∷◌, ◌++◌, ℕ, refl, sym, ap, append_assoc, append-nil, take_more, Image, Sizes, Intent, Records, AreTold, IsTold, told_line}

-- so many intents, and the next
pub one_more : (all : List Intent) (i : ℕ) (t : Intent) → i < length all → t ≡ get_or all i t
    → take (i + 1) all ≡ take i all ++ t ∷ []
one_more all i t low is =
    take_more all i t low ∙ ap (λ (x : Intent). take i all ++ x ∷ []) (sym is)

module _ (s : Records) (size : Sizes) (seen : Image) where
  pub told_more : (ts : List Intent) (t : Intent) (text told : List ℕ)
      → AreTold s size seen ts text → IsTold s size seen t told
      → AreTold s size seen (ts ++ t ∷ []) (text ++ told_line t told)
  told_more [] t text told none is = (
    told,
    [],
    is,
    refl,
    ap (λ (x : List ℕ). x ++ told_line t told) none ∙ sym (append-nil (told_line t told)),
  )
  told_more (u ∷ ts) t text told are is = (
    are.0,
    are.1 ++ told_line t told,
    are.2,
    told_more ts t are.1 told are.3 is,
    ap (λ (x : List ℕ). x ++ told_line t told) are.4
        ∙ append_assoc (told_line u are.0) are.1 (told_line t told),
  )
