-- The last of the further keys.
use Rattle.gm_bench.proofs.Common.{◌≡◌, ◌+◌, ℕ, zero, suc, List, [], ◌∷◌, map, length, Some, sym, ap, arith, Reply, Further, keyed_of, last_reply}
use Rattle.std.specs.List.{slice_get}

-- it is what a list of them answers in the end
pub last_is : (r : Reply) (fs : List Further) (f : Further) (n : ℕ) → slice_get fs n ≡ Some f
    → n + 1 ≡ length fs → f.reply ≡ last_reply r (map keyed_of fs)
last_is r [] f n is end = let no : ⊥ = cc in absurd no
last_is r (g ∷ []) f zero is end = let same : g ≡ f = cc in ap (λ (x : Further). x.reply) (sym same)
last_is r (g ∷ []) f (suc n) is end = absurd (omega (arith, end))
last_is r (g ∷ (h ∷ fs)) f zero is end = absurd (omega (arith, end))
last_is r (g ∷ (h ∷ fs)) f (suc n) is end =
    last_is g.reply (h ∷ fs) f n is (omega (arith, end))
