-- Providers that are there.
use Rattle.gm_state.proofs.Common.{◌≡◌, ℕ, Bool, true, false, List, Option, Some, None, sym, subst, if◌then◌else◌, IsSomeAnd, World, present}

shown : (b : Bool) (o : Option ℕ) (n : ℕ) → (if b then o else None) ≡ Some n → o ≡ Some n
shown true o n e = e
shown false o n e = cc

-- what is there has its length
pub present_size : (w : World) (p : List ℕ) (n : ℕ) → present w p ≡ Some n → w.size p ≡ Some n
present_size w p n e = shown (w.there p) (w.size p) n e

pub some_and : (o : Option ℕ) (n : ℕ) (P : ℕ → Type 0) → o ≡ Some n → P n → IsSomeAnd o P
some_and o n P e h = subst (λ (x : Option ℕ). IsSomeAnd x P) (sym e) h
