-- The calls of a command under the first of some keys.
use Rattle.gm_bench.proofs.Common.{◌≡◌, ◌∷◌, [], List, ℕ, refl, ap, ◌++◌, length, arith, Command, Call, AreBegun, calls_under, one_call}

-- the first call alone
pub one_begun : (c : Command) (key : List ℕ) (more : List (List ℕ))
    → AreBegun c (key ∷ more) (one_call key c)
one_begun c key more = record {
  some = λ e. let no : ⊥ = cc in no;
  rest = more;
  all = refl;
}

-- there is no other under one key
pub one_is : (c : Command) (key : List ℕ) (calls : List Call) → AreBegun c (key ∷ []) calls
    → calls ≡ one_call key c
one_is c key [] begun = absurd (begun.some refl)
one_is c key (call ∷ []) begun =
    let first : call ≡ record { key = key; command = c } = cc in
    ap (λ (x : Call). x ∷ []) first
one_is c key (call ∷ (next ∷ calls)) begun =
    let n : length (call ∷ (next ∷ calls) ++ calls_under c begun.rest) ≡ 1 =
    ap (λ (l : List Call). length l) begun.all in
    absurd (omega (arith, n))
