-- Which keys calls have that are handed in one after another.
use Rattle.gm_sync.proofs.Common.{◌≡◌, ◌∙◌, ℕ, ◌+◌, zero, suc, refl, sym, ap, subst, append-nil, arith, List, [], ◌∷◌, ◌++◌, flat_map-append, length, length-append, length-map, map, map-append, Command, Call, AreBegun, AreKeyedAfter, calls_in, calls_under, key_of, keys_after, up_to_last}

-- so many keys
pub keys_length : (n count : ℕ) → length (keys_after n count) ≡ count
keys_length n zero = refl
keys_length n (suc count) = let rest = keys_length (n + 1) count in omega (arith, rest)

-- some keys, and then some more
pub keys_split : (n a b : ℕ) → keys_after n (a + b) ≡ keys_after n a ++ keys_after (n + a) b
keys_split n zero b =
    let none : 0 + b ≡ b = omega arith in
    let same : n ≡ n + 0 = omega arith in
    ap (keys_after n) none ∙ ap (λ (m : ℕ). keys_after m b) same
keys_split n (suc a) b =
    let first : List ℕ = key_of (up_to_last (n + 1)) in
    let all : suc a + b ≡ suc (a + b) = omega arith in
    let on : n + 1 + a ≡ n + suc a = omega arith in
    ap (keys_after n) all
    ∙ ap (λ (ks : List (List ℕ)). first ∷ ks) (keys_split (n + 1) a b
    ∙ ap (λ (m : ℕ). keys_after (n + 1) a ++ keys_after m b) on)

pub keys_more : (n count : ℕ)
    → keys_after n (count + 1) ≡ keys_after n count ++ key_of (up_to_last (n + count + 1)) ∷ []
keys_more n count = keys_split n count 1

-- from one number and another that are the same, up to the last that there is
keys_same : (n m count : ℕ) → up_to_last n ≡ up_to_last m → keys_after n count ≡ keys_after m count
keys_same n m zero same = refl
keys_same n m (suc count) same =
    let next : up_to_last (n + 1) ≡ up_to_last (m + 1) = omega (arith, same) in
    ap (λ (k : ℕ). key_of k ∷ keys_after (n + 1) count) next
    ∙ ap (λ (ks : List (List ℕ)). key_of (up_to_last (m + 1)) ∷ ks)
    (keys_same (n + 1) (m + 1) count next)

-- the first of them
keys_begin : (n count : ℕ) (xs ys : List (List ℕ)) → xs ++ ys ≡ keys_after n count
    → xs ≡ keys_after n (length xs)
keys_begin n count [] ys is = refl
keys_begin n zero (x ∷ xs) ys is = let no : ⊥ = cc in absurd no
keys_begin n (suc count) (x ∷ xs) ys is =
    let first : x ≡ key_of (up_to_last (n + 1)) = cc in
    let rest : xs ++ ys ≡ keys_after (n + 1) count = cc in
    ap (λ (k : List ℕ). k ∷ xs) first
    ∙ ap (λ (ks : List (List ℕ)). key_of (up_to_last (n + 1)) ∷ ks)
    (keys_begin (n + 1) count xs ys rest)

-- the keys of calls
abbrev keys_of : List Call → List (List ℕ)
keys_of calls = map (λ (call : Call). call.key) calls

under_keys : (c : Command) (keys : List (List ℕ)) → keys_of (calls_under c keys) ≡ keys
under_keys c [] = refl
under_keys c (key ∷ keys) = ap (λ (ks : List (List ℕ)). key ∷ ks) (under_keys c keys)

-- the first of the calls under keys have the first of these
pub begun_keyed : (c : Command) (n : ℕ) (keys : List (List ℕ)) (calls : List Call)
    → AreBegun c keys calls → keys ≡ keys_after n 64 → AreKeyedAfter n calls
begun_keyed c n keys calls begun is =
    let more = keys_of (calls_under c begun.rest) in
    let all : keys_of calls ++ more ≡ keys_after n 64 =
    sym (map-append (λ (call : Call). call.key) calls (calls_under c begun.rest))
    ∙ ap keys_of begun.all ∙ under_keys c keys ∙ is in
    keys_begin n 64 (keys_of calls) more all
    ∙ ap (keys_after n) (length-map calls (λ (call : Call). call.key))

-- so has the first alone
pub first_keyed : (n : ℕ) (call : Call) (more : List Call) → AreKeyedAfter n (call ∷ more)
    → AreKeyedAfter n (call ∷ [])
first_keyed n call more is =
    keys_begin n (length (call ∷ more)) (call.key ∷ []) (keys_of more) is

both_keyed : (from number : ℕ) (xs ys : List Call) → AreKeyedAfter from xs
    → up_to_last number ≡ up_to_last (from + length xs) → AreKeyedAfter number ys
    → AreKeyedAfter from (xs ++ ys)
both_keyed from number xs ys first same then =
    let on : keys_of ys ≡ keys_after (from + length xs) (length ys) =
    then ∙ keys_same number (from + length xs) (length ys) same in
    map-append (λ (call : Call). call.key) xs ys
    ∙ ap (λ (ks : List (List ℕ)). ks ++ keys_of ys) first
    ∙ ap (λ (ks : List (List ℕ)). keys_after from (length xs) ++ ks) on
    ∙ sym (keys_split from (length xs) (length ys))
    ∙ ap (keys_after from) (sym (length-append xs ys))

-- calls and one more series, if the number is that of the last key
pub more_keyed : (from number : ℕ) (xs : List (List Call)) (calls : List Call)
    → AreKeyedAfter from (calls_in xs)
    → up_to_last number ≡ up_to_last (from + length (calls_in xs)) → AreKeyedAfter number calls
    → AreKeyedAfter from (calls_in (xs ++ calls ∷ []))
more_keyed from number xs calls first same then =
    let all : calls_in (xs ++ calls ∷ []) ≡ calls_in xs ++ calls =
    flat_map-append (λ (cs : List Call). cs) xs (calls ∷ [])
    ∙ ap (λ (cs : List Call). calls_in xs ++ cs) (append-nil calls) in
    subst (AreKeyedAfter from) (sym all)
    (both_keyed from number (calls_in xs) calls first same then)
