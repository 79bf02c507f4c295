-- Numbers are what their bytes spell.
use Rattle.gm_metadata.proofs.Common.{◌≡◌, ◌∙◌, ◌<◌, ◌≤◌, ◌+◌, ◌*◌, ◌/◌, ◌%◌, ◌^◌, ◌-◌, ℕ, zero, suc, refl, sym, ap, ap₂, arith, List, [], ◌∷◌, ◌++◌, length, take, drop, get_or, slice_index, drop-cons, take-append-drop, length-drop, get_or-drop, drop-take, div-div-eq-div-mul, div-one, pow-suc, bytes_low_first, byte_at, bytes_at, number_at}
use Rattle.byteorder.specs.Endian.{little_from, little_bytes, little_number}
use Rattle.byteorder.specs.Numbers.{little_number-reads_back}
use Rattle.gm_metadata.specs.Sector.{u32_field, u64_field}

-- a list of bytes
abbrev pub AreBytes : List ℕ → Type 0
AreBytes xs = (i : ℕ) → get_or xs i 0 < 256

take-take : (n m : ℕ) (xs : List ℕ) → n ≤ m → take n (take m xs) ≡ take n xs
take-take zero m xs le = refl
take-take (suc n) zero xs le = absurd (omega arith)
take-take (suc n) (suc m) [] le = refl
take-take (suc n) (suc m) (x ∷ xs) le = ap (λ l. x ∷ l) (take-take n m xs (omega arith))

-- a field of a front is that of the whole
pub bytes_at-take : (at count total : ℕ) (x : List ℕ) → at + count ≤ total
    → bytes_at at count (take total x) ≡ bytes_at at count x
bytes_at-take at count total x fits =
    let whole : at + (total - at) ≡ total = omega arith in
    let e : drop at (take total x) ≡ take (total - at) (drop at x) =
    ap (λ n. drop at (take n x)) (sym whole) ∙ drop-take at (total - at) x in
    ap (take count) e ∙ take-take count (total - at) (drop at x) (omega arith)

pub front_of_front : (n m : ℕ) (x : List ℕ) → n ≤ m → take n (take m x) ≡ take n x
front_of_front n m x le = take-take n m x le

byte_at_is : (i n : ℕ) → byte_at i n ≡ n / 256 ^ i % 256
byte_at_is zero n = ap (λ m. m % 256) (sym (div-one n))
byte_at_is (suc i) n = refl

-- the bytes of a number that was read are the bytes that it was read from
bytes_of_number : (xs : List ℕ) → AreBytes xs → (k i n : ℕ) → i + k ≤ length xs
    → n / 256 ^ i ≡ little_from i k xs → bytes_low_first i k n ≡ take k (drop i xs)
bytes_of_number xs small zero i n fits is = refl
bytes_of_number xs small (suc k) i n fits is =
    let low : get_or xs i 0 < 256 = small i in
    let split : n / 256 ^ i ≡ get_or xs i 0 + 256 * little_from (suc i) k xs = is in
    let here : byte_at i n ≡ get_or xs i 0 =
    byte_at_is i n ∙ (let e : n / 256 ^ i % 256 ≡ get_or xs i 0 = rw split (omega arith) in
    e) in
    let grown : n / 256 ^ suc i ≡ n / 256 ^ i / 256 =
    rw (pow-suc 256 i) (sym (div-div-eq-div-mul n (256 ^ i) 256)) in
    let above : n / 256 ^ suc i ≡ little_from (suc i) k xs =
    grown ∙ (let e : n / 256 ^ i / 256 ≡ little_from (suc i) k xs = rw split (omega arith) in
    e) in
    let within : i < length xs = omega arith in
    let rest : suc i + k ≤ length xs = omega arith in
    let first : drop i xs ≡ get_or xs i 0 ∷ drop (suc i) xs = drop-cons xs i 0 within in
    ap₂ (λ y ys. y ∷ ys) here (bytes_of_number xs small k (suc i) n rest above)
    ∙ ap (take (suc k)) (sym first)

bytes_after : (x : List ℕ) (i : ℕ) → AreBytes x → AreBytes (drop i x)
bytes_after x i small k = rw get_or-drop (small (i + k))

-- a number that is read is spelled by the bytes that it was read from
spelled : (x : List ℕ) (at k : ℕ) → AreBytes x → at + k ≤ length x
    → little_bytes k (number_at at k x) ≡ bytes_at at k x
spelled x at k small fits =
    bytes_of_number (drop at x) (bytes_after x at small) k 0 _ (rw length-drop (omega arith))
    (div-one _)

pub u32_spelled : (x : List ℕ) (at : ℕ) → AreBytes x → at + 4 ≤ length x
    → bytes_at at 4 x ≡ u32_field (number_at at 4 x)
unfolding u32_field
u32_spelled x at small fits = sym (spelled x at 4 small fits)

pub u64_spelled : (x : List ℕ) (at : ℕ) → AreBytes x → at + 8 ≤ length x
    → bytes_at at 8 x ≡ u64_field (number_at at 8 x)
unfolding u64_field
u64_spelled x at small fits = sym (spelled x at 8 small fits)

pub u8_spelled : (x : List ℕ) (at : ℕ) → at < length x → bytes_at at 1 x ≡ slice_index x at ∷ []
u8_spelled x at fits = ap (take 1) (drop-cons x at 0 fits)

-- a number that is spelled is read
number_read : (xs : List ℕ) (k n : ℕ) → n < 256 ^ k → take k xs ≡ little_bytes k n
    → little_number k xs ≡ n
number_read xs k n small e =
    let split : xs ≡ little_bytes k n ++ drop k xs =
    sym (take-append-drop k xs) ∙ ap (λ l. l ++ drop k xs) e in
    ap (little_number k) split ∙ little_number-reads_back k n (drop k xs) small

pub u32_read : (x : List ℕ) (at n : ℕ) → n < 2 ^ 32 → bytes_at at 4 x ≡ u32_field n
    → number_at at 4 x ≡ n
unfolding u32_field
u32_read x at n small e = number_read (drop at x) 4 n small e

pub u64_read : (x : List ℕ) (at n : ℕ) → n < 2 ^ 64 → bytes_at at 8 x ≡ u64_field n
    → number_at at 8 x ≡ n
unfolding u64_field
u64_read x at n small e = number_read (drop at x) 8 n small e

pub u8_read : (x : List ℕ) (at n : ℕ) → at < length x → bytes_at at 1 x ≡ n ∷ []
    → slice_index x at ≡ n
u8_read x at n fits e = let f = u8_spelled x at fits in cc
