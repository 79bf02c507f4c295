-- Sectors that are read from the digits that the canonical words have.
use Rattle.gm_words.proofs.Common.{◌≡◌, ◌∙◌, ◌<◌, ◌≤◌, ◌*◌, ◌/◌, ◌%◌, ◌==◌, ℕ, zero, suc, true, refl, ap, ap₂, arith, List, [], ◌∷◌, ◌++◌, length, Option, Some, None, Ok, take, drop, eq-eqb, lt-ltb, le-leb, eqb-true, length-append, IsTrue, if◌then◌else◌, list_all, and_parts, encode_lower, Row, first_of, is_bytes, is_sector, joined, is_count, is_digit, sectors_of, ◌>>=◌, IsNoFlag}
use Rattle.std.specs.Simd.{first_chunks}
use Rattle.hex.proofs.HexLemmas.{decode_of-encode_lower}
use Rattle.gm_commands.proofs.JoinedSectors.{bytes_are, digits_pass, joined_bytes}
use Rattle.gm_words.specs.Digits.{sectors_in}
use Rattle.gm_words.specs.Spelling.{sectors_at}

-- bytes that are cut into whole sectors
pub cut : (bytes : List ℕ) (sectors : List (List ℕ)) (r : Option (List (List ℕ)))
    → length bytes % 512 ≡ 0 → sectors ≡ first_chunks 512 (length bytes / 512) bytes
    → length sectors ≡ length bytes / 512
    → r ≡ (if is_count (length sectors) then Some sectors else None) → r ≡ sectors_of (Ok bytes)
cut bytes sectors r none is count e =
    rw (eq-eqb (length bytes % 512) 0 none) (e
    ∙ ap₂ (λ (n : ℕ) (ss : List (List ℕ)). if is_count n then Some ss else None) count is)

abbrev AreSectors : List (List ℕ) → Type 0
AreSectors ss = IsTrue (list_all is_sector ss)

-- the first of sectors, and the others
first_sector : (s : List ℕ) (ss : List (List ℕ)) → AreSectors (s ∷ ss)
    → (length s ≡ 512) × AreSectors ss
first_sector s ss are =
    let parts = and_parts (is_sector s) (list_all is_sector ss) are in
    (eqb-true (length s) 512 (and_parts (length s == 512) (is_bytes s) parts.0).0, parts.1)

joined_length : (ss : List (List ℕ)) → AreSectors ss → length (joined ss) ≡ 512 * length ss
joined_length [] are = refl
joined_length (s ∷ ss) are =
    let first = first_sector s ss are in
    let size : length s ≡ 512 = first.0 in
    let rest : length (joined ss) ≡ 512 * length ss = joined_length ss first.1 in
    omega (arith, length-append s (joined ss), size, rest)

-- what stands in front is taken, and what is after it left
take_front : (n : ℕ) (xs ys : List ℕ) → length xs ≡ n → take n (xs ++ ys) ≡ xs
take_front zero [] ys e = refl
take_front (suc n) [] ys e = absurd (omega (arith, e))
take_front zero (x ∷ xs) ys e = absurd (omega (arith, e))
take_front (suc n) (x ∷ xs) ys e =
    ap (λ (l : List ℕ). x ∷ l) (take_front n xs ys (omega (arith, e)))

drop_front : (n : ℕ) (xs ys : List ℕ) → length xs ≡ n → drop n (xs ++ ys) ≡ ys
drop_front zero [] ys e = refl
drop_front (suc n) [] ys e = absurd (omega (arith, e))
drop_front zero (x ∷ xs) ys e = absurd (omega (arith, e))
drop_front (suc n) (x ∷ xs) ys e = drop_front n xs ys (omega (arith, e))

chunks_joined : (n : ℕ) (ss : List (List ℕ)) → ((s : List ℕ) (more : List (List ℕ))
    → AreSectors (s ∷ more) → length s ≡ n) → AreSectors ss
    → first_chunks n (length ss) (joined ss) ≡ ss
chunks_joined n [] size are = refl
chunks_joined n (s ∷ ss) size are =
    let long : length s ≡ n = size s ss are in
    ap₂ (λ (a : List ℕ) (b : List (List ℕ)). a ∷ b) (take_front n s (joined ss) long)
    (ap (first_chunks n (length ss)) (drop_front n s (joined ss) long)
    ∙ chunks_joined n ss size (first_sector s ss are).1)

-- the digits of sectors say them
module _ (ss : List (List ℕ)) (are : AreSectors ss) (some : 0 < length ss) (few : length ss ≤ 64)
  where
    whole : sectors_of (Ok (joined ss)) ≡ Some ss
    whole =
        let long : length (joined ss) ≡ 512 * length ss = joined_length ss are in
        let none : (length (joined ss) % 512 == 0) ≡ true =
        eq-eqb (length (joined ss) % 512) 0 (omega (arith, long)) in
        let count : length (joined ss) / 512 ≡ length ss = omega (arith, long) in
        rw (none, count, lt-ltb 0 (length ss) some, le-leb (length ss) 64 few)
        (ap Some (chunks_joined 512 ss (λ s more h. (first_sector s more h).0) are))

    sectors_again : sectors_in (encode_lower (joined ss)) ≡ Some ss
    unfolding sectors_in
    sectors_again =
        let bytes = joined_bytes ss are in
        rw (
          digits_pass is_digit refl (joined ss) bytes,
          decode_of-encode_lower (joined ss) (bytes_are (joined ss) bytes),
        ) whole

    pub sectors_read : (id : List ℕ) (rows : List Row)
        → first_of id rows ≡ Some (encode_lower (joined ss)) → sectors_at id rows ≡ Some ss
    unfolding sectors_at
    sectors_read id rows e = ap (λ (o : Option (List ℕ)). o >>= sectors_in) e ∙ sectors_again

no_hyphen : (xs : List ℕ) → list_all is_digit xs ≡ true → IsNoFlag xs
no_hyphen [] e = tt
no_hyphen (x ∷ xs) e = grind (arith, and_parts (is_digit x) (list_all is_digit xs) e)

-- digits are no option
pub digits_no_flag : (ss : List (List ℕ)) → AreSectors ss → IsNoFlag (encode_lower (joined ss))
digits_no_flag ss are =
    no_hyphen (encode_lower (joined ss))
    (digits_pass is_digit refl (joined ss) (joined_bytes ss are))
