-- Sectors are told from their bytes in a row, and these from their digits.
use Rattle.gm_commands.proofs.Common.{◌≡◌, ◌∙◌, inl, inr, ℕ, suc, zero, ◌<◌, ◌/◌, ◌%◌, ◌==◌, nat_lt, Bool, true, refl, sym, ap, arith, List, [], ◌∷◌, ◌++◌, length, get_or, lit<, slice_index, Ok, eqb-true, ltb-true, IsTrue, list_all, and_parts, and_from, lt-ltb, decode_of, encode_lower, lower_digits, AreSectors, is_bytes, is_sector, joined}
use Rattle.std.proofs.lemmas.List.Elements.{All-get_or}
use Rattle.std.proofs.lemmas.List.Sums.{AllPass-from_list_all}
use Rattle.hex.specs.Hex.{encode_with}
use Rattle.hex.proofs.HexLemmas.{decode_of-encode_lower}

-- a list of bytes passes the test, and what passes it is bytes
pub are_bytes : (xs : List ℕ) → ((i : ℕ) → get_or xs i 0 < 256) → is_bytes xs ≡ true
are_bytes [] h = refl
are_bytes (x ∷ xs) h =
    and_from (nat_lt x 256) (is_bytes xs) (lt-ltb x 256 (h zero)) (are_bytes xs (λ i. h (suc i)))

pub bytes_are : (xs : List ℕ) → is_bytes xs ≡ true → (i : ℕ) → slice_index xs i < 256
bytes_are [] e i = lit< tt
bytes_are (x ∷ xs) e zero = ltb-true x 256 (and_parts (nat_lt x 256) (is_bytes xs) e).0
bytes_are (x ∷ xs) e (suc i) = bytes_are xs (and_parts (nat_lt x 256) (is_bytes xs) e).1 i

-- ---- the bytes of sectors

bytes_both : (xs ys : List ℕ) → is_bytes xs ≡ true → is_bytes ys ≡ true → is_bytes (xs ++ ys) ≡ true
bytes_both [] ys e f = f
bytes_both (x ∷ xs) ys e f = let a = and_parts (nat_lt x 256) (is_bytes xs) e in
    and_from (nat_lt x 256) (is_bytes (xs ++ ys)) a.0 (bytes_both xs ys a.1 f)

pub joined_bytes : (ss : List (List ℕ)) → IsTrue (list_all is_sector ss)
    → is_bytes (joined ss) ≡ true
joined_bytes [] e = refl
joined_bytes (s ∷ ss) e =
    let a = and_parts (is_sector s) (list_all is_sector ss) e in
    bytes_both s (joined ss) (and_parts (length s == 512) (is_bytes s) a.0).1 (joined_bytes ss a.1)

-- a list is told apart from one after it by its length
same_parts : (a b s t : List ℕ) → length a ≡ length b → a ++ s ≡ b ++ t → (a ≡ b) × (s ≡ t)
same_parts [] [] s t n e = (refl, e)
same_parts [] (y ∷ b) s t n e = absurd (omega (arith, n))
same_parts (x ∷ a) [] s t n e = absurd (omega (arith, n))
same_parts (x ∷ a) (y ∷ b) s t n e =
    let rest : a ++ s ≡ b ++ t = cc in
    let r = same_parts a b s t (omega (arith, n)) rest in
    let head : x ≡ y = cc in
    let tail : a ≡ b = r.0 in
    (let whole : x ∷ a ≡ y ∷ b = cc in whole, r.1)

some_left : (s : List ℕ) (ss : List (List ℕ)) → AreSectors (s ∷ ss) → joined (s ∷ ss) ≡ [] → ⊥
some_left [] ss long e = let n = long [] (inl refl) in omega (arith, n)
some_left (x ∷ s) ss long e = cc

-- sectors that are joined to the same bytes are the same
pub same_joined : (ss ts : List (List ℕ)) → AreSectors ss → AreSectors ts → joined ss ≡ joined ts
    → ss ≡ ts
same_joined [] [] a b e = refl
same_joined [] (t ∷ ts) a b e = absurd (some_left t ts b (sym e))
same_joined (s ∷ ss) [] a b e = absurd (some_left s ss a e)
same_joined (s ∷ ss) (t ∷ ts) a b e =
    let r = same_parts s t (joined ss) (joined ts) (a s (inl refl) ∙ sym (b t (inl refl))) e in
    let head : s ≡ t = r.0 in
    let tail : ss ≡ ts = same_joined ss ts (λ x h. a x (inr h)) (λ x h. b x (inr h)) r.1 in
    cc

-- what passes for sectors has their length
pub are_long : (ss : List (List ℕ)) → IsTrue (list_all is_sector ss) → AreSectors ss
are_long [] e x h = absurd h
are_long (s ∷ ss) e x (inl same) =
    sym (ap length same)
    ∙ eqb-true (length s) 512 (and_parts (length s == 512) (is_bytes s)
    (and_parts (is_sector s) (list_all is_sector ss) e).0).0
are_long (s ∷ ss) e x (inr h) =
    are_long ss (and_parts (is_sector s) (list_all is_sector ss) e).1 x h

-- ---- and their digits

same_bytes : (xs ys : List ℕ) → is_bytes xs ≡ true → is_bytes ys ≡ true
    → encode_lower xs ≡ encode_lower ys → xs ≡ ys
same_bytes xs ys e f is =
    let both : Ok xs ≡ Ok ys =
    sym (decode_of-encode_lower xs (bytes_are xs e))
    ∙ (ap decode_of is ∙ decode_of-encode_lower ys (bytes_are ys f)) in
    cc

pub same_sectors : (ss ts : List (List ℕ)) → IsTrue (list_all is_sector ss)
    → IsTrue (list_all is_sector ts) → encode_lower (joined ss) ≡ encode_lower (joined ts)
    → ss ≡ ts
same_sectors ss ts e f is =
    same_joined ss ts (are_long ss e) (are_long ts f)
    (same_bytes (joined ss) (joined ts) (joined_bytes ss e) (joined_bytes ts f) is)

-- ---- what passes of the digits passes of all that is written with them

pub digits_pass : (p : ℕ → Bool) → list_all p lower_digits ≡ true → (xs : List ℕ)
    → is_bytes xs ≡ true → list_all p (encode_lower xs) ≡ true
unfolding encode_with
digits_pass p e [] fits = refl
digits_pass p e (x ∷ xs) fits =
    let a = and_parts (nat_lt x 256) (is_bytes xs) fits in
    let small : x < 256 = ltb-true x 256 a.0 in
    let each : (d : ℕ) → d < 16 → p (slice_index lower_digits d) ≡ true =
    λ d l. All-get_or (λ b. p b ≡ true) lower_digits d 0 l
    (AllPass-from_list_all p lower_digits e) in
    and_from _ _ (each (x / 16) (omega arith))
    (and_from _ _ (each (x % 16) (omega arith)) (digits_pass p e xs a.1))
