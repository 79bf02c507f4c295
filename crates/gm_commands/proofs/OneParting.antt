-- A line is joined from just one list of words without spaces.
use Rattle.gm_commands.proofs.Common.{◌≡◌, ◌∙◌, inl, inr, ℕ, ◌<◌, ◌^◌, ◌&&◌, ◌==◌, not, Bool, true, false, refl, sym, ap, List, [], ◌∷◌, ◌++◌, true≢false, eqb-true, length, join_with_byte, list_all, all_ascii_digits, decimal, cases_Bool, and_parts, and_from, digits_decimal, is_label, is_label_byte, nat_lt, IsTrue, encode_lower, is_bytes}
use Rattle.std.specs.Char.{is_ascii_digit}
use Rattle.std.proofs.lemmas.Str.Parse.{numerals_by_value, tells_all_ascii_digits}
use Rattle.gm_commands.proofs.JoinedSectors.{digits_pass}

-- no space in it
abbrev pub spaceless : List ℕ → Bool
spaceless w = list_all (λ b. not (b == 32)) w

-- no space in any of them
abbrev pub all_spaceless : List (List ℕ) → Bool
all_spaceless ws = list_all spaceless ws

no_space : (b : ℕ) → not (b == 32) ≡ true → b ≡ 32 → ⊥
no_space b e s = let f : not (32 == 32) ≡ true = rw s at e in true≢false (sym f)

-- a word without spaces isn't one with a space in it
not_part : (a b t : List ℕ) → spaceless a ≡ true → a ≡ b ++ 32 ∷ t → ⊥
not_part [] [] t e s = cc
not_part [] (y ∷ b) t e s = cc
not_part (x ∷ a) [] t e s =
    no_space x (and_parts (not (x == 32)) (spaceless a) e).0 (let f : x ≡ 32 = cc in f)
not_part (x ∷ a) (y ∷ b) t e s =
    not_part a b t (and_parts (not (x == 32)) (spaceless a) e).1 (let f : a ≡ b ++ 32 ∷ t = cc in f)

-- the first space ends the first word
first_word : (a b s t : List ℕ) → spaceless a ≡ true → spaceless b ≡ true
    → a ++ 32 ∷ s ≡ b ++ 32 ∷ t → (a ≡ b) × (s ≡ t)
first_word [] [] s t e f g = (refl, let h : s ≡ t = cc in h)
first_word [] (y ∷ b) s t e f g =
    absurd (no_space y (and_parts (not (y == 32)) (spaceless b) f).0 (let h : y ≡ 32 = cc in h))
first_word (x ∷ a) [] s t e f g =
    absurd (no_space x (and_parts (not (x == 32)) (spaceless a) e).0 (let h : x ≡ 32 = cc in h))
first_word (x ∷ a) (y ∷ b) s t e f g =
    let rest : a ++ 32 ∷ s ≡ b ++ 32 ∷ t = cc in
    let r = first_word a b s t (and_parts (not (x == 32)) (spaceless a) e).1
    (and_parts (not (y == 32)) (spaceless b) f).1 rest in
    let head : x ≡ y = cc in
    let words : a ≡ b = r.0 in
    (let h : x ∷ a ≡ y ∷ b = cc in h, r.1)

-- two lists of words with one line are one list
pub same_words : (x : List ℕ) (xs : List (List ℕ)) (y : List ℕ) (ys : List (List ℕ))
    → all_spaceless (x ∷ xs) ≡ true → all_spaceless (y ∷ ys) ≡ true
    → join_with_byte 32 (x ∷ xs) ≡ join_with_byte 32 (y ∷ ys) → x ∷ xs ≡ y ∷ ys
same_words x [] y [] e f g = ap (λ (w : List ℕ). w ∷ []) g
same_words x [] y (z ∷ ys) e f g =
    absurd (not_part x y (join_with_byte 32 (z ∷ ys)) (and_parts (spaceless x) true e).0 g)
same_words x (z ∷ xs) y [] e f g =
    absurd (not_part y x (join_with_byte 32 (z ∷ xs)) (and_parts (spaceless y) true f).0 (sym g))
same_words x (a ∷ xs) y (b ∷ ys) e f g =
    let p = and_parts (spaceless x) (all_spaceless (a ∷ xs)) e in
    let q = and_parts (spaceless y) (all_spaceless (b ∷ ys)) f in
    let r = first_word x y (join_with_byte 32 (a ∷ xs)) (join_with_byte 32 (b ∷ ys)) p.0 q.0 g in
    let heads : x ≡ y = r.0 in
    let tails : a ∷ xs ≡ b ∷ ys = same_words a xs b ys p.1 q.1 r.1 in
    cc

-- ---- words without spaces

all_weaker : (p q : ℕ → Bool) → ((b : ℕ) → p b ≡ true → q b ≡ true) → (xs : List ℕ)
    → list_all p xs ≡ true → list_all q xs ≡ true
all_weaker p q h [] e = refl
all_weaker p q h (x ∷ xs) e = let a = and_parts (p x) (list_all p xs) e in
    and_from (q x) (list_all q xs) (h x a.0) (all_weaker p q h xs a.1)

other_byte : (p : ℕ → Bool) → p 32 ≡ false → (b : ℕ) → p b ≡ true → not (b == 32) ≡ true
other_byte p n b e =
    elim (cases_Bool (b == 32)) [
      | inl s ↦ absurd (true≢false (sym e ∙ (ap p (eqb-true b 32 s) ∙ n)))
      | inr s ↦ rw s refl
    ]

pub label_spaceless : (n : List ℕ) → IsTrue (is_label n) → spaceless n ≡ true
label_spaceless n e =
    all_weaker is_label_byte (λ b. not (b == 32)) (other_byte is_label_byte refl) n
    (and_parts (nat_lt 0 (length n) && nat_lt (length n) 16) (list_all is_label_byte n) e).1

pub labels_spaceless : (ns : List (List ℕ)) → IsTrue (list_all is_label ns)
    → all_spaceless ns ≡ true
labels_spaceless [] e = refl
labels_spaceless (n ∷ ns) e = let a = and_parts (is_label n) (list_all is_label ns) e in
    and_from (spaceless n) (all_spaceless ns) (label_spaceless n a.0) (labels_spaceless ns a.1)

digits_are : (ds : List ℕ) → all_ascii_digits ds ≡ true → list_all is_ascii_digit ds ≡ true
digits_are [] e = refl
digits_are (x ∷ xs) e = let a = and_parts (is_ascii_digit x) (all_ascii_digits xs) e in
    and_from (is_ascii_digit x) (list_all is_ascii_digit xs) a.0 (digits_are xs a.1)

pub decimal_spaceless : (n : ℕ) → n < 2 ^ 64 → spaceless (decimal n) ≡ true
decimal_spaceless n l =
    all_weaker is_ascii_digit (λ b. not (b == 32)) (other_byte is_ascii_digit refl) (decimal n)
    (digits_are (decimal n)
    (digits_decimal (numerals_by_value (λ (ds : List ℕ). all_ascii_digits ds ≡ true)
    tells_all_ascii_digits) n l))

pub digits_spaceless : (xs : List ℕ) → is_bytes xs ≡ true → spaceless (encode_lower xs) ≡ true
digits_spaceless xs fits = digits_pass (λ b. not (b == 32)) refl xs fits
