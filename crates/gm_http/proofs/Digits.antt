-- The number that a text of at most ten digits is.
use Rattle.gm_http.proofs.Common.{◌≡◌, ◌≢◌, ◌∙◌, ◌<◌, ◌≤◌, ◌^◌, ◌&&◌, ℕ, Bool, true, false, zero, suc, nat_le, refl, sym, ap, arith, List, [], ◌∷◌, length, true≢false, lit<, Some, None, Result, Ok, Err, result_ok, digit_value, is_ascii_digit, list_all, IsAscii, IsUtf8, AllDigits, ParsesUnsigned, digits_value, without_leading_plus, nat_tests, IsUtf8-from_ascii}
use Rattle.std.proofs.lemmas.Int.Digits.{digits_value-lt}
use Rattle.std.proofs.lemmas.Str.Parse.{without_leading_plus_none}
use Rattle.std.proofs.Math.Nat.{pow-le-pow_right}
use Rattle.gm_http.specs.Fields.{number_of}

both : (a b : Bool) → (a && b) ≡ true → (a ≡ true) × (b ≡ true)
both true true h = (refl, refl)
both true false h = absurd (true≢false (sym h))
both false b h = absurd (true≢false (sym h))

record IsDigit (b : ℕ) : Type 0 where
  small : b < 128
  value : digit_value b < 10
  sign : b ≢ 43

digit_is : (b : ℕ) → is_ascii_digit b ≡ true → IsDigit b
digit_is b h = record {
  small = grind (arith, nat_tests);
  value = grind (arith, nat_tests);
  sign = grind (arith, nat_tests);
}

all_digits : (text : List ℕ) → list_all is_ascii_digit text ≡ true → AllDigits 10 text
all_digits [] h = tt
all_digits (b ∷ text) h = ((digit_is b (both _ _ h).0).value, all_digits text (both _ _ h).1)

digits_are_ascii : (text : List ℕ) → list_all is_ascii_digit text ≡ true → IsAscii text
digits_are_ascii [] h i = lit< tt
digits_are_ascii (b ∷ text) h zero = (digit_is b (both _ _ h).0).small
digits_are_ascii (b ∷ text) h (suc i) = digits_are_ascii text (both _ _ h).1 i

pub digits_are_text : (text : List ℕ) → list_all is_ascii_digit text ≡ true → IsUtf8 text
digits_are_text text h = IsUtf8-from_ascii text (digits_are_ascii text h)

unsigned : (text : List ℕ) → list_all is_ascii_digit text ≡ true → without_leading_plus text ≡ text
unsigned [] h = without_leading_plus_none [] (omega arith)
unsigned (b ∷ text) h = without_leading_plus_none (b ∷ text) (digit_is b (both _ _ h).0).sign

small : (text : List ℕ) → list_all is_ascii_digit text ≡ true → length text ≤ 10
    → digits_value 10 text < 2 ^ 64
small text h short =
    let below = digits_value-lt 10 text (all_digits text h) in
    let ten : 10 ^ length text ≤ 10 ^ 10 = pow-le-pow_right (lit< tt) short in
    omega arith

-- a text of digits that is none, is read or isn't
number_of_digits : (text : List ℕ) → list_all is_ascii_digit text ≡ true → length text ≤ 10
    → 0 < length text → number_of text ≡ Some (digits_value 10 text)
unfolding number_of
number_of_digits text h short some =
    let low : nat_le 1 (length text) ≡ true = grind (arith, nat_tests) in
    let high : nat_le (length text) 10 ≡ true = grind (arith, nat_tests) in
    rw (low, high, h) refl

pub number_of_other : (text : List ℕ) → list_all is_ascii_digit text ≡ false
    → number_of text ≡ None
unfolding number_of
number_of_other text h = grind (arith, nat_tests)

pub number_of_long : (text : List ℕ) → 10 < length text → number_of text ≡ None
unfolding number_of
number_of_long text h = grind (arith, nat_tests)

number_of_nothing : number_of [] ≡ None
unfolding number_of
number_of_nothing = refl

pub number_read : {E : Type 0} (text : List ℕ) (r : Result ℕ E)
    → list_all is_ascii_digit text ≡ true → length text ≤ 10
    → ParsesUnsigned 64 10 text r → result_ok r ≡ number_of text
number_read text (Ok n) h short told =
    let plain = rw (unsigned text h) at told in
    ap Some plain.1 ∙ sym (number_of_digits text h short plain.0.0.0)
number_read [] (Err e) h short told = sym number_of_nothing
number_read (b ∷ text) (Err e) h short told =
    let plain = rw (unsigned (b ∷ text) h) at told in
    absurd (plain ((omega arith, all_digits (b ∷ text) h), small (b ∷ text) h short))

-- texts that are no numbers
pub ruleset no_numbers = (number_of_long, number_of_other)
