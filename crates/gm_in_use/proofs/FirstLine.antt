-- The first line of a text has no line feed.
use Rattle.std.proofs.Common.{◌≡◌, ◌∙◌, ◌<◌, ℕ, List, [], ◌∷◌, ◌++◌, Bor, Option, None, Some, length, take, sym, subst, ⊎_elim, arith, rules, lit<}
use Rattle.std.proofs.Math.Nat.{eq-or-lt_of_le}
use Rattle.std.proofs.lemmas.List.{take_all, get_or_append_left, length-append}
use Rattle.std.proofs.lemmas.Str.Pattern.{NoCharPasses-char}
use Rattle.std.specs.Char.{is_newline}
use Rattle.std.specs.Str.{NoCharPasses}
use Rattle.std.specs.Prelude.{◌↔◌, IsSome, IfSome}
use Rattle.std.specs.declared.str.Lines.{Lines}
use Rattle.std.specs.Str.Iter.{lines_rest, lines_steps}
use Rattle.std.specs.Str.Lines.{IsFirstLine, StripsCarriageReturn}
use Rattle.gm_in_use.specs.SystemTexts.{IsOneLine, StartsWithLine}

no_feed_is_one : (text : List ℕ) → NoCharPasses is_newline text → IsOneLine text
no_feed_is_one text none i low = NoCharPasses-char 10 text i none (lit< tt) low

front_is_one : (front back : List ℕ) → IsOneLine (front ++ back) → IsOneLine front
front_is_one front back one i low e =
    one i (omega (arith, low, length-append front back))
    (get_or_append_left front back 0 i low ∙ e)

stripped_is_one : (text line : List ℕ) → StripsCarriageReturn text line → IsOneLine text
    → IsOneLine line
stripped_is_one text line strips one =
    ⊎_elim (λ same. subst IsOneLine (sym same.0) one)
    (λ cut. front_is_one line (13 ∷ []) (subst IsOneLine cut one)) strips

pub first_is_one : (text line rest : List ℕ) → IsFirstLine text line rest → IsOneLine line
first_is_one text line rest first =
    let n = first.0 in
    let one : IsOneLine (take n text) = no_feed_is_one (take n text) first.1 in
    ⊎_elim (λ (e : n ≡ length text). subst IsOneLine (take_all n text (omega (arith, e))
    ∙ sym (first.4 e)) one)
    (λ (low : n < length text). stripped_is_one (take n text) line (first.5 low) one)
    (eq-or-lt_of_le (omega (arith, first.3)))

-- ---- what the first step over the lines gives

module _ (text : List ℕ) (s t : Lines) (e : lines_rest s ≡ text) where
  pub some_line : (r : Option (Bor (List ℕ))) → lines_steps s r t → IsSome r ↔ (0 < length text)
  some_line None h =
      (λ x. (cc), λ low. h.1 (subst (λ (w : List ℕ). 0 < length w) (sym e) low))
  some_line (Some x) h =
      (λ _. subst (λ (w : List ℕ). 0 < length w) e h.0.0, λ _. search rules)

  pub starts_line : (r : Option (Bor (List ℕ))) → lines_steps s r t
      → IfSome r (λ line. StartsWithLine text line.now)
  starts_line None h = search rules
  starts_line (Some x) h = (
    lines_rest t,
    subst (λ (w : List ℕ). IsFirstLine w x.now (lines_rest t)) e h.0.2,
  )

  pub one_line : (r : Option (Bor (List ℕ))) → lines_steps s r t
      → IfSome r (λ line. IsOneLine line.now)
  one_line None h = search rules
  one_line (Some x) h = first_is_one _ _ _ h.0.2
