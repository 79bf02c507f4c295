-- What is left of a text without its end, as a function.
use Rattle.std.proofs.Common.{◌≡◌, ◌-◌, ◌∙◌, ℕ, List, length, take, Option, Some, None, true, false, refl, ap, Bor, nat_eq}
use Rattle.std.proofs.lemmas.Bool.{cases_Bool}
use Rattle.std.proofs.lemmas.Bool.Decides.{Decides-eqb}
use Rattle.std.proofs.lemmas.Slice.Eq.{ends_is}
use Rattle.std.specs.List.{ends_with}
use Rattle.std.specs.Prelude.{MatchOption, option_map}
use Rattle.std.specs.Str.Pattern.{FindsTextSuffix, StripsSuffix}
use Rattle.gm_in_use.specs.SystemTexts.{before}
use mathlib.Core.Logic.{⊎_elim}

pub before_is : (back text : List ℕ) (r : Option (Bor (List ℕ)))
    → MatchOption r (FindsTextSuffix back text None)
    (λ x. StripsSuffix (FindsTextSuffix back) text x.now)
    → option_map (λ x. x.now) r ≡ before back text
before_is back text None h =
    let none : ends_with nat_eq text back ≡ false =
    ⊎_elim (λ e. absurd (h _ ((ends_is Decides-eqb text back _ refl).0 e))) (λ e. e)
    (cases_Bool (ends_with nat_eq text back)) in
    rw none refl
before_is back text (Some x) h =
    let some : ends_with nat_eq text back ≡ true =
    (ends_is Decides-eqb text back _ refl).1 _ h.1.1 in
    rw some (ap Some (h.2 ∙ ap (λ n. take (length text - n) text) h.1.0))
