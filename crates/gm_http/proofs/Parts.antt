-- What strips of a text leave, as functions.
use Rattle.gm_http.proofs.Common.{◌≡◌, ◌-◌, ◌∙◌, ℕ, List, length, drop, take, Option, Some, None, MatchOption, true, false, refl, ap, Bor, nat_eq, option_map, starts_with, ends_with, cases_Bool, Decides-eqb, starts_is, ends_is, behind, before}
use Rattle.std.specs.Str.Pattern.{FindsTextPrefix, FindsTextSuffix, StripsPrefix, StripsSuffix}
use mathlib.Core.Logic.{⊎_elim}

pub behind_is : (front text : List ℕ) (r : Option (Bor (List ℕ)))
    → MatchOption r (FindsTextPrefix front text None)
    (λ x. StripsPrefix (FindsTextPrefix front) text x.now)
    → option_map (λ x. x.now) r ≡ behind front text
behind_is front text None h =
    let none : starts_with nat_eq text front ≡ false =
    ⊎_elim (λ e. absurd (h _ ((starts_is Decides-eqb text front _ refl).0 e))) (λ e. e)
    (cases_Bool (starts_with nat_eq text front)) in
    rw none refl
behind_is front text (Some x) h =
    let some : starts_with nat_eq text front ≡ true =
    (starts_is Decides-eqb text front _ refl).1 _ h.1.1 in
    rw some (ap Some (h.2 ∙ ap (λ n. drop n text) h.1.0))

pub before_is : (back text : List ℕ) (r : Option (Bor (List ℕ)))
    → MatchOption r (FindsTextSuffix back text None)
    (λ x. StripsSuffix (FindsTextSuffix back) text x.now)
    → option_map (λ x. x.now) r ≡ before back text
before_is back text None h =
    let none : ends_with nat_eq text back ≡ false =
    ⊎_elim (λ e. absurd (h _ ((ends_is Decides-eqb text back _ refl).0 e))) (λ e. e)
    (cases_Bool (ends_with nat_eq text back)) in
    rw none refl
before_is back text (Some x) h =
    let some : ends_with nat_eq text back ≡ true =
    (ends_is Decides-eqb text back _ refl).1 _ h.1.1 in
    rw some (ap Some (h.2 ∙ ap (λ n. take (length text - n) text) h.1.0))
