-- When bytes hold no call, since they aren't a text.
use Rattle.gm_http.proofs.Common.{◌≡◌, ℕ, Bool, List, false, refl, None, option_and_then, IsUtf8, is_utf8, cases_Bool, IsUtf8-from_is_utf8, is_utf8-from_IsUtf8, read, call_in}
use mathlib.Core.Logic.{⊎_elim}
use Rattle.gm_http.specs.Bodies.{call_of}

pub call_of_text : (takes : Bool) (bytes : List ℕ) → IsUtf8 bytes
    → call_of takes bytes ≡ option_and_then (call_in takes) (read bytes)
unfolding call_of
call_of_text takes bytes is = rw (is_utf8-from_IsUtf8 bytes is) refl

pub call_of_other : (takes : Bool) (bytes : List ℕ) → (IsUtf8 bytes → ⊥)
    → call_of takes bytes ≡ None
unfolding call_of
call_of_other takes bytes isnt =
    let no_text : is_utf8 bytes ≡ false =
    ⊎_elim (λ e. absurd (isnt (IsUtf8-from_is_utf8 bytes e))) (λ e. e)
    (cases_Bool (is_utf8 bytes)) in
    rw no_text refl
