-- What a page is told, and what is owed of it.
use Rattle.gm_front.proofs.Common.{◌≡◌, ◌∙◌, ℕ, List, [], refl, sym, ap, append-nil, Option, Some, None, Result, Ok, Err, IfSome, IfOk, IfErr, OnErr, Appends, Keeps, code_of, IsFromPage, Sends, FrontFault, Memory, Read, Write, Response, AppendsFront, TurnsAway, bytes_of, code_told, page_told}
use Rattle.gm_http.specs.declared.sender.Sender.TheVariants.{Program}

-- what was written of the answer to a page
pub told_page : (before now : Option (List ℕ)) (told : Result Response FrontFault)
    → IfOk told (λ response. (response.status ≡ page_told.status)
    × Appends before now (bytes_of page_told))
    → OnErr told (AppendsFront before now (bytes_of page_told))
    → IfErr told (λ e. e ≡ Read → ⊥)
    → TurnsAway before now (code_told told)
told_page before now (Ok response) wrote front fault = (ap code_of wrote.0, wrote.1)
told_page before now (Err Read) wrote front fault = absurd (fault refl)
told_page before now (Err Memory) wrote front fault = front
told_page before now (Err Write) wrote front fault = front

-- nothing is a beginning
pub nothing_written : (before now : Option (List ℕ)) (bytes : List ℕ) → Keeps before now
    → AppendsFront before now bytes
nothing_written None now bytes kept = tt
nothing_written (Some xs) None bytes kept = absurd kept
nothing_written (Some xs) (Some ys) bytes kept = ([], bytes, refl, kept ∙ sym (append-nil xs))

-- what holds of a page's request holds of none that a program sent
pub sent_by_program : (input : Option (List ℕ)) (P : List ℕ → Type 0)
    → IfSome input (λ bytes. Sends bytes Program)
    → IfSome input (λ bytes. IsFromPage bytes → P bytes)
sent_by_program None P sends = tt
sent_by_program (Some bytes) P sends = λ from. absurd (sends from)

-- what holds holds of a page's request
pub sent_anyhow : (input : Option (List ℕ)) (P : Type 0) → P
    → IfSome input (λ bytes. IsFromPage bytes → P)
sent_anyhow None P holds = tt
sent_anyhow (Some bytes) P holds = λ from. holds
