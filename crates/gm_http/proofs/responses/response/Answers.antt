use Rattle.gm_http.proofs.Common.{rules, ◌≡◌, List, ℕ, IfOk, string_bytes, subst}
use Rattle.gm_http.proofs.Heads.{pieces_are_response}
use Rattle.gm_http.proofs.responses.response.Goals as goal

pub returns : goal.returns
returns c =
    subst (λ (made : List ℕ). IfOk c.format.result (λ text. string_bytes text ≡ made))
    (pieces_are_response _ _ _ _ _ c.code-code.ensures c.phrase-phrase.ensures
    c.allow-allow.ensures)
    (search rules)
