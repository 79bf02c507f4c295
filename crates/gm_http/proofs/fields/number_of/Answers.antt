use Rattle.gm_http.proofs.Common.{rules, ◌≡◌, ◌≤◌, ◌∙◌, true, length, is_ascii_digit, list_all, ParsesUnsigned}
use Rattle.gm_http.proofs.Digits.{digits_are_text, number_read}
use Rattle.gm_http.proofs.fields.number_of.Goals as goal

pub returns-in_default : goal.returns-in_default
returns-in_default c =
    let digits : list_all is_ascii_digit c.args.text.now ≡ true = search rules in
    absurd (c.in_default.ensures.cases.0 (digits_are_text _ digits))

pub returns : goal.returns
returns c =
    let digits : list_all is_ascii_digit c.args.text.now ≡ true = search rules in
    let short : length c.args.text.now ≤ 10 = search rules in
    let read : ParsesUnsigned 64 10 c.args.text.now c.parse.result = search rules in
    c.ok.ensures.value ∙ number_read _ _ digits short read
