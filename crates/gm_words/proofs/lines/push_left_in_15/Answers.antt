use Rattle.gm_words.proofs.Common.{◌≡◌, ◌∙◌, ◌++◌, ◌-◌, ℕ, length, replicate, ap, append_assoc, arith, string_bytes}
use Rattle.gm_words.proofs.lines.push_left_in_15.Goals as goal

pub returns : goal.returns
returns c =
    let text = string_bytes c.args.text.now in
    let name = c.args.name in
    let full : c.loop.counter ≡ 15 = omega arith in
    c.loop.invariant.text
    ∙ (ap (λ (n : ℕ). (text ++ name) ++ replicate (n - length name) 32) full
    ∙ append_assoc text name (replicate (15 - length name) 32))
