use Rattle.gm_json.proofs.Common.{◌≡◌, IfOk, subst, Data, text_of}
use Rattle.std.specs.String.{string_bytes}
use Rattle.gm_json.proofs.keyed.keyed_repeated_json.Goals as goal

pub returns : goal.returns
returns c =
    subst (λ (d : Data). IfOk c.text_of.result (λ text. string_bytes text ≡ text_of d))
    c.in_ok-value.ensures c.text_of.ensures
