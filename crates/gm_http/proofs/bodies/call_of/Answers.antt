use Rattle.gm_http.proofs.Common.{rules, ◌≡◌, ◌∙◌, sym, ap, subst, Option, Some, IfOk, option_and_then, option_map, read, view, Call, call_in, texts_in}
use Rattle.gm_http.proofs.Calls.{call_of_other, call_of_text}
use Rattle.gm_http.proofs.bodies.call_of.Goals as goal

pub returns-in_default : goal.returns-in_default
returns-in_default c = sym (call_of_other _ _ c.in_default.ensures.cases.0)

pub returns-in-Ok-from_str : goal.returns-in-Ok-from_str
returns-in-Ok-from_str c =
    let told : read c.args.bytes.now ≡ Some (view c.in-Ok-from_str.value) = search rules in
    let held = sym (call_of_text c.args.takes_force _ c.in-Ok.ensures.cases.1
    ∙ ap (option_and_then (call_in c.args.takes_force)) told) in
    subst (λ (call : Option Call). IfOk c.call_in.result
    (λ found. option_map texts_in found ≡ call))
    held c.call_in.ensures
