use Rattle.std.proofs.Common.{◌≡◌, IfOk, List, ℕ, subst, sym}
use Rattle.std.specs.String.{string_bytes}
use Rattle.gm_bench.specs.declared.answer.Answer.{Answer}
use Rattle.gm_json.specs.declared.keyed.Acceptance.TheVariants.{Before}
use Rattle.gm_json.specs.Keyed.{recovered_without_json}
use Rattle.gm_program.specs.Recoveries.{without_json}
use Rattle.gm_program.proofs.recover.without_json.Goals as goal

pub returns-in-Repeated : goal.returns-in-Repeated
returns-in-Repeated c =
    let result = c.recovered_without_json-in-Repeated.result in
    let told = subst
    (λ (k : List ℕ). IfOk result (λ text. string_bytes text
    ≡ recovered_without_json Before k c.args.redone c.in-Repeated.number))
    c.shown-key.ensures c.recovered_without_json-in-Repeated.ensures in
    subst
    (λ (a : Answer). IfOk result (λ text. string_bytes text
    ≡ without_json c.args.key.now a c.args.redone))
    (sym c.in-Repeated.is) told
