use Rattle.gm_state.proofs.Common.{rules, ◌∙◌, sym, ap, ℕ, insert, provider, put_insert}
use Rattle.gm_state.proofs.state.put.Goals as goal

pub returns-clause-ok : goal.returns-clause-ok
returns-clause-ok c =
    c.in_ok-insert.ensures.items
    ∙ ap (λ (n : ℕ). insert c.args.components.now.items n c.args.new) (search rules)
    ∙ sym (put_insert provider c.args.new c.args.components.now.items c.requires)
