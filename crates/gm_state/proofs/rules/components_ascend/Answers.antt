use Rattle.gm_state.proofs.Common.{answers_always, rules, Component, label_lt, provider, neighbours_answer}
use Rattle.gm_state.proofs.rules.components_ascend.Goals as goal

pub returns : goal.returns
returns c =
    neighbours_answer provider c.args.components.now c.is_sorted_by.result
    (c.is_sorted_by.ensures.cases (λ (a b : Component). label_lt (provider a) (provider b))
    (answers_always _ _ _ (λ f a r g h. search rules)))
