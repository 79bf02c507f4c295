use Rattle.gm_state.proofs.Common.{answers_always, rules, Mirror, label_lt, name, neighbours_answer}
use Rattle.gm_state.proofs.rules.mirrors_ascend.Goals as goal

pub returns : goal.returns
returns c =
    neighbours_answer name c.args.mirrors.now c.is_sorted_by.result
    (c.is_sorted_by.ensures.cases (λ (a b : Mirror). label_lt (name a) (name b))
    (answers_always _ _ _ (λ f a r g h. search rules)))
