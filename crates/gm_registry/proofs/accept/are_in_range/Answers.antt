use Rattle.gm_registry.proofs.Common.{Has, Further, List, ◌≡◌, ◌∙◌, sym, subst, take, take_all, rules}
use Rattle.gm_state.specs.World.{ReplyFits}
use Rattle.gm_registry.proofs.ListSteps.{had, one_more_so}
use Rattle.gm_registry.proofs.accept.are_in_range.Goals as goal

pub looks-preserved : goal.looks-preserved
looks-preserved c =
    one_more_so (λ (f : Further). ReplyFits f.reply) c.further-f-items.result.now c.looks.f-index
    c.f-item.result c.looks-test.true c.f-item.is c.looks.invariant
    (c.if-not-is_in_range-2.ensures.0 (search rules))

pub returns : goal.returns
returns c =
    let first : ReplyFits c.args.change.now.reply =
    subst ReplyFits c.reply.ensures (c.if-not-is_in_range.ensures.0 (search rules)) in
    let whole : take c.looks.f-index c.further-f-items.result.now ≡ c.args.change.now.further =
    take_all c.looks.f-index c.further-f-items.result.now c.looks-test.false
    ∙ c.further-f-items.ensures in (
      (λ _. (
        first,
        λ f has. c.looks.invariant f (subst (λ (l : List Further). Has l f) (sym whole)
            has),
      )),
      (λ _. search rules),
    )

pub returns-then-not-is_in_range-2 : goal.returns-then-not-is_in_range-2
returns-then-not-is_in_range-2 c = (
  (λ no. absurd (search rules)),
  (λ fits. c.if-not-is_in_range-2.ensures.1 (fits.1 c.f-item.result
      (subst (λ (l : List Further). Has l c.f-item.result) c.further-f-items.ensures
      (had c.further-f-items.result.now c.looks.f-index c.f-item.result c.looks-test.true
      c.f-item.is)))),
)
