use Rattle.gm_state.proofs.Common.{rules, sym, ◌∙◌, false, answers_always, name, provider}
use Rattle.gm_state.proofs.MadeState.{passed, refused, tested}
use Rattle.gm_state.proofs.state.State.new.Goals as goal

pub from_ordered-requires : goal.from_ordered-requires
from_ordered-requires c =
    passed c.deref.result.now c.sort_unstable_by_key.new.self.items c.deref-2.result.now
    c.sort_unstable_by_key-2.new.self.items c.keeps_rules.result
    c.keeps_rules.ensures c.if-not-keeps_rules.false c.deref.ensures.value c.deref-2.ensures.value

pub returns-clause-some : goal.returns-clause-some
returns-clause-some c = rw c.from_ordered.ensures (record {
  state = passed c.deref.result.now c.sort_unstable_by_key.new.self.items c.deref-2.result.now
      c.sort_unstable_by_key-2.new.self.items c.keeps_rules.result
      c.keeps_rules.ensures c.if-not-keeps_rules.false c.deref.ensures.value
      c.deref-2.ensures.value;
  mirrors_are = c.sort_unstable_by_key.ensures.permutation;
  components_are = c.sort_unstable_by_key-2.ensures.permutation;
})

pub returns-then-not-keeps_rules-clause-none : goal.returns-then-not-keeps_rules-clause-none
returns-then-not-keeps_rules-clause-none c =
    refused c.args.mirrors.items c.sort_unstable_by_key.new.self.items c.args.components.items
    c.sort_unstable_by_key-2.new.self.items
    c.sort_unstable_by_key.ensures.permutation c.sort_unstable_by_key-2.ensures.permutation
    (c.sort_unstable_by_key.ensures.sorted name (answers_always _ _ _ (λ f a r g h. search rules)))
    (c.sort_unstable_by_key-2.ensures.sorted provider
    (answers_always _ _ _ (λ f a r g h. search rules)))
    (tested c.deref.result.now c.sort_unstable_by_key.new.self.items c.deref-2.result.now
    c.sort_unstable_by_key-2.new.self.items false
    (sym c.keeps_rules.ensures ∙ c.if-not-keeps_rules.true) c.deref.ensures.value
    c.deref-2.ensures.value)
