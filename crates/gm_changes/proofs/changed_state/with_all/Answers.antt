use Rattle.gm_changes.proofs.Common.{◌≡◌, ◌∙◌, sym, ap, subst, List, drop_all, Component, provider, Ascends, put, put_all, Ascends-put}
use Rattle.gm_changes.proofs.ReplacedRecords.{put_more}
use Rattle.gm_changes.proofs.changed_state.with_all.Goals as goal

pub with_component-requires : goal.with_component-requires
with_component-requires c =
    subst (Ascends provider) (sym c.deref.ensures.value) c.loop-component.invariant.1

pub loop-component-preserved : goal.loop-component-preserved
loop-component-preserved c =
    let k : Component = c.component-item.result in
    let old : List Component = c.loop-component.components.items in
    let is : c.in_ok-components.components.items ≡ put provider k old =
    c.in_ok-components.ensures ∙ ap (put provider k) c.deref.ensures.value in (
      put_more c.args.added.now c.loop-component.component-index k old
          c.in_ok-components.components.items c.loop-component-test.true c.component-item.is is
          ∙ c.loop-component.invariant.0,
      subst (Ascends provider) (sym is) (Ascends-put provider k old c.loop-component.invariant.1),
    )

pub returns : goal.returns
returns c = sym (ap (λ xs. put_all provider xs c.loop-component.components.items)
    (drop_all c.loop-component.component-index c.args.added.now c.loop-component-test.false))
    ∙ c.loop-component.invariant.0
