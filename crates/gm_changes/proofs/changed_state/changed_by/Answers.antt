use Rattle.gm_changes.proofs.Common.{◌≡◌, ◌∙◌, sym, ap₂, subst, Records, provider, name, Ascends, put_all, without_all, Changed, changed_by, put_some, without_some, Ascends-without_all}
use Rattle.gm_changes.proofs.MakesChange.{without_all-filter}
use Rattle.gm_changes.proofs.ReplacedRecords.{some_state, none_state, Ascends-without_some}
use Rattle.gm_changes.proofs.changed_state.changed_by.Goals as goal

mirrors_left : (c : goal.After-new)
    → c.in_ok-left.left.items ≡ without_some c.args.change.now.gone_mirror c.args.state.now.mirrors
mirrors_left c =
    c.in_ok-left.ensures ∙ ap₂ without_some c.gone_mirror.ensures c.mirrors.ensures.value

components_left : (c : goal.After-new)
    → c.in_ok-left-2.left.items ≡ without_all provider c.args.change.now.gone_components
    c.args.state.now.components
components_left c =
    c.in_ok-left-2.ensures
    ∙ (sym (without_all-filter c.gone_components.result.now c.components.result.now)
    ∙ ap₂ (without_all provider) c.gone_components.ensures c.components.ensures.value)

pub with_some-requires : goal.with_some-requires
with_some-requires c =
    subst (Ascends name)
    (sym (c.in_ok-left.ensures ∙ ap₂ without_some c.gone_mirror.ensures
    c.mirrors.ensures.value))
    (Ascends-without_some c.args.change.now.gone_mirror c.args.state.now.mirrors
    c.mirrors.ensures.state.mirrors_in_order)

pub with_all-requires : goal.with_all-requires
with_all-requires c =
    subst (Ascends provider)
    (sym (c.in_ok-left-2.ensures
    ∙ (sym (without_all-filter c.gone_components.result.now c.components.result.now)
    ∙ ap₂ (without_all provider) c.gone_components.ensures c.components.ensures.value)))
    (Ascends-without_all provider c.args.change.now.gone_components c.args.state.now.components
    c.mirrors.ensures.state.components_in_order)

pub returns : goal.returns
returns c =
    let ch : Changed = c.args.change.now in
    let s : Records = c.args.state.now in
    let a : c.in_ok-mirrors.mirrors.items ≡ (changed_by ch s).mirrors =
    c.in_ok-mirrors.ensures ∙ ap₂ put_some c.mirror.ensures (mirrors_left c) in
    let b : c.in_ok-components.components.items ≡ (changed_by ch s).components =
    c.in_ok-components.ensures ∙ ap₂ (put_all provider) c.components-2.ensures
    (components_left c) in
    record {
      some = some_state ch s _ _ a b c.mirrors.ensures.state c.new.result c.new.ensures.some;
      none = none_state ch s _ _ a b c.new.result c.new.ensures.none;
    }
