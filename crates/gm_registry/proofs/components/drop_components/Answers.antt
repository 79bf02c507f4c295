use Rattle.gm_registry.proofs.Common.{◌+◌, [], take, refl, sym, subst, arith, take_all, state, one_more, IsInside, without_component, without_components}
use Rattle.gm_registry.proofs.InsideCalls.{all_done, and_did, did_as, none_did, then_fails}
use Rattle.gm_registry.proofs.components.drop_components.Goals as goal

pub drops-init : goal.drops-init
drops-init g c = none_did g.S.Store c.args.tx.now (without_components []) 0 (λ t. refl)

pub drops-preserved : goal.drops-preserved
drops-preserved g c =
    let new = state g.S.Store c.drop_component.new.tx.conn.now in
    let all = c.args.providers.now in
    let i = c.drops.provider-index in
    did_as g.S.Store (without_components (take (i + 1) all)) 0
    (and_did g.S.Store c.drops.invariant c.in_ok-drop_component.ensures)
    (λ first t. subst (IsInside first new) (sym (one_more without_component without_components
    (λ t. refl) (λ x xs t. refl) all i c.provider-item.result t c.drops-test.true
    c.provider-item.is))) (omega arith)

pub returns : goal.returns
returns g c =
    all_done g.S.Store _ _ _ c.drops.invariant
    (λ first t. subst (λ ks. IsInside first (state g.S.Store c.drops.tx.conn.now)
    (without_components ks t))
    (take_all c.drops.provider-index c.args.providers.now c.drops-test.false)) (omega arith)

pub returns-in_err-drop_component : goal.returns-in_err-drop_component
returns-in_err-drop_component g c =
    then_fails g.S.Store c.from_residual.result _ _ _ c.drops.invariant
    c.in_err-drop_component.ensures (λ t fits room. tt) c.from_residual.ensures.1
