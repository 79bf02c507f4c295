use Rattle.gm_registry.proofs.Common.{◌+◌, [], length, take, refl, sym, ap, subst, arith, take_all, state, one_more, component_row, IsInside, with_component, with_components}
use Rattle.gm_registry.proofs.FittingInTurn.{placed_at, one_longer, within_all}
use Rattle.gm_registry.proofs.InsideCalls.{all_done, and_did, did_as, none_did, then_fails}
use Rattle.gm_registry.proofs.StepsInTurn.{less_room}
use Rattle.gm_registry.proofs.components.put_components.Goals as goal

pub puts-init : goal.puts-init
puts-init g c = none_did g.S.Store c.args.tx.now (with_components []) 0 (λ t. refl)

pub puts-preserved : goal.puts-preserved
puts-preserved g c =
    let new = state g.S.Store c.put_component.new.tx.conn.now in
    let all = c.args.components.now in
    let i = c.puts.component-index in
    did_as g.S.Store (with_components (take (i + 1) all)) (length (take (i + 1) all))
    (and_did g.S.Store c.puts.invariant c.in_ok-put_component.ensures)
    (λ first t. subst (IsInside first new) (sym (one_more (λ k. with_component (component_row k))
    with_components (λ t. refl) (λ x xs t. refl) all i c.component-item.result t c.puts-test.true
    c.component-item.is))) (one_longer all i c.puts-test.true)

pub returns : goal.returns
returns g c =
    let i = c.puts.component-index in
    let all = c.args.components.now in
    let whole = take_all i all c.puts-test.false in
    all_done g.S.Store _ _ _ c.puts.invariant
    (λ first t. subst (λ ks. IsInside first (state g.S.Store c.puts.tx.conn.now)
    (with_components ks t)) whole) (omega (arith, ap length whole))

pub returns-in_err-put_component : goal.returns-in_err-put_component
returns-in_err-put_component g c =
    let old = state g.S.Store c.args.tx.now.conn.now in
    let all = c.args.components.now in
    let i = c.puts.component-index in
    then_fails g.S.Store c.from_residual.result _ _ _ c.puts.invariant
    c.in_err-put_component.ensures (λ t fits room. record {
      placed = placed_at all i c.component-item.result t fits.0 c.puts-test.true
          c.component-item.is;
      room = (room 1 (less_room _ _ old.now.trees (within_all all i c.puts-test.true)
          fits.1)).components;
    }) c.from_residual.ensures.1
