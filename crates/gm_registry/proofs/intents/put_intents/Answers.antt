use Rattle.gm_registry.proofs.Common.{◌≡◌, ◌+◌, [], take, refl, subst, arith, take_all, state, intent_rows, IsInside, with_intents}
use Rattle.gm_registry.proofs.FittingIntents.{next_unnumbered}
use Rattle.gm_registry.proofs.InsideCalls.{all_done, and_did, did_as, none_did, then_fails}
use Rattle.gm_registry.proofs.PendingRows.{behind}
use Rattle.gm_registry.proofs.intents.put_intents.Goals as goal

pub puts-init : goal.puts-init
puts-init g c = (refl, none_did g.S.Store c.args.tx.now (with_intents []) 0 (λ t. refl))

pub puts-preserved : goal.puts-preserved
puts-preserved g c =
    let new = state g.S.Store c.put_intent.new.tx.conn.now in
    let all = c.args.intents.now in
    let i = c.puts.intent-index in
    let so = c.puts.invariant in
    let next : c.in-Some.next ≡ i + 1 = omega (arith, c.in-Some.ensures, so.0) in (
      next,
      did_as g.S.Store (with_intents (intent_rows 1 (take (i + 1) all))) 0
          (and_did g.S.Store so.1 c.in_ok-put_intent.ensures)
          (λ at t. behind at new all i c.in-Some.next c.intent-item.result t c.puts-test.true
          c.intent-item.is next) (omega arith),
    )

pub returns : goal.returns
returns g c =
    let so = c.puts.invariant in
    all_done g.S.Store _ _ _ so.1
    (λ first t. subst (λ ts. IsInside first (state g.S.Store c.puts.tx.conn.now)
    (with_intents (intent_rows 1 ts) t))
    (take_all c.puts.intent-index c.args.intents.now c.puts-test.false)) (omega arith)

pub returns-in_err-put_intent : goal.returns-in_err-put_intent
returns-in_err-put_intent g c =
    let so = c.puts.invariant in
    let i = c.puts.intent-index in
    let next : c.in-Some.next ≡ i + 1 = omega (arith, c.in-Some.ensures, so.0) in
    then_fails g.S.Store c.from_residual.result _ _ _ so.1 c.in_err-put_intent.ensures
    (λ t takes room. next_unnumbered c.args.intents.now i c.in-Some.next t takes c.puts-test.true
    next) c.from_residual.ensures.1
