use Rattle.gm_registry.proofs.Common.{◌≡◌, ◌+◌, [], length, take, refl, sym, ap, subst, arith, take_all, state, seen, IsInside, TakesFurther, with_further}
use Rattle.gm_registry.proofs.FittingFurther.{one_further, takes_next}
use Rattle.gm_registry.proofs.FittingInTurn.{one_longer, within_all}
use Rattle.gm_registry.proofs.InsideCalls.{all_done, and_did, did_as, none_did, then_fails, then_stops}
use Rattle.gm_registry.proofs.StepsInTurn.{less_room}
use Rattle.gm_registry.proofs.commands.put_further.Goals as goal

pub puts-init : goal.puts-init
puts-init g c = (
  omega arith,
  none_did g.S.Store c.args.tx.now (with_further [] (c.args.number + 1)
      c.args.words.now) 0 (λ t. refl),
)

pub puts-preserved : goal.puts-preserved
puts-preserved g c =
    let new = state g.S.Store c.put_command.new.tx.conn.now in
    let all = c.args.further.now in
    let i = c.puts.f-index in
    let n = c.args.number + 1 in
    let words = c.args.words.now in
    let so = c.puts.invariant in
    let at : c.in-Some.next ≡ n + i = omega (arith, c.in-Some.ensures, so.0) in (
      omega (arith, at),
      did_as g.S.Store (with_further (take (i + 1) all) n words) (length (take (i + 1) all))
          (and_did g.S.Store so.1 c.in_ok-put_command.ensures)
          (λ first t is. subst (IsInside first new) (sym (one_further all i n c.in-Some.next words
          c.f-item.result t c.puts-test.true c.f-item.is at)) (rw (c.as_str.ensures.value) at is))
          (one_longer all i c.puts-test.true),
    )

pub returns : goal.returns
returns g c =
    let i = c.puts.f-index in
    let all = c.args.further.now in
    let whole = take_all i all c.puts-test.false in
    let new = state g.S.Store c.puts.tx.conn.now in
    let n = c.args.number + 1 in
    all_done g.S.Store _ _ _ c.puts.invariant.1
    (λ first t. subst (λ fs. IsInside first new (with_further fs n c.args.words.now t)) whole)
    (omega (arith, ap length whole))

pub returns-in-None : goal.returns-in-None
returns-in-None g c =
    then_stops g.S.Store _ _ _ _ c.puts.invariant.1
    (λ t fits. omega (
      arith,
      c.in-None.ensures,
      c.puts.invariant.0,
      fits.numbers.few,
      c.puts-test.true,
    ))

pub returns-in_err-put_command : goal.returns-in_err-put_command
returns-in_err-put_command g c =
    let all = c.args.further.now in
    let i = c.puts.f-index in
    let n = c.args.number + 1 in
    let words = c.args.words.now in
    let so = c.puts.invariant in
    let old = seen g.S.Store c.args.tx.now.conn.now in
    let at : c.in-Some.next ≡ n + i = omega (arith, c.in-Some.ensures, so.0) in
    then_fails g.S.Store c.from_residual.result (with_further all n words)
    (TakesFurther all n words) (length all) so.1 c.in_err-put_command.ensures
    (λ t fits room. rw (c.as_str.ensures.value) (takes_next all i n c.in-Some.next words
    c.f-item.result old (seen g.S.Store c.puts.tx.conn.now) t fits c.puts-test.true c.f-item.is at
    (room 1 (less_room _ _ old (within_all all i c.puts-test.true) fits.room))))
    c.from_residual.ensures.1
