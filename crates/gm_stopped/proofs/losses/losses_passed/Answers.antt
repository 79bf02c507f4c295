use Rattle.gm_stopped.proofs.Common.{◌≡◌, ◌∙◌, ℕ, ◌+◌, false, Some, None, nat_lt, sym, ap, le-ltb}
use Rattle.gm_stopped.specs.Losses.{before_loss, passes}
use Rattle.gm_stopped.proofs.Walking.{stops, goes_on, runs_out}
use Rattle.gm_stopped.proofs.losses.losses_passed.Goals as goal

pub returns-in_default : goal.returns-in_default
returns-in_default c =
    let some : before_loss c.args.state.now c.loop-command.left.now c.command-item.result
    ≡ Some c.in-Some.before = sym c.in_ok-before.ensures ∙ c.in-Some.is in
    let none : nat_lt 0 c.in-Some.before ≡ false =
    le-ltb 0 c.in-Some.before c.if-before-gt0.false in
    c.loop-command.invariant.walked
    ∙ stops c.args.state.now c.loop-command.left.now c.args.commands.now c.loop-command.passed
    c.loop-command.command-index c.loop-command.invariant.counted c.command-item.result
    c.loop-command-test.true c.command-item.is (ap passes some ∙ none)

pub returns-in_default-2 : goal.returns-in_default-2
returns-in_default-2 c =
    let none : before_loss c.args.state.now c.loop-command.left.now c.command-item.result
    ≡ None = sym c.in_ok-before.ensures ∙ c.in_default.is in
    c.loop-command.invariant.walked
    ∙ stops c.args.state.now c.loop-command.left.now c.args.commands.now c.loop-command.passed
    c.loop-command.command-index c.loop-command.invariant.counted c.command-item.result
    c.loop-command-test.true c.command-item.is (ap passes none)

pub loop-command-preserved : goal.loop-command-preserved
loop-command-preserved c =
    let some : before_loss c.args.state.now c.loop-command.left.now c.command-item.result
    ≡ Some c.in-Some.before = sym c.in_ok-before.ensures ∙ c.in-Some.is in
    record {
      counted = ap (λ (n : ℕ). n + 1) c.loop-command.invariant.counted;
      walked = c.loop-command.invariant.walked
          ∙ goes_on c.args.state.now c.loop-command.left.now c.args.commands.now
          c.loop-command.passed c.loop-command.command-index c.loop-command.invariant.counted
          c.command-item.result c.in-Some.before c.loop-command-test.true c.command-item.is
          some c.if-before-gt0.true;
    }

pub returns : goal.returns
returns c =
    c.loop-command.invariant.walked
    ∙ runs_out c.args.state.now c.loop-command.left.now c.args.commands.now c.loop-command.passed
    c.loop-command.command-index c.loop-command.invariant.counted c.loop-command-test.false
