use Rattle.std.proofs.Common.{◌≡◌, ◌≤◌, ◌-◌, ap, ◌∙◌, arith}
use Rattle.gm_writing.specs.Patches.{lines_of}
use Rattle.gm_writing.proofs.patches.Patches.lines.Goals as goal

pub returns : goal.returns
returns c = λ some small.
    let last : c.loop-index.index ≤ c.args.end = c.loop-index.auto.index-end some in
    let all : c.loop-index.index - c.args.begin ≡ c.args.end - c.args.begin =
    omega (arith, last, c.loop-index-test.false) in
    c.loop-index.invariant small ∙ ap (λ n. lines_of c.args.self.now c.args.begin n) all
