use Rattle.std.proofs.Common.{◌≡◌, ◌+◌, ◌-◌, ◌*◌, length, take, drop, min, ap₂, ◌∙◌, arith}
use Rattle.gm_writing.proofs.Cuts.{cut}
use Rattle.gm_writing.proofs.patches.Patches.bytes_of.Goals as goal

pub returns : goal.returns
returns c = λ small.
    let all = length c.args.self.now.bytes.now in
    let begins : c.min-begin.result ≡ min (32768 * c.args.index) all = omega (arith, small) in
    let ends : c.min-end.result ≡ min (min (32768 * c.args.index) all + 32768) all =
    omega (arith, small) in
    ap₂ (λ b e. take (e - b) (drop b c.args.self.now.bytes.now)) begins ends
    ∙ cut c.args.self.now.bytes.now (32768 * c.args.index) 32768
