use Rattle.gm_words.proofs.Common.{◌≡◌, length, rules}
use Rattle.gm_words.proofs.JoinedNames.{joined_some}
use Rattle.gm_words.proofs.lines.joined.Goals as goal

pub returns : goal.returns
returns c =
    let some : length c.args.names.now ≡ 0 → ⊥ = λ e. search rules in
    rw (← joined_some c.args.names.now some) c.join.ensures.ok
