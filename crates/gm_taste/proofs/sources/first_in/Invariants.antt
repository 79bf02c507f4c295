use Rattle.gm_taste.proofs.Common.{◌≡◌, drop, None, first_from}
use Rattle.gm_taste.proofs.sources.first_in.Given as goal

abbrev pub invariant-loop-member : goal.invariant-loop-member
invariant-loop-member l = first_from l.first (drop l.member-index l.members)
    ≡ first_from None l.members
