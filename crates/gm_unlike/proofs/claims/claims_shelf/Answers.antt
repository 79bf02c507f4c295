use Rattle.gm_unlike.proofs.claims.claims_shelf.Goals as goal

pub returns-clause-claims : goal.returns-clause-claims
returns-clause-claims g c h =
    (c.in_ok-tasted.tasted, c.in_ok-tasted.ensures.tasted h, c.in_ok-claims_in.ensures)
