use Rattle.gm_changes.proofs.Common.{seen_in, some_from, fits_32, label_size}
use Rattle.gm_changes.proofs.MadeOfPart.{label_made}
use Rattle.gm_changes.proofs.decision.change_of.Goals as goal

pub sectors_of-sectors-requires-clause-there : goal.sectors_of-sectors-requires-clause-there
sectors_of-sectors-requires-clause-there c =
    some_from _ (label_size c.args.part.now (seen_in c.args.facts.now) _ _ c.in-Label.is
    c.requires).0

pub sectors_of-sectors-requires-clause-fits : goal.sectors_of-sectors-requires-clause-fits
sectors_of-sectors-requires-clause-fits c =
    fits_32 _ (label_size c.args.part.now (seen_in c.args.facts.now) _ _ c.in-Label.is c.requires).1

pub returns-in_ok-labelled-in-Label : goal.returns-in_ok-labelled-in-Label
returns-in_ok-labelled-in-Label c =
    rw c.in-Label.is (label_made c.args.part.now (seen_in c.args.facts.now) _ _ _ _ _
    c.sectors_of-sectors.ensures c.new_mirror-mirror.ensures c.first_component-first.ensures
    c.in_ok-labelled-in-Label.ensures)
