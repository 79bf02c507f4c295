use Rattle.gm_front.proofs.turned_back.TurnedBack.told.Goals as goal

pub returns-in-Page : goal.returns-in-Page
returns-in-Page c = rw c.in-Page.is c.told_as.ensures
