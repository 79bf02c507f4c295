use Rattle.gm_front.proofs.Pages.{told_page}
use Rattle.gm_front.proofs.service.turn_away.Goals as goal

pub returns-clause-response : goal.returns-clause-response
returns-clause-response g c =
    told_page _ _ c.tell.result c.tell.ensures.ok c.tell.ensures.front c.tell.ensures.read
