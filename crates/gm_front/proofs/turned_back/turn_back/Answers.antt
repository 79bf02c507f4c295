use Rattle.gm_front.proofs.Withholding.{tells_of}
use Rattle.gm_front.specs.TurnedBack.{turned_back_told}
use Rattle.gm_front.proofs.turned_back.turn_back.Goals as goal

pub returns-clause-response : goal.returns-clause-response
returns-clause-response g c =
    let told = c.tell_why-response in
    tells_of (turned_back_told c.args.why.now) _ _ told.result told.ensures.ok told.ensures.front
    told.ensures.read
