use Rattle.gm_json.proofs.KeptCommands.{pieces_whole}
use Rattle.gm_json.proofs.history.pieces_make_history.Goals as goal

pub returns : goal.returns
returns c = pieces_whole
