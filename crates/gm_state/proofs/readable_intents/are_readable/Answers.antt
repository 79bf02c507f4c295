use Rattle.gm_state.proofs.Common.{rules, AreSectors}
use Rattle.gm_state.proofs.PatchFound.{are_sectors}
use Rattle.gm_state.proofs.readable_intents.are_readable.Goals as goal

pub returns-then-are_ordered : goal.returns-then-are_ordered
returns-then-are_ordered c =
    let sectors : AreSectors c.args.bytes.now = are_sectors c.args.bytes.now c.told-bytes in
    search rules
