use Rattle.gm_looking.proofs.AllIsWell.{all_is_well, done_if_well}
use Rattle.gm_looking.proofs.laws.check_law.Goals as goal

pub returns : goal.returns
returns c checking whole bytes size seen report state of = (
  all_is_well checking whole bytes size seen report state of,
  done_if_well checking whole bytes size seen report state of,
)
