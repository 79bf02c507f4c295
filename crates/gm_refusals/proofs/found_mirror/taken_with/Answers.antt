use Rattle.gm_refusals.proofs.Common.{◌≡◌, true, is_bytes, are_bytes}
use Rattle.gm_refusals.proofs.found_mirror.taken_with.Goals as goal

pub returns : goal.returns
returns c = let bytes : is_bytes c.args.last.now ≡ true = are_bytes c.args.last.now c.fits-last in
    rw bytes c.taken_by.ensures
