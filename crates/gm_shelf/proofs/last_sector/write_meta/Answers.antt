use Rattle.gm_shelf.proofs.Common.{ℕ, List, subst, WritesLast}
use Rattle.gm_shelf.proofs.last_sector.write_meta.Goals as goal

pub returns : goal.returns
returns g c =
    subst (λ (s : List ℕ). WritesLast g.H.Shelf c.args.shelf.now c.write_last.new.shelf
    c.write_last.result c.args.provider s) c.encode.ensures.sector c.write_last.ensures
