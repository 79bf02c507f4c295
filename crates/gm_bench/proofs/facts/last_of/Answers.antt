use Rattle.gm_bench.proofs.Common.{◌∙◌, ap, zeros}
use Rattle.std.specs.Option.{unwrap_or}
use Rattle.gm_shelf.proofs.LastRead.{last_read}
use Rattle.gm_bench.proofs.facts.last_of.Goals as goal

pub returns-clause-bytes : goal.returns-clause-bytes
returns-clause-bytes g c h is =
    let j = g.H.Shelf in
    c.unwrap_or.ensures ∙ (ap (λ o. unwrap_or o zeros) (c.in_ok-last.ensures.last h)
    ∙ last_read (j.size c.args.shelf.now) (j.view c.args.shelf.now).seen
    c.args.provider c.args.sectors is)
