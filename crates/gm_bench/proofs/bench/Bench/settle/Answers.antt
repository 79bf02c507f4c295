use Rattle.gm_bench.proofs.Common.{rules, subst, LeavesOnly}
use Rattle.gm_bench.proofs.bench.Bench.settle.Goals as goal

pub returns-in-Applied : goal.returns-in-Applied
returns-in-Applied g c =
    record {
      does = search rules;
      leaves = λ h clean work is away u w at shelf.
          subst (λ (k : g.row.H.Denot). LeavesOnly g.S.Store g.H.Shelf
          c.args.self.now.media.registry c.settle.new.self.registry c.args.self.now.media.shelf k
          away u w) c.settle.ensures.settles.shelf
          (c.settle.ensures.leaves h clean away work.intents.items work.bytes.items u w at.at
          shelf);
      phase = search rules;
      refused = search rules;
      settles = search rules;
      closes = search rules;
    }

pub returns-in_err-settle-in-Applied : goal.returns-in_err-settle-in-Applied
returns-in_err-settle-in-Applied g c =
    record {
      does = search rules;
      leaves = λ h clean work is away u w at shelf.
          subst (λ (k : g.row.H.Denot). LeavesOnly g.S.Store g.H.Shelf
          c.args.self.now.media.registry c.settle.new.self.registry c.args.self.now.media.shelf k
          away u w) c.settle.ensures.settles.shelf
          (c.settle.ensures.leaves h clean away work.intents.items work.bytes.items u w at.at
          shelf);
      phase = search rules;
      refused = search rules;
      settles = search rules;
      closes = search rules;
    }
