use Rattle.gm_bench.proofs.Common.{rules, Err, sym, ap, subst, Held, HasTables, StoreFailed, AllLead}
use Rattle.gm_bench.proofs.Causes.{fault_is}
use Rattle.gm_bench.proofs.RegistryLeaves.{then_only}
use Rattle.gm_bench.proofs.media.Media.finish.Goals as goal

pub returns : goal.returns
returns g c =
    record {
      moments = λ h away u w at cover.
          let j = g.H.Shelf in
          subst (λ (x : g.row.H.Denot). AllLead at.tables c.args.intents.now
          c.args.bytes.now (j.size c.args.self.now.shelf) away
          ((j.view x).left_since (j.view c.args.self.now.shelf).moment) u w)
          (sym c.settle.ensures.settles.shelf) (c.apply.ensures.moments h away u w at cover);
      leaves = λ h clean away u w at cover.
          let m = c.in_ok-apply.ensures.done h away u w at cover in
          then_only g.S.Store g.H.Shelf c.args.self.now.registry
          c.apply.new.self.registry c.settle.new.self.registry c.args.self.now.shelf
          c.apply.new.self.shelf c.settle.new.self.shelf away u w c.settle.ensures.settles.shelf
          c.apply.ensures.writes.keeps.size
          (c.apply.ensures.leaves h away u w at cover)
          (c.settle.ensures.leaves (c.apply.ensures.writes.keeps.honest h) clean away
          c.args.intents.now c.args.bytes.now u w m.0
          m.1);
      done = search rules;
      disk = search rules;
      finishes = record {
        store = λ clean is t has.
            subst (λ (r : Held g.row.S.Denot). StoreFailed g.S.Store r c.settle.new.self.registry)
            c.apply.ensures.writes.registry (c.settle.ensures.settles.store clean is t
            (subst (λ (r : Held g.row.S.Denot). HasTables g.S.Store r t)
            (sym c.apply.ensures.writes.registry) has));
        fault = search rules;
        keep = search rules;
      };
    }

pub returns-in_err-apply : goal.returns-in_err-apply
returns-in_err-apply g c =
    record {
      moments = search rules;
      leaves = search rules;
      done = search rules;
      disk = search rules;
      finishes = record {
        store = λ clean is.
            absurd (c.in_err-apply.ensures.writes.not_store
            (ap Err (fault_is c.from_residual.result _ _ c.from_residual.ensures.1 is)));
        fault = search rules;
        keep = search rules;
      };
    }
