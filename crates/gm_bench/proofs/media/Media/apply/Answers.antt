use Rattle.gm_bench.proofs.Common.{rules, ◌≡◌, ◌∙◌, Err, sym, ap, Disk, saved}
use Rattle.gm_bench.proofs.Causes.{of_disk, not_lacking_provider, not_lacking_sector}
use Rattle.gm_bench.proofs.CarriedIntents.{moments, leaves, carried, ended}
use Rattle.gm_bench.proofs.media.Media.apply.Goals as goal

pub returns-in-Ok : goal.returns-in-Ok
returns-in-Ok g c =
    record {
      moments = λ h away u w at cover.
          moments g.S.Store g.H.Shelf c.args.self.now.registry c.args.self.now.shelf
          c.apply.new.shelf away c.args.intents.now c.args.bytes.now u w at
          (g.met.H.Shelf.lawful c.args.self.now.shelf h) c.args.part.now cover
          (c.apply.ensures.moments h);
      done = λ h away u w at cover.
          let lawful = g.met.H.Shelf.lawful c.args.self.now.shelf h in
          let after = g.met.H.Shelf.lawful c.apply.new.shelf (c.apply.ensures.keeps.honest h) in (
            carried g.S.Store g.H.Shelf c.args.self.now.registry c.args.self.now.shelf
                c.apply.new.shelf away c.args.intents.now c.args.bytes.now u w at lawful
                c.args.part.now cover
                (c.apply.ensures.moments h) after c.apply.ensures.keeps.size,
            ended g.S.Store g.H.Shelf c.args.self.now.registry c.args.self.now.shelf
                c.apply.new.shelf away c.args.intents.now c.args.bytes.now u w at lawful
                c.args.part.now cover
                (c.apply.ensures.moments h) after c.apply.ensures.keeps.size
                (c.in-Ok.ensures.done h),
          );
      leaves = λ h away u w at cover.
          leaves g.S.Store g.H.Shelf c.args.self.now.registry c.args.self.now.shelf
          c.apply.new.shelf away c.args.intents.now c.args.bytes.now u w at
          (g.met.H.Shelf.lawful c.args.self.now.shelf h) c.args.part.now cover
          (c.apply.ensures.moments h)
          (g.met.H.Shelf.lawful c.apply.new.shelf (c.apply.ensures.keeps.honest h))
          (saved g.S.Store g.met.S.Store.settled c.args.self.now.registry at.tables at.has).crash;
      disk = search rules;
      writes = search rules;
    }

pub returns-in-Err : goal.returns-in-Err
returns-in-Err g c =
    record {
      moments = λ h away u w at cover.
          moments g.S.Store g.H.Shelf c.args.self.now.registry c.args.self.now.shelf
          c.apply.new.shelf away c.args.intents.now c.args.bytes.now u w at
          (g.met.H.Shelf.lawful c.args.self.now.shelf h) c.args.part.now cover
          (c.apply.ensures.moments h);
      done = search rules;
      leaves = λ h away u w at cover.
          leaves g.S.Store g.H.Shelf c.args.self.now.registry c.args.self.now.shelf
          c.apply.new.shelf away c.args.intents.now c.args.bytes.now u w at
          (g.met.H.Shelf.lawful c.args.self.now.shelf h) c.args.part.now cover
          (c.apply.ensures.moments h)
          (g.met.H.Shelf.lawful c.apply.new.shelf (c.apply.ensures.keeps.honest h))
          (saved g.S.Store g.met.S.Store.settled c.args.self.now.registry at.tables at.has).crash;
      disk = λ hand is.
          let fault : c.of_shelf.result ≡ Disk = cc in
          let size = g.H.Shelf.size c.args.self.now.shelf in
          of_disk c.in-Err.fault _ (sym c.of_shelf.ensures.value ∙ fault)
          (λ e. let it = c.in-Err.ensures.fails.absent (ap Err e) in
          not_lacking_provider size it.0 (hand it.0 it.1) it.2)
          (λ e. let it = c.in-Err.ensures.fails.range (ap Err e) in
          not_lacking_sector size it.0 (hand it.0 it.1) it.2)
          (λ e. c.in-Err.ensures.fails.device (ap Err e));
      writes = search rules;
    }
