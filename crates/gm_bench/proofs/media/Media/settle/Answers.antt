use Rattle.gm_bench.proofs.Common.{rules, ◌≡◌, ◌∙◌, sym, Disk, Store, saved}
use Rattle.gm_bench.proofs.Causes.{no_disk, of_failed}
use Rattle.gm_bench.proofs.RegistryLeaves.{settle_leaves, settle_rests}
use Rattle.gm_bench.proofs.media.Media.settle.Goals as goal

pub returns-in-Ok : goal.returns-in-Ok
returns-in-Ok g c =
    record {
      leaves = λ h clean away ts bytes u w at shelf.
          let r = c.args.self.now.registry in
          settle_leaves g.S.Store g.H.Shelf r c.args.self.now.shelf
          c.args.self.now.shelf away ts bytes u w at
          (saved g.S.Store g.met.S.Store.settled r at.tables at.has).crash
          (g.met.H.Shelf.lawful c.args.self.now.shelf h) c.settle.new.self clean
          (c.settle.ensures.writes.left at.tables at.has) shelf;
      done = λ h clean away ts bytes u w at shelf.
          let r = c.args.self.now.registry in
          settle_rests g.S.Store g.H.Shelf r c.args.self.now.shelf
          c.args.self.now.shelf away ts bytes u w at
          (saved g.S.Store g.met.S.Store.settled r at.tables at.has).crash
          (g.met.H.Shelf.lawful c.args.self.now.shelf h) c.settle.new.self
          (c.in-Ok.ensures.writes.done clean at.tables at.has).tables shelf;
      settles = search rules;
    }

pub returns-in-Err : goal.returns-in-Err
returns-in-Err g c =
    record {
      leaves = λ h clean away ts bytes u w at shelf.
          let r = c.args.self.now.registry in
          settle_leaves g.S.Store g.H.Shelf r c.args.self.now.shelf
          c.args.self.now.shelf away ts bytes u w at
          (saved g.S.Store g.met.S.Store.settled r at.tables at.has).crash
          (g.met.H.Shelf.lawful c.args.self.now.shelf h) c.settle.new.self clean
          (c.settle.ensures.writes.left at.tables at.has) shelf;
      done = search rules;
      settles = record {
        shelf = search rules;
        clean = search rules;
        refused = λ clean t has is_open. (c.in-Err.ensures.writes.refused clean t has
            is_open).tables;
        store = λ clean is t has.
            let fault : c.of_store.result ≡ Store = cc in
            c.in-Err.ensures.store clean (of_failed c.in-Err.fault
            (sym c.of_store.ensures.value ∙ fault)) t has;
        disk = λ is.
            let fault : c.of_store.result ≡ Disk = cc in
            no_disk c.in-Err.fault (sym c.of_store.ensures.value ∙ fault);
        fault = search rules;
      };
    }
