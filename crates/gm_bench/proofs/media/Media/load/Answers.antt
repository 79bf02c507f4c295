use Rattle.gm_bench.proofs.Common.{rules, ◌≡◌, ◌∙◌, sym, Store, Unreadable}
use Rattle.gm_bench.proofs.Causes.{of_failed, of_unreadable}
use Rattle.gm_bench.proofs.Found.{loaded}
use Rattle.gm_bench.proofs.media.Media.load.Goals as goal

pub returns-in-Ok : goal.returns-in-Ok
returns-in-Ok g c =
    record {
      says = λ h clean away ts bytes u w at.
          let lawful = g.met.H.Shelf.lawful c.args.self.now.shelf h in
          let of = c.in-Ok.ensures.loaded clean at.tables at.has in
          let same = loaded g.S.Store g.H.Shelf c.args.self.now.registry
          c.args.self.now.shelf away ts bytes u w at lawful c.in-Ok.loaded.state
          c.in-Ok.loaded.intents.items c.in-Ok.loaded.bytes.items of.0 in
          (same.0, same.1, same.2, of.1.tables);
      loaded = search rules;
      loads = search rules;
    }

pub returns-in-Err : goal.returns-in-Err
returns-in-Err g c =
    record {
      says = search rules;
      loaded = search rules;
      loads = record {
        unreadable = λ clean is t s ts bytes has of.
            let fault : c.of_store.result ≡ Unreadable = cc in
            c.in-Err.ensures.unreadable clean (of_unreadable c.in-Err.fault
            (sym c.of_store.ensures.value ∙ fault)) t s ts bytes has of;
        store = λ clean is registry.
            let fault : c.of_store.result ≡ Store = cc in
            c.in-Err.ensures.store clean (of_failed c.in-Err.fault
            (sym c.of_store.ensures.value ∙ fault)) registry;
        untouched = search rules;
        still = search rules;
        fault = search rules;
        reads = search rules;
        shelf = search rules;
      };
    }
