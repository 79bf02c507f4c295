use Rattle.gm_bench.proofs.Common.{◌<◌, Err, rules, ◌≡◌, ◌∙◌, length, sym, ap, subst, subst₂, arith, List, ℕ, DiskKept, state, saved, failed_since, sees_registry, LeavesOnly, Intent, same_mirror, same_component, AreTablesOf, one_reading}
use Rattle.gm_bench.proofs.Causes.{fault_is}
use Rattle.gm_bench.proofs.RegistryLeaves.{read_only}
use Rattle.gm_bench.proofs.TakenUp.{absent_back, moved, leaves_back}
use Rattle.gm_bench.proofs.media.Media.take_up.Goals as goal

pub returns : goal.returns
returns g c =
    let clean1 : DiskKept g.S.Store c.check_and_finish.new.self.registry
    → DiskKept g.S.Store c.load.new.self.registry =
    λ clean. omega (arith, clean, c.check_and_finish.ensures.finishes.keep.clean) in
    record {
      leaves = λ h clean away ts bytes u w at.
          let j = g.H.Shelf in
          let said = c.in_ok-loaded.ensures.says h (clean1 clean) away ts bytes u w at in
          let are : c.deref.result.now ≡ ts = c.deref.ensures.value ∙ said.1 in
          let laid : c.deref-2.result.now ≡ bytes = c.deref-2.ensures.value ∙ said.2 in
          let found = moved g.S.Store j c.args.self.now.registry c.load.new.self.registry
          c.args.self.now.shelf c.load.new.self.shelf away ts bytes u w at
          c.load.ensures.loads.shelf c.deref.result.now are c.deref-2.result.now laid said.3 in
          let h1 : g.H.Shelf.honest c.load.new.self.shelf =
          subst g.H.Shelf.honest (sym c.load.ensures.loads.shelf) h in
          leaves_back g.S.Store j c.args.self.now.registry c.load.new.self.registry
          c.args.self.now.shelf c.load.new.self.shelf away ts bytes u w at
          c.load.ensures.loads.shelf c.deref.result.now are c.deref-2.result.now laid
          c.check_and_finish.new.self.registry c.check_and_finish.new.self.shelf
          (saved g.S.Store g.met.S.Store.settled c.args.self.now.registry at.tables at.has).crash
          (c.check_and_finish.ensures.moments h1 away u w found said.0)
          (c.check_and_finish.ensures.leaves h1 clean away u w found said.0);
      done = λ h clean away ts bytes u w at.
          let j = g.H.Shelf in
          let said = c.in_ok-loaded.ensures.says h (clean1 clean) away ts bytes u w at in
          let are : c.deref.result.now ≡ ts = c.deref.ensures.value ∙ said.1 in
          let laid : c.deref-2.result.now ≡ bytes = c.deref-2.ensures.value ∙ said.2 in
          let found = moved g.S.Store j c.args.self.now.registry c.load.new.self.registry
          c.args.self.now.shelf c.load.new.self.shelf away ts bytes u w at
          c.load.ensures.loads.shelf c.deref.result.now are c.deref-2.result.now laid said.3 in
          let h1 : g.H.Shelf.honest c.load.new.self.shelf =
          subst g.H.Shelf.honest (sym c.load.ensures.loads.shelf) h in
          let items : c.len.result ≡ length c.in_ok-loaded.loaded.intents.items = search rules in
          let many : c.len.result ≡ length ts = items ∙ ap length said.1 in
          (many, c.in_ok-check_and_finish.ensures.done h1 clean away u w found said.0);
      tells = record {
        readable = λ clean t has. (
          c.in_ok-loaded.loaded.state,
          c.in_ok-loaded.loaded.intents.items,
          c.in_ok-loaded.loaded.bytes.items,
          (c.in_ok-loaded.ensures.loaded (clean1 clean) t has).0,
        );
        there = λ clean t s ts bytes has of. (
            let said = c.in_ok-loaded.ensures.loaded (clean1 clean) t has in
            let same = one_reading same_mirror same_component t c.in_ok-loaded.loaded.state s
            c.in_ok-loaded.loaded.intents.items ts c.in_ok-loaded.loaded.bytes.items bytes said.0
            of in
            absent_back _ _ _ _ _ _ _ same.0 (ap g.H.Shelf.size c.load.ensures.loads.shelf)
            (c.deref.ensures.value ∙ same.1) c.in_ok-check_and_finish.ensures.checks.there);
        absent = search rules;
        disk = search rules;
        unreadable = search rules;
        closed = search rules;
      };
      store = search rules;
      before = search rules;
      keep = search rules;
    }

pub returns-in_err-check_and_finish : goal.returns-in_err-check_and_finish
returns-in_err-check_and_finish g c =
    let clean1 : DiskKept g.S.Store c.check_and_finish.new.self.registry
    → DiskKept g.S.Store c.load.new.self.registry =
    λ clean. omega (arith, clean, c.check_and_finish.ensures.finishes.keep.clean) in
    record {
      leaves = λ h clean away ts bytes u w at.
          let j = g.H.Shelf in
          let said = c.in_ok-loaded.ensures.says h (clean1 clean) away ts bytes u w at in
          let are : c.deref.result.now ≡ ts = c.deref.ensures.value ∙ said.1 in
          let laid : c.deref-2.result.now ≡ bytes = c.deref-2.ensures.value ∙ said.2 in
          let found = moved g.S.Store j c.args.self.now.registry c.load.new.self.registry
          c.args.self.now.shelf c.load.new.self.shelf away ts bytes u w at
          c.load.ensures.loads.shelf c.deref.result.now are c.deref-2.result.now laid said.3 in
          let h1 : g.H.Shelf.honest c.load.new.self.shelf =
          subst g.H.Shelf.honest (sym c.load.ensures.loads.shelf) h in
          leaves_back g.S.Store j c.args.self.now.registry c.load.new.self.registry
          c.args.self.now.shelf c.load.new.self.shelf away ts bytes u w at
          c.load.ensures.loads.shelf c.deref.result.now are c.deref-2.result.now laid
          c.check_and_finish.new.self.registry c.check_and_finish.new.self.shelf
          (saved g.S.Store g.met.S.Store.settled c.args.self.now.registry at.tables at.has).crash
          (c.check_and_finish.ensures.moments h1 away u w found said.0)
          (c.check_and_finish.ensures.leaves h1 clean away u w found said.0);
      done = search rules;
      tells = record {
        readable = search rules;
        there = search rules;
        absent = λ clean p is t s ts bytes has of. (
            let said = c.in_ok-loaded.ensures.loaded (clean1 clean) t has in
            let same = one_reading same_mirror same_component t c.in_ok-loaded.loaded.state s
            c.in_ok-loaded.loaded.intents.items ts c.in_ok-loaded.loaded.bytes.items bytes said.0
            of in
            let fault = fault_is c.from_residual-in_err-check_and_finish.result _ _
            c.from_residual-in_err-check_and_finish.ensures.1 is in
            absent_back _ _ _ _ _ _ _ same.0 (ap g.H.Shelf.size c.load.ensures.loads.shelf)
            (c.deref.ensures.value ∙ same.1) (c.in_err-check_and_finish.ensures.checks.absent p
            (ap Err fault)).0);
        disk = λ clean t has is. (
            let j = g.H.Shelf in
            let said = c.in_ok-loaded.ensures.loaded (clean1 clean) t has in
            let of : AreTablesOf t c.in_ok-loaded.loaded.state c.deref.result.now
            c.deref-2.result.now =
            subst₂ (λ (ts : List Intent) (b : List (List ℕ)).
            AreTablesOf t c.in_ok-loaded.loaded.state ts b)
            (sym c.deref.ensures.value) (sym c.deref-2.ensures.value) said.0 in
            let fault = fault_is c.from_residual-in_err-check_and_finish.result _ _
            c.from_residual-in_err-check_and_finish.ensures.1 is in
            subst (λ (x : g.row.H.Denot). (j.view x).faults <
            (j.view c.check_and_finish.new.self.shelf).faults)
            c.load.ensures.loads.shelf (c.in_err-check_and_finish.ensures.disk t of
            (ap Err fault)));
        unreadable = search rules;
        closed = search rules;
      };
      store = λ clean is t has.
          let mid : DiskKept g.S.Store c.load.new.self.registry =
          omega (arith, clean, c.check_and_finish.ensures.finishes.keep.clean) in
          failed_since (state g.S.Store c.args.self.now.registry)
          (state g.S.Store c.load.new.self.registry)
          (state g.S.Store c.check_and_finish.new.self.registry) _ (c.load.ensures.loads.reads.left
          t has) (c.in_err-check_and_finish.ensures.finishes.store clean
          (ap Err (fault_is c.from_residual-in_err-check_and_finish.result _ _
          c.from_residual-in_err-check_and_finish.ensures.1 is)) t
          (c.in_ok-loaded.ensures.loaded mid t has).1);
      before = search rules;
      keep = search rules;
    }

pub returns-in_err-loaded : goal.returns-in_err-loaded
returns-in_err-loaded g c =
    record {
      leaves = λ h clean away ts bytes u w at.
          let j = g.H.Shelf in
          let lawful = g.met.H.Shelf.lawful c.args.self.now.shelf h in
          let r = c.args.self.now.registry in
          let k = c.args.self.now.shelf in
          subst (λ (x : g.row.H.Denot). LeavesOnly g.S.Store j c.args.self.now.registry
          c.load.new.self.registry c.args.self.now.shelf x away u w)
          (sym c.load.ensures.loads.shelf) (read_only g.S.Store j c.args.self.now.registry
          c.load.new.self.registry c.args.self.now.shelf c.args.self.now.shelf away at.tables ts
          bytes u w (saved g.S.Store g.met.S.Store.settled c.args.self.now.registry at.tables
          at.has).crash clean (c.load.ensures.loads.reads.left at.tables at.has)
          (λ x l. at.leads x (lawful.only_now x l)) at.leads);
      done = search rules;
      tells = record {
        readable = search rules;
        there = search rules;
        absent = search rules;
        disk = search rules;
        unreadable = λ clean is. (
            let fault = fault_is c.from_residual.result _ _
            c.from_residual.ensures.1 is in
            c.in_err-loaded.ensures.loads.unreadable clean (ap Err fault));
        closed = search rules;
      };
      store = λ clean is t has.
          c.in_err-loaded.ensures.loads.store clean (ap Err (fault_is c.from_residual.result _ _
          c.from_residual.ensures.1 is)) (sees_registry (state g.S.Store c.args.self.now.registry) t
          has);
      before = search rules;
      keep = search rules;
    }
