use Rattle.gm_bench.proofs.Common.{rules, ◌≡◌, ◌⊎◌, ◌∙◌, ◌<◌, ◌+◌, ◌^◌, inl, inr, ℕ, List, Some, Err, refl, length, sym, ap, subst, subst₂, arith, Image, World, Intent, DiskKept, LeavesAlone, AreTablesOf, saved, Judged, Loss, dropped, IsFound, CanBeCommitted, HasJudged, IsJudged, LeavesOpened, StaysReadable, loss_call, IsUnwritten, Unreadable, Media, same_mirror, same_component, one_reading, most_rows}
use Rattle.gm_bench.proofs.LossCarried.{finished_opened, judged_new, lost_behind, nothing_opened}
use Rattle.gm_bench.proofs.TakenUp.{absent_back, moved}
use Rattle.gm_bench.proofs.Causes.{absent_or_unreadable, fault_is, only_absent, passed_unwritten}
use Rattle.gm_bench.proofs.DecidesOnly.{alone_then, unlost_looked}
use Rattle.gm_bench.specs.declared.fault.BenchFault.TheVariants.{Absent}
use Rattle.gm_bench.proofs.StoreFails.{failed_later, room_later}
use Rattle.gm_bench.proofs.media.Media.take_up_without.Goals as goal

pub returns-in_err-looked : goal.returns-in_err-looked
returns-in_err-looked g c =
    record {
      leaves = λ h clean.
          inl (nothing_opened g.S.Store g.H.Shelf c.args.self.now.registry
          c.look_for_loss.new.self.registry c.args.self.now.shelf c.look_for_loss.new.self.shelf
          c.look_for_loss.ensures.looks.shelf (g.met.H.Shelf.lawful c.args.self.now.shelf h)
          (λ t has. (saved g.S.Store g.met.S.Store.settled c.args.self.now.registry t has).crash)
          c.args.key.now c.args.provider clean (c.look_for_loss.ensures.looks.reads clean).left);
      does = search rules;
      undone = search rules;
      before =
          unlost_looked g.S.Store c.args.self.now c.look_for_loss.new.self c.look_for_loss.result
          c.look_for_loss.ensures.looks _;
      lacks = search rules;
      tells = record {
        readable = search rules;
        disk = search rules;
        unreadable = λ clean is t s ts bytes has of written.
            let fault = fault_is c.from_residual.result _ _ c.from_residual.ensures.1 is in
            c.in_err-looked.ensures.unreadable clean (ap Err fault) t s ts bytes has of written;
        store = λ clean is t s ts bytes has of low room.
            c.in_err-looked.ensures.store clean (ap Err (fault_is c.from_residual.result _ _
            c.from_residual.ensures.1 is)) t has;
        closed = search rules;
      };
      keep = search rules;
    }

pub returns-in-Refused : goal.returns-in-Refused
returns-in-Refused g c =
    record {
      leaves = λ h clean.
          inl (nothing_opened g.S.Store g.H.Shelf c.args.self.now.registry
          c.look_for_loss.new.self.registry c.args.self.now.shelf c.look_for_loss.new.self.shelf
          c.look_for_loss.ensures.looks.shelf (g.met.H.Shelf.lawful c.args.self.now.shelf h)
          (λ t has. (saved g.S.Store g.met.S.Store.settled c.args.self.now.registry t has).crash)
          c.args.key.now c.args.provider clean (c.look_for_loss.ensures.looks.reads clean).left);
      does = λ h clean away ts bytes u w at.
          subst (λ (x : Judged). IsJudged w ts bytes c.args.key.now c.args.provider x)
          c.in-Refused.is (c.in_ok-looked.ensures.looked h clean away ts bytes u w at).0.judged;
      undone = λ h clean.
          nothing_opened g.S.Store g.H.Shelf c.args.self.now.registry
          c.look_for_loss.new.self.registry c.args.self.now.shelf c.look_for_loss.new.self.shelf
          c.look_for_loss.ensures.looks.shelf (g.met.H.Shelf.lawful c.args.self.now.shelf h)
          (λ t has. (saved g.S.Store g.met.S.Store.settled c.args.self.now.registry t has).crash)
          c.args.key.now c.args.provider clean (c.look_for_loss.ensures.looks.reads clean).left;
      before =
          unlost_looked g.S.Store c.args.self.now c.look_for_loss.new.self c.look_for_loss.result
          c.look_for_loss.ensures.looks _;
      lacks = search rules;
      tells = record {
        readable = λ clean t has.
            let loaded = (c.in_ok-looked.ensures.loaded clean t has).0 in
            let looked = c.in_ok-looked.looked in
            (looked.state, looked.intents.items, looked.bytes.items, loaded);
        disk = search rules;
        unreadable = search rules;
        store = search rules;
        closed = search rules;
      };
      keep = search rules;
    }

pub returns-in_err-check_and_finish-in-Kept : goal.returns-in_err-check_and_finish-in-Kept
returns-in_err-check_and_finish-in-Kept g c =
    record {
      leaves = λ h clean.
          let clean1 : DiskKept g.S.Store c.look_for_loss.new.self.registry =
          omega (arith, clean, c.check_and_finish.ensures.finishes.keep.clean) in
          let h1 : g.H.Shelf.honest c.look_for_loss.new.self.shelf =
          subst g.H.Shelf.honest (sym c.look_for_loss.ensures.looks.shelf) h in
          inl (finished_opened g.S.Store g.H.Shelf c.args.self.now.registry
          c.look_for_loss.new.self.registry c.args.self.now.shelf c.look_for_loss.new.self.shelf
          c.look_for_loss.ensures.looks.shelf (g.met.H.Shelf.lawful c.args.self.now.shelf h)
          (λ t has. (saved g.S.Store g.met.S.Store.settled c.args.self.now.registry t has).crash)
          c.args.key.now c.args.provider c.in_ok-looked.looked.state c.deref.result.now
          c.deref-in-Kept.result.now c.check_and_finish.new.self.registry
          c.check_and_finish.new.self.shelf (λ away ts bytes u w at. (
          let looked = c.in_ok-looked.ensures.looked h clean1 away ts bytes u w at in (
            looked.0.state,
            c.deref.ensures.value ∙ looked.0.intents,
            c.deref-in-Kept.ensures.value ∙ looked.0.to_lay,
            looked.1,
          ))) (c.check_and_finish.ensures.moments h1) (c.check_and_finish.ensures.leaves h1 clean));
      does = search rules;
      undone = search rules;
      before =
          let passed = c.from_residual-in_err-check_and_finish-in-Kept.ensures.1 in
          let given = c.in_err-check_and_finish-in-Kept.field-0.0 in
          let same : IsUnwritten c.from_residual-in_err-check_and_finish-in-Kept.result
          → c.check_and_finish.new.self ≡ c.look_for_loss.new.self =
          λ before. (
          let it = only_absent given c.in_err-check_and_finish-in-Kept.ensures.finishes.fault
          (passed_unwritten c.from_residual-in_err-check_and_finish-in-Kept.result given passed
          before) in
          (c.in_err-check_and_finish-in-Kept.ensures.checks.absent it.0 (ap Err it.1)).1) in
          record {
            shelf = λ before. ap (λ (m : Media g.row.S.Denot g.row.H.Denot). m.shelf) (same before)
                ∙ c.look_for_loss.ensures.looks.shelf;
            registry = λ clean before is.
                let clean1 : DiskKept g.S.Store c.look_for_loss.new.self.registry =
                omega (arith, clean, c.check_and_finish.ensures.finishes.keep.clean) in
                subst (λ (m : Media g.row.S.Denot g.row.H.Denot). LeavesAlone g.S.Store
                c.args.self.now.registry m.registry) (sym (same before))
                (c.look_for_loss.ensures.looks.untouched clean1 is);
          };
      lacks = λ h clean q is.
          let j = g.H.Shelf in
          let r = c.args.self.now.registry in
          let k = c.args.self.now.shelf in
          let mid = c.look_for_loss.new.self.registry in
          let k1 = c.look_for_loss.new.self.shelf in
          let clean1 : DiskKept g.S.Store mid =
          omega (arith, clean, c.check_and_finish.ensures.finishes.keep.clean) in
          let fault = fault_is c.from_residual-in_err-check_and_finish-in-Kept.result _ _
          c.from_residual-in_err-check_and_finish-in-Kept.ensures.1 is in
          let lack = c.in_err-check_and_finish-in-Kept.ensures.checks.absent q (ap Err fault) in
          let opened = nothing_opened g.S.Store j r mid k k1 c.look_for_loss.ensures.looks.shelf
          (g.met.H.Shelf.lawful k h) (λ t has. (saved g.S.Store g.met.S.Store.settled r t
          has).crash) c.args.key.now c.args.provider clean1 (c.look_for_loss.ensures.looks.reads
          clean1).left in (
            subst (λ (m : Media g.row.S.Denot g.row.H.Denot). LeavesOpened g.S.Store j
                c.args.key.now c.args.provider r m.registry k m.shelf) (sym lack.1) opened,
            λ away ts bytes u w at. (
                let was = (c.in_ok-looked.ensures.looked h clean1 away ts bytes u w at).0 in
                let kept = subst (λ (x : Judged). IsJudged w ts bytes c.args.key.now c.args.provider
                x) c.in-Kept.is was.judged in
                inl (
                  kept.0,
                  kept.1,
                  absent_back _ _ _ _ _ _ _ was.state (ap j.size
                      c.look_for_loss.ensures.looks.shelf)
                      (c.deref.ensures.value ∙ was.intents) lack.0,
                )),
          );
      tells = record {
        readable = search rules;
        disk = λ clean t has is.
            let j = g.H.Shelf in
            let clean1 : DiskKept g.S.Store c.look_for_loss.new.self.registry =
            omega (arith, clean, c.check_and_finish.ensures.finishes.keep.clean) in
            let fault = fault_is c.from_residual-in_err-check_and_finish-in-Kept.result _ _
            c.from_residual-in_err-check_and_finish-in-Kept.ensures.1 is in
            let loaded = c.in_ok-looked.ensures.loaded clean1 t has in
            let of = subst₂ (λ (ts : List Intent) (b : List (List ℕ)).
            AreTablesOf t c.in_ok-looked.looked.state ts b) (sym c.deref.ensures.value)
            (sym c.deref-in-Kept.ensures.value) loaded.0 in
            subst (λ (k : g.row.H.Denot). (j.view k).faults
            < (j.view c.check_and_finish.new.self.shelf).faults) c.look_for_loss.ensures.looks.shelf
            (c.in_err-check_and_finish-in-Kept.ensures.disk t of (ap Err fault));
        unreadable = search rules;
        store = λ clean is t s ts bytes has of low room.
            let clean1 : DiskKept g.S.Store c.look_for_loss.new.self.registry =
            omega (arith, clean, c.check_and_finish.ensures.finishes.keep.clean) in
            let then = (c.in_ok-looked.ensures.loaded clean1 t has).1 in
            failed_later g.S.Store c.args.self.now.registry c.look_for_loss.new.self.registry t
            (c.look_for_loss.ensures.looks.reads clean1) has then
            c.check_and_finish.new.self.registry
            (c.in_err-check_and_finish-in-Kept.ensures.finishes.store clean
            (ap Err (fault_is c.from_residual-in_err-check_and_finish-in-Kept.result _ _
            c.from_residual-in_err-check_and_finish-in-Kept.ensures.1 is)) t then);
        closed = search rules;
      };
      keep = search rules;
    }

pub returns-in-Kept : goal.returns-in-Kept
returns-in-Kept g c =
    let opened : g.H.Shelf.honest c.args.self.now.shelf
    → DiskKept g.S.Store c.check_and_finish.new.self.registry
    → LeavesOpened g.S.Store g.H.Shelf c.args.key.now c.args.provider c.args.self.now.registry
    c.check_and_finish.new.self.registry c.args.self.now.shelf c.check_and_finish.new.self.shelf =
    λ h clean. (
    let clean1 : DiskKept g.S.Store c.look_for_loss.new.self.registry =
    omega (arith, clean, c.check_and_finish.ensures.finishes.keep.clean) in
    let h1 : g.H.Shelf.honest c.look_for_loss.new.self.shelf =
    subst g.H.Shelf.honest (sym c.look_for_loss.ensures.looks.shelf) h in
    finished_opened g.S.Store g.H.Shelf c.args.self.now.registry
    c.look_for_loss.new.self.registry c.args.self.now.shelf c.look_for_loss.new.self.shelf
    c.look_for_loss.ensures.looks.shelf (g.met.H.Shelf.lawful c.args.self.now.shelf h)
    (λ t has. (saved g.S.Store g.met.S.Store.settled c.args.self.now.registry t has).crash)
    c.args.key.now c.args.provider c.in_ok-looked.looked.state c.deref.result.now
    c.deref-in-Kept.result.now c.check_and_finish.new.self.registry
    c.check_and_finish.new.self.shelf (λ away ts bytes u w at. (
    let looked = c.in_ok-looked.ensures.looked h clean1 away ts bytes u w at in (
      looked.0.state,
      c.deref.ensures.value ∙ looked.0.intents,
      c.deref-in-Kept.ensures.value ∙ looked.0.to_lay,
      looked.1,
    ))) (c.check_and_finish.ensures.moments h1) (c.check_and_finish.ensures.leaves h1 clean)) in
    record {
      leaves = λ h clean. inl (opened h clean);
      does = λ h clean away ts bytes u w at.
          let j = g.H.Shelf in
          let r = c.args.self.now.registry in
          let k = c.args.self.now.shelf in
          let mid = c.look_for_loss.new.self.registry in
          let k1 = c.look_for_loss.new.self.shelf in
          let clean1 : DiskKept g.S.Store mid =
          omega (arith, clean, c.check_and_finish.ensures.finishes.keep.clean) in
          let h1 : g.H.Shelf.honest k1 =
          subst g.H.Shelf.honest (sym c.look_for_loss.ensures.looks.shelf) h in
          let looked = c.in_ok-looked.ensures.looked h clean1 away ts bytes u w at in
          let was = looked.0 in
          let are : c.deref.result.now ≡ ts = c.deref.ensures.value ∙ was.intents in
          let laid : c.deref-in-Kept.result.now ≡ bytes = c.deref-in-Kept.ensures.value ∙ was.to_lay
          in
          let found = moved g.S.Store j r mid k k1 away ts bytes u w at
          c.look_for_loss.ensures.looks.shelf
          c.deref.result.now are c.deref-in-Kept.result.now laid looked.1 in
          let items : c.len-redone.result ≡ length c.in_ok-looked.looked.intents.items = search
          rules in (
            subst (λ (x : Judged). IsJudged w ts bytes c.args.key.now c.args.provider x)
                c.in-Kept.is
                was.judged,
            items ∙ ap length was.intents,
            c.in_ok-check_and_finish-in-Kept.ensures.done h1 clean away u w found was.state,
          );
      undone = opened;
      before = record {
        shelf = λ before. absurd before;
        registry = λ clean before. absurd before;
      };
      lacks = search rules;
      tells = record {
        readable = λ clean t has.
            let clean1 : DiskKept g.S.Store c.look_for_loss.new.self.registry =
            omega (arith, clean, c.check_and_finish.ensures.finishes.keep.clean) in
            let loaded = (c.in_ok-looked.ensures.loaded clean1 t has).0 in
            let looked = c.in_ok-looked.looked in
            (looked.state, looked.intents.items, looked.bytes.items, loaded);
        disk = search rules;
        unreadable = search rules;
        store = search rules;
        closed = search rules;
      };
      keep = search rules;
    }

pub returns-in_err-number-in-New : goal.returns-in_err-number-in-New
returns-in_err-number-in-New g c =
    record {
      leaves = λ h clean.
          let j = g.H.Shelf in
          let r = c.args.self.now.registry in
          let k = c.args.self.now.shelf in
          let mid = c.look_for_loss.new.self.registry in
          let k1 = c.look_for_loss.new.self.shelf in
          let clean1 : DiskKept g.S.Store mid = omega (arith, clean, c.lose.ensures.keep.clean) in
          let h1 : g.H.Shelf.honest k1 =
          subst g.H.Shelf.honest (sym c.look_for_loss.ensures.looks.shelf) h in
          let loss : Loss = c.in-New.loss in
          let is_judged : (away : Image) (ts : List Intent) (bytes : List (List ℕ)) (u w : World)
          → IsFound g.S.Store j r k away ts bytes u w
          → HasJudged g.S.Store j mid k1 c.args.key.now c.args.provider loss away ts bytes u w =
          λ away ts bytes u w at. judged_new g.S.Store j mid k1 c.args.key.now c.args.provider
          c.in_ok-looked.looked loss away ts bytes u w c.in-New.is
          (c.in_ok-looked.ensures.looked h clean1 away ts bytes u w at).0 in
          inr (
            loss.mirror,
            dropped c.args.provider c.in_ok-looked.looked.intents.items,
            λ away ts bytes u w at. ap (dropped c.args.provider)
                (c.in_ok-looked.ensures.looked h clean1 away ts bytes u w at).0.intents,
            lost_behind g.S.Store j r mid k k1 c.look_for_loss.ensures.looks.shelf
                (g.met.H.Shelf.lawful k h)
                (λ t has. (saved g.S.Store g.met.S.Store.settled r t has).crash)
                (HasJudged g.S.Store j mid k1 c.args.key.now c.args.provider loss)
                (loss_call c.args.key.now loss.mirror c.args.provider) c.args.provider is_judged
                c.lose.new.self.registry c.lose.new.self.shelf
                (c.lose.ensures.leaves h1 clean c.args.provider),
          );
      does = search rules;
      undone = search rules;
      before =
          let passed = c.from_residual-in_err-number-in-New.ensures.1 in
          let given = c.in_err-number-in-New.field-0.0 in
          let lose = c.in_err-number-in-New.ensures.tells in
          let cause : IsUnwritten c.from_residual-in_err-number-in-New.result
          → ((q : List ℕ) × (given ≡ Absent q)) ⊎ (given ≡ Unreadable) =
          λ before. absent_or_unreadable given (λ is. lose.closed (ap Err is))
          (passed_unwritten c.from_residual-in_err-number-in-New.result given passed before) in
          record {
            shelf = λ before. elim (cause before) [
              | inl it ↦ ap (λ (m : Media g.row.S.Denot g.row.H.Denot). m.shelf)
                  (lose.absent it.0 (ap Err it.1)).1 ∙ c.look_for_loss.ensures.looks.shelf
              | inr is ↦ lose.unread (ap Err is) ∙ c.look_for_loss.ensures.looks.shelf
            ];
            registry = λ clean before is.
                let clean1 : DiskKept g.S.Store c.look_for_loss.new.self.registry =
                omega (arith, clean, c.lose.ensures.keep.clean) in
                let left = c.look_for_loss.ensures.looks.untouched clean1 is in
                elim (cause before) [
                  | inl it ↦ subst (λ (m : Media g.row.S.Denot g.row.H.Denot). LeavesAlone g.S.Store
                      c.args.self.now.registry m.registry) (sym (lose.absent it.0 (ap Err it.1)).1)
                      left
                  | inr unread ↦
                      let still = c.in_ok-looked.ensures.looks.still clean1 is in
                      alone_then g.S.Store c.args.self.now.registry
                      c.look_for_loss.new.self.registry c.lose.new.self.registry still
                      c.lose.ensures.keep.clean left (lose.untouched (ap Err unread) still)
                ];
          };
      lacks = λ h clean q is.
          let j = g.H.Shelf in
          let r = c.args.self.now.registry in
          let k = c.args.self.now.shelf in
          let mid = c.look_for_loss.new.self.registry in
          let k1 = c.look_for_loss.new.self.shelf in
          let clean1 : DiskKept g.S.Store mid = omega (arith, clean, c.lose.ensures.keep.clean) in
          let fault = fault_is c.from_residual-in_err-number-in-New.result _ _
          c.from_residual-in_err-number-in-New.ensures.1 is in
          let lack = c.in_err-number-in-New.ensures.tells.absent q (ap Err fault) in
          let opened = nothing_opened g.S.Store j r mid k k1 c.look_for_loss.ensures.looks.shelf
          (g.met.H.Shelf.lawful k h) (λ t has. (saved g.S.Store g.met.S.Store.settled r t
          has).crash) c.args.key.now c.args.provider clean1 (c.look_for_loss.ensures.looks.reads
          clean1).left in (
            subst (λ (m : Media g.row.S.Denot g.row.H.Denot). LeavesOpened g.S.Store j
                c.args.key.now c.args.provider r m.registry k m.shelf) (sym lack.1) opened,
            λ away ts bytes u w at. (
                let was = (c.in_ok-looked.ensures.looked h clean1 away ts bytes u w at).0 in
                inr (
                  c.in-New.loss,
                  subst (λ (x : Judged). IsJudged w ts bytes c.args.key.now c.args.provider x)
                      c.in-New.is
                      was.judged,
                  absent_back c.in-New.loss.after c.in-New.loss.after (j.size k1) (j.size k)
                      c.in-New.loss.intents.items c.in-New.loss.intents.items (Some q) refl
                      (ap j.size c.look_for_loss.ensures.looks.shelf) refl lack.0,
                )),
          );
      tells = record {
        readable = search rules;
        disk = λ clean t has is.
            let j = g.H.Shelf in
            let clean1 : DiskKept g.S.Store c.look_for_loss.new.self.registry =
            omega (arith, clean, c.lose.ensures.keep.clean) in
            let fault = fault_is c.from_residual-in_err-number-in-New.result _ _
            c.from_residual-in_err-number-in-New.ensures.1 is in
            let loaded = c.in_ok-looked.ensures.loaded clean1 t has in
            let again = subst (λ (x : Judged). StaysReadable c.in_ok-looked.looked.state
            c.in_ok-looked.looked.intents.items c.in_ok-looked.looked.bytes.items x) c.in-New.is
            loaded.2 loaded.0.readable in
            subst (λ (k : g.row.H.Denot). (j.view k).faults
            < (j.view c.lose.new.self.shelf).faults) c.look_for_loss.ensures.looks.shelf
            (c.in_err-number-in-New.ensures.tells.disk again.1 again.0 (ap Err fault));
        unreadable = λ clean is t s ts bytes has of written.
            let clean1 : DiskKept g.S.Store c.look_for_loss.new.self.registry =
            omega (arith, clean, c.lose.ensures.keep.clean) in
            let fault = fault_is c.from_residual-in_err-number-in-New.result _ _
            c.from_residual-in_err-number-in-New.ensures.1 is in
            c.in_err-number-in-New.ensures.tells.readable clean (ap Err fault) t
            (c.in_ok-looked.ensures.loaded clean1 t has).1 of.count;
        store = λ clean is t s ts bytes has of low room.
            let clean1 : DiskKept g.S.Store c.look_for_loss.new.self.registry =
            omega (arith, clean, c.lose.ensures.keep.clean) in
            let looked = c.in_ok-looked.looked in
            let loaded = c.in_ok-looked.ensures.loaded clean1 t has in
            let reads = c.look_for_loss.ensures.looks.reads clean1 in
            let same = (one_reading same_mirror same_component t looked.state s looked.intents.items
            ts looked.bytes.items bytes loaded.0 of).1 in
            let can = subst (λ (j : Judged). CanBeCommitted c.args.key.now looked.intents.items t j)
            c.in-New.is (c.in_ok-looked.ensures.fits clean1 t has) in
            let again = subst (λ (j : Judged). StaysReadable looked.state looked.intents.items
            looked.bytes.items j) c.in-New.is loaded.2 loaded.0.readable in
            let few : length looked.intents.items + 17 < 2 ^ 32 =
            subst (λ (is : List Intent). length is + 17 < 2 ^ 32) (sym same) low in
            failed_later g.S.Store c.args.self.now.registry c.look_for_loss.new.self.registry t
            reads has loaded.1 c.lose.new.self.registry
            (c.in_err-number-in-New.ensures.store clean (ap Err (fault_is
            c.from_residual-in_err-number-in-New.result _ _
            c.from_residual-in_err-number-in-New.ensures.1 is)) t looked.intents.items loaded.1 can
            few again.0 again.1
            (room_later g.S.Store c.args.self.now.registry c.look_for_loss.new.self.registry t reads
            has loaded.1 most_rows clean1 room));
        closed = search rules;
      };
      keep = search rules;
    }

pub returns : goal.returns
returns g c =
    record {
      leaves = λ h clean.
          let j = g.H.Shelf in
          let r = c.args.self.now.registry in
          let k = c.args.self.now.shelf in
          let mid = c.look_for_loss.new.self.registry in
          let k1 = c.look_for_loss.new.self.shelf in
          let clean1 : DiskKept g.S.Store mid = omega (arith, clean, c.lose.ensures.keep.clean) in
          let h1 : g.H.Shelf.honest k1 =
          subst g.H.Shelf.honest (sym c.look_for_loss.ensures.looks.shelf) h in
          let loss : Loss = c.in-New.loss in
          let is_judged : (away : Image) (ts : List Intent) (bytes : List (List ℕ)) (u w : World)
          → IsFound g.S.Store j r k away ts bytes u w
          → HasJudged g.S.Store j mid k1 c.args.key.now c.args.provider loss away ts bytes u w =
          λ away ts bytes u w at. judged_new g.S.Store j mid k1 c.args.key.now c.args.provider
          c.in_ok-looked.looked loss away ts bytes u w c.in-New.is
          (c.in_ok-looked.ensures.looked h clean1 away ts bytes u w at).0 in
          inr (
            loss.mirror,
            dropped c.args.provider c.in_ok-looked.looked.intents.items,
            λ away ts bytes u w at. ap (dropped c.args.provider)
                (c.in_ok-looked.ensures.looked h clean1 away ts bytes u w at).0.intents,
            lost_behind g.S.Store j r mid k k1 c.look_for_loss.ensures.looks.shelf
                (g.met.H.Shelf.lawful k h)
                (λ t has. (saved g.S.Store g.met.S.Store.settled r t has).crash)
                (HasJudged g.S.Store j mid k1 c.args.key.now c.args.provider loss)
                (loss_call c.args.key.now loss.mirror c.args.provider) c.args.provider is_judged
                c.lose.new.self.registry c.lose.new.self.shelf
                (c.lose.ensures.leaves h1 clean c.args.provider),
          );
      does = λ h clean.
          let j = g.H.Shelf in
          let r = c.args.self.now.registry in
          let k = c.args.self.now.shelf in
          let mid = c.look_for_loss.new.self.registry in
          let k1 = c.look_for_loss.new.self.shelf in
          let clean1 : DiskKept g.S.Store mid = omega (arith, clean, c.lose.ensures.keep.clean) in
          let h1 : g.H.Shelf.honest k1 =
          subst g.H.Shelf.honest (sym c.look_for_loss.ensures.looks.shelf) h in
          let loss : Loss = c.in-New.loss in
          let is_judged : (away : Image) (ts : List Intent) (bytes : List (List ℕ)) (u w : World)
          → IsFound g.S.Store j r k away ts bytes u w
          → HasJudged g.S.Store j mid k1 c.args.key.now c.args.provider loss away ts bytes u w =
          λ away ts bytes u w at. judged_new g.S.Store j mid k1 c.args.key.now c.args.provider
          c.in_ok-looked.looked loss away ts bytes u w c.in-New.is
          (c.in_ok-looked.ensures.looked h clean1 away ts bytes u w at).0 in
          let items : c.len-redone.result ≡ length c.in_ok-looked.looked.intents.items = search
          rules in (
            loss.mirror,
            dropped c.args.provider c.in_ok-looked.looked.intents.items,
            λ away ts bytes u w at. (
                let was = (c.in_ok-looked.ensures.looked h clean1 away ts bytes u w at).0 in
                (ap (dropped c.args.provider) was.intents, items ∙ ap length was.intents)),
            λ away ts bytes u w at. (
                let it = c.in_ok-number-in-New.ensures.done h1 clean c.args.provider away ts bytes u
                w (is_judged away ts bytes u w at) in
                (it.0, it.1, it.2 ∙ sym c.reply-reply.ensures, it.3, it.4)),
          );
      undone = search rules;
      before = record {
        shelf = λ before. absurd before;
        registry = λ clean before. absurd before;
      };
      lacks = search rules;
      tells = record {
        readable = λ clean t has.
            let clean1 : DiskKept g.S.Store c.look_for_loss.new.self.registry =
            omega (arith, clean, c.lose.ensures.keep.clean) in
            let loaded = (c.in_ok-looked.ensures.loaded clean1 t has).0 in
            let looked = c.in_ok-looked.looked in
            (looked.state, looked.intents.items, looked.bytes.items, loaded);
        disk = search rules;
        unreadable = search rules;
        store = search rules;
        closed = search rules;
      };
      keep = search rules;
    }
