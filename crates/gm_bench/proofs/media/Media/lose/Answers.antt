use Rattle.gm_bench.proofs.Common.{rules, ◌≡◌, ◌∙◌, ◌<◌, inl, inr, Err, List, None, refl, sym, ap, subst, subst₂, arith, Intent, DiskKept, saved, dropped, AreAtHand, first_absent, loss_call}
use Rattle.gm_bench.proofs.Causes.{fault_is}
use Rattle.gm_bench.proofs.LossCarried.{carries_lost, does_lost, not_committed}
use Rattle.gm_bench.proofs.Present.{at_hand as hand_at}
use Rattle.gm_bench.proofs.StoreFails.{failed_behind}
use Rattle.gm_bench.proofs.media.Media.lose.Goals as goal

pub returns-in-Some : goal.returns-in-Some
returns-in-Some g c =
    record {
      leaves = λ h clean p.
          inl (
            λ away ts bytes u w was. not_committed g.S.Store g.H.Shelf
                c.args.self.now.registry c.args.self.now.registry c.args.self.now.shelf away ts
                bytes u w (g.met.H.Shelf.lawful c.args.self.now.shelf h) was.found
                (saved g.S.Store g.met.S.Store.settled c.args.self.now.registry was.found.tables
                was.found.has).crash (λ db l. l)
                (loss_call c.args.key.now c.args.loss.now.mirror p) p (dropped p ts),
            refl,
          );
      done = search rules;
      tells = record {
        there = search rules;
        absent = search rules;
        unread = search rules;
        untouched = search rules;
        readable = search rules;
        disk = search rules;
        closed = search rules;
      };
      store = search rules;
      keep = search rules;
    }

pub returns-in_err-number : goal.returns-in_err-number
returns-in_err-number g c =
    record {
      leaves = λ h clean p.
          inl (c.commit_loss.ensures.leaves h clean p, c.commit_loss.ensures.alone.shelf);
      done = search rules;
      tells = record {
        there = search rules;
        absent = search rules;
        unread = search rules;
        untouched = search rules;
        readable = search rules;
        disk = search rules;
        closed = search rules;
      };
      store = λ clean is.
          c.in_err-number.ensures.store clean (ap Err (fault_is c.from_residual.result _ _
          c.from_residual.ensures.1 is));
      keep = search rules;
    }

pub returns-in_err-finish : goal.returns-in_err-finish
returns-in_err-finish g c =
    let j = g.H.Shelf in
    let r = c.args.self.now.registry in
    let k0 = c.args.self.now.shelf in
    let mid = c.commit_loss.new.self.registry in
    let k1 = c.commit_loss.new.self.shelf in
    let loss = c.args.loss.now in
    let key = c.args.key.now in
    let same = c.commit_loss.ensures.alone.shelf in
    let kept : DiskKept g.S.Store c.finish.new.self.registry → DiskKept g.S.Store mid =
    λ clean. omega (arith, clean, c.finish.ensures.finishes.keep.clean) in
    let still : g.H.Shelf.honest k0 → g.H.Shelf.honest k1 =
    λ h. subst g.H.Shelf.honest (sym same) h in
    let none : first_absent loss.after (j.size k0) loss.intents.items ≡ None =
    subst (λ (is : List Intent). first_absent loss.after (j.size k0) is ≡ None)
    c.deref.ensures.value (sym c.first_absent.ensures ∙ c.in_default.is) in
    record {
      leaves = λ h clean p. inr (
        mid,
        c.commit_loss.ensures.leaves h (kept clean) p,
        carries_lost g.S.Store j r mid c.finish.new.self.registry k0 k1 c.finish.new.self.shelf loss
            key p c.in_ok-number.number (g.met.H.Shelf.lawful k0 h) same none c.deref-2.result.now
            c.deref-2.ensures.value c.deref-3.result.now c.deref-3.ensures.value
            (c.in_ok-number.ensures.done h (kept clean) p)
            (c.finish.ensures.leaves (still h) clean),
      );
      done = search rules;
      tells = record {
        there = search rules;
        absent = search rules;
        unread = search rules;
        untouched = search rules;
        readable = search rules;
        disk = λ readable state is.
            let fault = fault_is c.from_residual-in_err-finish.result _ _
            c.from_residual-in_err-finish.ensures.1 is in
            let hand = hand_at loss.after (j.size k0) state loss.intents.items readable.each none in
            let here = subst₂ (λ (k : g.row.H.Denot) (ts : List Intent). AreAtHand (j.size k) ts)
            (sym same) (sym c.deref-2.ensures.value) hand in
            subst (λ (k : g.row.H.Denot). (j.view k).faults
            < (j.view c.finish.new.self.shelf).faults) same
            (c.in_err-finish.ensures.disk here (ap Err fault));
        closed = search rules;
      };
      store = λ clean is t ts has can low state readable room.
          let goes = c.in_ok-number.ensures.goes_on (kept clean) t has in
          failed_behind g.S.Store r mid goes.counts goes.limit c.finish.new.self.registry
          (c.in_err-finish.ensures.finishes.store clean
          (ap Err (fault_is c.from_residual-in_err-finish.result _ _
          c.from_residual-in_err-finish.ensures.1 is)) goes.tables goes.has);
      keep = search rules;
    }

pub returns : goal.returns
returns g c =
    let j = g.H.Shelf in
    let r = c.args.self.now.registry in
    let k0 = c.args.self.now.shelf in
    let mid = c.commit_loss.new.self.registry in
    let k1 = c.commit_loss.new.self.shelf in
    let loss = c.args.loss.now in
    let key = c.args.key.now in
    let same = c.commit_loss.ensures.alone.shelf in
    let kept : DiskKept g.S.Store c.finish.new.self.registry → DiskKept g.S.Store mid =
    λ clean. omega (arith, clean, c.finish.ensures.finishes.keep.clean) in
    let still : g.H.Shelf.honest k0 → g.H.Shelf.honest k1 =
    λ h. subst g.H.Shelf.honest (sym same) h in
    let none : first_absent loss.after (j.size k0) loss.intents.items ≡ None =
    subst (λ (is : List Intent). first_absent loss.after (j.size k0) is ≡ None)
    c.deref.ensures.value (sym c.first_absent.ensures ∙ c.in_default.is) in
    record {
      leaves = λ h clean p. inr (
        mid,
        c.commit_loss.ensures.leaves h (kept clean) p,
        carries_lost g.S.Store j r mid c.finish.new.self.registry k0 k1 c.finish.new.self.shelf loss
            key p c.in_ok-number.number (g.met.H.Shelf.lawful k0 h) same none c.deref-2.result.now
            c.deref-2.ensures.value c.deref-3.result.now c.deref-3.ensures.value
            (c.in_ok-number.ensures.done h (kept clean) p)
            (c.finish.ensures.leaves (still h) clean),
      );
      done = λ h clean p.
          does_lost g.S.Store j r mid c.finish.new.self.registry k0 k1 c.finish.new.self.shelf loss
          key p c.in_ok-number.number (g.met.H.Shelf.lawful k0 h) same none c.deref-2.result.now
          c.deref-2.ensures.value c.deref-3.result.now c.deref-3.ensures.value
          (c.in_ok-number.ensures.done h (kept clean) p)
          (c.in_ok-finish.ensures.done (still h) clean);
      tells = record {
        there = search rules;
        absent = search rules;
        unread = search rules;
        untouched = search rules;
        readable = search rules;
        disk = search rules;
        closed = search rules;
      };
      store = search rules;
      keep = search rules;
    }
