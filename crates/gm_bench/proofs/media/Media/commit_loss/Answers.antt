use Rattle.gm_bench.proofs.Common.{◌<◌, Further, ap, count_of, rules, ◌≡◌, ◌∙◌, ◌+◌, ◌≤◌, List, ℕ, arith, length, subst, sym, saved, Changed, with_pending, settled, HasTables, MayLeave, seen, Tables, FitsTables, less_room, most_rows, Store, Unreadable}
use Rattle.gm_bench.proofs.LossCommits.{commits, lost, same_behind, same_pending}
use Rattle.gm_bench.proofs.Causes.{of_failed, of_unreadable}
use Rattle.gm_bench.proofs.FittingLosses.{loss_fits_tables}
use Rattle.gm_bench.proofs.media.Media.commit_loss.Goals as goal

pub returns-in-Ok : goal.returns-in-Ok
returns-in-Ok g c =
    record {
      leaves = λ h clean p away ts bytes u w was.
          let at = was.found in
          let is = same_behind c.args.loss.now.change c.args.key.now (settled at.tables)
          c.deref.ensures.value c.deref-2.ensures.value c.as_str-words.ensures.value in
          commits g.S.Store g.H.Shelf c.args.self.now.registry
          c.accept_instead.new.self c.args.self.now.shelf away ts bytes u w
          (g.met.H.Shelf.lawful c.args.self.now.shelf h) at c.args.key.now p c.args.loss.now
          was.judged (saved g.S.Store g.met.S.Store.settled c.args.self.now.registry at.tables
          at.has).crash clean (subst (λ (t : Tables). MayLeave g.S.Store c.args.self.now.registry
          c.accept_instead.new.self t) is (c.accept_instead.ensures.writes.left at.tables at.has));
      done = λ h clean p away ts bytes u w was.
          let at = was.found in
          let is = same_behind c.args.loss.now.change c.args.key.now (settled at.tables)
          c.deref.ensures.value c.deref-2.ensures.value c.as_str-words.ensures.value in
          lost g.S.Store g.H.Shelf c.args.self.now.registry
          c.accept_instead.new.self c.args.self.now.shelf away ts bytes u w
          (g.met.H.Shelf.lawful c.args.self.now.shelf h) at c.args.key.now p c.args.loss.now
          was.judged (subst (λ (t : Tables). HasTables g.S.Store c.accept_instead.new.self t) is
          (c.in-Ok.ensures.writes.done clean at.tables at.has).tables) c.in-Ok.number
          (c.in-Ok.ensures.accepts.number clean at.tables at.has);
      store = search rules;
      goes_on = λ clean t has. record {
        tables = _;
        has = (c.in-Ok.ensures.writes.done clean t has).tables;
        counts = (c.accept_instead.ensures.writes.left t has).counts;
        limit = (c.accept_instead.ensures.writes.left t has).limit;
      };
      untouched = search rules;
      alone = record {
        shelf = search rules;
        clean = search rules;
        fault = search rules;
        readable = search rules;
      };
    }

pub returns-in-Err : goal.returns-in-Err
returns-in-Err g c =
    record {
      leaves = λ h clean p away ts bytes u w was.
          let at = was.found in
          let is = same_behind c.args.loss.now.change c.args.key.now (settled at.tables)
          c.deref.ensures.value c.deref-2.ensures.value c.as_str-words.ensures.value in
          commits g.S.Store g.H.Shelf c.args.self.now.registry
          c.accept_instead.new.self c.args.self.now.shelf away ts bytes u w
          (g.met.H.Shelf.lawful c.args.self.now.shelf h) at c.args.key.now p c.args.loss.now
          was.judged (saved g.S.Store g.met.S.Store.settled c.args.self.now.registry at.tables
          at.has).crash clean (subst (λ (t : Tables). MayLeave g.S.Store c.args.self.now.registry
          c.accept_instead.new.self t) is (c.accept_instead.ensures.writes.left at.tables at.has));
      done = search rules;
      store = λ clean is t ts has can low state readable room.
          let fault : c.of_store.result ≡ Store = cc in
          let loss = c.args.loss.now in
          let few : length loss.change.components ≤ 16 = can.change.few_put in
          let none : length loss.change.further ≡ 0 =
          ap (λ (fs : List Further). length fs) can.once in
          let fits = subst (λ (ch : Changed). FitsTables ch c.args.key.now
          c.as_str-words.result.now (settled t)) (sym (same_pending loss.change
          c.deref.ensures.value c.deref-2.ensures.value))
          (subst (λ (l : List ℕ). FitsTables (with_pending loss.change loss.intents.items
          loss.bytes.items) c.args.key.now l (settled t)) (sym c.as_str-words.ensures.value)
          (loss_fits_tables c.args.key.now ts t loss can low state readable)) in
          c.in-Err.ensures.accepts.store clean (of_failed c.in-Err.fault
          (sym c.of_store.ensures.value ∙ fault)) t has
          (subst (λ (fs : List Further). count_of t + length fs < 100000) (sym can.once)
          (let room = can.room in omega (arith, room))) can.change.replies fits
          (less_room (length loss.change.components + length loss.change.further + 2) most_rows
          (seen g.S.Store c.args.self.now.registry) (omega (arith, few, none)) room);
      goes_on = search rules;
      untouched = λ is.
          let fault : c.of_store.result ≡ Unreadable = cc in
          c.in-Err.ensures.accepts.untouched (of_unreadable c.in-Err.fault
          (sym c.of_store.ensures.value ∙ fault));
      alone = record {
        shelf = search rules;
        clean = search rules;
        fault = search rules;
        readable = search rules;
      };
    }
