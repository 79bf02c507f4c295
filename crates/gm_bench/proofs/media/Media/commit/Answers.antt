use Rattle.gm_bench.proofs.Common.{rules, refl, IsUnplanned, ◌≡◌, ◌∙◌, ◌≤◌, ◌<◌, ◌+◌, ℕ, List, ap, Further, arith, length, length-map, subst, sym, with_accepted, HasSaved, HasRoom, MayLeave, seen, Tables, Store, rows_for, less_room, saved, AreAnswered, AreJudged, LeavesSteps, calls_in, further_in, Command, Changed, calls_of, keyed_in, keyed_of, Keyed, map, count_of, CanBeAccepted, IsJudgedToFit, IsFitting, left_by}
use Rattle.gm_bench.specs.declared.answer.Accepted.TheVariants as accepted
use Rattle.gm_bench.proofs.Causes.{of_failed}
use Rattle.gm_bench.proofs.CarriedOut.{left_settled}
use Rattle.gm_bench.proofs.DecidesOnly.{unstepped_same}
use Rattle.gm_bench.proofs.FittingPlans.{fits_left}
use Rattle.gm_bench.proofs.Commits.{commit_leaves, commit_done}
use Rattle.gm_bench.proofs.media.Media.commit.Goals as goal

-- so many calls it has
counted : (c : Command) (key : List ℕ) (ch : Changed)
    → length (calls_of c (keyed_in key ch)) ≡ length ch.further + 1
counted c key ch =
    let n : length (calls_of c (keyed_in key ch)) ≡ length (keyed_in key ch) =
    length-map (keyed_in key ch) (λ (k : Keyed). record { key = k.key; command = c }) in
    let m : length (map keyed_of ch.further) ≡ length ch.further =
    length-map ch.further keyed_of in
    omega (arith, n, m)

pub returns-in-Repeated : goal.returns-in-Repeated
returns-in-Repeated g c =
    record {
      leaves = λ h clean away ts bytes cmd v u at waits told.
          unstepped_same g.S.Store g.H.Shelf c.args.self.now.registry c.args.self.now.shelf away ts
          bytes v u at (g.met.H.Shelf.lawful c.args.self.now.shelf h)
          (calls_in c.args.key.now cmd c.args.judgement)
          (saved g.S.Store g.met.S.Store.settled c.args.self.now.registry at.tables at.has).crash;
      done = λ h clean away ts bytes cmd v u at waits told.
          subst (λ jd. AreJudged u c.args.key.now cmd jd → AreAnswered g.S.Store g.H.Shelf
          c.args.self.now.registry c.args.self.now.shelf away ts bytes v u
          (calls_in c.args.key.now cmd jd) (accepted.Repeated c.in-Repeated.number c.in-Repeated.reply)) (sym c.in-Repeated.is)
          (λ told. (told, at)) told;
      refused = search rules;
      store = search rules;
      goes_on = search rules;
      at_hand = search rules;
      alone = search rules;
      undone = λ e. (refl, subst IsUnplanned (sym c.in-Repeated.is) tt);
    }

pub returns-in-Refused : goal.returns-in-Refused
returns-in-Refused g c =
    record {
      leaves = λ h clean away ts bytes cmd v u at waits told.
          unstepped_same g.S.Store g.H.Shelf c.args.self.now.registry c.args.self.now.shelf away ts
          bytes v u at (g.met.H.Shelf.lawful c.args.self.now.shelf h)
          (calls_in c.args.key.now cmd c.args.judgement)
          (saved g.S.Store g.met.S.Store.settled c.args.self.now.registry at.tables at.has).crash;
      done = λ h clean away ts bytes cmd v u at waits told.
          subst (λ jd. AreJudged u c.args.key.now cmd jd → AreAnswered g.S.Store g.H.Shelf
          c.args.self.now.registry c.args.self.now.shelf away ts bytes v u
          (calls_in c.args.key.now cmd jd) (accepted.Refused c.in-Refused.why)) (sym c.in-Refused.is)
          (λ told. (told, at)) told;
      refused = search rules;
      store = search rules;
      goes_on = search rules;
      at_hand = search rules;
      alone = search rules;
      undone = λ e. (refl, subst IsUnplanned (sym c.in-Refused.is) tt);
    }

pub returns-in-Ok : goal.returns-in-Ok
returns-in-Ok g c =
    let plan = c.in-New.planned in
    let key = c.args.key.now in
    let words = c.deref.result.now in
    record {
      leaves = λ h clean away ts bytes cmd v u at waits told.
          let it = subst (λ jd. AreJudged u key cmd jd) c.in-New.is told in
          subst (λ jd. LeavesSteps g.S.Store g.H.Shelf c.args.self.now.registry
          c.write.new.self.registry c.args.self.now.shelf c.args.self.now.shelf away v u
          (calls_in key cmd jd)) (sym c.in-New.is)
          (commit_leaves g.S.Store g.H.Shelf c.args.self.now.registry
          c.write.new.self.registry c.args.self.now.shelf away ts bytes v u key cmd
          plan words (c.deref.ensures ∙ it.1)
          (g.met.H.Shelf.lawful c.args.self.now.shelf h) at it.0
          (saved g.S.Store g.met.S.Store.settled c.args.self.now.registry at.tables at.has).crash
          clean (subst (λ (t : Tables). MayLeave g.S.Store c.args.self.now.registry
          c.write.new.self.registry (with_accepted plan.change key words t))
          (left_settled g.S.Store g.H.Shelf
          c.args.self.now.registry c.args.self.now.shelf away ts bytes v u at
          (g.met.H.Shelf.lawful c.args.self.now.shelf h) c.args.waiting waits)
          (c.write.ensures.writes.left at.tables at.has)));
      done = λ h clean away ts bytes cmd v u at waits told.
          let it = subst (λ jd. AreJudged u key cmd jd) c.in-New.is told in
          let number = c.in-Ok.ensures.accepts.number clean at.tables at.has in
          let saved_now = subst (λ (t : Tables). HasSaved g.S.Store c.write.new.self.registry
          (with_accepted plan.change key words t)) (left_settled g.S.Store g.H.Shelf
          c.args.self.now.registry c.args.self.now.shelf away ts bytes v u at
          (g.met.H.Shelf.lawful c.args.self.now.shelf h) c.args.waiting waits)
          (c.in-Ok.ensures.writes.done clean at.tables at.has) in
          subst (λ jd. AreAnswered g.S.Store g.H.Shelf c.write.new.self.registry
          c.args.self.now.shelf away ts bytes v u (calls_in key cmd jd) (accepted.Done
          c.in-Ok.number (length c.further.result.now + 1) c.last_reply.result plan.work))
          (sym c.in-New.is) (
            counted cmd key plan.change
                ∙ ap (λ (fs : List Further). length fs + 1) (sym c.further.ensures),
            commit_done g.S.Store g.H.Shelf c.args.self.now.registry
                c.write.new.self.registry c.args.self.now.shelf away ts bytes v u key cmd
                plan words (c.deref.ensures ∙ it.1)
                (g.met.H.Shelf.lawful c.args.self.now.shelf h) at it.0 c.in-Ok.number
                c.last_reply.result c.last_reply.ensures number saved_now,
          );
      refused = search rules;
      store = search rules;
      goes_on = λ clean t has. record {
        tables = _;
        has = (c.in-Ok.ensures.writes.done clean t has).tables;
        counts = (c.write.ensures.writes.left t has).counts;
        limit = (c.write.ensures.writes.left t has).limit;
      };
      at_hand = λ t can.
          (subst (λ jd. CanBeAccepted (g.H.Shelf.size c.args.self.now.shelf) key t jd) c.in-New.is
          can).at_hand;
      alone = search rules;
      undone = search rules;
    }

pub returns : goal.returns
returns g c =
    let plan = c.in-New.planned in
    let key = c.args.key.now in
    let words = c.deref.result.now in
    record {
      leaves = λ h clean away ts bytes cmd v u at waits told.
          let it = subst (λ jd. AreJudged u key cmd jd) c.in-New.is told in
          subst (λ jd. LeavesSteps g.S.Store g.H.Shelf c.args.self.now.registry
          c.write.new.self.registry c.args.self.now.shelf c.args.self.now.shelf away v u
          (calls_in key cmd jd)) (sym c.in-New.is)
          (commit_leaves g.S.Store g.H.Shelf c.args.self.now.registry
          c.write.new.self.registry c.args.self.now.shelf away ts bytes v u key cmd
          plan words (c.deref.ensures ∙ it.1)
          (g.met.H.Shelf.lawful c.args.self.now.shelf h) at it.0
          (saved g.S.Store g.met.S.Store.settled c.args.self.now.registry at.tables at.has).crash
          clean (subst (λ (t : Tables). MayLeave g.S.Store c.args.self.now.registry
          c.write.new.self.registry (with_accepted plan.change key words t)) (left_settled g.S.Store
          g.H.Shelf c.args.self.now.registry c.args.self.now.shelf away ts bytes v u at
          (g.met.H.Shelf.lawful c.args.self.now.shelf h) c.args.waiting waits)
          (c.write.ensures.writes.left at.tables at.has)));
      done = search rules;
      refused = λ clean t has is_open.
          (c.in-Err.ensures.writes.refused clean t has is_open).tables;
      store = λ clean is t has accepted judged none room.
          let fault : c.of_store.result ≡ Store = cc in
          let can = subst (λ jd. CanBeAccepted (g.H.Shelf.size c.args.self.now.shelf) key t jd)
          c.in-New.is accepted in
          let fits = (subst (λ jd. IsJudgedToFit t jd) c.in-New.is judged) c.args.waiting in
          let few : length plan.change.components ≤ 16 = fits.few_put in
          let many : count_of t + length plan.change.further < 100000 =
          subst (λ n. count_of t + n < 100000) (length-map plan.change.further _)
          can.further.room in
          let rows = subst (λ jd. HasRoom (rows_for (further_in jd))
          (seen g.S.Store c.args.self.now.registry)) c.in-New.is room in
          c.in-Err.ensures.accepts.store clean (of_failed c.in-Err.fault
          (sym c.of_store.ensures.value ∙ fault)) t has many fits.replies
          (fits_left c.args.waiting plan.change key words t (subst (λ w. IsFitting plan.change w
          (left_by c.args.waiting t)) (sym c.deref.ensures) fits) none can.key_ok can.free
          can.further.fresh)
          (less_room (length plan.change.components + length plan.change.further + 2)
          (rows_for (length plan.change.further))
          (seen g.S.Store c.args.self.now.registry) (omega (arith, few)) rows);
      goes_on = search rules;
      at_hand = search rules;
      alone = record {
        shelf = search rules;
        clean = search rules;
        fault = search rules;
        readable = search rules;
      };
      undone = search rules;
    }
