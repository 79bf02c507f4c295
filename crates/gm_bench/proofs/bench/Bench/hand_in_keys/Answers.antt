use Rattle.gm_bench.proofs.Common.{rules, ◌∙◌, ◌∷◌, map, string_bytes, ◌<◌, Err, sym, ap, subst, arith, Held, DiskKept, GoesOn, Sizes, AreAtHand}
use Rattle.gm_bench.proofs.Causes.{fault_is}
use Rattle.gm_bench.proofs.Phases.{has_pending, in_fault, never_pending}
use Rattle.gm_bench.proofs.Carried.{begins, carried_handed, is_work, rest_handed, unaccepted, uncarried, work}
use Rattle.gm_bench.proofs.bench.Bench.hand_in_keys.Goals as goal

pub returns-in_err-answered : goal.returns-in_err-answered
returns-in_err-answered g c =
    record {
      told = λ h clean.
          let it = c.accept_keys.ensures.told h clean in (
            it.0,
            begins g.S.Store g.H.Shelf c.args.self.now.media.registry
                c.accept_keys.new.self.media.registry c.args.self.now.media.shelf
                c.accept_keys.new.self.media.shelf it.0 c.args.self.now.progress it.2
                c.args.command.now (c.args.key.now ∷ map string_bytes c.args.more.now) it.1,
            in_fault c.from_residual.result (unaccepted g.S.Store g.H.Shelf
                c.args.self.now.media.registry
                c.accept_keys.new.self.media.registry c.args.self.now.media.shelf
                c.accept_keys.new.self.media.shelf it.0 c.args.self.now.progress it.2
                c.accept_keys.ensures.accepts.only.keeps.size),
            search rules,
          );
      not_failed = search rules;
      phase = search rules;
      rows = record {
        readable = λ clean is.
            c.in_err-answered.ensures.rows.readable clean
            (ap Err (fault_is c.from_residual.result _ _ c.from_residual.ensures.1 is));
        store = λ clean is.
            c.in_err-answered.ensures.rows.store clean
            (ap Err (fault_is c.from_residual.result _ _ c.from_residual.ensures.1 is));
        goes_on = search rules;
      };
      runs = search rules;
      closes = search rules;
    }

pub returns-in_ok-apply-in-Pending : goal.returns-in_ok-apply-in-Pending
returns-in_ok-apply-in-Pending g c =
    record {
      told = λ h clean. (
          let mid : DiskKept g.S.Store c.accept_keys.new.self.media.registry =
          omega (arith, clean, c.apply.ensures.carries.keep.clean) in
          let old = c.args.self.now in
          let end = c.accept_keys.new.self in
          let before = old.progress in
          let never = never_pending before c.requires in
          let it = c.in_ok-answered.ensures.told h mid in
          let pending = sym c.phase.ensures ∙ c.in-Pending.is in
          let honest = c.accept_keys.ensures.accepts.only.keeps.honest h in
          let mine = work g.S.Store g.H.Shelf old.media.registry end.media.registry
          old.media.shelf end.media.shelf it.0 before it.2 c.in_ok-answered.answered end.progress
          never it.3 pending in
          let is = is_work g.S.Store g.H.Shelf old.media.registry end.media.registry
          old.media.shelf end.media.shelf it.0 before it.2 c.in_ok-answered.answered end.progress
          never it.3 pending in
          let did = c.in_ok-apply-in-Pending.ensures.does honest mine is in (
            it.0,
            begins g.S.Store g.H.Shelf old.media.registry end.media.registry old.media.shelf
                end.media.shelf it.0 before it.2 c.args.command.now
                (c.args.key.now ∷ map string_bytes c.args.more.now) it.1,
            search rules,
            carried_handed g.S.Store g.H.Shelf old.media.registry end.media.registry
                old.media.shelf end.media.shelf it.0 before it.2 c.in_ok-answered.answered
                end.progress never it.3 pending c.apply.new.self.media.registry
                c.apply.new.self.media.shelf c.apply.new.self.progress
                c.apply.ensures.carries.registry
                c.accept_keys.ensures.accepts.only.keeps.size did.0 did.1
                (c.apply.ensures.leaves honest mine is),
          ));
      not_failed = search rules;
      phase = search rules;
      rows = record {
        readable = search rules;
        store = search rules;
        goes_on = λ clean t s has records. (
            let mid : DiskKept g.S.Store c.accept_keys.new.self.media.registry =
            omega (arith, clean, c.apply.ensures.carries.keep.clean) in
            subst (λ (x : Held g.row.S.Denot). GoesOn g.S.Store c.args.self.now.media.registry x)
            (sym c.apply.ensures.carries.registry)
            (c.in_ok-answered.ensures.rows.goes_on mid t s has records));
      };
      runs = search rules;
      closes = search rules;
    }

pub returns-in_err-apply-in-Pending : goal.returns-in_err-apply-in-Pending
returns-in_err-apply-in-Pending g c =
    record {
      told = λ h clean. (
          let mid : DiskKept g.S.Store c.accept_keys.new.self.media.registry =
          omega (arith, clean, c.apply.ensures.carries.keep.clean) in
          let old = c.args.self.now in
          let end = c.accept_keys.new.self in
          let before = old.progress in
          let never = never_pending before c.requires in
          let it = c.in_ok-answered.ensures.told h mid in
          let pending = sym c.phase.ensures ∙ c.in-Pending.is in
          let honest = c.accept_keys.ensures.accepts.only.keeps.honest h in
          let mine = work g.S.Store g.H.Shelf old.media.registry end.media.registry
          old.media.shelf end.media.shelf it.0 before it.2 c.in_ok-answered.answered end.progress
          never it.3 pending in
          let is = is_work g.S.Store g.H.Shelf old.media.registry end.media.registry
          old.media.shelf end.media.shelf it.0 before it.2 c.in_ok-answered.answered end.progress
          never it.3 pending in (
            it.0,
            begins g.S.Store g.H.Shelf old.media.registry end.media.registry old.media.shelf
                end.media.shelf it.0 before it.2 c.args.command.now
                (c.args.key.now ∷ map string_bytes c.args.more.now) it.1,
            in_fault c.from_residual-in_err-apply-in-Pending.result (uncarried g.S.Store g.H.Shelf
                old.media.registry end.media.registry old.media.shelf end.media.shelf it.0 before
                it.2 c.in_ok-answered.answered end.progress never it.3 pending
                c.apply.new.self.media.registry
                c.apply.new.self.media.shelf c.apply.ensures.carries.registry
                c.accept_keys.ensures.accepts.only.keeps.size (c.apply.ensures.leaves honest mine
                is)),
            search rules,
          ));
      not_failed = search rules;
      phase = search rules;
      rows = search rules;
      runs = record {
        keep = search rules;
        undone = search rules;
        disk = λ clean t s has records told. (
            let j = g.H.Shelf in
            let mid : DiskKept g.S.Store c.accept_keys.new.self.media.registry =
            omega (arith, clean, c.apply.ensures.carries.keep.clean) in
            let pending = has_pending c.accept_keys.new.self.progress
            (sym c.phase.ensures ∙ c.in-Pending.is) in
            let more : (j.view c.accept_keys.new.self.media.shelf).faults
            < (j.view c.apply.new.self.media.shelf).faults =
            c.in_err-apply-in-Pending.ensures.carries.disk pending.0 pending.1
            (subst (λ (z : Sizes). AreAtHand z pending.0.intents.items)
            (sym c.accept_keys.ensures.accepts.only.keeps.size)
            (c.in_ok-answered.ensures.rows.at_hand mid t s has records pending.0 pending.1))
            (ap Err (fault_is c.from_residual-in_err-apply-in-Pending.result _ _
            c.from_residual-in_err-apply-in-Pending.ensures.1 told)) in
            omega (arith, c.accept_keys.ensures.accepts.only.keeps.count, more));
      };
      closes = search rules;
    }

pub returns-in_default : goal.returns-in_default
returns-in_default g c =
    record {
      told = λ h clean. (
          let old = c.args.self.now in
          let end = c.accept_keys.new.self in
          let before = old.progress in
          let it = c.in_ok-answered.ensures.told h clean in (
            it.0,
            begins g.S.Store g.H.Shelf old.media.registry end.media.registry old.media.shelf
                end.media.shelf it.0 before it.2 c.args.command.now
                (c.args.key.now ∷ map string_bytes c.args.more.now) it.1,
            search rules,
            rest_handed g.S.Store g.H.Shelf old.media.registry end.media.registry old.media.shelf
                end.media.shelf it.0 before it.2 c.in_ok-answered.answered end.progress
                (never_pending before c.requires) it.3
                (λ e. c.in_default.not-Pending (c.phase.ensures ∙ e)),
          ));
      not_failed = search rules;
      phase = search rules;
      rows = record {
        readable = c.in_ok-answered.ensures.rows.readable;
        store = c.in_ok-answered.ensures.rows.store;
        goes_on = c.in_ok-answered.ensures.rows.goes_on;
      };
      runs = search rules;
      closes = search rules;
    }
