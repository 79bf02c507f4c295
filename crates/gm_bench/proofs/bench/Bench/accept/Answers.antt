use Rattle.gm_bench.proofs.Common.{rules, List, Call, SeriesAnswer, Err, ap, subst, AreAnswered, LeavesSteps}
use Rattle.gm_bench.proofs.BegunCalls.{one_is}
use Rattle.gm_bench.proofs.Causes.{fault_is}
use Rattle.gm_bench.proofs.OneHandedIn.{read_under}
use Rattle.gm_bench.proofs.Phases.{in_fault}
use Rattle.gm_bench.proofs.bench.Bench.accept.Goals as goal

pub returns-in_err-answered : goal.returns-in_err-answered
returns-in_err-answered g c =
    let old = c.args.self.now in
    let new = c.accept_keys.new.self in
    record {
      answers = search rules;
      leaves = λ h clean away ts bytes v u at waits.
          let it = c.accept_keys.ensures.told h clean in
          subst (λ (l : List Call). LeavesSteps g.S.Store g.H.Shelf old.media.registry
          new.media.registry old.media.shelf new.media.shelf away v u l)
          (one_is c.args.command.now c.args.key.now it.0 (it.1 away ts bytes v u at))
          (it.2 away ts bytes v u at waits);
      not_failed = search rules;
      phase = search rules;
      rows = record {
        readable = λ clean is t r has records few written honest.
            c.in_err-answered.ensures.rows.readable clean
            (ap Err (fault_is c.from_residual.result _ _ c.from_residual.ensures.1 is)) t r has
            records (read_under c.args.key.now t few written) honest;
        at_hand = search rules;
        refused = λ clean. in_fault c.from_residual.result
            (c.in_err-answered.ensures.rows.refused clean);
        store = λ clean is.
            c.in_err-answered.ensures.rows.store clean
            (ap Err (fault_is c.from_residual.result _ _ c.from_residual.ensures.1 is));
        goes_on = search rules;
      };
      accepts = search rules;
      closes = search rules;
    }

pub returns : goal.returns
returns g c =
    let old = c.args.self.now in
    let new = c.accept_keys.new.self in
    record {
      answers = λ h clean.
          let it = c.in_ok-answered.ensures.told h clean in (
            it.3.0,
            ap (λ (a : SeriesAnswer). a.answer) it.3.1,
            it.3.2,
            λ away ts bytes v u at waits.
                subst (λ (l : List Call). AreAnswered g.S.Store g.H.Shelf new.media.registry
                new.media.shelf away ts bytes v u l it.3.0)
                (one_is c.args.command.now c.args.key.now it.0 (it.1 away ts bytes v u at))
                (it.3.3 away ts bytes v u at waits),
          );
      leaves = λ h clean away ts bytes v u at waits.
          let it = c.accept_keys.ensures.told h clean in
          subst (λ (l : List Call). LeavesSteps g.S.Store g.H.Shelf old.media.registry
          new.media.registry old.media.shelf new.media.shelf away v u l)
          (one_is c.args.command.now c.args.key.now it.0 (it.1 away ts bytes v u at))
          (it.2 away ts bytes v u at waits);
      not_failed = search rules;
      phase = c.in_ok-answered.ensures.phase;
      rows = record {
        readable = search rules;
        at_hand = c.in_ok-answered.ensures.rows.at_hand;
        refused = search rules;
        store = search rules;
        goes_on = c.in_ok-answered.ensures.rows.goes_on;
      };
      accepts = record {
        only = c.accept_keys.ensures.accepts.only;
        disk = search rules;
        kept = search rules;
        undone = c.in_ok-answered.ensures.accepts.undone;
        clean = c.accept_keys.ensures.accepts.clean;
      };
      closes = record {
        closed = λ is. absurd (c.in_ok-answered.ensures.not_failed is);
        reopen = search rules;
        failed = search rules;
        absent = search rules;
        redone = c.accept_keys.ensures.closes.redone;
      };
    }
