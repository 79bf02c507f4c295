use Rattle.gm_bench.proofs.Common.{rules, Err, ap}
use Rattle.gm_bench.proofs.Causes.{fault_is}
use Rattle.gm_bench.proofs.OneHandedIn.{one_handed, one_left, read_under}
use Rattle.gm_bench.proofs.Phases.{in_fault}
use Rattle.gm_bench.proofs.bench.Bench.hand_in_watched.Goals as goal

pub returns-in_err-answered : goal.returns-in_err-answered
returns-in_err-answered g c =
    let old = c.args.self.now in
    let new = c.hand_in_keys.new.self in
    record {
      answers = search rules;
      leaves = λ h clean.
          let it = c.in_err-answered.ensures.told h clean in
          in_fault c.from_residual.result (λ away v u stands.
          one_left g.S.Store g.H.Shelf old.progress old.media.registry new.media.registry
          old.media.shelf new.media.shelf away v u c.args.key.now c.args.command.now it.0
          (it.1 away v u stands) (it.2 away v u stands));
      not_failed = search rules;
      phase = search rules;
      rows = record {
        readable = λ clean is t r has records few written honest.
            c.in_err-answered.ensures.rows.readable clean
            (ap Err (fault_is c.from_residual.result _ _ c.from_residual.ensures.1 is)) t r has
            records (read_under c.args.key.now t few written) honest;
        store = λ clean is.
            c.in_err-answered.ensures.rows.store clean
            (ap Err (fault_is c.from_residual.result _ _ c.from_residual.ensures.1 is));
        goes_on = search rules;
      };
      runs = record {
        keep = search rules;
        undone = search rules;
        disk = λ clean t r has records is.
            c.in_err-answered.ensures.runs.disk clean t r has records
            (ap Err (fault_is c.from_residual.result _ _ c.from_residual.ensures.1 is));
      };
      closes = search rules;
    }

pub returns : goal.returns
returns g c =
    let old = c.args.self.now in
    let new = c.hand_in_keys.new.self in
    record {
      answers = λ h clean away v u stands.
          let it = c.in_ok-answered.ensures.told h clean in
          one_handed g.S.Store g.H.Shelf new.progress old.media.registry new.media.registry
          old.media.shelf new.media.shelf away v u c.args.key.now c.args.command.now it.0
          c.in_ok-answered.answered.answer (it.1 away v u stands) (it.3 away v u stands).1;
      leaves = search rules;
      not_failed = search rules;
      phase = c.in_ok-answered.ensures.phase;
      rows = record {
        readable = search rules;
        store = search rules;
        goes_on = c.in_ok-answered.ensures.rows.goes_on;
      };
      runs = record {
        keep = search rules;
        undone = c.in_ok-answered.ensures.runs.undone;
        disk = search rules;
      };
      closes = record {
        closed = λ is. absurd (c.in_ok-answered.ensures.not_failed is);
        reopen = search rules;
        failed = search rules;
        absent = search rules;
        redone = c.hand_in_keys.ensures.closes.redone;
      };
    }
