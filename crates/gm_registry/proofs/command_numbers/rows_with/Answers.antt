use Rattle.gm_registry.proofs.Common.{rules, sym, ◌∙◌, state}
use Rattle.gm_registry.proofs.NumberQueries.{shows_number, read_number, failed_number, fault_number}
use Rattle.gm_registry.proofs.command_numbers.rows_with.Goals as goal

pub returns-in-Ok : goal.returns-in-Ok
returns-in-Ok g c =
    record {
      rows = λ clean ours. shows_number c.args.number (state g.S.Store c.args.conn.now)
          (state g.S.Store c.query_all.new.self) c.in-Ok.rows.items ours
          (rw c.query.ensures at (c.in-Ok.ensures.ok clean));
      read = read_number c.args.number (state g.S.Store c.args.conn.now)
          (state g.S.Store c.query_all.new.self) c.in-Ok.rows.items
          (λ clean. rw c.query.ensures at (c.in-Ok.ensures.ok clean))
          (rw c.query.ensures at c.query_all.ensures.survives);
      failed = search rules;
      store = search rules;
      fault = search rules;
    }

pub returns-in-Err : goal.returns-in-Err
returns-in-Err g c =
    record {
      rows = search rules;
      read = search rules;
      failed = failed_number c.args.number (state g.S.Store c.args.conn.now)
          (state g.S.Store c.query_all.new.self) c.in-Err.error
          (λ clean. rw c.query.ensures at (c.in-Err.ensures.err clean))
          (rw c.query.ensures at c.query_all.ensures.survives);
      store = λ clean is ours is_open. fault_number c.args.number (state g.S.Store c.args.conn.now)
          (state g.S.Store c.query_all.new.self) c.in-Err.error ours is_open
          (rw c.query.ensures at (c.in-Err.ensures.err clean)) (sym c.from.ensures ∙ is);
      fault = search rules;
    }
