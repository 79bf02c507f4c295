use Rattle.gm_registry.proofs.Common.{rules, sym, ◌∙◌, state}
use Rattle.gm_registry.proofs.UnderKeys.{shows_under, read_under, failed_under, fault_under}
use Rattle.gm_registry.proofs.components_by_key.rows_under.Goals as goal

pub returns-in-Ok : goal.returns-in-Ok
returns-in-Ok g c =
    record {
      rows = λ clean ours. shows_under c.args.label.now c.args.key (state g.S.Store c.args.conn.now)
          (state g.S.Store c.query_all.new.self) c.in-Ok.rows.items ours
          (rw (c.query.ensures, c.params-to_sql.ensures) at (c.in-Ok.ensures.ok clean));
      read = read_under c.args.label.now c.args.key (state g.S.Store c.args.conn.now)
          (state g.S.Store c.query_all.new.self) c.in-Ok.rows.items
          (λ clean. rw (c.query.ensures, c.params-to_sql.ensures) at (c.in-Ok.ensures.ok clean))
          (rw (c.query.ensures, c.params-to_sql.ensures) at c.query_all.ensures.survives);
      failed = search rules;
      store = search rules;
      fault = search rules;
    }

pub returns-in-Err : goal.returns-in-Err
returns-in-Err g c =
    record {
      rows = search rules;
      read = search rules;
      failed = failed_under c.args.label.now c.args.key (state g.S.Store c.args.conn.now)
          (state g.S.Store c.query_all.new.self) c.in-Err.error
          (λ clean. rw (c.query.ensures, c.params-to_sql.ensures) at (c.in-Err.ensures.err clean))
          (rw (c.query.ensures, c.params-to_sql.ensures) at c.query_all.ensures.survives);
      store = λ clean is ours is_open.
          fault_under c.args.label.now c.args.key (state g.S.Store c.args.conn.now)
          (state g.S.Store c.query_all.new.self) c.in-Err.error ours is_open
          (rw (c.query.ensures, c.params-to_sql.ensures) at (c.in-Err.ensures.err clean))
          (sym c.from.ensures ∙ is);
      fault = search rules;
    }
