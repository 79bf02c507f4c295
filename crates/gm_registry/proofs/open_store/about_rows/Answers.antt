use Rattle.gm_registry.proofs.Common.{rules, sym, ◌∙◌, state, About, IsOfRegistry}
use Rattle.gm_registry.proofs.WholeQueries.{shows, read, failed}
use Rattle.gm_registry.proofs.Failures.{table_failed}
use Rattle.gm_registry.proofs.open_store.about_rows.Goals as goal

pub returns-in-Ok : goal.returns-in-Ok
returns-in-Ok g c =
    record {
      rows = λ clean ours. shows About (state g.S.Store c.args.conn.now)
          (state g.S.Store c.query_all.new.self) c.in-Ok.rows.items ours
          (rw c.query.ensures at (c.in-Ok.ensures.ok clean));
      read = read About IsOfRegistry (λ s is. is) (state g.S.Store c.args.conn.now)
          (state g.S.Store c.query_all.new.self) c.in-Ok.rows.items
          (λ clean. rw c.query.ensures at (c.in-Ok.ensures.ok clean))
          (rw c.query.ensures at c.query_all.ensures.survives);
      failed = search rules;
      store = search rules;
      fault = search rules;
    }

pub returns-in-Err : goal.returns-in-Err
returns-in-Err g c =
    record {
      rows = search rules;
      read = search rules;
      failed = failed About IsOfRegistry (λ s is. is) (state g.S.Store c.args.conn.now)
          (state g.S.Store c.query_all.new.self) c.in-Err.error
          (λ clean. rw c.query.ensures at (c.in-Err.ensures.err clean))
          (rw c.query.ensures at c.query_all.ensures.survives);
      store = λ clean is ours is_open.
          table_failed About (state g.S.Store c.args.conn.now) (state g.S.Store
          c.query_all.new.self)
          c.in-Err.error ours is_open
          (rw c.query.ensures at (c.in-Err.ensures.err clean)) (sym c.from.ensures ∙ is);
      fault = search rules;
    }
