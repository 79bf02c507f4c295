use Rattle.gm_registry.proofs.Common.{rules, [], ◌∷◌, sym, ◌∙◌, subst, Shown, state, query_text, IsOurSchema, Intents}
use Rattle.gm_registry.proofs.WholeQueries.{answers, ours_have, shows, read, failed}
use Rattle.gm_rows.proofs.ShownInOrder.{in_order}
use Rattle.gm_registry.proofs.Failures.{table_failed}
use Rattle.gm_registry.proofs.whole_tables.rows_of.Goals as goal

pub returns-in-Ok-clause-queries : goal.returns-in-Ok-clause-queries
returns-in-Ok-clause-queries g c =
    record {
      rows = λ clean ours. shows c.args.table (state g.S.Store c.args.conn.now)
          (state g.S.Store c.query_all.new.self) c.in-Ok.rows.items (ours_have c.args.table _ ours)
          (rw c.query.ensures at (c.in-Ok.ensures.ok clean));
      read =
          read c.args.table IsOurSchema (ours_have c.args.table) (state g.S.Store c.args.conn.now)
          (state g.S.Store c.query_all.new.self) c.in-Ok.rows.items
          (λ clean. rw c.query.ensures at (c.in-Ok.ensures.ok clean))
          (rw c.query.ensures at c.query_all.ensures.survives);
      failed = search rules;
      store = search rules;
      fault = search rules;
    }

pub returns-in-Err-clause-queries : goal.returns-in-Err-clause-queries
returns-in-Err-clause-queries g c =
    record {
      rows = search rules;
      read = search rules;
      failed =
          failed c.args.table IsOurSchema (ours_have c.args.table) (state g.S.Store c.args.conn.now)
          (state g.S.Store c.query_all.new.self) c.in-Err.error
          (λ clean. rw c.query.ensures at (c.in-Err.ensures.err clean))
          (rw c.query.ensures at c.query_all.ensures.survives);
      store = λ clean is ours is_open. table_failed c.args.table (state g.S.Store c.args.conn.now)
          (state g.S.Store c.query_all.new.self) c.in-Err.error (ours_have c.args.table _ ours)
          is_open
          (rw c.query.ensures at (c.in-Err.ensures.err clean)) (sym c.from.ensures ∙ is);
      fault = search rules;
    }

pub returns-in-Ok-clause-in_order : goal.returns-in-Ok-clause-in_order
returns-in-Ok-clause-in_order g c by_number clean ours =
    let old = state g.S.Store c.args.conn.now in
    let new = state g.S.Store c.query_all.new.self in
    let shown = rw c.query.ensures at (c.in-Ok.ensures.ok clean) in
    in_order 7 0 (2 ∷ 3 ∷ 4 ∷ 5 ∷ 6 ∷ []) old.now.trees c.in-Ok.rows.items
    (answers Intents old new c.in-Ok.rows.items ours
    (subst (λ t. Shown (query_text t) [] old new c.in-Ok.rows.items) by_number shown))
