use Rattle.gm_registry.proofs.Common.{rules, state, on_err, read_at_most, IsOurSchema}
use Rattle.gm_registry.proofs.named.named_images.Goals as goal

pub returns-in_err-named_by : goal.returns-in_err-named_by
returns-in_err-named_by g c =
    record {
      rows = search rules;
      read = search rules;
      failed = on_err c.from_residual-in_err-named_by.result _
          (read_at_most IsOurSchema (state g.S.Store c.args.conn.now)
          (state g.S.Store c.rows_of.new.conn) c.in_ok-rows.ensures.queries.read);
      store = search rules;
      fault = search rules;
    }
