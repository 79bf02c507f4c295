use Rattle.gm_registry.proofs.Common.{rules, state, IsNumberShown, Least, Greatest}
use Rattle.gm_registry.proofs.ReadsInTurn.{read_then, clean_before, carried}
use Rattle.gm_registry.proofs.SomeReads.{and_read, then_query_fails}
use Rattle.gm_registry.proofs.command_numbers.fetch_numbers.Goals as goal

pub returns-in_err-least : goal.returns-in_err-least
returns-in_err-least g c =
    then_query_fails g.S.Store c.args.conn.now c.from_residual-in_err-least.result _
    c.in_ok-count.ensures.read c.in_err-least.ensures
    c.from_residual-in_err-least.ensures.1

pub returns-in_err-greatest : goal.returns-in_err-greatest
returns-in_err-greatest g c =
    then_query_fails g.S.Store c.args.conn.now c.from_residual-in_err-greatest.result _
    (and_read c.in_ok-count.ensures.read
    c.in_ok-least.ensures.read) c.in_err-greatest.ensures
    c.from_residual-in_err-greatest.ensures.1

pub returns : goal.returns
returns g c =
    let s0 = state g.S.Store c.args.conn.now in
    let s1 = state g.S.Store c.rows_with.new.conn in
    let s2 = state g.S.Store c.rows_with-2.new.conn in
    let s3 = state g.S.Store c.rows_with-3.new.conn in
    let first = read_then s0 s1 s2 c.in_ok-count.ensures.read c.in_ok-least.ensures.read in
    record {
      rows = λ clean ours.
          let clean2 = clean_before s2 s3 c.in_ok-greatest.ensures.read clean in
          let clean1 = clean_before s1 s2 c.in_ok-least.ensures.read clean2 in
          record {
            count = c.in_ok-count.ensures.rows clean1 ours;
            least = carried s0 s1 (λ db. IsNumberShown db Least c.in_ok-least.least.items)
                c.in_ok-count.ensures.read clean1 (c.in_ok-least.ensures.rows clean2) ours;
            greatest = carried s0 s2 (λ db. IsNumberShown db Greatest
                c.in_ok-greatest.greatest.items)
                first clean2 (c.in_ok-greatest.ensures.rows clean) ours;
          };
      read = read_then s0 s2 s3 first c.in_ok-greatest.ensures.read;
      failed = search rules;
      store = search rules;
      fault = search rules;
    }
