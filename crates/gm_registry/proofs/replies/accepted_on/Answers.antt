use Rattle.gm_registry.proofs.Common.{rules, arith, sym, ap, ◌∙◌, length, slice_get, state, passed_on}
use Rattle.gm_registry.proofs.LastCommand.{no_command, last_number, last_in_range}
use Rattle.gm_registry.proofs.CallsLeave.{saved}
use Rattle.gm_registry.proofs.ReadsInTurn.{failed_leaves, read_leaves, registry_stays}
use Rattle.gm_registry.proofs.replies.accepted_on.Goals as goal

pub returns-in-None-clause-counts : goal.returns-in-None-clause-counts
returns-in-None-clause-counts g c =
    record {
      count = λ clean t was.
          let it = c.in_ok-rows.ensures.rows clean t was in (
            no_command t c.in_ok-rows.rows.items it.0
                (omega (arith, c.in-None.ensures.item.3, ap length c.deref.ensures.value)),
            saved g.S.Store g.met.S.Store.settled c.last_command.new.conn t it.1,
          );
      unreadable = search rules;
      store = search rules;
      reads = search rules;
      untouched = read_leaves (state g.S.Store c.args.conn.now)
          (state g.S.Store c.last_command.new.conn) c.in_ok-rows.ensures.read;
      still = registry_stays (state g.S.Store c.args.conn.now)
          (state g.S.Store c.last_command.new.conn) c.in_ok-rows.ensures.read;
    }

pub returns-clause-counts : goal.returns-clause-counts
returns-clause-counts g c =
    record {
      count = λ clean t was.
          let it = c.in_ok-rows.ensures.rows clean t was in (
            last_number t c.in_ok-rows.rows.items c.in-Some.row.now _ it.1.tables.rows.numbered it.0
                (ap (λ l. slice_get l 0) (sym c.deref.ensures.value) ∙ sym c.in-Some.ensures.value)
                c.in_ok-read_number-in-Some.ensures.number,
            saved g.S.Store g.met.S.Store.settled c.last_command.new.conn t it.1,
          );
      unreadable = search rules;
      store = search rules;
      reads = search rules;
      untouched = read_leaves (state g.S.Store c.args.conn.now)
          (state g.S.Store c.last_command.new.conn) c.in_ok-rows.ensures.read;
      still = registry_stays (state g.S.Store c.args.conn.now)
          (state g.S.Store c.last_command.new.conn) c.in_ok-rows.ensures.read;
    }

pub returns-in_err-rows-clause-counts : goal.returns-in_err-rows-clause-counts
returns-in_err-rows-clause-counts g c =
    record {
      count = search rules;
      unreadable = search rules;
      store = search rules;
      reads = search rules;
      untouched = failed_leaves (state g.S.Store c.args.conn.now)
          (state g.S.Store c.last_command.new.conn) c.in_err-rows.ensures.failed;
      still = search rules;
    }

pub returns-in_err-read_number-in-Some-clause-counts :
    goal.returns-in_err-read_number-in-Some-clause-counts
returns-in_err-read_number-in-Some-clause-counts g c =
    record {
      count = search rules;
      unreadable = λ clean.
          passed_on c.from_residual-in_err-read_number-in-Some.result _ _ (λ e same is t was few.
          let it = c.in_ok-rows.ensures.rows clean t was in
          let last = last_in_range t c.in_ok-rows.rows.items c.in-Some.row.now
          it.1.tables.rows.numbered
          it.0 (ap (λ l. slice_get l 0) (sym c.deref.ensures.value) ∙ sym c.in-Some.ensures.value)
          in
          c.in_err-read_number-in-Some.ensures.unreadable last.0 (omega (arith, last.1, few))
          last.2)
          c.from_residual-in_err-read_number-in-Some.ensures.1;
      store = λ clean. passed_on c.from_residual-in_err-read_number-in-Some.result _ _
          (λ e same is t was. absurd (c.in_err-read_number-in-Some.ensures.fault (sym same ∙ is)))
          c.from_residual-in_err-read_number-in-Some.ensures.1;
      reads = search rules;
      untouched = read_leaves (state g.S.Store c.args.conn.now)
          (state g.S.Store c.last_command.new.conn) c.in_ok-rows.ensures.read;
      still = search rules;
    }
