use Rattle.gm_registry.proofs.Common.{rules, arith, sym, ap, ◌∙◌, length, slice_get, bytes_eq-Decides, has_got, state, passed_on}
use Rattle.gm_registry.proofs.FoundReply.{no_reply, found_row, a_reply}
use Rattle.gm_registry.proofs.CallsLeave.{saved}
use Rattle.gm_registry.proofs.ReadsInTurn.{failed_leaves, read_leaves, registry_stays}
use Rattle.gm_registry.proofs.replies.reply_on.Goals as goal

pub returns-in-None : goal.returns-in-None
returns-in-None g c =
    record {
      found = λ clean t was.
          let it = c.in_ok-rows.ensures.rows clean t was in (
            no_reply t c.args.key.now c.in_ok-rows.rows.items it.0
                (omega (arith, c.in-None.ensures.item.3, ap length c.deref.ensures.value)),
            saved g.S.Store g.met.S.Store.settled c.find_command.new.conn t it.1,
          );
      range = search rules;
      unreadable = search rules;
      store = search rules;
      reads = search rules;
      untouched = read_leaves (state g.S.Store c.args.conn.now)
          (state g.S.Store c.find_command.new.conn) c.in_ok-rows.ensures.read;
      still = registry_stays (state g.S.Store c.args.conn.now)
          (state g.S.Store c.find_command.new.conn) c.in_ok-rows.ensures.read;
    }

pub returns : goal.returns
returns g c =
    record {
      found = λ clean t was.
          let it = c.in_ok-rows.ensures.rows clean t was in
          let kept = c.in_ok-kept-in-Some.ensures.kept in
          let row = has_got c.in_ok-rows.rows.items 0 c.in-Some.row.now
          (ap (λ l. slice_get l 0) (sym c.deref.ensures.value) ∙ sym c.in-Some.ensures.value) in (
            rw (c.from.ensures) (a_reply t c.args.key.now c.in_ok-rows.rows.items c.in-Some.row.now
                _ _ _ _
                _ it.0 row kept.0 kept.1 kept.2 kept.3 c.reply_from-reply.ensures),
            saved g.S.Store g.met.S.Store.settled c.find_command.new.conn t it.1,
          );
      range = search rules;
      unreadable = search rules;
      store = search rules;
      reads = search rules;
      untouched = read_leaves (state g.S.Store c.args.conn.now)
          (state g.S.Store c.find_command.new.conn) c.in_ok-rows.ensures.read;
      still = registry_stays (state g.S.Store c.args.conn.now)
          (state g.S.Store c.find_command.new.conn) c.in_ok-rows.ensures.read;
    }

pub returns-in_err-rows : goal.returns-in_err-rows
returns-in_err-rows g c =
    record {
      found = search rules;
      range = search rules;
      unreadable = search rules;
      store = search rules;
      reads = search rules;
      untouched = failed_leaves (state g.S.Store c.args.conn.now)
          (state g.S.Store c.find_command.new.conn) c.in_err-rows.ensures.failed;
      still = search rules;
    }

pub returns-in_err-kept-in-Some : goal.returns-in_err-kept-in-Some
returns-in_err-kept-in-Some g c =
    record {
      found = search rules;
      range = search rules;
      unreadable = λ clean.
          passed_on c.from_residual-in_err-kept-in-Some.result _ _ (λ e same is t was written.
          let it = c.in_ok-rows.ensures.rows clean t was in
          let row = has_got c.in_ok-rows.rows.items 0 c.in-Some.row.now
          (ap (λ l. slice_get l 0) (sym c.deref.ensures.value) ∙ sym c.in-Some.ensures.value) in
          let command = found_row t c.args.key.now c.in_ok-rows.rows.items c.in-Some.row.now it.0
          row in
          c.in_err-kept-in-Some.ensures.unreadable (sym same ∙ is) command.0
          (written command.0 command.1
          ((bytes_eq-Decides command.0.call_key c.args.key.now).0 command.2)) (sym command.3))
          c.from_residual-in_err-kept-in-Some.ensures.1;
      store = λ clean. passed_on c.from_residual-in_err-kept-in-Some.result _ _
          (λ e same is t was. absurd (c.in_err-kept-in-Some.ensures.fault (sym same ∙ is)))
          c.from_residual-in_err-kept-in-Some.ensures.1;
      reads = search rules;
      untouched = read_leaves (state g.S.Store c.args.conn.now)
          (state g.S.Store c.find_command.new.conn) c.in_ok-rows.ensures.read;
      still = search rules;
    }
