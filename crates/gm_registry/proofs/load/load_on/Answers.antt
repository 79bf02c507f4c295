use Rattle.gm_registry.proofs.Common.{Result, Ok, Err, OnOk, rules, state, if_ok, if_err, says_tables, tables_said, any_tables, any_rows}
use Rattle.gm_registry.proofs.ReadsInTurn.{ours, counted, tables_stay, registry_ours, registry_stays, read_leaves}
use Rattle.gm_registry.proofs.Stored.{registry_numbers}
use Rattle.gm_registry.proofs.CallsLeave.{saved, answered_reads, failed_reads}
use Rattle.gm_registry.proofs.load.load_on.Goals as goal

on_ok : {X E : Type 0} (result : Result X E) (P : Type 0) → P → OnOk result P
on_ok (Ok x) P p = p
on_ok (Err e) P p = tt

pub returns : goal.returns
returns g c =
    let old = state g.S.Store c.args.conn.now in
    record {
      says = λ clean. if_ok c.judge.result _ _
          (λ l says was. any_tables old.now.trees c.in_ok-fetched.fetched l.state l.intents.items
          l.bytes.items (registry_numbers old was)
          (c.in_ok-fetched.ensures.rows clean (registry_ours old was)) says)
          c.judge.ensures.says;
      silent = λ clean. if_err c.judge.result _ _ (λ e none is s ts bytes was of.
          none is s ts bytes (any_rows old.now.trees c.in_ok-fetched.fetched s ts bytes
          (c.in_ok-fetched.ensures.rows clean (registry_ours old was)) of))
          c.judge.ensures.unreadable;
      loaded = λ clean.
          let new = state g.S.Store c.fetch.new.conn in
          if_ok c.judge.result _ _ (λ l says t was. (
            tables_said old.now.trees t c.in_ok-fetched.fetched l.state l.intents.items
                l.bytes.items
                (counted old t was)
                (c.in_ok-fetched.ensures.rows clean (ours old t was)) says,
            saved g.S.Store g.met.S.Store.settled c.fetch.new.conn t
                (tables_stay old new t c.in_ok-fetched.ensures.read clean was),
          )) c.judge.ensures.says;
      unreadable = λ clean. if_err c.judge.result _ _ (λ e none is t s ts bytes was of.
          none is s ts bytes (says_tables old.now.trees t c.in_ok-fetched.fetched s ts bytes
          (counted old t was)
          (c.in_ok-fetched.ensures.rows clean (ours old t was)) of)) c.judge.ensures.unreadable;
      store = search rules;
      reads = answered_reads g.S.Store g.met.S.Store.settled c.args.conn.now c.fetch.new.conn
          c.in_ok-fetched.ensures.read;
      untouched = read_leaves (state g.S.Store c.args.conn.now) (state g.S.Store c.fetch.new.conn)
          c.in_ok-fetched.ensures.read;
      still = λ clean. on_ok c.judge.result _ (registry_stays (state g.S.Store c.args.conn.now)
          (state g.S.Store c.fetch.new.conn) c.in_ok-fetched.ensures.read clean);
    }

pub returns-in_err-fetched : goal.returns-in_err-fetched
returns-in_err-fetched g c =
    record {
      says = search rules;
      silent = search rules;
      loaded = search rules;
      unreadable = search rules;
      store = search rules;
      reads = failed_reads g.S.Store g.met.S.Store.settled c.args.conn.now c.fetch.new.conn
          c.in_err-fetched.ensures.failed;
      untouched = search rules;
      still = search rules;
    }
