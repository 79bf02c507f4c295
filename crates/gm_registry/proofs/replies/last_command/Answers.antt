use Rattle.gm_registry.proofs.Common.{[], ap, Database, state, if_ok, if_err, map_ok, alone_ok, shown_has, last_command_text, registry_schema, HasCounted}
use Rattle.gm_registry.proofs.TextMeanings.{last_is}
use Rattle.gm_registry.proofs.LastCommand.{lasts}
use Rattle.gm_registry.proofs.CallsLeave.{query_failed, query_read, query_reads}
use Rattle.gm_registry.proofs.Failures.{last_failed}
use Rattle.gm_registry.proofs.ReadsInTurn.{ours}
use Rattle.gm_registry.proofs.replies.last_command.Goals as goal

pub returns-clause-rows : goal.returns-clause-rows
returns-clause-rows g c clean =
    let old = state g.S.Store c.args.conn.now in
    let new = state g.S.Store c.query_all.new.self in
    if_ok c.query_all.result _ _ (λ rows h t was. (
      lasts old new rows.items t was h,
      shown_has registry_schema HasCounted last_command_text [] old new rows.items t was
          last_is.plain h,
    ))
    (c.query_all.ensures.ok clean)

pub returns-clause-reads : goal.returns-clause-reads
returns-clause-reads g c =
    query_reads g.S.Store g.met.S.Store.settled c.args.conn.now c.query_all.new.self
    c.query_all.result (λ rows. rows.items) last_command_text _ last_is.plain c.query_all.ensures.ok
    c.query_all.ensures.err c.query_all.ensures.survives

pub returns-clause-read : goal.returns-clause-read
returns-clause-read g c =
    query_read g.S.Store c.args.conn.now c.query_all.new.self (λ rows. rows.items)
    last_command_text _ last_is.plain c.query_all.ensures.survives c.query_all.result
    c.query_all.ensures.ok

pub returns-clause-failed : goal.returns-clause-failed
returns-clause-failed g c =
    query_failed g.S.Store c.args.conn.now c.query_all.new.self (λ rows. rows.items)
    last_command_text _ last_is.plain c.query_all.ensures.survives c.query_all.result
    c.query_all.ensures.err

pub returns-clause-store : goal.returns-clause-store
returns-clause-store g c clean =
    let old = state g.S.Store c.args.conn.now in
    let new = state g.S.Store c.query_all.new.self in
    if_err c.query_all.result _ _ (λ e fails is t was.
    last_failed old new e (ours old t was) was.is_open fails is)
    (c.query_all.ensures.err clean)

pub returns-clause-same : goal.returns-clause-same
returns-clause-same g c clean =
    let old = state g.S.Store c.args.conn.now in
    let new = state g.S.Store c.query_all.new.self in
    map_ok c.query_all.result _ _
    (λ alone t was. ap (λ (d : Database). d.trees) (alone (ours old t was)).0.now_is)
    (alone_ok registry_schema (λ rows. rows.items) last_command_text _ old new c.query_all.result
    last_is.plain (c.query_all.ensures.ok clean))
