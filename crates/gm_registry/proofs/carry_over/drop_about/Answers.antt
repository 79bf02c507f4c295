use Rattle.gm_registry.proofs.Common.{rules, state, keeps_held}
use Rattle.gm_registry.proofs.CarryingOver.{at_dropped, drop_fails}
use Rattle.gm_registry.proofs.carry_over.drop_about.Goals as goal

pub returns-clause-leads : goal.returns-clause-leads
returns-clause-leads g c =
    record {
      same_reference = search rules;
      made = λ clean. at_dropped (state g.S.Store c.args.tx.now.conn.now)
          (state g.S.Store c.execute.new.self.conn.now)
          c.execute.result (c.execute.ensures.runs clean);
      fails = λ clean. drop_fails (state g.S.Store c.args.tx.now.conn.now)
          (state g.S.Store c.execute.new.self.conn.now)
          c.execute.result (c.execute.ensures.runs clean);
      survives = search rules;
    }

pub returns-clause-kept : goal.returns-clause-kept
returns-clause-kept g c clean =
    keeps_held g.S.Store c.args.tx.now.conn.now c.execute.new.self.conn.now _ _ c.execute.result
    (c.execute.ensures.runs clean) c.execute.ensures.ended
