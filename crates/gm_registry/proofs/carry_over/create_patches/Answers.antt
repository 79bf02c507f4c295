use Rattle.gm_registry.proofs.Common.{rules, state, keeps_held}
use Rattle.gm_registry.proofs.CarryingOver.{at_patches, patches_fail}
use Rattle.gm_registry.proofs.carry_over.create_patches.Goals as goal

pub returns-clause-leads : goal.returns-clause-leads
returns-clause-leads g c =
    record {
      same_reference = search rules;
      made = λ clean. at_patches (state g.S.Store c.args.tx.now.conn.now)
          (state g.S.Store c.execute.new.self.conn.now)
          c.execute.result (c.execute.ensures.runs clean);
      fails = λ clean. patches_fail (state g.S.Store c.args.tx.now.conn.now)
          (state g.S.Store c.execute.new.self.conn.now)
          c.execute.result (c.execute.ensures.runs clean);
      survives = search rules;
    }

pub returns-clause-kept : goal.returns-clause-kept
returns-clause-kept g c clean =
    keeps_held g.S.Store c.args.tx.now.conn.now c.execute.new.self.conn.now _ _ c.execute.result
    (c.execute.ensures.runs clean) c.execute.ensures.ended
