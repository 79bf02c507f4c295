use Rattle.gm_registry.proofs.Common.{rules, arith, HasCleanDisk, state}
use Rattle.gm_registry.proofs.Failures.{failed_since}
use Rattle.gm_registry.proofs.InsideFails.{passed_on}
use Rattle.gm_registry.proofs.carry_over.carry_tables.Goals as goal

pub returns-clause-leads : goal.returns-clause-leads
returns-clause-leads g c =
    record {
      same_reference = search rules;
      made = λ clean first was.
          let second : HasCleanDisk (state g.S.Store c.drop_about.new.tx.conn.now) =
          omega (arith, c.put_about.ensures.leads.survives.clean, clean) in
          let early : HasCleanDisk (state g.S.Store c.create_patches.new.tx.conn.now) =
          omega (arith, c.drop_about.ensures.leads.survives.clean, second) in
          c.in_ok-put_about.ensures.leads.made clean (first.trees, first)
          (c.in_ok-drop_about.ensures.leads.made second (first.trees, first)
          (c.in_ok-create_patches.ensures.leads.made early first was));
      fails = search rules;
      survives = search rules;
    }

pub returns-in_err-drop_about-clause-leads : goal.returns-in_err-drop_about-clause-leads
returns-in_err-drop_about-clause-leads g c =
    record {
      same_reference = search rules;
      made = search rules;
      fails = λ clean.
          let start = state g.S.Store c.args.tx.now.conn.now in
          let a = state g.S.Store c.create_patches.new.tx.conn.now in
          let b = state g.S.Store c.drop_about.new.tx.conn.now in
          let early : HasCleanDisk a = omega (
            arith,
            c.drop_about.ensures.leads.survives.clean,
            clean,
          ) in
          passed_on c.from_residual-in_err-drop_about.result c.in_err-drop_about.field-0.0 _
          c.from_residual-in_err-drop_about.ensures.1 (λ is first was.
          failed_since start a b _ c.create_patches.ensures.leads.survives
          (c.in_err-drop_about.ensures.leads.fails clean is (first.trees, first)
          (c.in_ok-create_patches.ensures.leads.made early first was)));
      survives = search rules;
    }

pub returns-in_err-put_about-clause-leads : goal.returns-in_err-put_about-clause-leads
returns-in_err-put_about-clause-leads g c =
    record {
      same_reference = search rules;
      made = search rules;
      fails = λ clean.
          let start = state g.S.Store c.args.tx.now.conn.now in
          let a = state g.S.Store c.create_patches.new.tx.conn.now in
          let b = state g.S.Store c.drop_about.new.tx.conn.now in
          let d = state g.S.Store c.put_about.new.tx.conn.now in
          let second : HasCleanDisk b = omega (
            arith,
            c.put_about.ensures.leads.survives.clean,
            clean,
          ) in
          let early : HasCleanDisk a = omega (
            arith,
            c.drop_about.ensures.leads.survives.clean,
            second,
          ) in
          passed_on c.from_residual-in_err-put_about.result c.in_err-put_about.field-0.0 _
          c.from_residual-in_err-put_about.ensures.1 (λ is first was.
          failed_since start a d _ c.create_patches.ensures.leads.survives
          (failed_since a b d _ c.drop_about.ensures.leads.survives
          (c.in_err-put_about.ensures.leads.fails clean is (first.trees, first)
          (c.in_ok-drop_about.ensures.leads.made second (first.trees, first)
          (c.in_ok-create_patches.ensures.leads.made early first was)))));
      survives = search rules;
    }
