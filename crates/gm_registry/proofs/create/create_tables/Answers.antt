use Rattle.gm_registry.proofs.Common.{rules, arith, HasCleanDisk, state}
use Rattle.gm_registry.proofs.CreatableTables.{makes_about, makes_mirrors, makes_components, makes_intents, makes_commands, makes_patches}
use Rattle.gm_registry.proofs.InsideFails.{passed_on}
use Rattle.gm_registry.proofs.MadeTables.{tables_made}
use Rattle.gm_registry.proofs.MakingFails.{none_made, table_made, table_fails}
use Rattle.gm_registry.proofs.create.create_tables.Goals as goal

pub returns : goal.returns
returns g c =
    record {
      same_reference = search rules;
      made = λ clean first was.
          let fifth : HasCleanDisk (state g.S.Store c.execute-5.new.self.conn.now) =
          omega (arith, clean, c.execute-6.ensures.survives.clean) in
          let fourth : HasCleanDisk (state g.S.Store c.execute-4.new.self.conn.now) =
          omega (arith, fifth, c.execute-5.ensures.survives.clean) in
          let third : HasCleanDisk (state g.S.Store c.execute-3.new.self.conn.now) =
          omega (arith, fourth, c.execute-4.ensures.survives.clean) in
          let second : HasCleanDisk (state g.S.Store c.execute-2.new.self.conn.now) =
          omega (arith, third, c.execute-3.ensures.survives.clean) in
          let early : HasCleanDisk (state g.S.Store c.execute.new.self.conn.now) =
          omega (arith, second, c.execute-2.ensures.survives.clean) in
          let one = c.in_ok-execute.ensures.runs early (rw was.inside) in
          let two = c.in_ok-execute-2.ensures.runs second one.1.mode in
          let three = c.in_ok-execute-3.ensures.runs third two.1.mode in
          let four = c.in_ok-execute-4.ensures.runs fourth three.1.mode in
          let five = c.in_ok-execute-5.ensures.runs fifth four.1.mode in
          let six = c.in_ok-execute-6.ensures.runs clean five.1.mode in
          tables_made first (state g.S.Store c.args.tx.now.conn.now)
          (state g.S.Store c.execute.new.self.conn.now)
          (state g.S.Store c.execute-2.new.self.conn.now)
          (state g.S.Store c.execute-3.new.self.conn.now)
          (state g.S.Store c.execute-4.new.self.conn.now)
          (state g.S.Store c.execute-5.new.self.conn.now)
          (state g.S.Store c.execute-6.new.self.conn.now)
          c.in_ok-execute.field-0 c.in_ok-execute-2.field-0 c.in_ok-execute-3.field-0
          c.in_ok-execute-4.field-0 c.in_ok-execute-5.field-0 c.in_ok-execute-6.field-0 was one two
          three
          four five six;
      fails = search rules;
      survives = search rules;
    }

pub returns-in_err-execute : goal.returns-in_err-execute
returns-in_err-execute g c =
    record {
      same_reference = search rules;
      made = search rules;
      fails = λ clean. passed_on c.from_residual.result c.in_err-execute.field-0.0 _
          c.from_residual.ensures.1 (λ is first was.
          table_fails makes_about (none_made was) (c.in_err-execute.ensures.runs clean) is);
      survives = search rules;
    }

pub returns-in_err-execute-2 : goal.returns-in_err-execute-2
returns-in_err-execute-2 g c =
    record {
      same_reference = search rules;
      made = search rules;
      fails = λ clean.
          let clean-1 : HasCleanDisk (state g.S.Store c.execute.new.self.conn.now) =
          omega (arith, clean, c.execute-2.ensures.survives.clean) in
          passed_on c.from_residual-in_err-execute-2.result c.in_err-execute-2.field-0.0 _
          c.from_residual-in_err-execute-2.ensures.1 (λ is first was.
          let one = table_made makes_about (none_made was) c.in_ok-execute.field-0
          c.execute.ensures.survives (c.in_ok-execute.ensures.runs clean-1) in
          table_fails makes_mirrors one (c.in_err-execute-2.ensures.runs clean) is);
      survives = search rules;
    }

pub returns-in_err-execute-3 : goal.returns-in_err-execute-3
returns-in_err-execute-3 g c =
    record {
      same_reference = search rules;
      made = search rules;
      fails = λ clean.
          let clean-2 : HasCleanDisk (state g.S.Store c.execute-2.new.self.conn.now) =
          omega (arith, clean, c.execute-3.ensures.survives.clean) in
          let clean-1 : HasCleanDisk (state g.S.Store c.execute.new.self.conn.now) =
          omega (arith, clean-2, c.execute-2.ensures.survives.clean) in
          passed_on c.from_residual-in_err-execute-3.result c.in_err-execute-3.field-0.0 _
          c.from_residual-in_err-execute-3.ensures.1 (λ is first was.
          let one = table_made makes_about (none_made was) c.in_ok-execute.field-0
          c.execute.ensures.survives (c.in_ok-execute.ensures.runs clean-1) in
          let two = table_made makes_mirrors one c.in_ok-execute-2.field-0
          c.execute-2.ensures.survives (c.in_ok-execute-2.ensures.runs clean-2) in
          table_fails makes_components two (c.in_err-execute-3.ensures.runs clean) is);
      survives = search rules;
    }

pub returns-in_err-execute-4 : goal.returns-in_err-execute-4
returns-in_err-execute-4 g c =
    record {
      same_reference = search rules;
      made = search rules;
      fails = λ clean.
          let clean-3 : HasCleanDisk (state g.S.Store c.execute-3.new.self.conn.now) =
          omega (arith, clean, c.execute-4.ensures.survives.clean) in
          let clean-2 : HasCleanDisk (state g.S.Store c.execute-2.new.self.conn.now) =
          omega (arith, clean-3, c.execute-3.ensures.survives.clean) in
          let clean-1 : HasCleanDisk (state g.S.Store c.execute.new.self.conn.now) =
          omega (arith, clean-2, c.execute-2.ensures.survives.clean) in
          passed_on c.from_residual-in_err-execute-4.result c.in_err-execute-4.field-0.0 _
          c.from_residual-in_err-execute-4.ensures.1 (λ is first was.
          let one = table_made makes_about (none_made was) c.in_ok-execute.field-0
          c.execute.ensures.survives (c.in_ok-execute.ensures.runs clean-1) in
          let two = table_made makes_mirrors one c.in_ok-execute-2.field-0
          c.execute-2.ensures.survives (c.in_ok-execute-2.ensures.runs clean-2) in
          let three = table_made makes_components two c.in_ok-execute-3.field-0
          c.execute-3.ensures.survives (c.in_ok-execute-3.ensures.runs clean-3) in
          table_fails makes_intents three (c.in_err-execute-4.ensures.runs clean) is);
      survives = search rules;
    }

pub returns-in_err-execute-5 : goal.returns-in_err-execute-5
returns-in_err-execute-5 g c =
    record {
      same_reference = search rules;
      made = search rules;
      fails = λ clean.
          let clean-4 : HasCleanDisk (state g.S.Store c.execute-4.new.self.conn.now) =
          omega (arith, clean, c.execute-5.ensures.survives.clean) in
          let clean-3 : HasCleanDisk (state g.S.Store c.execute-3.new.self.conn.now) =
          omega (arith, clean-4, c.execute-4.ensures.survives.clean) in
          let clean-2 : HasCleanDisk (state g.S.Store c.execute-2.new.self.conn.now) =
          omega (arith, clean-3, c.execute-3.ensures.survives.clean) in
          let clean-1 : HasCleanDisk (state g.S.Store c.execute.new.self.conn.now) =
          omega (arith, clean-2, c.execute-2.ensures.survives.clean) in
          passed_on c.from_residual-in_err-execute-5.result c.in_err-execute-5.field-0.0 _
          c.from_residual-in_err-execute-5.ensures.1 (λ is first was.
          let one = table_made makes_about (none_made was) c.in_ok-execute.field-0
          c.execute.ensures.survives (c.in_ok-execute.ensures.runs clean-1) in
          let two = table_made makes_mirrors one c.in_ok-execute-2.field-0
          c.execute-2.ensures.survives (c.in_ok-execute-2.ensures.runs clean-2) in
          let three = table_made makes_components two c.in_ok-execute-3.field-0
          c.execute-3.ensures.survives (c.in_ok-execute-3.ensures.runs clean-3) in
          let four = table_made makes_intents three c.in_ok-execute-4.field-0
          c.execute-4.ensures.survives (c.in_ok-execute-4.ensures.runs clean-4) in
          table_fails makes_commands four (c.in_err-execute-5.ensures.runs clean) is);
      survives = search rules;
    }

pub returns-in_err-execute-6 : goal.returns-in_err-execute-6
returns-in_err-execute-6 g c =
    record {
      same_reference = search rules;
      made = search rules;
      fails = λ clean.
          let clean-5 : HasCleanDisk (state g.S.Store c.execute-5.new.self.conn.now) =
          omega (arith, clean, c.execute-6.ensures.survives.clean) in
          let clean-4 : HasCleanDisk (state g.S.Store c.execute-4.new.self.conn.now) =
          omega (arith, clean-5, c.execute-5.ensures.survives.clean) in
          let clean-3 : HasCleanDisk (state g.S.Store c.execute-3.new.self.conn.now) =
          omega (arith, clean-4, c.execute-4.ensures.survives.clean) in
          let clean-2 : HasCleanDisk (state g.S.Store c.execute-2.new.self.conn.now) =
          omega (arith, clean-3, c.execute-3.ensures.survives.clean) in
          let clean-1 : HasCleanDisk (state g.S.Store c.execute.new.self.conn.now) =
          omega (arith, clean-2, c.execute-2.ensures.survives.clean) in
          passed_on c.from_residual-in_err-execute-6.result c.in_err-execute-6.field-0.0 _
          c.from_residual-in_err-execute-6.ensures.1 (λ is first was.
          let one = table_made makes_about (none_made was) c.in_ok-execute.field-0
          c.execute.ensures.survives (c.in_ok-execute.ensures.runs clean-1) in
          let two = table_made makes_mirrors one c.in_ok-execute-2.field-0
          c.execute-2.ensures.survives (c.in_ok-execute-2.ensures.runs clean-2) in
          let three = table_made makes_components two c.in_ok-execute-3.field-0
          c.execute-3.ensures.survives (c.in_ok-execute-3.ensures.runs clean-3) in
          let four = table_made makes_intents three c.in_ok-execute-4.field-0
          c.execute-4.ensures.survives (c.in_ok-execute-4.ensures.runs clean-4) in
          let five = table_made makes_commands four c.in_ok-execute-5.field-0
          c.execute-5.ensures.survives (c.in_ok-execute-5.ensures.runs clean-5) in
          table_fails makes_patches five (c.in_err-execute-6.ensures.runs clean) is);
      survives = search rules;
    }
