use Rattle.gm_registry.proofs.Common.{◌∙◌, rules, sym, subst, arith, Database, state, HasCleanDisk, on_err, passed_on, IsCarriedOver, First}
use Rattle.gm_registry.proofs.CarriedOver.{as_before, carrying_left, first_found, known_first, same_stored}
use Rattle.gm_registry.proofs.Failures.{failed_since}
use Rattle.gm_registry.proofs.Texts.{still_foreign}
use Rattle.gm_registry.proofs.open_store.take_first.Goals as goal

pub returns-in_err-check_registry-clause-carries : goal.returns-in_err-check_registry-clause-carries
returns-in_err-check_registry-clause-carries g c =
    record {
      carried = search rules;
      stays = λ clean.
          let old = state g.S.Store c.args.conn.now in
          let new = state g.S.Store c.check_registry.new.conn in
          on_err c.from_residual.result _ (λ was still.
          as_before old new was still (c.check_registry.ensures.failed.refused clean (known_first
          old was)
          still));
      left = search rules;
    }

pub returns-in_err-check_registry-clause-fails : goal.returns-in_err-check_registry-clause-fails
returns-in_err-check_registry-clause-fails g c =
    record {
      unreadable = search rules;
      store = λ clean. passed_on c.from_residual.result _ _ (λ e same is shows only is_open.
          c.in_err-check_registry.ensures.fails.store clean (sym same ∙ is) shows
          (λ lists. known_first (state g.S.Store c.args.conn.now) (only lists)) is_open)
          c.from_residual.ensures.1;
    }

pub returns-clause-carries : goal.returns-clause-carries
returns-clause-carries g c =
    record {
      carried = λ clean was.
          let s0 = state g.S.Store c.args.conn.now in
          let s1 = state g.S.Store c.check_registry.new.conn in
          let s2 = state g.S.Store c.carry_over.new.conn in
          let early : HasCleanDisk s1 = omega (arith, c.carry_over.ensures.survives.clean, clean) in
          let checked = c.in_ok-check_registry.ensures in
          let it = c.in_ok-carry_over.ensures.carries.carried clean
          (first_found s0 s1 s2 checked.read checked.about early was) in (
            it.0,
            subst (λ (d : Database). IsCarriedOver d.trees s2.committed.trees)
                (same_stored s0 s1 s2 checked.read checked.about early was) it.1,
          );
      stays = search rules;
      left =
          carrying_left (state g.S.Store c.args.conn.now) (state g.S.Store
          c.check_registry.new.conn)
          (state g.S.Store c.carry_over.new.conn) c.in_ok-check_registry.ensures.read
          c.in_ok-check_registry.ensures.about c.carry_over.ensures.survives
          c.carry_over.ensures.carries.left;
    }

pub returns-in_err-carry_over-clause-carries : goal.returns-in_err-carry_over-clause-carries
returns-in_err-carry_over-clause-carries g c =
    record {
      carried = search rules;
      stays = λ clean.
          let s0 = state g.S.Store c.args.conn.now in
          let s1 = state g.S.Store c.check_registry.new.conn in
          let s2 = state g.S.Store c.carry_over.new.conn in
          let early : HasCleanDisk s1 = omega (arith, c.carry_over.ensures.survives.clean, clean) in
          let checked = c.in_ok-check_registry.ensures in
          on_err c.from_residual-in_err-carry_over.result _ (λ was still.
          let it = c.in_err-carry_over.ensures.carries.stays clean
          (first_found s0 s1 s2 checked.read checked.about early was) still in
          record {
            is_open = it.is_open;
            autocommit = it.autocommit;
            settled = it.settled;
            committed_is = it.committed_is
                ∙ same_stored s0 s1 s2 checked.read checked.about early was;
          });
      left =
          carrying_left (state g.S.Store c.args.conn.now) (state g.S.Store
          c.check_registry.new.conn)
          (state g.S.Store c.carry_over.new.conn) c.in_ok-check_registry.ensures.read
          c.in_ok-check_registry.ensures.about c.carry_over.ensures.survives
          c.carry_over.ensures.carries.left;
    }

pub returns-in_err-carry_over-clause-fails : goal.returns-in_err-carry_over-clause-fails
returns-in_err-carry_over-clause-fails g c =
    record {
      unreadable = search rules;
      store = λ clean.
          let s0 = state g.S.Store c.args.conn.now in
          let s1 = state g.S.Store c.check_registry.new.conn in
          let s2 = state g.S.Store c.carry_over.new.conn in
          let early : HasCleanDisk s1 = omega (arith, c.carry_over.ensures.survives.clean, clean) in
          let checked = c.in_ok-check_registry.ensures in
          passed_on c.from_residual-in_err-carry_over.result _ _ (λ e same is shows only is_open.
          failed_since s0 s1 s2 _ checked.read.left
          (c.in_err-carry_over.ensures.store clean (sym same ∙ is)
          (first_found s0 s1 s2 checked.read checked.about early
          (only (checked.knows.texts early shows))))) c.from_residual-in_err-carry_over.ensures.1;
    }

pub returns-in_err-check_registry-clause-knows : goal.returns-in_err-check_registry-clause-knows
returns-in_err-check_registry-clause-knows g c =
    record { texts = search rules; foreign = search rules }

pub returns-clause-knows : goal.returns-clause-knows
returns-clause-knows g c = record {
  texts = search rules;
  foreign = still_foreign First (state g.S.Store c.args.conn.now)
      (state g.S.Store c.check_registry.new.conn) (state g.S.Store c.carry_over.new.conn)
      c.in_ok-check_registry.ensures.knows.texts c.in_ok-check_registry.ensures.read
      c.carry_over.ensures.survives;
}

pub returns-in_err-carry_over-clause-knows : goal.returns-in_err-carry_over-clause-knows
returns-in_err-carry_over-clause-knows g c = record {
  texts = search rules;
  foreign = still_foreign First (state g.S.Store c.args.conn.now)
      (state g.S.Store c.check_registry.new.conn) (state g.S.Store c.carry_over.new.conn)
      c.in_ok-check_registry.ensures.knows.texts c.in_ok-check_registry.ensures.read
      c.carry_over.ensures.survives;
}
