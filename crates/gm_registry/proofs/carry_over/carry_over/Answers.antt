use Rattle.gm_registry.proofs.Common.{◌≡◌, OnOk, OnErr, IsTrue, sym, subst, arith, rules, HasCleanDisk, Survives, Held, state, if_err, map_ok, on_err, SeesRegistry, IsAsBefore, IsCarriedOver, IsFirstInside, SeesFirstRegistry, StoreFailed}
use Rattle.gm_registry.proofs.CarriedOver.{carried_inside, committed_over, first_begun, not_committed_first, undone_first}
use Rattle.gm_registry.proofs.InTransaction.{commit_fails, commit_leaves, commit_survives, undone_fails}
use Rattle.gm_registry.proofs.InsideFails.{passed_on}
use Rattle.gm_registry.proofs.carry_over.carry_over.Goals as goal

pub returns-in_err-carry_tables-clause-carries : goal.returns-in_err-carry_tables-clause-carries
returns-in_err-carry_tables-clause-carries g c =
    record {
      carried = search rules;
      stays = λ clean.
          let old = state g.S.Store c.args.conn.now in
          let begun = state g.S.Store c.transaction-tx.result.conn.now in
          let mid = state g.S.Store c.carry_tables.new.tx.conn.now in
          let end : Held _ = c.drop-tx.new.self.0 in
          let same : end ≡ c.conn-1.given.0 = search rules in
          let late : HasCleanDisk (state g.S.Store end) = rw (sym same) at clean in
          let early : HasCleanDisk mid = omega (arith, c.drop-tx.ensures.survives.clean) in
          on_err c.from_residual.result _ (λ was is_open.
          rw same at (undone_first old begun mid (state g.S.Store end)
          (rw c.transaction-tx.ensures.begun) (c.carry_tables.ensures.kept early)
          (c.drop-tx.ensures.undone late) (rw (sym same) at is_open)));
      left = search rules;
    }

pub returns-clause-carries : goal.returns-clause-carries
returns-clause-carries g c =
    let old = c.args.conn.now in
    let first = (state g.S.Store old).committed in
    let mid = state g.S.Store c.carry_tables.new.tx.conn.now in
    let end : Held _ = c.commit.new.self.0 in
    let same : end ≡ c.conn-2-1.given.0 = search rules in
    record {
      carried = λ clean.
          let late : HasCleanDisk (state g.S.Store end) = rw (sym same) at clean in
          let early : HasCleanDisk mid = omega (arith, c.commit.ensures.survives.clean) in
          subst (λ h. OnOk c.commit.result (SeesFirstRegistry (state g.S.Store old)
          → SeesRegistry (state g.S.Store h)
          × IsCarriedOver first.trees (state g.S.Store h).committed.trees)) same
          (map_ok c.commit.result _ _ (λ done was.
          committed_over (state g.S.Store old) mid (state g.S.Store end)
          (c.in_ok-carry_tables.ensures.leads.made early first
          (subst (λ h. IsFirstInside first (state g.S.Store h)) (sym c.transaction-tx.ensures.begun)
          (first_begun g.S.Store old was))) done) (c.commit.ensures.ok late));
      stays = λ clean.
          let begun = state g.S.Store c.transaction-tx.result.conn.now in
          let late : HasCleanDisk (state g.S.Store end) = rw (sym same) at clean in
          let early : HasCleanDisk mid = omega (arith, c.commit.ensures.survives.clean) in
          subst (λ h. OnErr c.commit.result (SeesFirstRegistry (state g.S.Store old)
          → IsTrue (state g.S.Store h).is_open
          → IsAsBefore (state g.S.Store old) (state g.S.Store h))) same
          (if_err c.commit.result _ _ (λ e fails was is_open.
          let made = c.in_ok-carry_tables.ensures.leads.made early first
          (subst (λ h. IsFirstInside first (state g.S.Store h)) (sym c.transaction-tx.ensures.begun)
          (first_begun g.S.Store old was)) in
          not_committed_first (state g.S.Store old) begun mid (state g.S.Store end) e
          (rw c.transaction-tx.ensures.begun) (c.in_ok-carry_tables.ensures.kept early) made.inside
          fails
          is_open) (c.commit.ensures.err late));
      left = λ was.
          let mid = c.carry_tables.new.tx.conn.now in
          subst (λ h. Survives (state g.S.Store old) (state g.S.Store h) (IsCarriedOver
          first.trees)) same
          (commit_leaves g.S.Store old c.transaction-tx.result.conn.now mid end
          c.transaction-tx.ensures.begun c.carry_tables.ensures.leads.survives
          c.commit.ensures.survives
          (IsCarriedOver first.trees) (λ early.
          carried_inside first (state g.S.Store mid) (c.in_ok-carry_tables.ensures.leads.made early
          first
          (subst (λ h. IsFirstInside first (state g.S.Store h)) (sym c.transaction-tx.ensures.begun)
          (first_begun g.S.Store old was)))));
    }

pub returns-clause-survives : goal.returns-clause-survives
returns-clause-survives g c =
    let end : Held _ = c.commit.new.self.0 in
    let same : end ≡ c.conn-2-1.given.0 = search rules in
    subst (λ h. Survives (state g.S.Store c.args.conn.now) (state g.S.Store h) (λ _. Unit {0})) same
    (commit_survives g.S.Store c.args.conn.now c.transaction-tx.result.conn.now
    c.carry_tables.new.tx.conn.now end c.transaction-tx.ensures.begun
    c.carry_tables.ensures.leads.survives c.commit.ensures.survives)

pub returns-in_err-carry_tables-clause-store : goal.returns-in_err-carry_tables-clause-store
returns-in_err-carry_tables-clause-store g c clean =
    let old = c.args.conn.now in
    let begun = c.transaction-tx.result.conn.now in
    let first = (state g.S.Store old).committed in
    let mid = c.carry_tables.new.tx.conn.now in
    let begin = c.transaction-tx.ensures.begun in
    let end : Held _ = c.drop-tx.new.self.0 in
    let same : end ≡ c.conn-1.given.0 = search rules in
    let late : HasCleanDisk (state g.S.Store end) = rw (sym same) at clean in
    let early : HasCleanDisk (state g.S.Store mid) =
    omega (arith, c.drop-tx.ensures.survives.clean) in
    passed_on c.from_residual.result c.in_err-carry_tables.field-0.0 _ c.from_residual.ensures.1
    (λ is was. subst (λ h. StoreFailed g.S.Store old h) same
    (undone_fails g.S.Store old begun mid end begin c.carry_tables.ensures.leads.survives
    c.drop-tx.ensures.survives (c.in_err-carry_tables.ensures.leads.fails early is first
    (subst (λ h. IsFirstInside first (state g.S.Store h)) (sym begin)
    (first_begun g.S.Store old was)))))

pub returns-clause-store : goal.returns-clause-store
returns-clause-store g c clean =
    let old = c.args.conn.now in
    let first = (state g.S.Store old).committed in
    let mid = c.carry_tables.new.tx.conn.now in
    let begin = c.transaction-tx.ensures.begun in
    let end : Held _ = c.commit.new.self.0 in
    let same : end ≡ c.conn-2-1.given.0 = search rules in
    let late : HasCleanDisk (state g.S.Store end) = rw (sym same) at clean in
    let early : HasCleanDisk (state g.S.Store mid) =
    omega (arith, c.commit.ensures.survives.clean) in
    if_err c.commit.result _ _ (λ e fails is was.
    let made = c.in_ok-carry_tables.ensures.leads.made early first
    (subst (λ h. IsFirstInside first (state g.S.Store h)) (sym begin)
    (first_begun g.S.Store old was)) in
    subst (λ h. StoreFailed g.S.Store old h) same
    (commit_fails g.S.Store old c.transaction-tx.result.conn.now mid end begin
    c.carry_tables.ensures.leads.survives c.commit.ensures.survives e made.inside made.is_open
    fails is))
    (c.commit.ensures.err late)
