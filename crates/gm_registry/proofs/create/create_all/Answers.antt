use Rattle.gm_registry.proofs.Common.{◌≡◌, OnOk, sym, subst, arith, rules, HasCleanDisk, Survives, Held, state, Trees, survives_then, committed, if_err, under_ok, registry_schema, HasCounted, SeesTables, Holds, no_tables, no_rows, IsBlank, IsBlankInside, StoreFailed}
use Rattle.gm_registry.proofs.CountedThrough.{counted_inside}
use Rattle.gm_registry.proofs.Failures.{failed_since}
use Rattle.gm_registry.proofs.InTransaction.{commit_fails, commit_leaves, undone_fails}
use Rattle.gm_registry.proofs.InsideFails.{passed_on}
use Rattle.gm_registry.proofs.MadeTables.{blank_begun, none_made, none_numbered}
use Rattle.gm_registry.proofs.create.create_all.Goals as goal

pub returns-clause-made : goal.returns-clause-made
returns-clause-made g c clean =
    let old = c.args.conn.now in
    let mid = c.put_about.new.tx.conn.now in
    let first = (state g.S.Store old).committed in
    let end : Held _ = c.commit.new.self.0 in
    let same : end ≡ c.conn-2-1.given.0 = search rules in
    let late : HasCleanDisk (state g.S.Store end) = rw (sym same) at clean in
    let early : HasCleanDisk (state g.S.Store mid) =
    omega (arith, c.commit.ensures.survives.clean) in
    let earlier : HasCleanDisk (state g.S.Store c.create_tables.new.tx.conn.now) =
    omega (arith, early, c.put_about.ensures.leads.survives.clean) in
    under_ok c.commit.result (IsBlank (state g.S.Store old)) _ (λ was.
    let bare = c.in_ok-create_tables.ensures.made earlier first
    (subst (λ h. IsBlankInside first (state g.S.Store h)) (sym c.transaction-tx.ensures.begun)
    (blank_begun g.S.Store old was)) in
    subst (λ h. OnOk c.commit.result (SeesTables (state g.S.Store h) no_tables)) same
    (committed registry_schema HasCounted first (state g.S.Store mid)
    (state g.S.Store end) no_tables c.commit.result
    (counted_inside first (state g.S.Store mid) no_tables none_numbered
    (none_made first (state g.S.Store mid) (c.in_ok-put_about.ensures.leads.made early (
      no_rows,
      first,
    )
    bare))) (c.commit.ensures.ok late)))

pub returns-clause-left : goal.returns-clause-left
returns-clause-left g c was =
    let old = c.args.conn.now in
    let first = (state g.S.Store old).committed in
    let begun = c.transaction-tx.result.conn.now in
    let one = c.create_tables.new.tx.conn.now in
    let mid = c.put_about.new.tx.conn.now in
    let end : Held _ = c.commit.new.self.0 in
    let same : end ≡ c.conn-2-1.given.0 = search rules in
    let begin = c.transaction-tx.ensures.begun in
    let P = λ (trees : Trees). Holds trees no_tables in
    let within : Survives (state g.S.Store begun) (state g.S.Store mid) (λ _. ⊥) =
    survives_then (state g.S.Store begun) (state g.S.Store one) (state g.S.Store mid) (λ _. ⊥)
    (λ _. ⊥) (λ _. ⊥) (λ _ db none. none) (λ _ db none. none) c.create_tables.ensures.survives
    c.put_about.ensures.leads.survives in
    subst (λ h. Survives (state g.S.Store old) (state g.S.Store h) P) same
    (commit_leaves g.S.Store old begun mid end begin within c.commit.ensures.survives P
    (λ early.
    let earlier : HasCleanDisk (state g.S.Store one) =
    omega (arith, early, c.put_about.ensures.leads.survives.clean) in
    (counted_inside first (state g.S.Store mid) no_tables none_numbered
    (none_made first (state g.S.Store mid) (c.in_ok-put_about.ensures.leads.made early (
      no_rows,
      first,
    )
    (c.in_ok-create_tables.ensures.made earlier first
    (subst (λ h. IsBlankInside first (state g.S.Store h)) (sym begin)
    (blank_begun g.S.Store old was)))))).tables))

pub returns-in_err-create_tables-clause-store : goal.returns-in_err-create_tables-clause-store
returns-in_err-create_tables-clause-store g c clean =
    let old = c.args.conn.now in
    let begun = c.transaction-tx.result.conn.now in
    let mid = c.create_tables.new.tx.conn.now in
    let begin = c.transaction-tx.ensures.begun in
    let end : Held _ = c.drop-tx.new.self.0 in
    let same : end ≡ c.conn-1.given.0 = search rules in
    let late : HasCleanDisk (state g.S.Store end) = rw (sym same) at clean in
    let early : HasCleanDisk (state g.S.Store mid) =
    omega (arith, c.drop-tx.ensures.survives.clean) in
    passed_on c.from_residual.result c.in_err-create_tables.field-0.0 _ c.from_residual.ensures.1
    (λ is was. subst (λ h. StoreFailed g.S.Store old h) same
    (undone_fails g.S.Store old begun mid end begin c.create_tables.ensures.survives
    c.drop-tx.ensures.survives
    (c.in_err-create_tables.ensures.fails early is (state g.S.Store old).committed
    (subst (λ h. IsBlankInside (state g.S.Store old).committed (state g.S.Store h)) (sym begin)
    (blank_begun g.S.Store old was)))))

pub returns-in_err-put_about-clause-store : goal.returns-in_err-put_about-clause-store
returns-in_err-put_about-clause-store g c clean =
    let old = c.args.conn.now in
    let begun = c.transaction-tx.result.conn.now in
    let first = (state g.S.Store old).committed in
    let one = c.create_tables.new.tx.conn.now in
    let mid = c.put_about.new.tx.conn.now in
    let begin = c.transaction-tx.ensures.begun in
    let end : Held _ = c.drop-tx-in_err-put_about.new.self.0 in
    let same : end ≡ c.conn-in_err-put_about-1.given.0 = search rules in
    let late : HasCleanDisk (state g.S.Store end) = rw (sym same) at clean in
    let early : HasCleanDisk (state g.S.Store mid) =
    omega (arith, c.drop-tx-in_err-put_about.ensures.survives.clean) in
    let earlier : HasCleanDisk (state g.S.Store one) =
    omega (arith, early, c.put_about.ensures.leads.survives.clean) in
    let within : Survives (state g.S.Store begun) (state g.S.Store mid) (λ _. ⊥) =
    survives_then (state g.S.Store begun) (state g.S.Store one) (state g.S.Store mid) (λ _. ⊥)
    (λ _. ⊥) (λ _. ⊥) (λ _ db none. none) (λ _ db none. none) c.create_tables.ensures.survives
    c.put_about.ensures.leads.survives in
    passed_on c.from_residual-in_err-put_about.result c.in_err-put_about.field-0.0 _
    c.from_residual-in_err-put_about.ensures.1 (λ is was.
    let bare = c.in_ok-create_tables.ensures.made earlier first
    (subst (λ h. IsBlankInside first (state g.S.Store h)) (sym begin)
    (blank_begun g.S.Store old was)) in
    subst (λ h. StoreFailed g.S.Store old h) same
    (undone_fails g.S.Store old begun mid end begin within
    c.drop-tx-in_err-put_about.ensures.survives
    (failed_since (state g.S.Store begun) (state g.S.Store one) (state g.S.Store mid) _
    c.create_tables.ensures.survives
    (c.in_err-put_about.ensures.leads.fails early is (no_rows, first) bare))))

pub returns-clause-store : goal.returns-clause-store
returns-clause-store g c clean =
    let old = c.args.conn.now in
    let begun = c.transaction-tx.result.conn.now in
    let one = c.create_tables.new.tx.conn.now in
    let mid = c.put_about.new.tx.conn.now in
    let first = (state g.S.Store old).committed in
    let begin = c.transaction-tx.ensures.begun in
    let end : Held _ = c.commit.new.self.0 in
    let same : end ≡ c.conn-2-1.given.0 = search rules in
    let late : HasCleanDisk (state g.S.Store end) = rw (sym same) at clean in
    let early : HasCleanDisk (state g.S.Store mid) =
    omega (arith, c.commit.ensures.survives.clean) in
    let earlier : HasCleanDisk (state g.S.Store one) =
    omega (arith, early, c.put_about.ensures.leads.survives.clean) in
    let within : Survives (state g.S.Store begun) (state g.S.Store mid) (λ _. ⊥) =
    survives_then (state g.S.Store begun) (state g.S.Store one) (state g.S.Store mid) (λ _. ⊥)
    (λ _. ⊥) (λ _. ⊥) (λ _ db none. none) (λ _ db none. none) c.create_tables.ensures.survives
    c.put_about.ensures.leads.survives in
    if_err c.commit.result _ _ (λ e fails is was.
    let made = c.in_ok-put_about.ensures.leads.made early (no_rows, first)
    (c.in_ok-create_tables.ensures.made earlier first
    (subst (λ h. IsBlankInside first (state g.S.Store h)) (sym begin)
    (blank_begun g.S.Store old was))) in
    subst (λ h. StoreFailed g.S.Store old h) same
    (commit_fails g.S.Store old begun mid end begin within c.commit.ensures.survives e
    made.inside made.is_open fails is))
    (c.commit.ensures.err late)
