use Rattle.gm_registry.proofs.InsideCalls.{committed_change, undone_change}
use Rattle.gm_registry.proofs.Common.{settled, WritesGiven, Held, ◌≡◌, rules, subst, ⊤}
use Rattle.gm_registry.proofs.intents.write_settled.Goals as goal

pub returns-in_err-drop_all : goal.returns-in_err-drop_all
returns-in_err-drop_all g c =
    let old = c.args.conn.now in
    let end : Held _ = c.drop-tx.new.self.0 in
    let same : end ≡ c.conn-1.given.0 = search rules in
    let x = c.from_residual.result in
    subst (λ h. WritesGiven g.S.Store old h x (λ _. ⊤) settled (λ _ _. ⊤)) same
    (undone_change g.S.Store old end c.transaction-tx.result c.drop_all.new.tx
    c.transaction-tx.ensures.begun (λ _. ⊤) settled (λ _ _. ⊤) x c.in_err-drop_all.ensures
    (λ t was given fits. tt) c.drop-tx.ensures.survives c.drop-tx.ensures.undone
    c.from_residual.ensures.1)

pub returns : goal.returns
returns g c =
    let old = c.args.conn.now in
    let end : Held _ = c.commit.new.self.0 in
    let same : end ≡ c.conn-2-1.given.0 = search rules in
    let x = c.commit.result in
    subst (λ h. WritesGiven g.S.Store old h x (λ _. ⊤) settled (λ _ _. ⊤)) same
    (committed_change g.S.Store old end c.transaction-tx.result c.drop_all.new.tx
    c.transaction-tx.ensures.begun (λ _. ⊤) settled (λ _ _. ⊤) x c.in_ok-drop_all.ensures
    (λ t given numbered. numbered) c.commit.ensures.survives c.commit.ensures.ok
    c.commit.ensures.err)
