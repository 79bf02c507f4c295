use Rattle.gm_bench.proofs.Common.{◌≡◌, ◌≢◌, ◌++◌, List, ℕ, subst, AreOfLoss}
use Rattle.gm_bench.proofs.LossIntents.{no_provider, no_space, no_label, unless_label}
use Rattle.gm_bench.proofs.loss.mirror_in.Goals as goal

pub returns-in_err-before-clause-none : goal.returns-in_err-before-clause-none
returns-in_err-before-clause-none c =
    rw c.from_residual-in_err-before.ensures
    (no_provider c.args.words.now c.in_ok-names.names.now c.args.provider c.in_ok-names.ensures
    (subst (λ (p : List ℕ). (rest : List ℕ) → c.in_ok-names.names.now ≢ rest ++ p)
    c.as_str.ensures.text c.in_err-before.ensures))

pub returns-in_err-name-clause-none : goal.returns-in_err-name-clause-none
returns-in_err-name-clause-none c =
    rw c.from_residual-in_err-name.ensures
    (no_space c.args.words.now c.in_ok-names.names.now c.args.provider c.in_ok-names.ensures
    c.in_ok-before.field-0.now
    (subst (λ (p : List ℕ). c.in_ok-names.names.now ≡ c.in_ok-before.field-0.now ++ p)
    c.as_str.ensures.text c.in_ok-before.ensures) c.in_err-name.ensures)

pub returns-clause-none : goal.returns-clause-none
returns-clause-none c =
    unless_label c.in_ok-name.name.now c.new.result (AreOfLoss c.args.provider c.args.words.now → ⊥)
    c.new.ensures
    (no_label c.args.words.now c.in_ok-names.names.now c.args.provider c.in_ok-names.ensures
    c.in_ok-before.field-0.now
    (subst (λ (p : List ℕ). c.in_ok-names.names.now ≡ c.in_ok-before.field-0.now ++ p)
    c.as_str.ensures.text c.in_ok-before.ensures) c.in_ok-name.name.now
    c.in_ok-name.ensures)
