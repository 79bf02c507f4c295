use Rattle.gm_registry.proofs.CountedThrough.{left_numbered}
use Rattle.gm_registry.proofs.FittingInTurn.{left_numbers, next_numbers}
use Rattle.gm_registry.proofs.InsideCalls.{committed_change, undone_change}
use Rattle.gm_registry.proofs.Common.{changed_in, left_of, with_entry, HasRoom, FitsTables, rows_in, WritesGiven, count_of, Tables, Held, Trees, ◌≡◌, ◌≤◌, ◌^◌, ◌+◌, length, arith, rules, subst}
use Rattle.gm_registry.proofs.accept.write_entry.Goals as goal

pub returns-in_err-put_over : goal.returns-in_err-put_over
returns-in_err-put_over g c =
    let old = c.args.conn.now in
    let e = c.args.entry.now in
    let n = c.args.number in
    let p = c.args.pending in
    let given : Tables → Type 0 = λ t. n ≡ count_of t + 1 in
    let change : Tables → Tables = λ t. with_entry e n (left_of p t) in
    let fits : Trees → Tables → Type 0 = λ db t. FitsTables (changed_in e) e.key.now e.words.now
    (left_of p t) × (n + length e.change.now.further + 1 ≤ 2 ^ 32) × HasRoom (rows_in e) db in
    let end : Held _ = c.drop-tx.new.self.0 in
    let same : end ≡ c.conn-1.given.0 = search rules in
    let x = c.from_residual.result in
    subst (λ h. WritesGiven g.S.Store old h x given change fits) same
    (undone_change g.S.Store old end c.transaction-tx.result c.put_over.new.tx
    c.transaction-tx.ensures.begun given change fits x c.in_err-put_over.ensures
    (λ t was next fit. (
      fit.0,
      left_numbers n (length e.change.now.further + 1) p t (next_numbers n
          (length e.change.now.further + 1) t was.tables.rows.numbered next (omega (arith, fit.1))),
      fit.2,
    )) c.drop-tx.ensures.survives c.drop-tx.ensures.undone c.from_residual.ensures.1)

pub returns : goal.returns
returns g c =
    let old = c.args.conn.now in
    let e = c.args.entry.now in
    let n = c.args.number in
    let p = c.args.pending in
    let given : Tables → Type 0 = λ t. n ≡ count_of t + 1 in
    let change : Tables → Tables = λ t. with_entry e n (left_of p t) in
    let fits : Trees → Tables → Type 0 = λ db t. FitsTables (changed_in e) e.key.now e.words.now
    (left_of p t) × (n + length e.change.now.further + 1 ≤ 2 ^ 32) × HasRoom (rows_in e) db in
    let end : Held _ = c.commit.new.self.0 in
    let same : end ≡ c.conn-2-1.given.0 = search rules in
    let x = c.commit.result in
    subst (λ h. WritesGiven g.S.Store old h x given change fits) same
    (committed_change g.S.Store old end c.transaction-tx.result c.put_over.new.tx
    c.transaction-tx.ensures.begun given change fits x c.in_ok-put_over.ensures
    (λ t. left_numbered (changed_in e) e.key.now n e.words.now p t)
    c.commit.ensures.survives c.commit.ensures.ok c.commit.ensures.err)
