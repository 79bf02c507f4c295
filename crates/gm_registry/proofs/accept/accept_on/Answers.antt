use Rattle.gm_registry.proofs.Common.{Err, Error, IsErrAnd, Result, Store, fault_of, DiskKept, HasRoom, rows_in, ◌≡◌, ◌+◌, ◌∙◌, ℕ, Ok, List, length, ap, sym, rules, arith, subst, state, Tables, CommandRow, changed_in, left_of, with_accepted, with_entry, HasTables, MayLeave, count_of, Entry, Pending, on_err}
use Rattle.gm_rows.specs.Faults.{OnStore}
use Rattle.gm_rows.specs.declared.fault.StoreFault.{StoreFault}
use Rattle.gm_registry.proofs.CallsLeave.{then_writes, never_ok}
use Rattle.gm_registry.proofs.CountedThrough.{left_commands}
use Rattle.gm_registry.proofs.Failures.{failed_since}
use Rattle.gm_registry.proofs.Keys.{keys_apart}
use Rattle.gm_registry.proofs.Written.{command_rows, commands_with}
use Rattle.gm_registry.proofs.accept.accept_on.Goals as goal

-- the store is said to have failed by an error that says so
stored : (x : Result ℕ StoreFault) (e : Error) (P : Type 0) → IsErrAnd x (λ f. f ≡ fault_of e)
    → (fault_of e ≡ Store → P) → OnStore x P
stored (Ok n) e P none h = absurd none
stored (Err f) e P same h = λ is. h (sym same ∙ is)

-- under the next number it is accepted
accepted_is : (e : Entry) (p : Pending) (n : ℕ) (t : Tables) → n ≡ count_of t + 1
    → with_entry e n (left_of p t)
    ≡ with_accepted (changed_in e) e.key.now e.words.now (left_of p t)
accepted_is e p n t is =
    ap (λ k. with_entry e k (left_of p t))
    (is ∙ ap (λ (l : List CommandRow). length l + 1) (sym (left_commands p t)))

pub returns-in_err-write_entry-clause-writes : goal.returns-in_err-write_entry-clause-writes
returns-in_err-write_entry-clause-writes g c =
    let e = c.args.entry.now in
    let p = c.args.pending in
    let mid = c.accepted_on.new.conn in
    let end = c.write_entry.new.conn in
    let result = c.from_residual-in_err-write_entry.result in
    let number = c.in_ok-count.count + 1 in
    then_writes g.S.Store g.met.S.Store.settled c.args.conn.now mid end
    (λ (t : Tables). number ≡ count_of t + 1)
    (λ t. with_accepted (changed_in e) e.key.now e.words.now (left_of p t))
    c.accepted_on.ensures.counts.reads
    (λ clean t was. let it = c.in_ok-count.ensures.counts.count clean t was in
    (omega (arith, it.0), it.1.tables))
    (λ t is n. subst (MayLeave g.S.Store mid end) (accepted_is e p number t n)
    (c.write_entry.ensures.left t is n)) c.write_entry.ensures.survives result
    (λ clean. never_ok result _ _ c.from_residual-in_err-write_entry.ensures.1)
    (λ clean. on_err result _ (c.in_err-write_entry.ensures.refused clean))

pub returns-clause-writes : goal.returns-clause-writes
returns-clause-writes g c =
    let e = c.args.entry.now in
    let p = c.args.pending in
    let mid = c.accepted_on.new.conn in
    let end = c.write_entry.new.conn in
    let number = c.in_ok-count.count + 1 in
    then_writes g.S.Store g.met.S.Store.settled c.args.conn.now mid end
    (λ (t : Tables). number ≡ count_of t + 1)
    (λ t. with_accepted (changed_in e) e.key.now e.words.now (left_of p t))
    c.accepted_on.ensures.counts.reads
    (λ clean t was. let it = c.in_ok-count.ensures.counts.count clean t was in
    (omega (arith, it.0), it.1.tables))
    (λ t is n. subst (MayLeave g.S.Store mid end) (accepted_is e p number t n)
    (c.write_entry.ensures.left t is n)) c.write_entry.ensures.survives (Ok c.from.result)
    (λ clean t is n. subst (HasTables g.S.Store end) (accepted_is e p number t n)
    (c.in_ok-write_entry.ensures.done clean t is n)) (λ clean. tt)

pub returns-clause-accepts : goal.returns-clause-accepts
returns-clause-accepts g c =
    let e = c.args.entry.now in
    let left = left_of c.args.pending in
    record {
      number = search rules;
      limits = search rules;
      free = λ clean t was.
          let it = c.in_ok-count.ensures.counts.count
          (omega (arith, c.write_entry.ensures.survives.clean)) t was in
          let number = c.in_ok-count.count + 1 in
          let next : number ≡ count_of t + 1 = omega (arith, it.0) in
          let after = c.in_ok-write_entry.ensures.done clean t it.1.tables next in
          let new = (state g.S.Store c.write_entry.new.conn).committed.trees in
          let rows = command_rows (changed_in e) e.key.now in
          let same = left_commands c.args.pending t in
          keys_apart new (changed_in e) e.key.now e.words.now (with_entry e number (left t)) t
          after.tables (commands_with (changed_in e) e.key.now number e.words.now (left t)
          ∙ (ap (λ (l : List CommandRow). rows number e.words.now l) same
          ∙ ap (λ k. rows k e.words.now t.commands) next));
      unreadable = search rules;
      untouched = search rules;
      store = search rules;
    }

pub returns-in_err-write_entry-clause-accepts : goal.returns-in_err-write_entry-clause-accepts
returns-in_err-write_entry-clause-accepts g c = record {
  number = search rules;
  limits = search rules;
  free = search rules;
  unreadable = search rules;
  untouched = search rules;
  store = λ clean.
      let e = c.args.entry.now in
      let a = state g.S.Store c.args.conn.now in
      let b = state g.S.Store c.accepted_on.new.conn in
      let early : DiskKept g.S.Store c.accepted_on.new.conn =
      omega (arith, c.write_entry.ensures.survives.clean, clean) in
      stored c.from_residual-in_err-write_entry.result c.in_err-write_entry.field-0.0 _
      c.from_residual-in_err-write_entry.ensures.1 (λ is t was few replies fits room.
      let it = c.in_ok-count.ensures.counts.count early t was in
      let still = sym (c.in_ok-count.ensures.same early t was) in
      failed_since a b (state g.S.Store c.write_entry.new.conn) _
      (c.accepted_on.ensures.counts.reads.left t was)
      (c.in_err-write_entry.ensures.store clean is t it.1.tables (omega (arith, it.0))
      (fits, omega (arith, it.0, few), subst (HasRoom (rows_in e)) still room)));
}
