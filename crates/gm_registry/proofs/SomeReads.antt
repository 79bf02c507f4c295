-- Reads one after another, or none.
use Rattle.gm_registry.proofs.Common.{◌≡◌, ◌∙◌, inl, inr, Result, Ok, Err, IsErrAnd, sym, subst, arith, Ghosts, Held, state, State, HasCleanDisk, Tables, DiskKept, IsOpen, HasTables, HaveRead, StoreFailed, IsOurSchema, Queries}
use Rattle.gm_rows.specs.declared.fault.StoreFault.{StoreFault}
use Rattle.gm_registry.specs.Reads as reads
use Rattle.gm_registry.specs.Registry.{IsOurs, HasRead, HasFailed}
use Rattle.gm_registry.proofs.Failures.{failed_later}
use Rattle.gm_registry.proofs.ReadsInTurn.{read_then, failed_then, clean_before, tables_stay}

pub failed_clean : (a b : State) → reads.HasFailed a b → HasCleanDisk b → HasCleanDisk a
failed_clean a b failed clean = omega (arith, failed.left.clean)

module _ {S : Type 0} (g : Ghosts S) where
  pub some_then : (a b c : Held S) → HaveRead g a b → HasRead g b c → HasRead g a c
  some_then a b c (inl same) second = subst (λ r. HasRead g r c) same second
  some_then a b c (inr first) second = read_then (state g a) (state g b) (state g c) first second

  pub then_some : (a b c : Held S) → HasRead g a b → HaveRead g b c → HasRead g a c
  then_some a b c first (inl same) = subst (HasRead g a) (sym same) first
  then_some a b c first (inr second) = read_then (state g a) (state g b) (state g c) first second

  pub some_failed : (a b c : Held S) → HaveRead g a b → HasFailed g b c → HasFailed g a c
  some_failed a b c (inl same) second = subst (λ r. HasFailed g r c) same second
  some_failed a b c (inr first) second =
      failed_then (state g a) (state g b) (state g c) first second

  pub some_clean : (a b : Held S) → HaveRead g a b → DiskKept g b → DiskKept g a
  some_clean a b (inl same) clean = subst (DiskKept g) same clean
  some_clean a b (inr first) clean = clean_before (state g a) (state g b) first clean

  pub some_stay : (a b : Held S) (t : Tables) → HaveRead g a b → DiskKept g b → HasTables g a t
      → HasTables g b t
  some_stay a b t (inl same) clean was = subst (λ r. HasTables g r t) (sym same) was
  some_stay a b t (inr first) clean was = tables_stay (state g a) (state g b) t first clean was

  pub some_later : (a b c : Held S) → HaveRead g a b → DiskKept g b → IsOurs g a → IsOpen g a
      → (IsOurs g b → IsOpen g b → StoreFailed g b c) → StoreFailed g a c
  some_later a b c (inl same) clean ours is_open failed =
      subst (λ r. (IsOurs g r → IsOpen g r → StoreFailed g r c)
      → StoreFailed g a c) (sym same) (λ f. f ours is_open) failed
  some_later a b c (inr first) clean ours is_open failed =
      failed_later IsOurSchema (state g a) (state g b) (state g c) first clean ours is_open failed

-- ---- queries

-- a read after another
pub and_read : {a b c : State} → reads.HasRead a b → reads.HasRead b c → reads.HasRead a c
and_read {a} {b} {c} first second = read_then a b c first second

-- a query that failed after reads, and whose error is passed on
pub then_query_fails : {S A B : Type 0} (g : Ghosts S) {mid new : Held S} {e : StoreFault}
    {Found : A → Type 0} (old : Held S) (x : Result B StoreFault) (IsFound : B → Type 0)
    → HasRead g old mid → Queries g mid new {A = A} IsOurSchema (Err e) Found
    → IsErrAnd x (λ f. f ≡ e) → Queries g old new IsOurSchema x IsFound
then_query_fails g old (Ok y) IsFound read it err = absurd err
then_query_fails {S} {A} {B} g {mid} {new} {e} {Found} old (Err f) IsFound read it err = record {
  rows = λ _. tt;
  read = tt;
  failed = failed_then (state g old) (state g mid) (state g new) read it.failed;
  store = λ clean is ours is_open. failed_later IsOurSchema (state g old) (state g mid)
      (state g new) read (failed_clean (state g mid) (state g new) it.failed clean) ours is_open
      (it.store clean (sym err ∙ is));
  fault = λ is. it.fault (sym err ∙ is);
}
