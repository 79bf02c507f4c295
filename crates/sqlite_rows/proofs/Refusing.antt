-- A call that is refused leaves the records, and so does one that only reads.
use Rattle.sqlite_rows.proofs.Common.{◌≡◌, ◌⊎◌, inl, inr, ℕ, List, Option, Some, None, IfErr, Result, Ok, Err, IfOk, OnOk, OnErr, sym, ap, subst, ◌∙◌, Row, Database, Error, understood, State, FailsToShow, IsUnchanged, IsRolledBack, Compiled, Returning, Schema, Trees, Holds, HasRecords}
use Rattle.sqlite.specs.Clock.{timed}
use Rattle.sqlite.specs.State.{IsNotRun, FailsToQuery, Shown}
use Rattle.sqlite.specs.Given.{IsPlain}
use Rattle.sqlite_rows.proofs.Statements.{settled_schema}

shown_refusal : (sql : List ℕ) (params : Row) (old new : State) (c : Compiled) (e : Error)
    (what : Option Returning) → FailsToShow old new sql c params e what
    → IsUnchanged old new ⊎ IsRolledBack old new
shown_refusal sql params old new c e None h = inl h.3
shown_refusal sql params old new c e (Some what) (inl refused) = inl refused.1
shown_refusal sql params old new c e (Some what) (inr fails) = inr fails.3

-- so did a refused query
pub asking_refusal : (sql : List ℕ) (params : Row) (old new : State) (e : Error)
    → FailsToQuery sql params old new e → IsUnchanged old new ⊎ IsRolledBack old new
unfolding FailsToQuery IsNotRun
asking_refusal sql params old new e (inl (inl it)) = inl it.1
asking_refusal sql params old new e (inl (inr fails)) = inr fails.3
asking_refusal sql params old new e (inr (c, it, h)) =
    shown_refusal sql (timed params c.formats it.now) old new c e c.returning h

-- a query leaves all as it was
pub left_alone : (sql : List ℕ) (params : Row) (old new : State) (rows : List Row)
    → IsPlain (understood old.now.schema sql) → Shown sql params old new rows → IsUnchanged old new
unfolding Shown
left_alone sql params old new rows plain h =
    let bare = subst IsPlain h.1.is plain in
    (rw bare.0 at h.2).3

pub on_err : {A E : Type 0} (x : Result A E) (P : Type 0) → P → OnErr x P
on_err (Ok _) P p = tt
on_err (Err e) P p = p

pub map_ok : {A E : Type 0} (x : Result A E) (P Q : Type 0) → (P → Q) → OnOk x P → OnOk x Q
map_ok (Ok _) P Q f p = f p
map_ok (Err e) P Q f p = tt

pub if_ok : {A E : Type 0} (x : Result A E) (P Q : A → Type 0) → ((a : A) → P a → Q a) → IfOk x P
    → IfOk x Q
if_ok (Ok a) P Q f p = f a p
if_ok (Err e) P Q f p = tt

pub if_err : {A E : Type 0} (x : Result A E) (P Q : E → Type 0) → ((e : E) → P e → Q e) → IfErr x P
    → IfErr x Q
if_err (Ok _) P Q f p = tt
if_err (Err e) P Q f p = f e p

pub both_ok : {A E : Type 0} (x : Result A E) (P Q R : Type 0) → (P → Q → R) → OnOk x P → OnOk x Q
    → OnOk x R
both_ok (Ok _) P Q R f p q = f p q
both_ok (Err e) P Q R f p q = tt

pub under_ok : {X E : Type 0} (x : Result X E) (A P : Type 0) → (A → OnOk x P) → OnOk x (A → P)
under_ok (Ok _) A P h = h
under_ok (Err e) A P h = tt

pub alone_ok : {A : Type 0} (of_schema : Schema) (items : A
    → List Row) (sql : List ℕ) (params : Row) (old new : State) (x : Result A Error)
    → IsPlain (understood of_schema sql)
    → IfOk x (λ rows. Shown sql params old new (items rows))
    → OnOk x (old.now.schema ≡ of_schema → IsUnchanged old new)
alone_ok of_schema items sql params old new (Ok rows) plain h =
    λ has. left_alone sql params old new (items rows)
    (subst (λ s. IsPlain (understood s sql)) (sym has) plain) h
alone_ok of_schema items sql params old new (Err e) plain h = tt

module _ {R : Type 0} (of_schema : Schema) (Rows : Trees → R → Type 0) where
  pub unchanged_has : (old new : State) (r : R) → HasRecords of_schema Rows old r
      → IsUnchanged old new → HasRecords of_schema Rows new r
  unchanged_has old new r was same = record {
    is_open = same.0.is_open;
    autocommit = same.0.mode ∙ was.autocommit;
    schema_is = ap (λ (d : Database). d.schema) same.0.committed_is ∙ was.schema_is;
    settled = same.0.now_is ∙ was.settled ∙ sym same.0.committed_is;
    tables = subst (λ (d : Database). Holds of_schema Rows d.trees r)
        (sym same.0.committed_is) was.tables;
  }

  -- a query leaves the records
  pub shown_has : (sql : List ℕ) (params : Row) (old new : State) (rows : List Row) (r : R)
      → HasRecords of_schema Rows old r → IsPlain (understood of_schema sql)
      → Shown sql params old new rows
      → HasRecords of_schema Rows new r
  shown_has sql params old new rows r was plain h =
      unchanged_has old new r was (left_alone sql params old new rows
      (subst (λ s. IsPlain (understood s sql)) (sym (settled_schema of_schema Rows old r was))
      plain) h)
