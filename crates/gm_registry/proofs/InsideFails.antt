-- From why a statement stops to why its call within a transaction fails.
use Rattle.gm_registry.proofs.Common.{◌≡◌, ◌⊎◌, ℕ, ◌||◌, true, false, List, length, Option, None, Result, Ok, Err, IsSome, IsTrue, IsErrAnd, ap, subst, sym, ◌∙◌, MoreFaults, IsSound, Row, Trees, Schema, Command, Does, Database, is_query, understood, State, is_pragma, ExecutesInside, Error, statement_of, is_all_of, stays_inside, at_once, inside_fault, Tables, OnOther, fault_of, Store, registry_schema, HasRows, IsInside}
use Rattle.gm_registry.proofs.Failures.{told}
use Rattle.gm_registry.proofs.TextMeanings.{Means}

-- over rows and tables that fit, the command stops only at the limit on steps
abbrev pub StopsOnly : Command → Row → (Trees → Tables → Type 0) → Type 0
StopsOnly command params Fits =
    (db : Trees) (t : Tables) (limit : Option ℕ) (text : List ℕ) (stop : Option Error)
    → HasRows db t → IsSound registry_schema db → Fits db t
    → Does limit at_once params (record { schema = registry_schema; trees = db }) text None command
    (Err stop) → IsSome limit

module _ (text : List ℕ) (params : Row) (command : Command) (means : Means text command)
    (whole : is_all_of text (length params) (understood registry_schema text) ≡ true)
    (inside : stays_inside command ≡ true) (quiet : is_query command || is_pragma command ≡ false)
    (Fits : Trees → Tables → Type 0) (stops : StopsOnly command params Fits) where
  pub inside_fails : (old new : State) (x : Result ℕ Error)
      → (IsTrue old.in_transaction → ExecutesInside 0 text params old new x)
      → OnOther x ((first : Database) (t : Tables) → IsInside first old t
      → Fits old.now.trees t
      → MoreFaults old.faults new.faults ⊎ IsSome old.step_limit)
  inside_fails old new (Ok count) h = tt
  inside_fails old new (Err e) h = λ is first t was fits.
      told old new e (inside_fault registry_schema text params command means.command_is means.plain
      whole inside quiet old new e was.schema_is
      (λ stop does. stops old.now.trees t old.step_limit
      (statement_of text (understood registry_schema text)) stop was.tables.rows was.tables.sound
      fits
      (subst (λ (schema : Schema). Does old.step_limit at_once params
      (record { schema = schema; trees = old.now.trees })
      (statement_of text (understood registry_schema text)) None command (Err stop)) was.schema_is
      does)) was.is_open (h was.inside)) is

-- an error that is passed on
pub passed_on : {X : Type 0} (x : Result X Error) (e : Error) (P : Type 0) → IsErrAnd x (λ f. f ≡ e)
    → (fault_of e ≡ Store → P) → OnOther x P
passed_on (Ok a) e P none h = tt
passed_on (Err f) e P same h = λ is. h (ap fault_of (sym same) ∙ is)
