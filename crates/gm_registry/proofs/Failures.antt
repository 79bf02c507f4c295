-- Why the queries of a registry fail.
use Rattle.gm_registry.proofs.Common.{◌≡◌, ◌⊎◌, inl, inr, ℕ, true, List, [], ◌∷◌, IsTrue, IsSome, ◌≤◌, arith, refl, sym, ap, subst, ◌∙◌, Any, true≢false, MoreFaults, Row, Trees, State, HasCleanDisk, FailsToQuery, Survives, FailsToCommit, Error, Text, QueryOverflows, accepts_program, is_all_of, IsReadFault, read_fault, store_failed, fault_of, query_text, tree_of, registry_schema, find_command_text, last_command_text, Memory, Store, About, Mirrors, Components, Intents, Patches, Schema, HasReadOver, known_still, schema_of, Edition, First, Second}
use Rattle.sqlite.specs.Listing.{understood}
use Rattle.sqlite_tied.specs.Compute.{everything}
use Rattle.gm_rows.specs.declared.fetched.Table.{Table}
use Rattle.gm_registry.proofs.WholeQueries.{HasTable, query_of, asked}
use Rattle.gm_registry.proofs.TextMeanings.{find_query, find_is, last_query, last_is}

find_whole : is_all_of find_command_text 1 (understood registry_schema find_command_text) ≡ true
unfolding understood everything
find_whole = refl

last_whole : is_all_of last_command_text 0 (understood registry_schema last_command_text) ≡ true
unfolding understood everything
last_whole = refl

about_whole : (edition : Edition)
    → is_all_of (query_text About) 0 (understood (schema_of edition) (query_text About)) ≡ true
unfolding understood everything
about_whole First = refl
about_whole Second = refl

ours_whole : (t : Table) → is_all_of (query_text t) 0 (understood registry_schema (query_text t))
    ≡ true
unfolding understood everything
ours_whole About = refl
ours_whole Mirrors = refl
ours_whole Components = refl
ours_whole Intents = refl
ours_whole Patches = refl

find_typed : (key : List ℕ) → accepts_program registry_schema [] find_query (Text key ∷ []) ≡ true
unfolding everything
find_typed key = refl

last_typed : accepts_program registry_schema [] last_query [] ≡ true
unfolding everything
last_typed = refl

about_typed : (edition : Edition)
    → accepts_program (schema_of edition) [] (query_of About) [] ≡ true
unfolding everything
about_typed First = refl
about_typed Second = refl

ours_typed : (t : Table) → accepts_program registry_schema [] (query_of t) [] ≡ true
unfolding everything
ours_typed About = refl
ours_typed Mirrors = refl
ours_typed Components = refl
ours_typed Intents = refl
ours_typed Patches = refl

-- over a schema that has its table a query is whole, and well typed
module _ (schema : Schema) where
  abbrev IsWhole : Table → Schema → Type 0
  IsWhole t s = is_all_of (query_text t) 0 (understood s (query_text t)) ≡ true

  abbrev IsTyped : Table → Schema → Type 0
  IsTyped t s = accepts_program s [] (query_of t) [] ≡ true

  ours : (t : Table) → schema ≡ registry_schema → IsWhole t schema × IsTyped t schema
  ours t is =
      (subst (IsWhole t) (sym is) (ours_whole t), subst (IsTyped t) (sym is) (ours_typed t))

  tables_fit : (t : Table) → HasTable t schema → IsWhole t schema × IsTyped t schema
  tables_fit About has = (
    subst (IsWhole About) (sym has.1) (about_whole has.0),
    subst (IsTyped About) (sym has.1) (about_typed has.0),
  )
  tables_fit Mirrors has = ours Mirrors has
  tables_fit Components has = ours Components has
  tables_fit Intents has = ours Intents has
  tables_fit Patches has = ours Patches has

pub never : (rows : List Row) → Any (λ _. ⊥) rows → ⊥
never rows h = h.4

find_safe : (key : List ℕ) (db : Trees) → QueryOverflows find_query db (Text key ∷ []) → ⊥
find_safe key db (inl none) = none
find_safe key db (inr over) = never (db 8) over

last_safe : (db : Trees) → QueryOverflows last_query db [] → ⊥
last_safe db (inl none) = none
last_safe db (inr over) = never (db 8) over

tables_safe : (t : Table) (db : Trees) → QueryOverflows (query_of t) db [] → ⊥
tables_safe t db (inl none) = none
tables_safe t db (inr over) = never (db (tree_of t)) over

-- an error that is told as one of the store
pub told : (old new : State) (e : Error) → IsReadFault old new e → fault_of e ≡ Store
    → MoreFaults old.faults new.faults ⊎ IsSome old.step_limit
told old new e (inl memory) is = absurd (let f : Memory ≡ Store = sym (ap fault_of memory) ∙ is in
    cc)
told old new e (inr failed) is = failed

module _ (old new : State) (e : Error) (has : old.now.schema ≡ registry_schema)
    (is_open : IsTrue old.is_open) where
  pub find_failed : (key : List ℕ) → FailsToQuery find_command_text (Text key ∷ []) old new e
      → fault_of e ≡ Store → MoreFaults old.faults new.faults ⊎ IsSome old.step_limit
  find_failed key fails =
      told old new e (read_fault old new find_command_text (Text key
      ∷ []) e registry_schema find_query _ has find_is.command_is find_is.plain
      find_is.of_tables find_whole (find_typed key) (find_safe key) is_open fails)

  pub last_failed : FailsToQuery last_command_text [] old new e → fault_of e ≡ Store
      → MoreFaults old.faults new.faults ⊎ IsSome old.step_limit
  last_failed fails =
      told old new e (read_fault old new last_command_text [] e registry_schema last_query _ has
      last_is.command_is last_is.plain last_is.of_tables last_whole last_typed last_safe is_open
      fails)

pub table_failed : (t : Table) (old new : State) (e : Error) → HasTable t old.now.schema
    → IsTrue old.is_open → FailsToQuery (query_text t) [] old new e → fault_of e ≡ Store
    → MoreFaults old.faults new.faults ⊎ IsSome old.step_limit
table_failed t old new e has is_open fails =
    let asks = (asked old.now.schema t has).1 in
    let fit = tables_fit old.now.schema t has in
    told old new e (read_fault old new (query_text t) [] e old.now.schema
    (query_of t) _ refl asks.command_is asks.plain asks.of_tables fit.0 fit.1 (tables_safe t)
    is_open fails)

later : (x y z : ℕ) → x ≤ y → MoreFaults y z → MoreFaults x z
later x y z le more = omega (arith, le, more)

-- a failure after a call is one since before it
pub failed_since : (a b c : State) (Commits : Trees → Type 0) → Survives a b Commits
    → MoreFaults b.faults c.faults ⊎ IsSome b.step_limit
    → MoreFaults a.faults c.faults ⊎ IsSome a.step_limit
failed_since a b c Commits left (inl more) =
    inl (later a.faults b.faults c.faults left.counts more)
failed_since a b c Commits left (inr limit) = inr (subst IsSome left.limit limit)

-- so is one after a read
pub failed_later : (Known : Schema → Type 0) (a b c : State) → HasReadOver Known a b
    → HasCleanDisk b → Known a.now.schema → IsTrue a.is_open
    → (Known b.now.schema → IsTrue b.is_open → MoreFaults b.faults c.faults ⊎ IsSome b.step_limit)
    → MoreFaults a.faults c.faults ⊎ IsSome a.step_limit
failed_later Known a b c read clean known is_open failed =
    failed_since a b c _ read.left
    (failed (known_still Known a b read clean known) (read.unchanged clean known).0.is_open)

-- a failure before a call is one at its end
pub failed_until : (a b c : State) (Commits : Trees → Type 0) → Survives b c Commits
    → MoreFaults a.faults b.faults ⊎ IsSome a.step_limit
    → MoreFaults a.faults c.faults ⊎ IsSome a.step_limit
failed_until a b c Commits left (inl more) = inl (omega (arith, more, left.counts))
failed_until a b c Commits left (inr limit) = inr limit

-- why a commit within a transaction fails
pub commit_failed : (old new : State) (e : Error) → IsTrue old.in_transaction → IsTrue old.is_open
    → FailsToCommit old new e → fault_of e ≡ Store
    → MoreFaults old.faults new.faults ⊎ IsSome old.step_limit
commit_failed old new e inside is_open (inl fails) is =
    told old new e (store_failed old new [] [] e ⊥ (λ none. absurd none) is_open fails) is
commit_failed old new e inside is_open (inr outside) is =
    absurd (true≢false (sym inside ∙ outside.1))
