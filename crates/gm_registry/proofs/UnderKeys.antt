-- What the queries of components under a key mean, and why they fail.
use Rattle.gm_registry.proofs.Common.{◌≡◌, ◌⊎◌, inl, inr, ℕ, true, List, [], ◌∷◌, map, refl, sym, subst, codes, IsTrue, IsSome, MoreFaults, Row, Schema, Trees, Binary, Null, Text, Error, Term, col, op2, Query, IsAnswer, State, HasCleanDisk, Shown, FailsToQuery, Survives, CommitsShowing, reads_as, Compare, Eq, QueryOverflows, accepts_program, is_all_of, read_fault, scan, found, overlaid, read_by, failed_by, fault_of, key_text, key_column, AreUnder, shown_places, IsOurSchema, IsOurs, HasRead, HasFailed, registry_schema, Store, Components, Key, Provider}
use Rattle.sqlite.specs.Listing.{understood}
use Rattle.sqlite.proofs.Callers.{IsPlain}
use Rattle.sqlite_tied.specs.Compute.{everything}
use Rattle.gm_registry.specs.declared.components_by_key.Key.TheVariants.{Mirror}
use Rattle.gm_registry.proofs.Failures.{never, told}
use Rattle.gm_registry.proofs.TextMeanings.{Asks}

-- the column of the key is the parameter
abbrev key_term : Key → Term
key_term key = op2 (Compare Eq Binary) (col 1 (key_column key)) (col 0 0)

abbrev key_query : Key → Query
key_query key = scan 4 (key_term key ∷ []) (map (col 1) (shown_places Components)) []

abbrev nine_names : List (List ℕ)
nine_names = codes "prov" ∷ codes "mirror" ∷ codes "did" ∷ codes "syncid" ∷ codes "priority"
    ∷ codes "sync_offset" ∷ codes "dflags" ∷ codes "hard" ∷ codes "provsize" ∷ []

asked : (key : Key) → Asks (key_text key) (key_query key) nine_names
unfolding understood everything
asked Provider = record { command_is = refl; plain = (refl, refl); of_tables = refl }
asked Mirror = record { command_is = refl; plain = (refl, refl); of_tables = refl }

module _ (label : List ℕ) where
  abbrev params : Row
  params = Text label ∷ []

  found_under : (key : Key) (db : Trees) (rows : List Row) → IsAnswer (key_query key) db params rows
      → AreUnder db key label rows
  found_under Provider db rows a =
      found 4 (map (col 1) (shown_places Components)) [] db params rows (key_term Provider) a
  found_under Mirror db rows a =
      found 4 (map (col 1) (shown_places Components)) [] db params rows (key_term Mirror) a

  pub shows_under : (key : Key) (old new : State) (rows : List Row) → IsOurs old
      → Shown (key_text key) params old new rows → AreUnder old.now.trees key label rows
  shows_under key old new rows ours h =
      let asks = asked key in
      let all = reads_as (key_text key) params old new registry_schema ours _ asks.command_is
      asks.plain asks.of_tables rows h in
      found_under key old.now.trees rows
      (subst (λ db. IsAnswer (key_query key) db params rows) (overlaid old.now.trees)
      (all.answer Null))

  plain_query : (key : Key) (s : Schema) → IsOurSchema s → IsPlain (understood s (key_text key))
  plain_query key s ours =
      subst (λ sc. IsPlain (understood sc (key_text key))) (sym ours) (asked key).plain

  pub read_under : (key : Key) (old new : State) (rows : List Row)
      → (HasCleanDisk new → Shown (key_text key) params old new rows)
      → Survives old new (CommitsShowing (key_text key) params old) → HasRead old new
  read_under key = read_by IsOurSchema (key_text key) params (plain_query key)

  pub failed_under : (key : Key) (old new : State) (e : Error)
      → (HasCleanDisk new → FailsToQuery (key_text key) params old new e)
      → Survives old new (CommitsShowing (key_text key) params old) → HasFailed old new
  failed_under key = failed_by IsOurSchema (key_text key) params (plain_query key)

  typed : (key : Key) → accepts_program registry_schema [] (key_query key) params ≡ true
  unfolding everything
  typed Provider = refl
  typed Mirror = refl

  safe : (key : Key) (db : Trees) → QueryOverflows (key_query key) db params → ⊥
  safe key db (inl none) = none
  safe key db (inr over) = never (db 4) over

whole : (key : Key) → is_all_of (key_text key) 1 (understood registry_schema (key_text key)) ≡ true
unfolding understood everything
whole Provider = refl
whole Mirror = refl

pub fault_under : (label : List ℕ) (key : Key) (old new : State) (e : Error)
    → old.now.schema ≡ registry_schema → IsTrue old.is_open
    → FailsToQuery (key_text key) (Text label ∷ []) old new e → fault_of e ≡ Store
    → MoreFaults old.faults new.faults ⊎ IsSome old.step_limit
fault_under label key old new e has is_open fails =
    let asks = asked key in
    told old new e (read_fault old new (key_text key) (Text label ∷ []) e registry_schema
    (key_query key) _ has asks.command_is asks.plain asks.of_tables (whole key)
    (typed label key) (safe label key) is_open fails)
