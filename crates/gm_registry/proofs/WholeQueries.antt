-- What the queries of whole tables mean.
use Rattle.gm_registry.proofs.Common.{◌≡◌, ℕ, List, [], ◌∷◌, map, refl, sym, subst, codes, false, IsPermutation, Row, Schema, Binary, Null, Error, Term, col, eval_all, Query, IsAnswer, IsPlain, State, HasCleanDisk, Shown, FailsToQuery, Survives, CommitsShowing, reads_as, scan, found_all, overlaid, read_by, failed_by, registry_schema, columns_at, query_text, tree_of, shown_places, HasReadOver, HasFailedOver, schema_of, IsOfRegistry, IsOurSchema, Edition, First, Second, About, Mirrors, Components, Intents, Patches}
use Rattle.sqlite_value.specs.declared.keys.Key.{Key}
use Rattle.sqlite.specs.Listing.{understood}
use Rattle.sqlite_tied.specs.Compute.{everything}
use Rattle.gm_rows.specs.declared.fetched.Table.{Table}
use Rattle.gm_registry.proofs.TextMeanings.{Asks, AsksOver}

-- by its number
abbrev pub order_of : Table → List (Term × Key)
order_of About = []
order_of Mirrors = []
order_of Components = []
order_of Intents = (col 1 0, record { collation = Binary; descending = false }) ∷ []
order_of Patches = []

abbrev pub query_of : Table → Query
query_of t = scan (tree_of t) [] (map (col 1) (shown_places t)) (order_of t)

-- the schema has the table, as the registry has it
abbrev pub HasTable : Table → Schema → Type 0
HasTable About schema = IsOfRegistry schema
HasTable Mirrors schema = IsOurSchema schema
HasTable Components schema = IsOurSchema schema
HasTable Intents schema = IsOurSchema schema
HasTable Patches schema = IsOurSchema schema

pub ours_have : (t : Table) (schema : Schema) → IsOurSchema schema → HasTable t schema
ours_have About schema is = (Second, is)
ours_have Mirrors schema is = is
ours_have Components schema is = is
ours_have Intents schema is = is
ours_have Patches schema is = is

about_asked : (edition : Edition) → AsksOver (schema_of edition) (query_text About) (query_of About)
    (codes "one" ∷ codes "schema_no" ∷ [])
unfolding understood everything
about_asked First = record { command_is = refl; plain = (refl, refl); of_tables = refl }
about_asked Second = record { command_is = refl; plain = (refl, refl); of_tables = refl }

mirrors_asked : Asks (query_text Mirrors) (query_of Mirrors)
    (codes "name" ∷ codes "mid" ∷ codes "total" ∷ codes "genid" ∷ codes "syncid" ∷ codes "slice"
    ∷ codes "balance" ∷ codes "mediasize" ∷ codes "mflags" ∷ [])
unfolding understood everything
mirrors_asked = record { command_is = refl; plain = (refl, refl); of_tables = refl }

components_asked : Asks (query_text Components) (query_of Components)
    (codes "prov" ∷ codes "mirror" ∷ codes "did" ∷ codes "syncid" ∷ codes "priority"
    ∷ codes "sync_offset" ∷ codes "dflags" ∷ codes "hard" ∷ codes "provsize" ∷ [])
unfolding understood everything
components_asked = record { command_is = refl; plain = (refl, refl); of_tables = refl }

intents_asked : Asks (query_text Intents) (query_of Intents)
    (codes "ord" ∷ codes "kind" ∷ codes "prov" ∷ codes "source" ∷ codes "first_sector"
    ∷ codes "end_sector" ∷ [])
unfolding understood everything
intents_asked = record { command_is = refl; plain = (refl, refl); of_tables = refl }

patches_asked : Asks (query_text Patches) (query_of Patches) (codes "one" ∷ codes "bytes" ∷ [])
unfolding understood everything
patches_asked = record { command_is = refl; plain = (refl, refl); of_tables = refl }

-- what a query is over a schema that has its table
module _ (schema : Schema) where
  abbrev IsAsked : Table → Type 0
  IsAsked t = (names : List (List ℕ)) × AsksOver schema (query_text t) (query_of t) names

  over : (t : Table) (names : List (List ℕ)) (known : Schema)
      → AsksOver known (query_text t) (query_of t) names → schema ≡ known → IsAsked t
  over t names known asks is =
      (names, subst (λ s. AsksOver s (query_text t) (query_of t) names) (sym is) asks)

  pub asked : (t : Table) → HasTable t schema → IsAsked t
  asked About has = over About _ (schema_of has.0) (about_asked has.0) has.1
  asked Mirrors has = over Mirrors _ registry_schema mirrors_asked has
  asked Components has = over Components _ registry_schema components_asked has
  asked Intents has = over Intents _ registry_schema intents_asked has
  asked Patches has = over Patches _ registry_schema patches_asked has

-- the terms of a query are its places
terms_are : (t : Table) (row : Row)
    → eval_all (map (col 1) (shown_places t)) ([] ∷ row ∷ []) ≡ columns_at (shown_places t) row
terms_are About row = refl
terms_are Mirrors row = refl
terms_are Components row = refl
terms_are Intents row = refl
terms_are Patches row = refl

pub answers : (t : Table) (old new : State) (rows : List Row) → HasTable t old.now.schema
    → Shown (query_text t) [] old new rows → IsAnswer (query_of t) old.now.trees [] rows
answers t old new rows has h =
    let asks = (asked old.now.schema t has).1 in
    let all = reads_as (query_text t) [] old new old.now.schema refl _ asks.command_is asks.plain
    asks.of_tables rows h in
    subst (λ db. IsAnswer (query_of t) db [] rows) (overlaid old.now.trees) (all.answer Null)

pub shows : (t : Table) (old new : State) (rows : List Row) → HasTable t old.now.schema
    → Shown (query_text t) [] old new rows
    → IsPermutation (map (columns_at (shown_places t)) (old.now.trees (tree_of t))) rows
shows t old new rows has h =
    let got = found_all (tree_of t) (map (col 1) (shown_places t))
    (order_of t) old.now.trees [] rows (answers t old new rows has h) in
    subst (λ (f : Row → Row). IsPermutation (map f (old.now.trees (tree_of t))) rows)
    (λ i row. terms_are t row i) got

-- if it is known that the schema has the table
module _ (t : Table) (Known : Schema → Type 0) (has : (s : Schema) → Known s → HasTable t s) where
  plain_query : (s : Schema) → Known s → IsPlain (understood s (query_text t))
  plain_query s known = (asked s t (has s known)).1.plain

  pub read : (old new : State) (rows : List Row)
      → (HasCleanDisk new → Shown (query_text t) [] old new rows)
      → Survives old new (CommitsShowing (query_text t) [] old) → HasReadOver Known old new
  read = read_by Known (query_text t) [] plain_query

  pub failed : (old new : State) (e : Error)
      → (HasCleanDisk new → FailsToQuery (query_text t) [] old new e)
      → Survives old new (CommitsShowing (query_text t) [] old) → HasFailedOver Known old new
  failed = failed_by Known (query_text t) [] plain_query
