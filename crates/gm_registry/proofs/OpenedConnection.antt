-- What a connection that was just opened stands on.
use Rattle.gm_registry.proofs.Common.{◌≡◌, ◌≢◌, inl, inr, false, IsTrue, sym, ap, subst, ◌∙◌, Schema, Database, State, IsLive, IsUnchanged, Trees, IsSound, Tables, first_schema, registry_schema, no_schema, HasCounted, HasFirstCounted, SeesTables, SeesFirst, Holds, HoldsFirst, IsEmpty, SeesRegistry, no_tables, ShowsList, IsStored, schema_of, HasOurTables, IsBlank, IsForeign, IsNumbered, IsOfRegistry, SeesFirstStore, Edition, First, Second}
use Rattle.sqlite_rows.proofs.Showing.{one_schema, opened as at_open}
use Rattle.gm_registry.proofs.Abouts.{about_row}

-- what is so of the tables of a store, by its schema
pub stored_as : (db : Trees) (P : Tables → Type 0) → ((t : Tables) → Holds db t → P t)
    → ((t : Tables) → HoldsFirst db t → P t) → (IsEmpty db → P no_tables)
    → (t : Tables) → IsStored db t → P t
stored_as db P second first none t (inl holds) = second t holds
stored_as db P second first none t (inr (inl holds)) = first t holds
stored_as db P second first none t (inr (inr empty)) = subst P (sym empty.1) (none empty.0)

-- a connection outside a transaction sees what is committed
pub record IsJustOpened (s : State) : Type 0 where
  pub autocommit : s.in_transaction ≡ false
  pub settled : IsTrue s.is_open → s.now ≡ s.committed
  pub live : IsLive s

some_tables : (edition : Edition) → schema_of edition ≡ no_schema → ⊥
some_tables First e = let f = ap (λ (s : Schema). s.tables) e in cc
some_tables Second e = let f = ap (λ (s : Schema). s.tables) e in cc

module _ (s : State) (opened : IsJustOpened s) (is_open : IsTrue s.is_open) where
  -- what the trees list is seen
  seen_as : (schema : Schema) → IsSound schema s.committed.trees → s.now.schema ≡ schema
  seen_as schema sound =
      ap (λ (d : Database). d.schema) (opened.settled is_open)
      ∙ one_schema s schema is_open opened.live sound

  pub edition_seen : (edition : Edition) → IsSound (schema_of edition) s.committed.trees
      → s.now.schema ≡ schema_of edition
  edition_seen edition = seen_as (schema_of edition)

  pub of_registry : HasOurTables s.committed.trees → IsOfRegistry s.now.schema
  of_registry has = (has.0, edition_seen has.0 has.1)

  pub blank : IsEmpty s.committed.trees → IsBlank s
  blank empty = record {
    is_open = is_open;
    autocommit = opened.autocommit;
    settled = opened.settled is_open;
    schema_is = seen_as no_schema empty;
  }

  pub has_tables : (t : Tables) → Holds s.committed.trees t → SeesTables s t
  has_tables t = at_open registry_schema HasCounted s t is_open opened.autocommit
      (opened.settled is_open) opened.live

  pub has_first : (t : Tables) → HoldsFirst s.committed.trees t → SeesFirst s t
  has_first t = at_open first_schema HasFirstCounted s t is_open opened.autocommit
      (opened.settled is_open) opened.live

  pub first_store : IsSound first_schema s.committed.trees → SeesFirstStore s
  first_store sound = record {
    is_open = is_open;
    autocommit = opened.autocommit;
    schema_is = one_schema s first_schema is_open opened.live sound;
    settled = opened.settled is_open;
    sound = sound;
  }

  -- the list of a foreign store is shown
  pub foreign_shown : (f : IsForeign s.committed.trees) → ShowsList s.now.schema
  foreign_shown f = subst ShowsList (sym (seen_as f.schema f.sound)) f.shows

  -- ---- what can't be

  -- if no table is seen, there is no registry, nor something else
  pub no_registry : s.now.schema ≡ no_schema → (edition : Edition)
      → IsSound (schema_of edition) s.committed.trees → ⊥
  no_registry none edition sound = some_tables edition (sym (edition_seen edition sound) ∙ none)

  pub nothing_foreign : s.now.schema ≡ no_schema → IsForeign s.committed.trees → ⊥
  nothing_foreign none f = f.some (sym (seen_as f.schema f.sound) ∙ none)

  -- if some table is seen, the store isn't empty
  pub not_empty : s.now.schema ≢ no_schema → IsEmpty s.committed.trees → ⊥
  not_empty some empty = some (seen_as no_schema empty)

  -- if the tables can be those of one schema alone, they aren't those of the other
  pub not_second : ((edition : Edition) → s.now.schema ≡ schema_of edition → First ≡ edition)
      → IsSound registry_schema s.committed.trees → ⊥
  not_second only sound = let e : First ≡ Second = only Second (edition_seen Second sound) in cc

  pub not_first : ((edition : Edition) → s.now.schema ≡ schema_of edition → Second ≡ edition)
      → IsSound first_schema s.committed.trees → ⊥
  not_first only sound = let e : Second ≡ First = only First (edition_seen First sound) in cc

  -- so a store of either is of that one
  pub only_first : ((edition : Edition) → s.now.schema ≡ schema_of edition → First ≡ edition)
      → (P : Edition → Type 0) → ((edition : Edition) → P edition
      → IsSound (schema_of edition) s.committed.trees) → (edition : Edition) × P edition → P First
  only_first only P sound (First, p) = p
  only_first only P sound (Second, p) = absurd (not_second only (sound Second p))

  pub only_second : ((edition : Edition) → s.now.schema ≡ schema_of edition → Second ≡ edition)
      → (P : Edition → Type 0) → ((edition : Edition) → P edition
      → IsSound (schema_of edition) s.committed.trees) → (edition : Edition) × P edition
      → P Second
  only_second only P sound (First, p) = absurd (not_first only (sound First p))
  only_second only P sound (Second, p) = p

  -- ---- a registry

  -- what is unchanged since the opening, with the one record of `about`, is one
  pub registry_there : (new : State) → IsSound registry_schema s.committed.trees
      → IsUnchanged s new → IsNumbered Second s.now.trees → SeesRegistry new
  registry_there new sound unchanged one =
      let same = unchanged.0 in
      let still : IsSound registry_schema new.committed.trees =
      subst (λ (d : Database). IsSound registry_schema d.trees) (sym same.committed_is) sound in
      let now : new.now ≡ new.committed =
      same.now_is ∙ opened.settled is_open ∙ sym same.committed_is in
      record {
        is_open = same.is_open;
        autocommit = same.mode ∙ opened.autocommit;
        schema_is = ap (λ (d : Database). d.schema) same.committed_is
            ∙ one_schema s registry_schema is_open opened.live sound;
        settled = now;
        sound = still;
        about = about_row Second new.committed.trees still
            (subst (λ (d : Database). IsNumbered Second d.trees) (sym same.now_is ∙ now) one);
      }
