-- Why a query of the tables fails, if its text is known.
use Rattle.sqlite_rows.proofs.Common.{◌≡◌, ◌⊎◌, inl, inr, ℕ, Bool, true, false, ◌&&◌, eqb, List, [], length, IsSome, IsTrue, Result, Ok, Err, refl, sym, ap, subst, ◌∙◌, append-nil, true≢false, eqb-true, leb-true, Row, Trees, Schema, Query, Database, RefusesToRead, understood, reads_listing, listing_schema, IsSourceOf, Select, Error, State, IsNoStatement, Fails, IsPlain, command_of, Compiled, QueryOverflows, accepts_program}
use Rattle.std.proofs.Math.Dec.{leb}
use Rattle.sqlite_disk.specs.Disk.{MoreFaults}
use Rattle.sqlite_trees.specs.declared.error.StoreError.TheVariants.{OutOfMemory, Io, Corrupt, Full, Broken, Unstorable}
use Rattle.sqlite.specs.declared.error.Error.TheVariants.{SqliteFailure}
use Rattle.sqlite.specs.declared.error.ErrorCode.TheVariants as code
use Rattle.sqlite.specs.State.{FailsToQuery, IsNotRun}
use Rattle.sqlite_resolve.specs.declared.error.CompileError.{CompileError}

-- the text is all that was understood, with as many parameters
abbrev pub is_all_of : List ℕ → ℕ → Result Compiled CompileError → Bool
is_all_of sql count (Ok c) = leb (length sql) c.tail && eqb count (length c.names)
is_all_of sql count (Err e) = false

-- what a query of known text can fail of: want of memory, a failure of the disk, or the limit on
-- steps
abbrev pub IsReadFault : State → State → Error → Type 0
IsReadFault old new e = (e ≡ SqliteFailure code.OutOfMemory)
    ⊎ (MoreFaults old.faults new.faults ⊎ IsSome old.step_limit)

both : (a b : Bool) → a && b ≡ true → (a ≡ true) × (b ≡ true)
both true b e = (refl, e)
both false b e = absurd (let f : false ≡ true = e in cc)

module _ (old new : State) (sql : List ℕ) (params : Row) (e : Error) where
  -- a failure of the store, if nothing is too big for it but under a limit on steps
  pub store_failed : (too_big : Type 0) → (too_big → IsSome old.step_limit) → IsTrue old.is_open
      → Fails old new too_big e → IsReadFault old new e
  store_failed too_big limited is_open (OutOfMemory, is, more, rolled, tells) = inl is
  store_failed too_big limited is_open (Io, is, more, rolled, tells) = inr (inl more)
  store_failed too_big limited is_open (Corrupt, is, more, rolled, tells) = inr (inl more)
  store_failed too_big limited is_open (Full, is, more, rolled, tells) = inr (inl more)
  store_failed too_big limited is_open (Broken, is, more, rolled, tells) =
      absurd (true≢false (sym is_open ∙ more))
  store_failed too_big limited is_open (Unstorable, is, more, rolled, tells) =
      inr (inr (limited more))

  pub never_misread : IsPlain (understood old.now.schema sql)
      → is_all_of sql (length params) (understood old.now.schema sql) ≡ true
      → IsNoStatement old sql params e → ⊥
  never_misread plain all (inl (fault, is, told)) = subst IsPlain is plain
  never_misread plain all (inr (c, is, inl short)) =
      short.0 (leb-true (length sql) c.tail
      (both _ _ (subst (λ r. is_all_of sql (length params) r ≡ true) is all)).0)
  never_misread plain all (inr (c, is, inr (inl count))) =
      count.0 (eqb-true (length params) (length c.names)
      (both _ _ (subst (λ r. is_all_of sql (length params) r ≡ true) is all)).1)
  never_misread plain all (inr (c, is, inr (inr formats))) = formats.0 (subst IsPlain is plain).1

  -- of a text that means this, over whatever it reads
  module _ (from : Result Compiled CompileError) (query : Query) (names : List (List ℕ))
      (known : understood old.now.schema sql ≡ from)
      (command_is : command_of from ≡ Select (record { lets = []; body = query }) names)
      (plain : IsPlain from) (all : is_all_of sql (length params) from ≡ true)
      (typed : (db : Database) → IsSourceOf (reads_listing old.now.schema sql) old.now db
      → accepts_program db.schema [] query params ≡ true)
      (safe : (db : Trees) → QueryOverflows query db params → ⊥) where
    refuses : (db : Database) → IsSourceOf (reads_listing old.now.schema sql) old.now db
        → RefusesToRead old.step_limit (Select (record { lets = []; body = query }) names) db params
        e → IsReadFault old new e
    refuses db source (inl (is, ill)) = absurd (true≢false (sym (typed db source) ∙ ill))
    refuses db source (inr (inl (is, over))) = absurd (safe _ over)
    refuses db source (inr (inr (is, some))) = inr (inr some)

    query_fault : IsTrue old.is_open → FailsToQuery sql params old new e → IsReadFault old new e
    unfolding FailsToQuery IsNotRun
    query_fault is_open (inl (inl none)) =
        absurd (never_misread (subst IsPlain (sym known) plain)
        (subst (λ r. is_all_of sql (length params) r ≡ true) (sym known) all) none.0)
    query_fault is_open (inl (inr fails)) =
        store_failed ⊥ (λ none. absurd none) is_open fails
    query_fault is_open (inr (c, it, h)) =
        let same = sym it.is ∙ known in
        let bare = subst IsPlain (sym same) plain in
        let shown = rw (bare.0, bare.1, append-nil params) at h in
        refuses shown.0 shown.1 (subst (λ k. RefusesToRead old.step_limit k shown.0 params e)
        (ap command_of same ∙ command_is) shown.2)

  -- a query of the tables of a schema
  pub read_fault : (schema : Schema) (query : Query) (names : List (List ℕ))
      → old.now.schema ≡ schema
      → command_of (understood schema sql) ≡ Select (record { lets = []; body = query }) names
      → IsPlain (understood schema sql) → reads_listing schema sql ≡ false
      → is_all_of sql (length params) (understood schema sql) ≡ true
      → accepts_program schema [] query params ≡ true
      → ((db : Trees) → QueryOverflows query db params → ⊥) → IsTrue old.is_open
      → FailsToQuery sql params old new e → IsReadFault old new e
  read_fault schema query names has command_is plain of_tables all typed =
      query_fault (understood schema sql) query names (ap (λ s. understood s sql) has) command_is
      plain all (λ db source.
      let same : db ≡ old.now = subst (λ b. IsSourceOf b old.now db)
      (ap (λ s. reads_listing s sql) has ∙ of_tables) source in
      subst (λ s. accepts_program s [] query params ≡ true)
      (sym (ap (λ (d : Database). d.schema) same ∙ has)) typed)

  -- a query of the list of tables, whatever their schema is
  pub listing_fault : (from : Result Compiled CompileError) (query : Query) (names : List (List ℕ))
      → understood old.now.schema sql ≡ from
      → command_of from ≡ Select (record { lets = []; body = query }) names
      → IsPlain from → reads_listing old.now.schema sql ≡ true
      → is_all_of sql (length params) from ≡ true
      → accepts_program listing_schema [] query params ≡ true
      → ((db : Trees) → QueryOverflows query db params → ⊥) → IsTrue old.is_open
      → FailsToQuery sql params old new e → IsReadFault old new e
  listing_fault from query names known command_is plain of_list all typed =
      query_fault from query names known command_is plain all (λ db source.
      let shown = subst (λ b. IsSourceOf b old.now db) of_list source in
      subst (λ s. accepts_program s [] query params ≡ true) (sym shown.0) typed)
