-- Why a statement fails, if its text is known and no rule refuses it, and why one on the rows of
-- a table stops.
use Rattle.sqlite_rows.proofs.Common.{◌≡◌, ◌⊎◌, inl, inr, ℕ, zero, suc, Bool, true, false, ◌||◌, cond, List, [], ◌∷◌, ◌/◌, length, Option, Some, None, Ok, Err, IsSome, IsTrue, refl, sym, ap, subst, subst₂, ◌∙◌, arith, is_some, list_all, cases_Bool, true≢false, length-append, Row, Trees, Schema, Table, Term, Values, Command, Insert, InsertOr, Update, Delete, CreateTable, Does, OnRows, Concludes, due, Written, Task, Inserts, stamped, rowids_for, count_of, is_query, value_rows, edit_of, cast_row, Chosen, Above, understood, State, mode_of, text_of, shows_rows, is_pragma, Executes, ExecutesInside, IsMisplaced, IsUnchanged, Fails, Error, Mode, IsPlain, command_of, statement_of, one_step, Returning, Datatype, NotNull, Check, PrimaryKey, Unique, ForeignKey, Keys, Enforced, All, Keeps, Refers, passes, rowid, with_tree, fits_i64, accepts_terms, Edit, Applies, IsRefused, IsOversized, id_in, have_rowids, are_fresh, left_by, edited, taken_by, is_referred, with_rowid, Leads, works, Has, Refusal, Violates, Mismatch, NoRowid, BadReference, TooDeep, no_works}
use Rattle.std.proofs.Common.{append-nil}
use Rattle.sqlite.specs.Calls.{IsWrite}
use Rattle.sqlite.specs.State.{ExecutesIn, EndsScope, IsNotRun}
use Rattle.sqlite_rules.specs.Action.{Writes}
use Rattle.sqlite_rows.proofs.Failing.{IsReadFault, is_all_of, never_misread, store_failed}
use Rattle.sqlite_rows.proofs.Inserting.{went, same_value, if_not, counts_none}

-- ---- an edit that each rule allows

pub record IsAllowed (schema : Schema) (keys : Keys) (db : Trees) (edit : Edit) : Type 0 where
  pub typed : list_all (passes Datatype schema db edit.table) edit.news ≡ true
  pub present : list_all (passes NotNull schema db edit.table) edit.news ≡ true
  pub checked : list_all (passes Check schema db edit.table) edit.news ≡ true
  pub keyed : have_rowids edit.news ≡ true
  pub numbers : list_all (λ r. fits_i64 (id_in (rowid r))) edit.news ≡ true
  pub fresh : are_fresh (left_by db edit) edit.news ≡ true
  pub unique : Keeps Unique schema (with_tree db edit.table.tree (edited db edit))
  pub referred : is_referred schema keys edit ≡ true
  pub small : (row : Row) → Has edit.news row → IsOversized schema edit.table row → ⊥

module _ (schema : Schema) (keys : Keys) (db : Trees) (edit : Edit)
    (allowed : IsAllowed schema keys db edit) where
  never_refused : (why : Refusal) → IsRefused schema keys db edit why → ⊥
  never_refused (Violates Datatype) h = true≢false (sym allowed.typed ∙ h)
  never_refused (Violates NotNull) h = true≢false (sym allowed.present ∙ h)
  never_refused (Violates Check) h = true≢false (sym allowed.checked ∙ h)
  never_refused (Violates PrimaryKey) h = true≢false (sym allowed.fresh ∙ h)
  never_refused (Violates Unique) h = h allowed.unique
  never_refused (Violates ForeignKey) h = h
  never_refused Mismatch h = true≢false (sym allowed.keyed ∙ h)
  never_refused NoRowid h = true≢false (sym allowed.numbers ∙ h)
  never_refused BadReference h = true≢false (sym allowed.referred ∙ h)
  never_refused TooDeep h = h

  no_work : (n : ℕ) (next : Trees) (why : Option Refusal)
      → Leads schema keys n next [] (Err why) → ⊥
  no_work zero next why h = absurd (let e = h.1 in cc)
  no_work (suc n) next why h = omega (arith, ap length h.2, length-append h.0 (h.1 ∷ []))

  -- if it sets off no action, it is made
  pub never_stops : works schema keys 0 edit.table.tree (taken_by db edit) edit.news ≡ []
      → (why : Option Refusal) → Writes schema keys db edit (Err why) → ⊥
  never_stops idle why (inl (what, refused, is)) = never_refused what refused
  never_stops idle why (inr (inl (row, has, big, is))) = allowed.small row has big
  never_stops idle why (inr (inr (next, applies, (n, leads)))) =
      no_work n next why (subst (λ w. Leads schema keys n next w (Err why)) idle leads)

-- ---- a call of a text that writes rows or makes a table

-- it neither begins, ends nor divides a transaction
abbrev pub stays_inside : Command → Bool
stays_inside (Insert at from) = true
stays_inside (InsertOr at way from clauses) = true
stays_inside (Update at q) = true
stays_inside (Delete at q) = true
stays_inside CreateTable = true
stays_inside _ = false

module _ (schema : Schema) (sql : List ℕ) (params : Row) (command : Command)
    (is : command_of (understood schema sql) ≡ command) (plain : IsPlain (understood schema sql))
    (whole : is_all_of sql (length params) (understood schema sql) ≡ true)
    (inside : stays_inside command ≡ true) (quiet : is_query command || is_pragma command ≡ false)
    (old new : State) (e : Error) (has : old.now.schema ≡ schema)
    (stops : (stop : Option Error)
    → Does old.step_limit (mode_of old) params old.now
    (statement_of sql (understood schema sql)) None command (Err stop)
    → IsSome old.step_limit) where
  other : {c : Command} → command ≡ c → stays_inside c ≡ false → ⊥
  other same not_it = true≢false (sym inside ∙ ap stays_inside same ∙ not_it)

  misplaced : IsMisplaced old command e → ⊥
  misplaced (inl (is, inl begins)) = other begins.0 refl
  misplaced (inl (is, inr (inl commits, out))) = other commits refl
  misplaced (inl (is, inr (inr rolls, out))) = other rolls refl
  misplaced (inr (is, name, inl releases, unnamed)) = other releases refl
  misplaced (inr (is, name, inr goes_back, unnamed)) = other goes_back refl

  -- how a command that is run fails, by its parts
  abbrev FailsAs : List ℕ → Command → Option Returning → Type 0
  FailsAs text command returning =
      ((IsMisplaced old command e ⊎ ((IsWrite command ⊎ IsSome returning)
      × Does old.step_limit (mode_of old) params old.now text returning command (Err (Some e))))
      × IsUnchanged old new)
      ⊎ Fails old new
      (Does old.step_limit (mode_of old) params old.now text returning command (Err None)) e

  ran : FailsAs (statement_of sql (understood schema sql)) command None → IsTrue old.is_open
      → IsReadFault old new e
  ran (inl (inl bad, same)) is_open = absurd (misplaced bad)
  ran (inl (inr does, same)) is_open = inr (inr (stops (Some e) does.1))
  ran (inr fails) is_open = store_failed old new sql params e _ (stops None) is_open fails

  both_quiet : (a b : Bool) → a || b ≡ false → a || (b || false) ≡ false
  both_quiet true b h = h
  both_quiet false true h = h
  both_quiet false false h = refl

  pub write_fault : IsTrue old.is_open → Executes sql params old new (Err e)
      → IsReadFault old new e
  unfolding ExecutesIn IsNotRun
  write_fault is_open (inl (inl none)) =
      absurd (never_misread old new sql params e
      (subst (λ s. IsPlain (understood s sql)) (sym has) plain)
      (subst (λ s. is_all_of sql (length params) (understood s sql) ≡ true) (sym has) whole)
      none.0)
  write_fault is_open (inl (inr fails)) =
      store_failed old new sql params e ⊥ (λ none. absurd none) is_open fails
  write_fault is_open (inr (c, it, h)) =
      let known = sym it.is ∙ ap (λ s. understood s sql) has in
      let bare = subst IsPlain (sym known) plain in
      let same : c.command ≡ command = ap command_of known ∙ is in
      let runs : FailsAs (text_of sql c) c.command c.returning =
      elim (cases_Bool (shows_rows false c)) [
        | inl shows ↦
            let f : false ≡ true = sym (both_quiet _ _ quiet)
            ∙ subst₂ (λ (k : Command) (r : Option Returning).
            is_query k || (is_pragma k || is_some r) ≡ true) same bare.0 shows in
            absurd (true≢false (sym f))
        | inr runs ↦ rw (runs, bare.1, append-nil params) at h
      ] in
      ran (subst (λ t. FailsAs t command None) (ap (statement_of sql) known)
      (subst₂ (FailsAs (text_of sql c)) same bare.0 runs)) is_open

  never_ends : EndsScope 0 sql params old → ⊥
  unfolding EndsScope
  never_ends (c, it, escapes) =
      let same : c.command ≡ command =
      ap command_of (sym it.is ∙ ap (λ s. understood s sql) has) ∙ is in
      elim escapes [
        | inl (inl commits) ↦ other (sym same ∙ commits) refl
        | inl (inr rolls) ↦ other (sym same ∙ rolls) refl
        | inr (name, inl releases, held) ↦ other (sym same ∙ releases) refl
        | inr (name, inr goes_back, held) ↦ other (sym same ∙ goes_back) refl
      ]

  pub inside_fault : IsTrue old.is_open → ExecutesInside 0 sql params old new (Err e)
      → IsReadFault old new e
  inside_fault is_open (inl ran) = write_fault is_open ran.0
  inside_fault is_open (inr ends) = absurd (never_ends ends.0)

-- ---- what its statement does

-- at the end of a statement, if each key has a parent
abbrev pub at_once : Mode
at_once = record { keys = Enforced; in_doubt = false; may_wait = false }

pub concluded : (task : Task) (mode : Mode) → due mode ≡ All → (w : Written) (stop : Option Error)
    → Refers All task.schema w.trees → Concludes task mode None w (Err stop) → ⊥
concluded task mode all w stop refers (inl (why, tested, is)) =
    absurd (tested.0 (subst (λ among. Refers among task.schema w.trees) (sym all) refers))
concluded task mode all w stop refers (inr (doubt, held, inl (why, none, is))) =
    absurd (let e = none in cc)
concluded task mode all w stop refers (inr (doubt, held, inr (rows, none, is))) =
    absurd (let e = is in cc)

-- one row is inserted
module _ (schema : Schema) (at : ℕ) (table : Table) (uncounted : table.is_counted ≡ false)
    (terms : List Term) (width : ℕ) (params row new : Row) (limit : Option ℕ) (db : Trees)
    (given : value_rows (stamped table params) width (length terms / width) terms ≡ row ∷ [])
    (typed : accepts_terms terms (stamped table params) ≡ true)
    (is_new : with_rowid Chosen (db table.tree) (cast_row table row) ≡ new) where
  abbrev task : Task
  task = record {
    limit = limit;
    keys = Enforced;
    schema = schema;
    table = table;
    params = params;
  }

  abbrev pub adding : Edit
  adding = record { table = table; gone = []; news = new ∷ [] }

  ids_are : (counter : Option Row) → rowids_for table (count_of counter) ≡ Chosen
  ids_are counter = ap (λ b. cond b (Above (count_of counter)) Chosen) uncounted

  is_adding : (rows : List Row) (counter : Option Row) → rows ≡ row ∷ []
      → edit_of db table [] (rowids_for table (count_of counter)) 0 rows ≡ adding
  is_adding rows counter are =
      ap (λ all. edit_of db table [] (rowids_for table (count_of counter)) 0 all) are
      ∙ (ap (λ ids. edit_of db table [] ids 0 (row ∷ [])) (ids_are counter)
      ∙ ap (λ (r : Row). record { table = table; gone = []; news = r ∷ [] }) is_new)

  module _ (allowed : IsAllowed schema Enforced db adding)
      (refers : (next : Trees) → Applies schema Enforced db adding next → Refers All schema next)
    where
      inserted : (stop : Option Error) → Inserts task (Values terms width) db (Err stop)
          → IsSome limit
      inserted stop (inl (None, none, is)) = absurd none
      inserted stop (inl (Some e, inl ill, is)) = absurd (true≢false (sym typed ∙ ill.1))
      inserted stop (inl (Some e, inr limited, is)) = limited.1
      inserted stop (inr (rows, source, inl (why, counter, is))) =
          absurd (let e = if_not _ _ _ uncounted counter in cc)
      inserted stop (inr
          (rows, source, inr (counter, counted, inl (why, (what, stops, are), is)))) =
          absurd (never_stops schema Enforced db adding allowed
          (no_works schema Enforced 0 table.tree (new ∷ [])) what
          (subst (λ (d : Edit). Writes schema Enforced db d (Err what))
          (is_adding rows counter (source.1 ∙ given)) stops))
      inserted stop (inr
          (rows, source, inr (counter, counted, inr (mid, made, inl (why, counts, is))))) =
          absurd (let e = if_not _ _ _ (counts_none _ uncounted _ _) counts in cc)
      inserted stop (inr
          (rows, source, inr (counter, counted, inr (mid, made, inr (next, counts, is))))) =
          absurd (let e = is in cc)

      referring : (w : Written) → Inserts task (Values terms width) db (Ok w)
          → Refers All schema w.trees
      referring w h =
          let source = went h in
          let counter = went source.2 in
          let made = went counter.2 in
          let counted = went made.2 in
          let kept : Ok counted.0 ≡ Ok made.0 =
          if_not _ _ _ (counts_none _ uncounted _ _) counted.1 in
          let trees : w.trees ≡ made.0 =
          ap (λ (it : Written). it.trees) (same_value counted.2) ∙ same_value kept in
          subst (Refers All schema) (sym trees)
          (refers made.0 (one_step schema Enforced db made.0 adding
          (no_works schema Enforced 0 table.tree (new ∷ []))
          (subst (λ (d : Edit). Writes schema Enforced db d (Ok made.0))
          (is_adding source.0 counter.0 (source.1.1 ∙ given)) made.1)))

      pub insert_stops : (stop : Option Error)
          → OnRows task at_once None (Insert at (Values terms width)) db (Err stop) → IsSome limit
      insert_stops stop (inl (why, inserts, is)) = inserted why inserts
      insert_stops stop (inr (w, inserts, ends)) =
          absurd (concluded task at_once refl w stop (referring w inserts) ends)
