-- What the table of bytes and the new number make of a registry of the first schema, and why its
-- statements fail: no rule refuses them.
use Rattle.gm_registry.proofs.Common.{◌≡◌, ◌∙◌, inl, inr, ℕ, Bool, true, false, List, [], ◌∷◌, Option, None, Result, Ok, Err, OnOk, IsTrue, IsSome, refl, sym, ap, subst, Row, Trees, Schema, col, Does, Database, State, mode_of, ExecutesInside, Error, statement_of, runs_as, references_fit, Unique, ForeignKey, ProgramOverflows, IsShaped, accepts_program, clears, none_left, is_all_of, scan, inside_fault, clear_stops, OnOther, about_numbered, about, patches, first_schema, registry_schema, drop_about_text, patches_text, HasAbout, IsBeingMade, IsFirstInside}
use Rattle.sqlite.specs.Listing.{understood}
use Rattle.sqlite_schema.specs.Names.{same_name}
use Rattle.sqlite_tied.specs.Compute.{everything}
use Rattle.sqlite_trees.specs.declared.store.Shape.TheVariants as shape
use Rattle.sqlite_value.specs.Keys.{joined}
use Rattle.gm_registry.proofs.ChangedTables.{idle}
use Rattle.gm_registry.proofs.CreatableTables.{makes_patches}
use Rattle.gm_registry.proofs.Failures.{never, told}
use Rattle.gm_registry.proofs.FittingTables.{apart, refers}
use Rattle.gm_registry.proofs.MadeTables.{now_sound, one_table}
use Rattle.gm_registry.proofs.MakingFails.{none_made, table_fails}
use Rattle.gm_registry.proofs.StepsInTurn.{Failed}
use Rattle.gm_registry.proofs.TextMeanings.{clear, drop_about_is, patches_is}

-- ---- the table of bytes

patches_made : (first : Database) (old new : State) (count : ℕ) → IsFirstInside first old
    → ExecutesInside 0 patches_text [] old new (Ok count)
    → IsBeingMade (about_numbered 1 ∷ []) first.trees first new
patches_made first old new count was h =
    let over = was.over in
    let made = one_table old new patches_text first_schema registry_schema patches count patches_is
    refl over.schema_is h in
    let seen = ap (λ (d : Database). d.trees) was.seen in
    record {
      is_open = made.1.shown.is_open;
      inside = made.1.shown.mode ∙ over.inside;
      first_is = h.1.committed_is ∙ over.first_is;
      schema_is = made.0.schema_is;
      sound = now_sound new made.0.schema_is made.1.sound;
      about_is = made.0.others.0 ∙ (ap (λ (t : Trees). t 0) seen ∙ was.about);
      mirrors = made.0.others.1.0 ∙ ap (λ (t : Trees). t 1) seen;
      components = made.0.others.1.1.0 ∙ ap (λ (t : Trees). t 4) seen;
      intents = made.0.others.1.1.1.0 ∙ ap (λ (t : Trees). t 7) seen;
      commands = made.0.others.1.1.1.1.0 ∙ ap (λ (t : Trees). t 8) seen;
      patches = made.0.empty;
    }

pub at_patches : (old new : State) (x : Result ℕ Error)
    → (IsTrue old.in_transaction → ExecutesInside 0 patches_text [] old new x)
    → OnOk x ((first : Database) → IsFirstInside first old
    → IsBeingMade (about_numbered 1 ∷ []) first.trees first new)
at_patches old new (Ok count) h =
    λ first was. patches_made first old new count was (h (rw (was.over.inside)))
at_patches old new (Err e) h = tt

pub patches_fail : (old new : State) (x : Result ℕ Error)
    → (IsTrue old.in_transaction → ExecutesInside 0 patches_text [] old new x)
    → OnOther x ((first : Database) → IsFirstInside first old → Failed old new)
patches_fail old new (Ok count) h = tt
patches_fail old new (Err e) h = λ is first was.
    table_fails makes_patches (none_made was.over) h is

-- ---- the record of `about` goes

one_row : (rows : List Row) → rows ≡ about_numbered 1 ∷ [] → IsShaped shape.Table rows
one_row rows is = subst (IsShaped shape.Table) (sym is) ((tt, tt), (refl, tt))

about_dropped : (rows : Trees) (first : Database) (old new : State) (count : ℕ)
    → IsBeingMade (about_numbered 1 ∷ []) rows first old
    → ExecutesInside 0 drop_about_text [] old new (Ok count)
    → IsBeingMade [] rows first new
about_dropped rows first old new count was h =
    let w = runs_as drop_about_text [] old new registry_schema was.schema_is (clear 0 0)
    drop_about_is.command_is drop_about_is.plain count h.0 in
    let made = clears registry_schema 0 about old.step_limit (mode_of old) []
    (λ olds. idle 0 olds []) old.now.trees new.now w.tally
    (one_row (old.now.trees 0) was.about_is)
    (subst (λ (schema : Schema). Does old.step_limit (mode_of old) []
    (record { schema = schema; trees = old.now.trees })
    (statement_of drop_about_text (understood registry_schema drop_about_text)) None (clear 0 0)
    (Ok (w.tally, new.now))) was.schema_is w.changed) in
    record {
      is_open = w.shown.is_open;
      inside = w.shown.mode ∙ was.inside;
      first_is = h.1.committed_is ∙ was.first_is;
      schema_is = made.schema_is;
      sound = now_sound new made.schema_is w.sound;
      about_is = made.rows ∙ none_left (old.now.trees 0);
      mirrors = made.tables.1.0 (λ e. let f : 1 ≡ 0 = e in cc) ∙ was.mirrors;
      components = made.tables.1.1.0 (λ e. let f : 4 ≡ 0 = e in cc) ∙ was.components;
      intents = made.tables.1.1.1.0 (λ e. let f : 7 ≡ 0 = e in cc) ∙ was.intents;
      commands = made.tables.1.1.1.1.0 (λ e. let f : 8 ≡ 0 = e in cc) ∙ was.commands;
      patches = made.tables.1.1.1.1.1.0 (λ e. let f : 11 ≡ 0 = e in cc) ∙ was.patches;
    }

pub at_dropped : (old new : State) (x : Result ℕ Error)
    → (IsTrue old.in_transaction → ExecutesInside 0 drop_about_text [] old new x)
    → OnOk x ((over : Trees × Database) → HasAbout (about_numbered 1 ∷ []) over old
    → HasAbout [] over new)
at_dropped old new (Ok count) h =
    λ over was. about_dropped over.0 over.1 old new count was (h (rw was.inside))
at_dropped old new (Err e) h = tt

about_whole : is_all_of drop_about_text 0 (understood registry_schema drop_about_text) ≡ true
unfolding understood everything
about_whole = refl

about_typed : accepts_program registry_schema [] (scan 0 [] (col 1 0 ∷ []) []) [] ≡ true
unfolding everything
about_typed = refl

about_safe : (db : Trees) → ProgramOverflows db [] [] [] (scan 0 [] (col 1 0 ∷ []) []) → ⊥
about_safe db (inl none) = none
about_safe db (inr over) = never (db 0) over

about_referred : (gone : Bool) → references_fit registry_schema about false gone ≡ true
unfolding same_name joined
about_referred true = refl
about_referred false = refl

drop_stops : (rows : Trees) (first : Database) (s : State) (text : List ℕ) (stop : Option Error)
    → IsBeingMade (about_numbered 1 ∷ []) rows first s
    → Does s.step_limit (mode_of s) [] s.now text None (clear 0 0) (Err stop)
    → IsSome s.step_limit
drop_stops rows first s text stop was does =
    let db = s.now.trees in
    clear_stops registry_schema 0 about (inl refl) apart (λ olds. idle 0 olds []) s.step_limit []
    db (one_row (db 0) was.about_is) (was.sound.obeys.rules Unique) about_typed (about_safe db)
    (λ rows. about_referred _)
    (λ next lost. refers db next (lost.tables.1.0 (λ e. let f : 1 ≡ 0 = e in cc))
    (lost.tables.1.1.0 (λ e. let f : 4 ≡ 0 = e in cc)) (was.sound.obeys.rules ForeignKey)) stop
    (subst (λ (schema : Schema). Does s.step_limit (mode_of s) []
    (record { schema = schema; trees = db }) text None (clear 0 0) (Err stop)) was.schema_is does)

pub drop_fails : (old new : State) (x : Result ℕ Error)
    → (IsTrue old.in_transaction → ExecutesInside 0 drop_about_text [] old new x)
    → OnOther x ((over : Trees × Database) → HasAbout (about_numbered 1 ∷ []) over old
    → Failed old new)
drop_fails old new (Ok count) h = tt
drop_fails old new (Err e) h = λ is over was.
    told old new e (inside_fault registry_schema drop_about_text [] (clear 0 0)
    drop_about_is.command_is drop_about_is.plain about_whole refl refl old new e was.schema_is
    (λ stop. drop_stops over.0 over.1 old (statement_of drop_about_text
    (understood registry_schema drop_about_text)) stop was) was.is_open (h was.inside)) is
