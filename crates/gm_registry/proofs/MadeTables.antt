-- What the six CREATE TABLEs and the record of `about` make of a store without tables.
use Rattle.gm_registry.proofs.Common.{◌≡◌, ◌≢◌, ℕ, true, false, List, [], ◌∷◌, pos, None, Result, Ok, Err, OnOk, IsTrue, refl, sym, ap, subst, ◌∙◌, AllByRecursion, IsPermutation-refl, Table, Schema, CreateTable, Tally, Does, lacks_sequence, Database, IsDatabase, Row, Trees, IsSound, understood, State, mode_of, Writes, ExecutesInside, Held, state, lit, Null, Int, Error, statement_of, runs_as, put_row, Keeps, columns, whole, cast_null, cast_int, gains, keeps_none, about_text, mirrors_text, components_text, intents_text, commands_text, patches_text, put_about_text, about, mirrors, components, intents, commands, patches, no_schema, with_about, with_mirrors, first_schema, registry_schema, about_values, mirror_values, component_values, intent_values, command_values, patch_values, IsInside, no_tables, AreNumbered, HasAbout, no_rows, IsBeingMade, IsBlank, IsBlankInside, IsInsideOver}
use Rattle.sqlite_trees.specs.declared.store.Store as store
use Rattle.sqlite_rows.proofs.Creating.{Creates, creates}
use Rattle.gm_rows.specs.Schema.{with_components, with_intents}
use Rattle.gm_registry.proofs.TextMeanings.{Defines, about_is, mirrors_is, components_is, intents_is, commands_is, patches_is, put_about, put_about_is}

-- one CREATE of a table that the text defines
pub one_table : (a b : State) (text : List ℕ) (before after : Schema) (table : Table) (count : ℕ)
    → Defines before after text table → lacks_sequence after ≡ false → a.now.schema ≡ before
    → ExecutesInside 0 text [] a b (Ok count)
    → Creates before after a.now b.now × Writes a b None CreateTable text [] count
one_table a b text before after table count it whole has h =
    creates a b text before after (record table { tree = 0 }) it.table_is it.schema_is whole
    it.command it.alone it.plain count has h

-- the tables that are there then
pub one_more : (before after : Schema) (text : List ℕ) (table : Table)
    → Defines before after text table → lacks_sequence after ≡ false → (first : Database)
    (a b : State) (count : ℕ) → IsInsideOver before first a
    → ExecutesInside 0 text [] a b (Ok count)
    → IsInsideOver after first b
one_more before after text table it whole first a b count was h =
    let made = one_table a b text before after table count it whole was.schema_is h in
    record {
      is_open = made.1.shown.is_open;
      inside = made.1.shown.mode ∙ was.inside;
      first_is = h.1.committed_is ∙ was.first_is;
      schema_is = made.0.schema_is;
    }

-- what was written is sound
pub now_sound : (s : State) → s.now.schema ≡ registry_schema → IsDatabase s.now
    → IsSound registry_schema s.now.trees
now_sound s has sound = subst (λ (schema : Schema). IsSound schema s.now.trees) has sound

pub tables_made : (first : Database) (a b c d e f i : State) (k l m n o j : ℕ)
    → IsBlankInside first a
    → ExecutesInside 0 about_text [] a b (Ok k) → ExecutesInside 0 mirrors_text [] b c (Ok l)
    → ExecutesInside 0 components_text [] c d (Ok m) → ExecutesInside 0 intents_text [] d e (Ok n)
    → ExecutesInside 0 commands_text [] e f (Ok o) → ExecutesInside 0 patches_text [] f i (Ok j)
    → IsBeingMade [] no_rows first i
tables_made first a b c d e f i k l m n o j was one two three four five six =
    let p = one_table a b about_text no_schema with_about about k about_is refl was.schema_is one in
    let q = one_table b c mirrors_text with_about with_mirrors mirrors l mirrors_is refl
    p.0.schema_is two in
    let r = one_table c d components_text with_mirrors with_components components m components_is
    refl q.0.schema_is three in
    let s = one_table d e intents_text with_components with_intents intents n intents_is refl
    r.0.schema_is four in
    let t = one_table e f commands_text with_intents first_schema commands o commands_is refl
    s.0.schema_is five in
    let u = one_table f i patches_text first_schema registry_schema patches j patches_is refl
    t.0.schema_is six in
    record {
      is_open = u.1.shown.is_open;
      inside = u.1.shown.mode ∙ t.1.shown.mode ∙ s.1.shown.mode ∙ r.1.shown.mode ∙ q.1.shown.mode
          ∙ p.1.shown.mode
          ∙ was.inside;
      first_is = six.1.committed_is ∙ five.1.committed_is ∙ four.1.committed_is
          ∙ three.1.committed_is
          ∙ two.1.committed_is ∙ one.1.committed_is ∙ was.first_is;
      schema_is = u.0.schema_is;
      sound = now_sound i u.0.schema_is u.1.sound;
      about_is = u.0.others.0 ∙ t.0.others.0 ∙ s.0.others.0 ∙ r.0.others.0 ∙ q.0.others.0
          ∙ p.0.empty;
      mirrors = u.0.others.1.0 ∙ t.0.others.1.0 ∙ s.0.others.1.0 ∙ r.0.others.1.0 ∙ q.0.empty;
      components = u.0.others.1.1.0 ∙ t.0.others.1.1.0 ∙ s.0.others.1.1.0 ∙ r.0.empty;
      intents = u.0.others.1.1.1.0 ∙ t.0.others.1.1.1.0 ∙ s.0.empty;
      commands = u.0.others.1.1.1.1.0 ∙ t.0.empty;
      patches = u.0.empty;
    }

-- the row of `about`, whose rowid is given
puts_about : (s : State) (after : Database) (text : List ℕ) (tally : Tally)
    → s.now.schema ≡ registry_schema → s.now.trees 0 ≡ []
    → Does s.step_limit (mode_of s) [] s.now text None put_about (Ok (tally, after))
    → (after.schema ≡ registry_schema) × (after.trees 0 ≡ about_values ∷ [])
    × AllByRecursion (λ t. t.tree ≢ 0
    → after.trees t.tree ≡ s.now.trees t.tree) registry_schema.tables
puts_about s after text tally has none h =
    let made = gains registry_schema 0 about refl (lit (Int (pos 1)) ∷ lit Null ∷ lit (Int (pos 2))
    ∷ []) 3 [] about_values refl (rw (cast_int (pos 1), cast_null, cast_int (pos 2))) s.step_limit
    (mode_of s) s.now.trees after text tally
    (subst (λ (schema : Schema). Does s.step_limit (mode_of s) []
    (record { schema = schema; trees = s.now.trees }) text None put_about (Ok (tally, after)))
    has h) in (
      made.schema_is,
      made.rows ∙ (ap (put_row made.new) none ∙ ap (λ r. r ∷ []) (made.given refl)),
      made.tables,
    )

pub about_made : (rows : Trees) (first : Database) (old new : State) (count : ℕ)
    → IsBeingMade [] rows first old → ExecutesInside 0 put_about_text [] old new (Ok count)
    → IsBeingMade (about_values ∷ []) rows first new
about_made rows first old new count was h =
    let w = runs_as put_about_text [] old new registry_schema was.schema_is put_about
    put_about_is.command_is put_about_is.plain count h.0 in
    let made = puts_about old new.now (statement_of put_about_text
    (understood registry_schema put_about_text)) w.tally was.schema_is was.about_is w.changed in
    record {
      is_open = w.shown.is_open;
      inside = w.shown.mode ∙ was.inside;
      first_is = h.1.committed_is ∙ was.first_is;
      schema_is = made.0;
      sound = now_sound new made.0 w.sound;
      about_is = made.1;
      mirrors = made.2.1.0 (λ e. let f : 1 ≡ 0 = e in cc) ∙ was.mirrors;
      components = made.2.1.1.0 (λ e. let f : 4 ≡ 0 = e in cc) ∙ was.components;
      intents = made.2.1.1.1.0 (λ e. let f : 7 ≡ 0 = e in cc) ∙ was.intents;
      commands = made.2.1.1.1.1.0 (λ e. let f : 8 ≡ 0 = e in cc) ∙ was.commands;
      patches = made.2.1.1.1.1.1.0 (λ e. let f : 11 ≡ 0 = e in cc) ∙ was.patches;
    }

pub at_about : (old new : State) (x : Result ℕ Error)
    → (IsTrue old.in_transaction → ExecutesInside 0 put_about_text [] old new x)
    → OnOk x ((over : Trees × Database) → HasAbout [] over old
    → HasAbout (about_values ∷ []) over new)
at_about old new (Ok count) h =
    λ over was. about_made over.0 over.1 old new count was (h (rw was.inside))
at_about old new (Err e) h = tt

-- with the row of `about`, and no others, the tables hold no record
pub none_made : (first : Database) (s : State) → IsBeingMade (about_values ∷ []) no_rows first s
    → IsInside first s no_tables
none_made first s was = record {
  is_open = was.is_open;
  inside = was.inside;
  first_is = was.first_is;
  schema_is = was.schema_is;
  tables = record {
    rows = record {
      about = was.about_is;
      mirrors = none_kept columns mirror_values (s.now.trees 1) was.mirrors;
      components = none_kept columns component_values (s.now.trees 4) was.components;
      intents = none_kept whole intent_values (s.now.trees 7) was.intents;
      commands = none_kept columns command_values (s.now.trees 8) was.commands;
      patches = none_kept whole patch_values (s.now.trees 11) was.patches;
    };
    sound = was.sound;
  };
}
  where
    none_kept : {A : Type 0} (part : Row → Row) (values : A → Row) (rows : List Row) → rows ≡ []
        → Keeps part values [] rows
    none_kept part values rows none =
        subst (Keeps part values []) (sym none) (keeps_none part values)

pub blank_begun : {S : Type 0} (g : store.Ghosts S) (old : Held S) → IsBlank (state g old)
    → IsBlankInside (state g old).committed (state g (record old { in_transaction = true }))
blank_begun g old was = record {
  is_open = was.is_open;
  inside = refl;
  first_is = refl;
  schema_is = was.schema_is;
}

pub none_numbered : AreNumbered []
none_numbered = IsPermutation-refl []
