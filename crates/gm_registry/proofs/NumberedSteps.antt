-- How many rows each statement numbers.
use Rattle.gm_registry.proofs.Common.{◌≡◌, inl, inr, ℕ, pos, ◌+◌, List, [], ◌∷◌, Option, None, Result, Ok, Err, OnOk, IsTrue, refl, sym, ap, subst, ◌∙◌, arith, Row, Trees, Schema, Command, Insert, Values, Does, Tally, Database, understood, State, Runs, Writes, ExecutesInside, Error, Null, Int, Text, Blob, statement_of, runs_as, put_row, rowid, next_rowid, all_has, all_from, has_filtered, put_has, TakesMore, next_is, fewer_take, gains, drops, clears, upserts, at_once, Tables, MirrorRow, ComponentRow, IntentRow, CommandRow, mirror_values, component_values, intent_values, command_values, patch_values, mirrors, mirrors_by_name, components, components_by_prov, intents, commands, patches, registry_schema, HasRows, IsInside, HasRoom}
use Rattle.sqlite_rules.specs.Lists.{Has}
use Rattle.gm_registry.proofs.ChangedTables.{idle, mirror_typed, component_typed, intent_typed, intent_params, command_typed, patch_typed, only_mirrors, only_components}
use Rattle.gm_registry.proofs.TextMeanings.{Means, nine_terms, updated, upsert, by_key, drop, clear, intent_terms, command_terms, patch_terms}

abbrev pub StepNumbers : Command → Row → ℕ → Type 0
StepNumbers command params count =
    (db : Trees) (t : Tables) (limit : Option ℕ) (text : List ℕ) (tally : Tally) (after : Database)
    → HasRows db t → Does limit at_once params (record { schema = registry_schema; trees = db })
    text None command (Ok (tally, after)) → (more : ℕ) → HasRoom (more + count) db
    → HasRoom more after.trees

module _ (text : List ℕ) (params : Row) (command : Command) (means : Means text command)
    (writes : (old new : State) (statement : List ℕ) (n : ℕ)
    → Runs old new None command statement params n → Writes old new None command statement params n)
    (count : ℕ) (step : StepNumbers command params count) where
  pub numbers_inside : (old new : State) (x : Result ℕ Error)
      → (IsTrue old.in_transaction → ExecutesInside 0 text params old new x)
      → OnOk x ((first : Database) (t : Tables) → IsInside first old t → (more : ℕ)
      → HasRoom (more + count) old.now.trees → HasRoom more new.now.trees)
  numbers_inside old new (Ok n) h = λ first t was.
      let w = writes old new _ n (runs_as text params old new registry_schema was.schema_is command
      means.command_is means.plain n (h was.inside).0) in
      step old.now.trees t old.step_limit _ w.tally new.now was.tables.rows
      (subst (λ (schema : Schema). Does old.step_limit at_once params
      (record { schema = schema; trees = old.now.trees })
      (statement_of text (understood registry_schema text)) None command (Ok (w.tally, new.now)))
      was.schema_is w.changed)
  numbers_inside old new (Err e) h = tt

-- of rows that stay
pub stay_numbered : (more count : ℕ) (rows now : List Row) → now ≡ rows
    → TakesMore (more + count) rows
    → TakesMore more now
stay_numbered more count rows now same takes =
    let room = takes.room in
    subst (TakesMore more) (sym same)
    (record { last = takes.last; up_to = takes.up_to; room = omega arith })

-- after a row that was numbered after them all
put_fewer : (new : Row) (rows some : List Row) (more : ℕ) → rowid new ≡ Int (next_rowid rows)
    → ((x : Row) → Has some x → Has rows x) → TakesMore (more + 1) rows
    → TakesMore more (put_row new some)
put_fewer new rows some more is among takes =
    let next = next_is takes.last rows takes.up_to in
    let room = takes.room in
    record {
      last = takes.last + 1;
      up_to = all_from _ (put_row new some) (λ x there. elim (put_has new some x there) [
        | inl same ↦ (next.0, ap rowid same ∙ (is ∙ ap Int next.1), next.2)
        | inr was ↦ let it = all_has _ rows x takes.up_to (among x was) in
            (it.0, it.1, omega (arith, it.2))
      ]);
      room = omega arith;
    }

-- after a row with the number of one that was there
old_takes : (new : Row) (rows some : List Row) (more : ℕ) (r : Row) → Has rows r → rowid r
    ≡ rowid new
    → ((x : Row) → Has some x → Has rows x) → TakesMore (more + 1) rows
    → TakesMore more (put_row new some)
old_takes new rows some more r has is among takes =
    let room = takes.room in
    record {
      last = takes.last;
      up_to = all_from _ (put_row new some) (λ x there. elim (put_has new some x there) [
        | inl same ↦
            let it = all_has _ rows r takes.up_to has in
            (it.0, ap rowid same ∙ (sym is ∙ it.1), it.2)
        | inr was ↦ all_has _ rows x takes.up_to (among x was)
      ]);
      room = omega arith;
    }

-- a component is put: after the others, or in place of one
pub put_component_numbers : (k : ComponentRow) → StepNumbers (upsert 2 4) (component_values k) 1
put_component_numbers k db t limit text tally after holds h more room =
    let rest : Row = Text k.mirror ∷ Int (pos k.did) ∷ Int (pos k.syncid) ∷ Int (pos k.priority)
    ∷ Int (pos k.sync_offset) ∷ Int (pos k.dflags) ∷ Int (pos k.hard) ∷ Int (pos k.provsize)
    ∷ [] in
    let made = upserts registry_schema components (inr (inr (inl refl))) components_by_prov
    (inr (inr (inl refl))) refl refl refl limit at_once (idle 4) refl k.prov rest
    (component_values k) (component_typed k)
    9 updated (λ there more. refl) (λ there id row. refl) only_components 2 10 nine_terms refl
    db after tally holds.components.keyed h in
    record {
      mirrors = stay_numbered more 1 (db 1) (after.trees 1)
          (made.tables.1.0 (λ e. let f : 1 ≡ 4 = e in cc)) room.mirrors;
      components = subst (TakesMore more) (sym made.rows) (elim made.numbered_by [
        | inl is ↦ put_fewer made.new (db 4) _ more is (λ x has. (has_filtered _ (db 4) x has).0)
            room.components
        | inr old ↦ old_takes made.new (db 4) _ more old.0 old.1 old.2
            (λ x has. (has_filtered _ (db 4) x has).0) room.components
      ]);
      commands = stay_numbered more 1 (db 8) (after.trees 8)
          (made.tables.1.1.1.1.0 (λ e. let f : 8 ≡ 4 = e in cc)) room.commands;
    }

-- so is a mirror
pub put_mirror_numbers : (m : MirrorRow) → StepNumbers (upsert 1 1) (mirror_values m) 1
put_mirror_numbers m db t limit text tally after holds h more room =
    let rest : Row = Int (pos m.mid) ∷ Int (pos m.total) ∷ Int (pos m.genid) ∷ Int (pos m.syncid)
    ∷ Int (pos m.slice) ∷ Int (pos m.balance) ∷ Int (pos m.mediasize) ∷ Int (pos m.mflags)
    ∷ [] in
    let made = upserts registry_schema mirrors (inr (inl refl)) mirrors_by_name (inl refl) refl refl
    refl limit at_once (idle 1) refl m.name rest (mirror_values m) (mirror_typed m)
    9 updated (λ there more. refl) (λ there id row. refl) only_mirrors 1 10 nine_terms refl
    db after tally holds.mirrors.keyed h in
    record {
      mirrors = subst (TakesMore more) (sym made.rows) (elim made.numbered_by [
        | inl is ↦ put_fewer made.new (db 1) _ more is (λ x has. (has_filtered _ (db 1) x has).0)
            room.mirrors
        | inr old ↦ old_takes made.new (db 1) _ more old.0 old.1 old.2
            (λ x has. (has_filtered _ (db 1) x has).0) room.mirrors
      ]);
      components = stay_numbered more 1 (db 4) (after.trees 4)
          (made.tables.1.1.0 (λ e. let f : 4 ≡ 1 = e in cc)) room.components;
      commands = stay_numbered more 1 (db 8) (after.trees 8)
          (made.tables.1.1.1.1.0 (λ e. let f : 8 ≡ 1 = e in cc)) room.commands;
    }

-- a command is added
pub put_command_numbers : (c : CommandRow)
    → StepNumbers (Insert 4 (Values command_terms 6)) (command_values c) 1
put_command_numbers c db t limit text tally after holds h more room =
    let made = gains registry_schema 4 commands refl command_terms 6 (command_values c)
    (Null ∷ command_values c) refl (command_typed c) limit at_once db after text tally h in
    record {
      mirrors = stay_numbered more 1 (db 1) (after.trees 1)
          (made.tables.1.0 (λ e. let f : 1 ≡ 8 = e in cc)) room.mirrors;
      components = stay_numbered more 1 (db 4) (after.trees 4)
          (made.tables.1.1.0 (λ e. let f : 4 ≡ 8 = e in cc)) room.components;
      commands = subst (TakesMore more) (sym made.rows)
          (put_fewer made.new (db 8) (db 8) more (sym (ap rowid made.numbered_by)) (λ x has. has)
          room.commands);
    }

-- an intent has its own number
pub put_intent_numbers : (i : IntentRow)
    → StepNumbers (Insert 3 (Values intent_terms 7)) (intent_params i) 0
put_intent_numbers i db t limit text tally after holds h more room =
    let made = gains registry_schema 3 intents refl intent_terms 7 (intent_params i)
    (intent_values i) refl (intent_typed i) limit at_once db after text tally h in
    record {
      mirrors = stay_numbered more 0 (db 1) (after.trees 1)
          (made.tables.1.0 (λ e. let f : 1 ≡ 7 = e in cc)) room.mirrors;
      components = stay_numbered more 0 (db 4) (after.trees 4)
          (made.tables.1.1.0 (λ e. let f : 4 ≡ 7 = e in cc)) room.components;
      commands = stay_numbered more 0 (db 8) (after.trees 8)
          (made.tables.1.1.1.1.0 (λ e. let f : 8 ≡ 7 = e in cc)) room.commands;
    }

-- the record of bytes has its own number
pub put_patch_numbers : (bytes : List ℕ)
    → StepNumbers (Insert 5 (Values patch_terms 3)) (Blob bytes ∷ []) 0
put_patch_numbers bytes db t limit text tally after holds h more room =
    let made = gains registry_schema 5 patches refl patch_terms 3 (Blob bytes ∷ [])
    (patch_values bytes) refl (patch_typed bytes) limit at_once db after text tally h in
    record {
      mirrors = stay_numbered more 0 (db 1) (after.trees 1)
          (made.tables.1.0 (λ e. let f : 1 ≡ 11 = e in cc)) room.mirrors;
      components = stay_numbered more 0 (db 4) (after.trees 4)
          (made.tables.1.1.0 (λ e. let f : 4 ≡ 11 = e in cc)) room.components;
      commands = stay_numbered more 0 (db 8) (after.trees 8)
          (made.tables.1.1.1.1.0 (λ e. let f : 8 ≡ 11 = e in cc)) room.commands;
    }

-- what is deleted numbers none
pub drop_bytes_numbers : StepNumbers (clear 5 11) [] 0
drop_bytes_numbers db t limit text tally after holds h more room =
    let made = clears registry_schema 5 patches limit at_once []
    (λ olds. idle 11 olds []) db after tally holds.patches.keyed h in
    record {
      mirrors = stay_numbered more 0 (db 1) (after.trees 1)
          (made.tables.1.0 (λ e. let f : 1 ≡ 11 = e in cc)) room.mirrors;
      components = stay_numbered more 0 (db 4) (after.trees 4)
          (made.tables.1.1.0 (λ e. let f : 4 ≡ 11 = e in cc)) room.components;
      commands = stay_numbered more 0 (db 8) (after.trees 8)
          (made.tables.1.1.1.1.0 (λ e. let f : 8 ≡ 11 = e in cc)) room.commands;
    }

pub drop_intents_numbers : StepNumbers (clear 3 7) [] 0
drop_intents_numbers db t limit text tally after holds h more room =
    let made = clears registry_schema 3 intents limit at_once []
    (λ olds. idle 7 olds []) db after tally holds.intents.keyed h in
    record {
      mirrors = stay_numbered more 0 (db 1) (after.trees 1)
          (made.tables.1.0 (λ e. let f : 1 ≡ 7 = e in cc)) room.mirrors;
      components = stay_numbered more 0 (db 4) (after.trees 4)
          (made.tables.1.1.0 (λ e. let f : 4 ≡ 7 = e in cc)) room.components;
      commands = stay_numbered more 0 (db 8) (after.trees 8)
          (made.tables.1.1.1.1.0 (λ e. let f : 8 ≡ 7 = e in cc)) room.commands;
    }

pub drop_component_numbers : (prov : List ℕ) → StepNumbers (drop 2 4) (Text prov ∷ []) 0
drop_component_numbers prov db t limit text tally after holds h more room =
    let made = drops registry_schema 2 components limit at_once (Text prov ∷ [])
    (λ olds. idle 4 olds []) by_key db after tally holds.components.keyed h in
    record {
      mirrors = stay_numbered more 0 (db 1) (after.trees 1)
          (made.tables.1.0 (λ e. let f : 1 ≡ 4 = e in cc)) room.mirrors;
      components = subst (TakesMore more) (sym made.rows)
          (fewer_take _ (db 4) more (stay_numbered more 0 (db 4) (db 4) refl room.components));
      commands = stay_numbered more 0 (db 8) (after.trees 8)
          (made.tables.1.1.1.1.0 (λ e. let f : 8 ≡ 4 = e in cc)) room.commands;
    }

pub drop_mirror_numbers : (name : List ℕ) → StepNumbers (drop 1 1) (Text name ∷ []) 0
drop_mirror_numbers name db t limit text tally after holds h more room =
    let made = drops registry_schema 1 mirrors limit at_once (Text name ∷ [])
    (λ olds. idle 1 olds []) by_key db after tally holds.mirrors.keyed h in
    record {
      mirrors = subst (TakesMore more) (sym made.rows)
          (fewer_take _ (db 1) more (stay_numbered more 0 (db 1) (db 1) refl room.mirrors));
      components = stay_numbered more 0 (db 4) (after.trees 4)
          (made.tables.1.1.0 (λ e. let f : 4 ≡ 1 = e in cc)) room.components;
      commands = stay_numbered more 0 (db 8) (after.trees 8)
          (made.tables.1.1.1.1.0 (λ e. let f : 8 ≡ 1 = e in cc)) room.commands;
    }
