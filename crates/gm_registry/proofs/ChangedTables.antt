-- What each statement that writes makes of the tables.
use Rattle.gm_registry.proofs.Common.{◌≡◌, ◌≢◌, ℕ, pos, Bool, true, false, ◌&&◌, ◌||◌, ◌==◌, List, [], ◌∷◌, flat_map, filter_map, length, Some, None, Ok, refl, sym, subst, ◌∙◌, inl, inr, AllByRecursion, Row, column, Binary, Null, Int, Text, Blob, Enforced, equal, parent_key, conflicts, Command, Insert, Values, Schema, Trees, Tally, Does, Database, State, mode_of, Keeps, columns, whole, cast_null, cast_int, gains, drops, clears, none_left, upserts, keeps_none, keeps_put, keeps_without, Makes, without, Tables, MirrorRow, ComponentRow, IntentRow, CommandRow, mirrors, components, intents, commands, patches, mirrors_by_name, components_by_prov, registry_schema, mirror_values, component_values, intent_values, command_values, patch_values, HasRows, mirror_key, component_key, without_mirror, with_mirror, without_component, with_component, with_intents, with_command, with_patch, without_intents, without_bytes}
use Rattle.sqlite_value.specs.Keys.{first_key}
use Rattle.sqlite_rules.specs.Action.{works, work_by, pairs, deed_for}
use Rattle.sqlite.specs.Cast.{cast_all, cast_row}
use Rattle.gm_registry.proofs.TextMeanings.{nine_terms, updated, upsert, by_key, drop, intent_terms, command_terms, patch_terms, clear}

-- every other table is as it was
abbrev AreOther : ℕ → Trees → Trees → Type 0
AreOther tree db after = AllByRecursion (λ t. t.tree ≢ tree
    → after t.tree ≡ db t.tree) registry_schema.tables

stays : {A : Type 0} (part : Row → Row) (row_of : A → Row) (all : List A) (rows now : List Row)
    → now ≡ rows → Keeps part row_of all rows → Keeps part row_of all now
stays part row_of all rows now same = subst (Keeps part row_of all) (sym same)

mirrors_changed : (db after : Trees) (t : Tables) (all : List MirrorRow) → HasRows db t
    → AreOther 1 db after → Keeps columns mirror_values all (after 1)
    → HasRows after (record t { mirrors = all })
mirrors_changed db after t all h other k = record {
  about = other.0 (λ e. let f : 0 ≡ 1 = e in cc) ∙ h.about;
  mirrors = k;
  components = stays columns component_values t.components (db 4) (after 4)
      (other.1.1.0 (λ e. let f : 4 ≡ 1 = e in cc)) h.components;
  intents = stays whole intent_values t.intents (db 7) (after 7)
      (other.1.1.1.0 (λ e. let f : 7 ≡ 1 = e in cc)) h.intents;
  commands = stays columns command_values t.commands (db 8) (after 8)
      (other.1.1.1.1.0 (λ e. let f : 8 ≡ 1 = e in cc)) h.commands;
  patches = stays whole patch_values t.patches (db 11) (after 11)
      (other.1.1.1.1.1.0 (λ e. let f : 11 ≡ 1 = e in cc)) h.patches;
}

components_changed : (db after : Trees) (t : Tables) (all : List ComponentRow) → HasRows db t
    → AreOther 4 db after → Keeps columns component_values all (after 4)
    → HasRows after (record t { components = all })
components_changed db after t all h other k = record {
  about = other.0 (λ e. let f : 0 ≡ 4 = e in cc) ∙ h.about;
  mirrors = stays columns mirror_values t.mirrors (db 1) (after 1)
      (other.1.0 (λ e. let f : 1 ≡ 4 = e in cc)) h.mirrors;
  components = k;
  intents = stays whole intent_values t.intents (db 7) (after 7)
      (other.1.1.1.0 (λ e. let f : 7 ≡ 4 = e in cc)) h.intents;
  commands = stays columns command_values t.commands (db 8) (after 8)
      (other.1.1.1.1.0 (λ e. let f : 8 ≡ 4 = e in cc)) h.commands;
  patches = stays whole patch_values t.patches (db 11) (after 11)
      (other.1.1.1.1.1.0 (λ e. let f : 11 ≡ 4 = e in cc)) h.patches;
}

intents_changed : (db after : Trees) (t : Tables) (all : List IntentRow) → HasRows db t
    → AreOther 7 db after → Keeps whole intent_values all (after 7)
    → HasRows after (record t { intents = all })
intents_changed db after t all h other k = record {
  about = other.0 (λ e. let f : 0 ≡ 7 = e in cc) ∙ h.about;
  mirrors = stays columns mirror_values t.mirrors (db 1) (after 1)
      (other.1.0 (λ e. let f : 1 ≡ 7 = e in cc)) h.mirrors;
  components = stays columns component_values t.components (db 4) (after 4)
      (other.1.1.0 (λ e. let f : 4 ≡ 7 = e in cc)) h.components;
  intents = k;
  commands = stays columns command_values t.commands (db 8) (after 8)
      (other.1.1.1.1.0 (λ e. let f : 8 ≡ 7 = e in cc)) h.commands;
  patches = stays whole patch_values t.patches (db 11) (after 11)
      (other.1.1.1.1.1.0 (λ e. let f : 11 ≡ 7 = e in cc)) h.patches;
}

commands_changed : (db after : Trees) (t : Tables) (all : List CommandRow) → HasRows db t
    → AreOther 8 db after → Keeps columns command_values all (after 8)
    → HasRows after (record t { commands = all })
commands_changed db after t all h other k = record {
  about = other.0 (λ e. let f : 0 ≡ 8 = e in cc) ∙ h.about;
  mirrors = stays columns mirror_values t.mirrors (db 1) (after 1)
      (other.1.0 (λ e. let f : 1 ≡ 8 = e in cc)) h.mirrors;
  components = stays columns component_values t.components (db 4) (after 4)
      (other.1.1.0 (λ e. let f : 4 ≡ 8 = e in cc)) h.components;
  intents = stays whole intent_values t.intents (db 7) (after 7)
      (other.1.1.1.0 (λ e. let f : 7 ≡ 8 = e in cc)) h.intents;
  commands = k;
  patches = stays whole patch_values t.patches (db 11) (after 11)
      (other.1.1.1.1.1.0 (λ e. let f : 11 ≡ 8 = e in cc)) h.patches;
}

patches_changed : (db after : Trees) (t : Tables) (all : List (List ℕ)) → HasRows db t
    → AreOther 11 db after → Keeps whole patch_values all (after 11)
    → HasRows after (record t { patches = all })
patches_changed db after t all h other k = record {
  about = other.0 (λ e. let f : 0 ≡ 11 = e in cc) ∙ h.about;
  mirrors = stays columns mirror_values t.mirrors (db 1) (after 1)
      (other.1.0 (λ e. let f : 1 ≡ 11 = e in cc)) h.mirrors;
  components = stays columns component_values t.components (db 4) (after 4)
      (other.1.1.0 (λ e. let f : 4 ≡ 11 = e in cc)) h.components;
  intents = stays whole intent_values t.intents (db 7) (after 7)
      (other.1.1.1.0 (λ e. let f : 7 ≡ 11 = e in cc)) h.intents;
  commands = stays columns command_values t.commands (db 8) (after 8)
      (other.1.1.1.1.0 (λ e. let f : 8 ≡ 11 = e in cc)) h.commands;
  patches = k;
}

-- no foreign key acts, since each has NO ACTION
idle_by : (tree : ℕ) (olds news : List Row) (b : Bool)
    → flat_map (λ child. filter_map (λ ref. work_by 0 tree (pairs olds news) child ref
    (deed_for Enforced b ref) (parent_key registry_schema.tables ref)) child.references)
    registry_schema.tables ≡ []
idle_by tree olds news true = refl
idle_by tree olds news false = refl

-- no foreign key acts
pub idle : (tree : ℕ) (olds news : List Row) → works registry_schema Enforced 0 tree olds news ≡ []
idle tree olds news = idle_by tree olds news (length news == 0)

one_of : (e : Bool) → (e && true) || false ≡ true → e ≡ true
one_of true h = refl
one_of false h = h

pub only_mirrors : (new r : Row)
    → conflicts (Some (1 ∷ [])) registry_schema.indexes mirrors new r ≡ true
    → equal Binary (column r 1) (column new 1) ≡ true
unfolding first_key
only_mirrors new r h = one_of _ h

pub only_components : (new r : Row)
    → conflicts (Some (1 ∷ [])) registry_schema.indexes components new r ≡ true
    → equal Binary (column r 1) (column new 1) ≡ true
unfolding first_key
only_components new r h = one_of _ h

-- what a statement does, over the schema that the connection is known to have
over_schema : (s : State) (params : Row) (text : List ℕ) (command : Command) (tally : Tally)
    (after : Database) → s.now.schema ≡ registry_schema
    → Does s.step_limit (mode_of s) params s.now text None command (Ok (tally, after))
    → Does s.step_limit (mode_of s) params (record {
      schema = registry_schema;
      trees = s.now.trees;
    }) text None command (Ok (tally, after))
over_schema s params text command tally after has =
    subst (λ (schema : Schema). Does s.step_limit (mode_of s) params
    (record { schema = schema; trees = s.now.trees }) text None command (Ok (tally, after))) has

pub mirror_typed : (m : MirrorRow) → cast_all mirrors.columns (mirror_values m) ≡ mirror_values m
mirror_typed m =
    rw (
      cast_int (pos m.mid),
      cast_int (pos m.total),
      cast_int (pos m.genid),
      cast_int (pos m.syncid),
      cast_int (pos m.slice),
      cast_int (pos m.balance),
      cast_int (pos m.mediasize),
      cast_int (pos m.mflags),
    )

-- a mirror is put in place of the one of its name
pub upserts_mirror : (m : MirrorRow)
    → Makes registry_schema HasRows (upsert 1 1) (mirror_values m) (with_mirror m)
upserts_mirror m s t after text tally has holds h =
    let rest : Row = Int (pos m.mid) ∷ Int (pos m.total) ∷ Int (pos m.genid) ∷ Int (pos m.syncid)
    ∷ Int (pos m.slice) ∷ Int (pos m.balance) ∷ Int (pos m.mediasize) ∷ Int (pos m.mflags)
    ∷ [] in
    let made = upserts registry_schema mirrors (inr (inl refl)) mirrors_by_name
    (inl refl) refl refl refl s.step_limit (mode_of s) (idle 1) refl m.name rest
    (mirror_values m) (mirror_typed m)
    9 updated (λ there more. refl) (λ there id row. refl) only_mirrors 1 10 nine_terms refl
    s.now.trees after tally holds.mirrors.keyed
    (over_schema s (mirror_values m) text (upsert 1 1) tally after has h) in
    let left = without mirror_key m.name t.mirrors in (
      made.schema_is,
      mirrors_changed s.now.trees after.trees t (m ∷ left) holds made.tables
          (subst (Keeps columns mirror_values (m ∷ left)) (sym made.rows)
          (keeps_put columns mirror_values left _ m made.new
          (keeps_without mirror_values mirror_key (λ x. refl) t.mirrors
          (s.now.trees 1) m.name holds.mirrors) made.values_are made.fresh made.keyed)),
    )

pub component_typed : (k : ComponentRow)
    → cast_all components.columns (component_values k) ≡ component_values k
component_typed k =
    rw (
      cast_int (pos k.did),
      cast_int (pos k.syncid),
      cast_int (pos k.priority),
      cast_int (pos k.sync_offset),
      cast_int (pos k.dflags),
      cast_int (pos k.hard),
      cast_int (pos k.provsize),
    )

-- a component is put in place of the one on its provider
pub upserts_component : (k : ComponentRow)
    → Makes registry_schema HasRows (upsert 2 4) (component_values k) (with_component k)
upserts_component k s t after text tally has holds h =
    let rest : Row = Text k.mirror ∷ Int (pos k.did) ∷ Int (pos k.syncid) ∷ Int (pos k.priority)
    ∷ Int (pos k.sync_offset) ∷ Int (pos k.dflags) ∷ Int (pos k.hard) ∷ Int (pos k.provsize)
    ∷ [] in
    let made = upserts registry_schema components (inr (inr (inl refl))) components_by_prov
    (inr (inr (inl refl))) refl refl refl s.step_limit (mode_of s) (idle 4) refl k.prov rest
    (component_values k) (component_typed k)
    9 updated (λ there more. refl) (λ there id row. refl) only_components 2 10 nine_terms refl
    s.now.trees after tally holds.components.keyed
    (over_schema s (component_values k) text (upsert 2 4) tally after has h) in
    let left = without component_key k.prov t.components in (
      made.schema_is,
      components_changed s.now.trees after.trees t (k ∷ left) holds made.tables
          (subst (Keeps columns component_values (k ∷ left)) (sym made.rows)
          (keeps_put columns component_values left _ k made.new
          (keeps_without component_values component_key (λ x. refl) t.components
          (s.now.trees 4) k.prov holds.components) made.values_are made.fresh made.keyed)),
    )

-- the mirror of a name is deleted
pub drops_mirror : (name : List ℕ)
    → Makes registry_schema HasRows (drop 1 1) (Text name ∷ []) (without_mirror name)
drops_mirror name s t after text tally has holds h =
    let made = drops registry_schema 1 mirrors s.step_limit (mode_of s) (Text name ∷ [])
    (λ olds. idle 1 olds []) by_key s.now.trees after tally holds.mirrors.keyed
    (over_schema s (Text name ∷ []) text (drop 1 1) tally after has h) in (
      made.schema_is,
      mirrors_changed s.now.trees after.trees t _ holds made.tables
          (subst (Keeps columns mirror_values (without mirror_key name t.mirrors)) (sym made.rows)
          (keeps_without mirror_values mirror_key (λ x. refl) t.mirrors
          (s.now.trees 1) name holds.mirrors)),
    )

-- the component on a provider is deleted
pub drops_component : (prov : List ℕ)
    → Makes registry_schema HasRows (drop 2 4) (Text prov ∷ []) (without_component prov)
drops_component prov s t after text tally has holds h =
    let made = drops registry_schema 2 components s.step_limit (mode_of s) (Text prov ∷ [])
    (λ olds. idle 4 olds []) by_key s.now.trees after tally holds.components.keyed
    (over_schema s (Text prov ∷ []) text (drop 2 4) tally after has h) in (
      made.schema_is,
      components_changed s.now.trees after.trees t _ holds made.tables
          (subst (Keeps columns component_values (without component_key prov t.components))
          (sym made.rows) (keeps_without component_values component_key (λ x. refl) t.components
          (s.now.trees 4) prov holds.components)),
    )

pub intent_typed : (i : IntentRow) → cast_row intents (intent_values i) ≡ intent_values i
intent_typed i = rw (
  cast_int (pos i.ord),
  cast_null,
  cast_int (pos i.kind),
  cast_int (pos i.first_sector),
  cast_int (pos i.end_sector),
)

-- the parameters that make the row of an intent
abbrev pub intent_params : IntentRow → Row
intent_params i = Int (pos i.ord) ∷ Int (pos i.kind) ∷ Text i.prov ∷ Text i.source
    ∷ Int (pos i.first_sector) ∷ Int (pos i.end_sector) ∷ []

-- one intent more
pub puts_intent : (i : IntentRow)
    → Makes registry_schema HasRows (Insert 3 (Values intent_terms 7)) (intent_params i)
    (with_intents (i ∷ []))
puts_intent i s t after text tally has holds h =
    let made = gains registry_schema 3 intents refl intent_terms 7 (intent_params i)
    (intent_values i) refl (intent_typed i) s.step_limit
    (mode_of s) s.now.trees after text tally
    (over_schema s (intent_params i) text (Insert 3 (Values intent_terms 7)) tally after has h) in (
      made.schema_is,
      intents_changed s.now.trees after.trees t (i ∷ t.intents) holds made.tables
          (subst (Keeps whole intent_values (i ∷ t.intents)) (sym made.rows)
          (keeps_put whole intent_values t.intents (s.now.trees 7) i made.new holds.intents
          (made.given refl) made.fresh made.keyed)),
    )

pub command_typed : (c : CommandRow) → cast_row commands (Null ∷ command_values c) ≡ Null
    ∷ command_values c
command_typed c = rw (
  cast_null,
  cast_int (pos c.seq),
  cast_int (pos c.copied),
  cast_int (pos c.of_total),
)

-- one command more
pub puts_command : (c : CommandRow)
    → Makes registry_schema HasRows (Insert 4 (Values command_terms 6)) (command_values c)
    (with_command c)
puts_command c s t after text tally has holds h =
    let made = gains registry_schema 4 commands refl command_terms 6 (command_values c)
    (Null ∷ command_values c) refl (command_typed c) s.step_limit
    (mode_of s) s.now.trees after text tally
    (over_schema s (command_values c) text (Insert 4 (Values command_terms 6))
    tally after has h) in (
      made.schema_is,
      commands_changed s.now.trees after.trees t (c ∷ t.commands) holds made.tables
          (subst (Keeps columns command_values (c ∷ t.commands)) (sym made.rows)
          (keeps_put columns command_values t.commands (s.now.trees 8) c made.new holds.commands
          made.values_are made.fresh made.keyed)),
    )

-- all intents are deleted
pub drops_intents : Makes registry_schema HasRows (clear 3 7) [] without_intents
drops_intents s t after text tally has holds h =
    let made = clears registry_schema 3 intents s.step_limit (mode_of s) []
    (λ olds. idle 7 olds []) s.now.trees after tally holds.intents.keyed
    (over_schema s [] text (clear 3 7) tally after has h) in (
      made.schema_is,
      intents_changed s.now.trees after.trees t [] holds made.tables
          (subst (Keeps whole intent_values []) (sym (made.rows ∙ none_left (s.now.trees 7)))
          (keeps_none whole intent_values)),
    )

pub patch_typed : (bytes : List ℕ) → cast_row patches (patch_values bytes) ≡ patch_values bytes
patch_typed bytes = rw (cast_int (pos 1), cast_null)

-- the record of bytes
pub puts_patch : (bytes : List ℕ)
    → Makes registry_schema HasRows (Insert 5 (Values patch_terms 3)) (Blob bytes ∷ [])
    (with_patch bytes)
puts_patch bytes s t after text tally has holds h =
    let made = gains registry_schema 5 patches refl patch_terms 3 (Blob bytes ∷ [])
    (patch_values bytes) refl (patch_typed bytes) s.step_limit
    (mode_of s) s.now.trees after text tally
    (over_schema s (Blob bytes ∷ []) text (Insert 5 (Values patch_terms 3)) tally after has h) in (
      made.schema_is,
      patches_changed s.now.trees after.trees t (bytes ∷ t.patches) holds made.tables
          (subst (Keeps whole patch_values (bytes ∷ t.patches)) (sym made.rows)
          (keeps_put whole patch_values t.patches (s.now.trees 11) bytes made.new holds.patches
          (made.given refl) made.fresh made.keyed)),
    )

-- all bytes are deleted
pub drops_bytes : Makes registry_schema HasRows (clear 5 11) [] without_bytes
drops_bytes s t after text tally has holds h =
    let made = clears registry_schema 5 patches s.step_limit (mode_of s) []
    (λ olds. idle 11 olds []) s.now.trees after tally holds.patches.keyed
    (over_schema s [] text (clear 5 11) tally after has h) in (
      made.schema_is,
      patches_changed s.now.trees after.trees t [] holds made.tables
          (subst (Keeps whole patch_values []) (sym (made.rows ∙ none_left (s.now.trees 11)))
          (keeps_none whole patch_values)),
    )
