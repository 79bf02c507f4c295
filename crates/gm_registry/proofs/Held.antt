-- A registry that was read as a state has tables of it.
use Rattle.gm_registry.proofs.Common.{◌≡◌, ◌∙◌, inl, inr, ℕ, pos, ◌≤◌, arith, List, [], ◌∷◌, map, length, refl, sym, ap, subst, subst₂, and_parts, length-map, IsPermutation-refl, IsPermutation-map, Row, column, Database, Held, Trees, Int, Text, IsSound, mapped_from, Keeps, columns, whole, map-map, Ghosts, Records, Tables, CommandRow, mirror_row, component_row, intent_rows, patch_rows, Has, Intent, shown_places, AreTablesOf, AreRepliesInRange, IsInRange, about_values, mirror_values, component_values, intent_values, command_values, patch_values, mirror_shown, component_shown, TablesSay, RepliesSay, registry_schema, mirrors, components, intents, patches, HasRows, AreNumbered, HasRisingRowids, numbers_of, columns_at, shown_intent, shown_patch, Mirrors, Components, Intents, Patches, AreUpTo, all_numbers, has_from, stands_from, text_in, number_in, rows_numbered}
use Rattle.std.specs.List.Sorted.{IsPermutation}
use Rattle.sqlite_rules.specs.Lists.{Has as Stands}
use Rattle.gm_registry.specs.Registry as of
use Rattle.gm_registry.proofs.Stored.{with_null, with_one_null, intent_whole, patch_whole, command_in, text_is, number_is, at_most, typed, present, nine_whole, command_columns, command_typed, command_present}
use Rattle.gm_registry.proofs.ApartCommands.{apart}

map_agree : {A B : Type 0} (f g : A → B) (xs : List A) → ((x : A) → Stands xs x → f x ≡ g x)
    → map f xs ≡ map g xs
map_agree f g [] same = refl
map_agree f g (x ∷ xs) same =
    ap (λ y. y ∷ map f xs) (same x (inl refl)) ∙ ap (λ ys. g x ∷ ys)
    (map_agree f g xs (λ y later. same y (inr later)))

-- records are kept by rows that show them, if what is shown of a row determines the row
kept_as : {A : Type 0} (part stored back : Row → Row) (values shown : A → Row)
    → ((x : A) → back (shown x) ≡ values x) → (records : List A) (rows : List Row)
    → ((row : Row) → Stands rows row → back (stored row) ≡ part row)
    → IsPermutation (map shown records) (map stored rows)
    → IsPermutation (map values records) (map part rows)
kept_as part stored back values shown same records rows told are =
    let mine : map back (map shown records) ≡ map values records =
    map-map back shown records ∙ (λ i. map (λ x. same x i) records) in
    let theirs : map back (map stored rows) ≡ map part rows =
    map-map back stored rows ∙ map_agree (λ row. back (stored row)) part rows told in
    subst₂ IsPermutation mine theirs (IsPermutation-map back _ _ are)

-- what a registry says that was read as a state
module _ (db : Trees) (sound : IsSound registry_schema db) (s : Records) (ts : List Intent)
    (bytes : List (List ℕ)) (about : db 0 ≡ about_values ∷ []) (rising : HasRisingRowids db)
    (says : TablesSay db s ts bytes) (replies : RepliesSay db) where
  mirrors_kept : Keeps columns mirror_values (map mirror_row s.mirrors) (db 1)
  mirrors_kept = record {
    same = subst (λ l. IsPermutation l (map columns (db 1)))
        (sym (map-map mirror_values mirror_row s.mirrors))
        (kept_as columns (columns_at (shown_places Mirrors)) (λ row. row) mirror_shown mirror_shown
        (λ m. refl) s.mirrors (db 1)
        (nine_whole db sound mirrors (inr (inl refl)) (λ k low. refl) refl refl) says.mirrors);
    keyed = rising.mirrors;
  }

  components_kept : Keeps columns component_values (map component_row s.components) (db 4)
  components_kept = record {
    same = subst (λ l. IsPermutation l (map columns (db 4)))
        (sym (map-map component_values component_row s.components))
        (kept_as columns (columns_at (shown_places Components))
        (λ row. row) component_shown component_shown (λ m. refl) s.components (db 4)
        (nine_whole db sound components (inr (inr (inl refl))) (λ k low. refl) refl refl)
        says.components);
    keyed = rising.components;
  }

  intents_kept : Keeps whole intent_values (intent_rows 1 ts) (db 7)
  intents_kept = record {
    same = kept_as whole (columns_at (shown_places Intents)) with_null intent_values shown_intent
        (λ i. refl) (intent_rows 1 ts) (db 7)
        (λ row there. intent_whole row
        (typed db sound intents (inr (inr (inr (inl refl)))) row there)
        (present db sound intents (inr (inr (inr (inl refl)))) row there))
        (subst (λ l. IsPermutation l (map (columns_at (shown_places Intents)) (db 7)))
        (sym (rows_numbered 1 ts)) says.intents);
    keyed = rising.intents;
  }

  -- what is said of them tells the rows of bytes
  patches_told : map whole (db 11) ≡ map patch_values (patch_rows bytes)
  patches_told =
      let listed : Stands registry_schema.tables patches =
      inr (inr (inr (inr (inr (inl refl))))) in
      let back : map with_one_null (map (columns_at (shown_places Patches)) (db 11))
      ≡ map whole (db 11) = map-map with_one_null (columns_at (shown_places Patches)) (db 11)
      ∙ map_agree (λ row. with_one_null (columns_at (shown_places Patches) row)) whole (db 11)
      (λ row there. patch_whole row (typed db sound patches listed row there)
      (present db sound patches listed row there)) in
      sym back ∙ (ap (map with_one_null) says.patches
      ∙ map-map with_one_null shown_patch (patch_rows bytes))

  patches_kept : Keeps whole patch_values (patch_rows bytes) (db 11)
  patches_kept = record {
    same = subst (IsPermutation (map patch_values (patch_rows bytes))) (sym patches_told)
        (IsPermutation-refl _);
    keyed = rising.patches;
  }

  -- the command's number is one
  has_number : (row : Row) → Stands (db 8) row → column row 2 ≡ Int (pos (number_in (column row 2)))
  has_number row there =
      let it = says.numbers row (has_from (db 8) row there) in
      number_is (column row 2) it.0 it.1

  command_whole : (row : Row) → Stands (db 8) row → command_values (command_in row) ≡ columns row
  command_whole row there =
      let suits = command_typed db sound row there in
      let full = command_present db sound row there in
      let key : column row 1 ≡ Text (text_in (column row 1)) =
      text_is (column row 1) (and_parts _ _ suits).0 (and_parts _ _ full).0 in
      let words : column row 3 ≡ Text (text_in (column row 3)) =
      text_is (column row 3) (and_parts _ _ (and_parts _ _ (and_parts _ _ suits).1).1).0
      (and_parts _ _ (and_parts _ _ (and_parts _ _ full).1).1).0 in
      let seq = has_number row there in
      let limits = replies row (has_from (db 8) row there) in
      let copied = number_is (column row 4) limits.0.0 limits.0.1 in
      let total = number_is (column row 5) limits.1.0 limits.1.1 in
      (λ i. sym key i ∷ sym seq i ∷ sym words i ∷ sym copied i ∷ sym total i ∷ [])
      ∙ command_columns db sound row there

  commands_kept : Keeps columns command_values (map command_in (db 8)) (db 8)
  commands_kept = record {
    same = subst (IsPermutation (map command_values (map command_in (db 8))))
        (map-map command_values command_in (db 8) ∙ map_agree
        (λ row. command_values (command_in row)) columns (db 8) command_whole)
        (IsPermutation-refl _);
    keyed = rising.commands;
  }

  -- the number that is read of a row
  abbrev number : Row → ℕ
  number row = number_in (column row 2)

  within : AreUpTo (length (db 8)) (map number (db 8))
  within n has =
      let from = mapped_from number (db 8) n (stands_from (map number (db 8)) n has) in
      let it = says.numbers from.0 (has_from (db 8) from.0 from.1) in
      let is : n ≡ it.0 = from.2 ∙ ap number_in it.1 in
      (omega (arith, is, it.2), omega (arith, is, it.3))

  numbered : AreNumbered (map command_in (db 8))
  numbered =
      let all = all_numbers (length (db 8)) (map number (db 8)) (length-map (db 8) number)
      (apart db sound number has_number rising.commands) within in
      let many : length (map command_in (db 8)) ≡ length (db 8) = length-map (db 8) command_in in
      let seqs : map (λ (c : CommandRow). c.seq) (map command_in (db 8)) ≡ map number (db 8) =
      map-map (λ (c : CommandRow). c.seq) command_in (db 8) in
      subst₂ IsPermutation (ap numbers_of (sym many)) (sym seqs) all

  in_range : (c : CommandRow) → Has (map command_in (db 8)) c → IsInRange c
  in_range c has =
      let from = mapped_from command_in (db 8) c (stands_from _ c has) in
      let limits = replies from.0 (has_from (db 8) from.0 from.1) in
      subst IsInRange (sym from.2) (
        at_most 1048576 (column from.0 4) limits.0,
        at_most 1048576 (column from.0 5) limits.1,
      )

  abbrev tables : Tables
  tables = record {
    mirrors = map mirror_row s.mirrors;
    components = map component_row s.components;
    intents = intent_rows 1 ts;
    commands = map command_in (db 8);
    patches = patch_rows bytes;
  }

  rows : HasRows db tables
  rows = record {
    about = about;
    mirrors = mirrors_kept;
    components = components_kept;
    intents = intents_kept;
    commands = commands_kept;
    patches = patches_kept;
  }

  are_of : AreTablesOf tables s ts bytes
  are_of = record {
    state = says.state;
    mirrors = IsPermutation-refl _;
    components = IsPermutation-refl _;
    intents = IsPermutation-refl _;
    patches = refl;
    readable = says.readable;
    count = subst (λ n. n ≤ 100000) (sym (length-map (db 8) command_in)) says.count;
  }

pub read_held : {S : Type 0} (g : Ghosts S) (r : Held S) (s : Records) (ts : List Intent)
    (bytes : List (List ℕ)) → of.IsRegistry g r → HasRisingRowids (of.seen g r)
    → TablesSay (of.seen g r) s ts bytes → RepliesSay (of.seen g r)
    → (it : of.HasTablesOf g r s ts bytes) × AreRepliesInRange it.tables
read_held g r s ts bytes is rising says replies =
    let db = of.stored g r in
    let same : of.seen g r ≡ db = ap (λ (d : Database). d.trees) is.settled in
    let up : HasRisingRowids db = subst HasRisingRowids same rising in
    let told : TablesSay db s ts bytes = subst (λ d. TablesSay d s ts bytes) same says in
    let answers : RepliesSay db = subst RepliesSay same replies in (
      record {
        tables = tables db is.sound s ts bytes is.about up told answers;
        has = record {
          is_open = is.is_open;
          autocommit = is.autocommit;
          schema_is = is.schema_is;
          settled = is.settled;
          tables = record {
            rows = record {
              rows = rows db is.sound s ts bytes is.about up told answers;
              numbered = numbered db is.sound s ts bytes is.about up told answers;
            };
            sound = is.sound;
          };
        };
        are = are_of db is.sound s ts bytes is.about up told answers;
      },
      in_range db is.sound s ts bytes is.about up told answers,
    )
