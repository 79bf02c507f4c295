-- The rows that are shown of a registry's tables say what the tables hold.
use Rattle.gm_rows.proofs.Common.{◌≡◌, ◌∙◌, ℕ, ℤ, pos, ◌+◌, List, [], ◌∷◌, map, refl, sym, ap, subst, subst₂, arith, IsPermutation, IsPermutation-map, IsPermutation-sym, IsPermutation-trans, length_permutation, Row, column, Trees, Value, Int, Text, Keeps, columns, whole, Intent, Meta, Clear, Copy, Dirty, Patch, Has, Records, Tables, MirrorRow, ComponentRow, IntentRow, mirror_row, component_row, intent_rows, joined, patch_rows, mirror_values, component_values, intent_values, patch_values, HasRows, HasCounted, AreTablesOf, columns_at, numbered, two, six, nine, shown_intent, shown_patch, AreShown, IsShown, number_of, shown_places, intent_shown, shown_about, IsAbout, ArePatches, Say, TablesSay, Fetched, About, Mirrors, Components, Intents, Patches}
use Rattle.sqlite.proofs.Callers.{one_permutation}
use Rattle.sqlite_trees.proofs.ListLemmas.{map-map}
use Rattle.gm_rows.proofs.ReorderedValues.{same_records}
use Rattle.gm_rows.proofs.RowsSayRecords.{blob_in}
use Rattle.gm_rows.proofs.ShownInOrder.{one_order}
use Rattle.gm_rows.proofs.CountedCommands.{count_is, each_numbered, counted_so, kept_many, kept_numbered}

-- the text and the number of a value
abbrev pub text_in : Value → List ℕ
text_in (Text t) = t
text_in _ = []

abbrev pub number_in : Value → ℕ
number_in (Int (pos n)) = n
number_in _ = 0

-- what is shown of records, from what is kept of them
module _ {A : Type 0} (part pick stored : Row → Row) (values shown : A → Row)
    (picks : (row : Row) → pick (part row) ≡ stored row)
    (shows : (x : A) → pick (values x) ≡ shown x) where
  shows_records : (records : List A) (rows kept : List Row) → Keeps part values records kept
      → IsPermutation (map stored kept) rows → IsPermutation (map shown records) rows
  shows_records records rows kept keeps are =
      let mine : map pick (map values records) ≡ map shown records =
      map-map pick values records ∙ (λ i. map (λ x. shows x i) records) in
      let theirs : map pick (map part kept) ≡ map stored kept =
      map-map pick part kept ∙ (λ i. map (λ row. picks row i) kept) in
      IsPermutation-trans _ _ _ (subst₂ IsPermutation mine theirs
      (IsPermutation-map pick _ _ keeps.same)) are

-- columns that are read again
pub again_shown : {A : Type 0} (again : Row → Row) (shown : A → Row)
    → ((x : A) → again (shown x) ≡ shown x) → (records : List A) (rows : List Row)
    → IsPermutation (map shown records) rows
    → IsPermutation (map shown records) (map again rows)
again_shown again shown same records rows are =
    subst (λ l. IsPermutation l (map again rows))
    (map-map again shown records ∙ (λ i. map (λ x. same x i) records))
    (IsPermutation-map again _ _ are)

pub nine_picked : (row : Row)
    → columns_at nine (columns row) ≡ columns_at (shown_places Mirrors) row
nine_picked [] = refl
nine_picked (x ∷ row) = refl

-- ---- mirrors and components

pub mirrors_shown : (db : Trees) (t : Tables) (rows : List Row) → HasRows db t
    → IsShown db Mirrors rows
    → IsPermutation (map mirror_values t.mirrors) (map (columns_at nine) rows)
mirrors_shown db t rows has are =
    again_shown (columns_at nine) mirror_values (λ m. refl) t.mirrors rows
    (shows_records columns (columns_at nine) (columns_at (shown_places Mirrors)) mirror_values
    mirror_values nine_picked (λ m. refl) t.mirrors rows (db 1) has.mirrors are)

-- rows that show what is kept of some components
pub components_shown : (ks : List ComponentRow) (kept rows : List Row)
    → Keeps columns component_values ks kept
    → IsPermutation (map (columns_at (shown_places Components)) kept) rows
    → IsPermutation (map component_values ks) (map (columns_at nine) rows)
components_shown ks kept rows has are =
    again_shown (columns_at nine) component_values (λ k. refl) ks rows
    (shows_records columns (columns_at nine) (columns_at (shown_places Components)) component_values
    component_values nine_picked (λ k. refl) ks rows kept has are)

-- the records of a state are those whose rows are kept
pub said : {A B : Type 0} (row_of : A → B) (values : B
    → Row) (state : List A) (kept : List B) (rows : List Row) → IsPermutation (map values kept) rows
    → IsPermutation (map row_of state) kept
    → IsPermutation (map (λ x. values (row_of x)) state) rows
said row_of values state kept rows are same =
    IsPermutation-trans _ _ _ (subst (λ l. IsPermutation l (map values kept))
    (map-map values row_of state) (IsPermutation-map values _ _ same)) are

kept_of : {A B : Type 0} (row_of : A → B) (values : B → Row)
    → ((a b : B) → values a ≡ values b → a ≡ b) → (state : List A) (kept : List B) (rows : List Row)
    → IsPermutation (map values kept) rows
    → IsPermutation (map (λ x. values (row_of x)) state) rows
    → IsPermutation (map row_of state) kept
kept_of row_of values inj state kept rows are same =
    same_records values inj (map row_of state) kept
    (subst (λ l. IsPermutation l (map values kept)) (sym (map-map values row_of state))
    (IsPermutation-trans _ _ _ same (IsPermutation-sym _ _ are)))

one_mirror_row : (a b : MirrorRow) → mirror_values a ≡ mirror_values b → a ≡ b
one_mirror_row a b e =
    ap (λ (row : Row). let x : MirrorRow = record {
      name = text_in (column row 0);
      mid = number_in (column row 1);
      total = number_in (column row 2);
      genid =
          number_in (column row 3);
      syncid = number_in (column row 4);
      slice = number_in (column row 5);
      balance = number_in (column row 6);
      mediasize = number_in (column row 7);
      mflags =
          number_in (column row 8);
    } in x) e

one_component_row : (a b : ComponentRow) → component_values a ≡ component_values b → a ≡ b
one_component_row a b e =
    ap (λ (row : Row). let x : ComponentRow = record {
      prov = text_in (column row 0);
      mirror = text_in (column row 1);
      did = number_in (column row 2);
      syncid =
          number_in (column row 3);
      priority = number_in (column row 4);
      sync_offset =
          number_in (column row 5);
      dflags = number_in (column row 6);
      hard = number_in (column row 7);
      provsize = number_in (column row 8);
    } in x) e

-- ---- intents

intent_picked : (row : Row) → columns_at (shown_places Intents) (whole row)
    ≡ columns_at (shown_places Intents) row
intent_picked row = refl

intents_shown : (db : Trees) (t : Tables) (f : Fetched) → HasRows db t → AreShown db f
    → IsPermutation (map shown_intent t.intents) f.intents.items
intents_shown db t f has are =
    shows_records whole (columns_at (shown_places Intents))
    (columns_at (shown_places Intents)) intent_values shown_intent intent_picked
    (λ i. refl) t.intents f.intents.items (db 7) has.intents are.intents

pub rows_numbered : (n : ℕ) (ts : List Intent)
    → map shown_intent (intent_rows n ts) ≡ numbered intent_shown n ts
rows_numbered n [] = refl
rows_numbered n (t ∷ ts) = ap (λ more. intent_shown n t ∷ more) (rows_numbered (n + 1) ts)

read_again : (n : ℕ) (ts : List Intent)
    → map (columns_at six) (numbered intent_shown n ts) ≡ numbered intent_shown n ts
read_again n [] = refl
read_again n (t ∷ ts) = ap (λ more. intent_shown n t ∷ more) (read_again (n + 1) ts)

first_is_number : (n : ℕ) (t : Intent) → column (intent_shown n t) 0 ≡ Int (pos n)
first_is_number n (Meta p) = refl
first_is_number n (Clear p) = refl
first_is_number n (Copy source target first end) = refl
first_is_number n (Dirty p) = refl
first_is_number n (Patch p first end) = refl

one_intent_row : (a b : IntentRow) → shown_intent a ≡ shown_intent b → a ≡ b
one_intent_row a b e =
    ap (λ (row : Row). let x : IntentRow = record {
      ord = number_in (column row 0);
      kind = number_in (column row 1);
      prov = text_in (column row 2);
      source = text_in (column row 3);
      first_sector = number_in (column row 4);
      end_sector = number_in (column row 5);
    } in x) e

intents_said : (db : Trees) (t : Tables) (f : Fetched) (ts : List Intent) → HasRows db t
    → AreShown db f → IsPermutation (intent_rows 1 ts) t.intents
    → map (columns_at six) f.intents.items ≡ numbered intent_shown 1 ts
intents_said db t f ts has are same =
    let kept : IsPermutation (numbered intent_shown 1 ts) (map shown_intent t.intents) =
    subst (λ l. IsPermutation l (map shown_intent t.intents)) (rows_numbered 1 ts)
    (IsPermutation-map shown_intent _ _ same) in
    let rows : f.intents.items ≡ numbered intent_shown 1 ts =
    one_order intent_shown first_is_number f.intents.items ts
    (IsPermutation-trans _ _ _ kept (intents_shown db t f has are)) are.in_order in
    ap (map (columns_at six)) rows ∙ read_again 1 ts

intents_kept : (db : Trees) (t : Tables) (f : Fetched) (ts : List Intent) → HasRows db t
    → AreShown db f → map (columns_at six) f.intents.items ≡ numbered intent_shown 1 ts
    → IsPermutation (intent_rows 1 ts) t.intents
intents_kept db t f ts has are is =
    let shown = again_shown (columns_at six) shown_intent (λ i. refl) t.intents f.intents.items
    (intents_shown db t f has are) in
    let these : map (columns_at six) f.intents.items ≡ map shown_intent (intent_rows 1 ts) =
    is ∙ sym (rows_numbered 1 ts) in
    same_records shown_intent one_intent_row (intent_rows 1 ts) t.intents
    (IsPermutation-sym _ _ (subst (IsPermutation (map shown_intent t.intents)) these shown))

-- ---- bytes to be laid

-- records like that of the bytes, or none, are these
few_records : (bytes xs : List (List ℕ)) → IsPermutation (patch_rows bytes) xs
    → xs ≡ patch_rows bytes
few_records [] [] same = refl
few_records [] (x ∷ xs) same =
    absurd (let many = length_permutation [] (x ∷ xs) same in omega (arith, many))
few_records (sector ∷ more) xs same = one_permutation (joined (sector ∷ more)) xs same

-- so are rows
pub few_permuted : {A : Type 0} (f : List ℕ → A) (bytes : List (List ℕ)) (xs : List A)
    → IsPermutation (map f (patch_rows bytes)) xs → xs ≡ map f (patch_rows bytes)
few_permuted f [] [] same = refl
few_permuted f [] (x ∷ xs) same =
    absurd (let many = length_permutation [] (x ∷ xs) same in omega (arith, many))
few_permuted f (sector ∷ more) xs same = one_permutation (f (joined (sector ∷ more))) xs same

patch_picked : (row : Row) → columns_at (shown_places Patches) (whole row)
    ≡ columns_at (shown_places Patches) row
patch_picked row = refl

patches_shown : (db : Trees) (t : Tables) (f : Fetched) → HasRows db t → AreShown db f
    → IsPermutation (map shown_patch t.patches) f.patches.items
patches_shown db t f has are =
    shows_records whole (columns_at (shown_places Patches))
    (columns_at (shown_places Patches)) patch_values shown_patch patch_picked
    (λ b. refl) t.patches f.patches.items (db 11) has.patches are.patches

patches_again : (bytes : List (List ℕ)) → map (columns_at two) (map shown_patch (patch_rows bytes))
    ≡ map shown_patch (patch_rows bytes)
patches_again [] = refl
patches_again (sector ∷ more) = refl

patches_said : (db : Trees) (t : Tables) (f : Fetched) (bytes : List (List ℕ)) → HasRows db t
    → AreShown db f → t.patches ≡ patch_rows bytes → ArePatches bytes f.patches.items
patches_said db t f bytes has are is =
    let shown = subst (λ (l : List (List ℕ)). IsPermutation (map shown_patch l) f.patches.items) is
    (patches_shown db t f has are) in
    ap (map (columns_at two)) (few_permuted shown_patch bytes f.patches.items shown)
    ∙ patches_again bytes

one_patch_row : (a b : List ℕ) → shown_patch a ≡ shown_patch b → a ≡ b
one_patch_row a b e = ap (λ (row : Row). blob_in (column row 1)) e

patches_kept : (db : Trees) (t : Tables) (f : Fetched) (bytes : List (List ℕ)) → HasRows db t
    → AreShown db f → ArePatches bytes f.patches.items → t.patches ≡ patch_rows bytes
patches_kept db t f bytes has are is =
    let shown = again_shown (columns_at two) shown_patch (λ b. refl) t.patches f.patches.items
    (patches_shown db t f has are) in
    few_records bytes t.patches (IsPermutation-sym _ _ (same_records shown_patch one_patch_row
    t.patches (patch_rows bytes) (subst (IsPermutation (map shown_patch t.patches)) is shown)))

-- ---- all tables

about_said : (db : Trees) (t : Tables) (f : Fetched) → HasRows db t → AreShown db f
    → IsAbout 2 f.about.items
about_said db t f has are =
    let shown : IsPermutation (shown_about 2 ∷ []) f.about.items =
    subst (λ l. IsPermutation (map (columns_at (shown_places About)) l) f.about.items) has.about
    are.about in
    ap (map (columns_at two)) (one_permutation (shown_about 2) f.about.items shown)

-- tables that are those of a state say it
pub says_tables : (db : Trees) (t : Tables) (f : Fetched) (s : Records) (ts : List Intent)
    (bytes : List (List ℕ)) → HasCounted db t → AreShown db f → AreTablesOf t s ts bytes
    → Say f s ts bytes
says_tables db t f s ts bytes has are of = record {
  about = about_said db t f has.rows are;
  records = record {
    state = of.state;
    mirrors_are = said mirror_row mirror_values s.mirrors t.mirrors _
        (mirrors_shown db t f.mirrors.items has.rows are.mirrors) of.mirrors;
    components_are = said component_row component_values s.components t.components _
        (components_shown t.components (db 4) f.components.items has.rows.components are.components)
        of.components;
  };
  intents = intents_said db t f ts has.rows are of.intents;
  patches = patches_said db t f bytes has.rows are of.patches;
  readable = of.readable;
  commands = counted_so db f.commands are.commands
      (let few = of.count in omega (arith, few, kept_many db t has.rows)) (kept_numbered db t has);
}

-- and tables that say a state are its
pub tables_said : (db : Trees) (t : Tables) (f : Fetched) (s : Records) (ts : List Intent)
    (bytes : List (List ℕ)) → HasCounted db t → AreShown db f → Say f s ts bytes
    → AreTablesOf t s ts bytes
tables_said db t f s ts bytes has are says =
    let few = says.commands.few in
    let many = kept_many db t has.rows in
    let counted = count_is db f.commands are.commands says.commands in
    record {
      state = says.records.state;
      mirrors = kept_of mirror_row mirror_values one_mirror_row s.mirrors t.mirrors _
          (mirrors_shown db t f.mirrors.items has.rows are.mirrors) says.records.mirrors_are;
      components =
          kept_of component_row component_values one_component_row s.components t.components _
          (components_shown t.components (db 4) f.components.items has.rows.components
          are.components) says.records.components_are;
      intents = intents_kept db t f ts has.rows are says.intents;
      patches = patches_kept db t f bytes has.rows are says.patches;
      readable = says.readable;
      count = omega (arith, few, many, counted);
    }

-- ---- whatever the tables were to hold

nine_again : (row : Row) → columns_at nine (columns_at (shown_places Mirrors) row)
    ≡ columns_at (shown_places Mirrors) row
nine_again row = refl

six_again : (row : Row) → columns_at six (columns_at (shown_places Intents) row)
    ≡ columns_at (shown_places Intents) row
six_again row = refl

two_again : (row : Row) → columns_at two (columns_at (shown_places About) row)
    ≡ columns_at (shown_places About) row
two_again row = refl

-- rows that say something say tables that do, if the numbers of commands are integers
pub any_tables : (db : Trees) (f : Fetched) (s : Records) (ts : List Intent)
    (bytes : List (List ℕ))
    → ((row : Row) → Has (db 8) row → (z : ℤ) × (number_of row ≡ Int z))
    → AreShown db f → Say f s ts bytes → TablesSay db s ts bytes
any_tables db f s ts bytes ints are says =
    let one : List Row = shown_about 2 ∷ [] in
    let about : IsPermutation (map (columns_at (shown_places About)) (db 0)) one =
    subst (IsPermutation (map (columns_at (shown_places About)) (db 0))) says.about
    (again_shown (columns_at two) (columns_at (shown_places About)) two_again
    (db 0) f.about.items are.about) in
    let mirrors = again_shown (columns_at nine) (columns_at (shown_places Mirrors)) nine_again
    (db 1) f.mirrors.items are.mirrors in
    let components = again_shown (columns_at nine) (columns_at (shown_places Components)) nine_again
    (db 4) f.components.items are.components in
    let intents = again_shown (columns_at six) (columns_at (shown_places Intents)) six_again
    (db 7) f.intents.items are.intents in
    let few = says.commands.few in
    let counted = count_is db f.commands are.commands says.commands in
    record {
      state = says.records.state;
      about = one_permutation (shown_about 2) _ (IsPermutation-sym _ _ about);
      mirrors = IsPermutation-trans _ _ _ says.records.mirrors_are (IsPermutation-sym _ _ mirrors);
      components = IsPermutation-trans _ _ _ says.records.components_are
          (IsPermutation-sym _ _ components);
      intents = IsPermutation-sym _ _
          (subst (IsPermutation (map (columns_at (shown_places Intents)) (db 7))) says.intents
          intents);
      patches = few_permuted shown_patch bytes _ (subst
          (λ l. IsPermutation l (map (columns_at (shown_places Patches)) (db 11))) says.patches
          (IsPermutation-sym _ _ (again_shown (columns_at two)
          (columns_at (shown_places Patches)) two_again (db 11) f.patches.items are.patches)));
      readable = says.readable;
      count = omega (arith, few, counted);
      numbers = each_numbered db f.commands are.commands ints says.commands;
    }

-- and tables that say something are shown by rows that do
pub any_rows : (db : Trees) (f : Fetched) (s : Records) (ts : List Intent)
    (bytes : List (List ℕ)) → AreShown db f → TablesSay db s ts bytes → Say f s ts bytes
any_rows db f s ts bytes are of =
    let one : List Row = shown_about 2 ∷ [] in
    let about : f.about.items ≡ one =
    one_permutation (shown_about 2) f.about.items
    (subst (λ l. IsPermutation l f.about.items) of.about are.about) in
    let mirrors = again_shown (columns_at nine) (columns_at (shown_places Mirrors)) nine_again
    (db 1) f.mirrors.items are.mirrors in
    let components = again_shown (columns_at nine) (columns_at (shown_places Components)) nine_again
    (db 4) f.components.items are.components in
    let intents : f.intents.items ≡ numbered intent_shown 1 ts =
    one_order intent_shown first_is_number f.intents.items ts
    (IsPermutation-trans _ _ _ of.intents are.intents) are.in_order in
    record {
      about = ap (map (columns_at two)) about;
      records = record {
        state = of.state;
        mirrors_are = IsPermutation-trans _ _ _ of.mirrors mirrors;
        components_are = IsPermutation-trans _ _ _ of.components components;
      };
      intents = ap (map (columns_at six)) intents ∙ read_again 1 ts;
      patches = ap (map (columns_at two)) (few_permuted shown_patch bytes f.patches.items
          (subst (λ l. IsPermutation l f.patches.items) of.patches are.patches))
          ∙ patches_again bytes;
      readable = of.readable;
      commands = counted_so db f.commands are.commands of.count of.numbers;
    }
