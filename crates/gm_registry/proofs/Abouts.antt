-- The record of `about`, as a query finds it.
use Rattle.gm_registry.proofs.Common.{◌≡◌, Bool, true, false, ◌&&◌, inl, ℕ, pos, List, [], ◌∷◌, map, drop, length, Some, IsPermutation, refl, sym, ap, subst, ◌∙◌, arith, IsPermutation-sym, Row, column, Value, Null, Int, Real, Text, Blob, is_null, IsSound, Datatype, are_typed, keeps_at, Trees, one_permutation, about, about_numbered, columns_at, two, IsShown, shown_about, IsAbout, About, schema_of, about_numbers, IsNumbered, Edition, First, Second, again_shown}
use Rattle.sqlite_rules.specs.Lists.{Has as Stands}
use Rattle.gm_registry.specs.Opening.{number_of}

-- the rows that its query shows are the one record exactly if it is
pub about_told : (edition : Edition) (db : Trees) (rows : List Row) → IsShown db About rows
    → IsAbout (number_of edition) rows → IsNumbered edition db
about_told edition db rows shown says =
    one_permutation (shown_about (number_of edition)) (map about_numbers (db 0))
    (IsPermutation-sym _ _ (subst (IsPermutation (map about_numbers (db 0))) says
    (again_shown (columns_at two) about_numbers (λ row. refl) (db 0) rows shown)))

pub about_shown : (edition : Edition) (db : Trees) (rows : List Row) → IsShown db About rows
    → IsNumbered edition db → IsAbout (number_of edition) rows
about_shown edition db rows shown is =
    ap (map (columns_at two)) (one_permutation (shown_about (number_of edition)) rows
    (subst (λ l. IsPermutation l rows) is shown))

both : (x y : Bool) → x && y ≡ true → (x ≡ true) × (y ≡ true)
both true y e = (refl, e)
both false y e = absurd (let f : false ≡ true = e in cc)

pub only_null : (v : Value) → is_null v ≡ true → v ≡ Null
only_null Null e = refl
only_null (Int n) e = absurd (let f : false ≡ true = e in cc)
only_null (Real x) e = absurd (let f : false ≡ true = e in cc)
only_null (Text t) e = absurd (let f : false ≡ true = e in cc)
only_null (Blob b) e = absurd (let f : false ≡ true = e in cc)

-- a row of `about` is its rowid, a NULL in the column that the rowid stands for, and a number
exact_row : (n : ℕ) (row : Row) → are_typed (Some 0) 0 about.columns (drop 1 row) ≡ true
    → column row 0 ≡ Int (pos 1) → column row 2 ≡ Int (pos n) → row ≡ about_numbered n
exact_row n [] typed one two = absurd (let e = one in cc)
exact_row n (a ∷ []) typed one two = absurd (let e = two in cc)
exact_row n (a ∷ b ∷ []) typed one two = absurd (let e = two in cc)
exact_row n (a ∷ b ∷ c ∷ []) typed one two =
    let null = only_null b (both _ _ typed).0 in
    ap (λ v. v ∷ b ∷ c ∷ []) one ∙ (ap (λ v. Int (pos 1) ∷ v ∷ c ∷ []) null
    ∙ ap (λ v. Int (pos 1) ∷ Null ∷ v ∷ []) two)
exact_row n (a ∷ b ∷ c ∷ d ∷ more) typed one two =
    absurd (let e : false ≡ true = (both _ _ (both _ _ typed).1).1 in cc)

one_under : (n : ℕ) (rows : List Row) → map about_numbers rows ≡ shown_about n ∷ []
    → (row : Row) × (rows ≡ row ∷ []) × (about_numbers row ≡ shown_about n)
one_under n [] e = absurd (let f : ◌≡◌ {A = List Row} [] (shown_about n ∷ []) = e in cc)
one_under n (r ∷ []) e =
    (r, refl, let f : ◌≡◌ {A = List Row} (about_numbers r ∷ []) (shown_about n ∷ []) = e in cc)
one_under n (r ∷ s ∷ more) e = absurd (let f = ap length e in omega (arith, f))

listed_first : (edition : Edition) → Stands (schema_of edition).tables about
listed_first First = inl refl
listed_first Second = inl refl

-- over the tables of a registry the one record is one row
pub about_row : (edition : Edition) (db : Trees) → IsSound (schema_of edition) db
    → IsNumbered edition db → db 0 ≡ about_numbered (number_of edition) ∷ []
about_row edition db sound is =
    let it = one_under (number_of edition) (db 0) is in
    let there : Stands (db 0) it.0 = subst (λ l. Stands l it.0) (sym it.1) (inl refl) in
    let typed = both _ _ (keeps_at Datatype (schema_of edition) db about it.0
    (sound.obeys.rules Datatype) (listed_first edition) there) in
    it.1 ∙ ap (λ r. r ∷ []) (exact_row (number_of edition) it.0 typed.0
    (ap (λ r. column r 0) it.2) (ap (λ r. column r 1) it.2))
