-- Why the insertion of the record of bytes fails: no rule of its table refuses it if none is
-- there.
use Rattle.gm_registry.proofs.Common.{◌≡◌, inl, inr, ℕ, true, not, ◌&&◌, ◌==◌, List, [], ◌∷◌, length, refl, sym, ap, subst, ◌∙◌, arith, eq-eqb, list_all, true≢false, not-true, Row, Trees, Insert, Values, Chosen, Blob, IsSound, Enforced, Check, Unique, ForeignKey, guards, passes, is_taken, with_rowid, IsOversized, test_has, Keeps, whole, is_all_of, unique_added, small, IsAllowed, insert_stops, length_permutation, length-map, Tables, patch_values, patches, registry_schema, put_patch_text, HasRows, TakesPatch}
use Rattle.std.specs.Float.Ieee
use Rattle.sqlite.specs.Listing.{understood}
use Rattle.sqlite_sql.specs.Ops.{binary}
use Rattle.sqlite_value.specs.Order.{value_cmp}
use Rattle.sqlite_tied.specs.Compute.{everything}
use Rattle.gm_registry.proofs.ChangedTables.{patch_typed}
use Rattle.gm_registry.proofs.FittingTables.{apart, only, refers}
use Rattle.gm_registry.proofs.InsideFails.{StopsOnly}
use Rattle.gm_registry.proofs.TextMeanings.{patch_terms}

-- if no record is kept no row is
no_rows : (bytes : List (List ℕ)) (rows : List Row) → Keeps whole patch_values bytes rows
    → bytes ≡ [] → rows ≡ []
no_rows bytes [] kept none = refl
no_rows bytes (r ∷ rows) kept none =
    let many = length_permutation _ _ kept.same in
    absurd (let z : ⊥ = omega (
      arith,
      many,
      length-map bytes patch_values,
      length-map (r ∷ rows) whole,
      ap length none,
    ) in z)

-- its check holds
patch_checked : (bytes : List ℕ) (db : Trees)
    → list_all (passes Check registry_schema db patches) (patch_values bytes ∷ []) ≡ true
unfolding binary value_cmp Ieee.lt Ieee.is_nan
patch_checked bytes db = refl

module _ (bytes : List ℕ) (db : Trees) (t : Tables) (holds : HasRows db t)
    (sound : IsSound registry_schema db) (takes : TakesPatch bytes t) where
  patch_allowed : IsAllowed registry_schema Enforced db
      (record { table = patches; gone = []; news = patch_values bytes ∷ [] })
  patch_allowed =
      let none : db 11 ≡ [] = no_rows t.patches (db 11) holds.patches takes.free in
      let fresh : not (is_taken (db 11) (patch_values bytes)) && true ≡ true =
      ap (λ rows. not (is_taken rows (patch_values bytes)) && true) none in
      let short = takes.short in
      record {
        typed = refl;
        present = refl;
        checked = patch_checked bytes db;
        keyed = refl;
        numbers = refl;
        fresh = fresh;
        unique = unique_added registry_schema db
            (record { table = patches; gone = []; news = patch_values bytes ∷ [] }) apart
            (inr (inr (inr (inr (inr (inl refl)))))) holds.patches.keyed.0 fresh
            (patch_values bytes) refl
            (λ index known guarded. absurd (true≢false (sym guarded ∙ not-true _ (test_has
            (λ i. not (guards i patches)) registry_schema.indexes index refl known))))
            (sound.obeys.rules Unique);
        referred = refl;
        small = λ row has.
            subst (λ r. IsOversized registry_schema patches r → ⊥)
            (sym (only (patch_values bytes) row has))
            (small registry_schema patches (patch_values bytes) refl refl
            (omega arith, omega arith) (omega (arith, short))
            (λ index known own. absurd (true≢false (sym (eq-eqb _ _ own) ∙ not-true _ (test_has
            (λ i. not (i.table == 11)) registry_schema.indexes index refl known)))));
      }

pub put_patch_whole : is_all_of put_patch_text 1 (understood registry_schema put_patch_text) ≡ true
unfolding understood everything
put_patch_whole = refl

pub put_patch_stops : (bytes : List ℕ)
    → StopsOnly (Insert 5 (Values patch_terms 3)) (Blob bytes ∷ []) (λ _. TakesPatch bytes)
put_patch_stops bytes db t limit text stop holds sound takes =
    insert_stops registry_schema 5 patches refl patch_terms 3 (Blob bytes ∷ [])
    (patch_values bytes) (patch_values bytes) limit db refl refl
    (ap (with_rowid Chosen (db 11)) (patch_typed bytes))
    (patch_allowed bytes db t holds sound takes)
    (λ next made. refers db next (made.tables.1.0 (λ e. let f : 1 ≡ 11 = e in cc))
    (made.tables.1.1.0 (λ e. let f : 4 ≡ 11 = e in cc)) (sound.obeys.rules ForeignKey)) stop
