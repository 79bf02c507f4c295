-- No two commands have one number.
use Rattle.gm_registry.proofs.Common.{◌≡◌, ◌∙◌, inl, inr, ℕ, pos, true, false, not, ◌&&◌, List, [], ◌∷◌, map, refl, sym, ap, IsTrue, AllByRecursion, is_eq, true≢false, and_from, Row, Binary, Trees, Int, IsSound, all_has, test_has, some_from, keeps_at, agree, clashes, differ, equal, guards, Unique, IsTable, rowid, is_int, IsShaped, value_cmp, mapped_from, same_value_cmp, not_both, ints_differ, ints_equal, number_of, registry_schema, commands, commands_by_seq, AreApart, stands_from}
use Rattle.std.specs.declared.cmp.Ordering.TheVariants.{Less}
use Rattle.sqlite_rules.specs.Lists.{Has as Stands}
use Rattle.sqlite_trees.specs.declared.store.Shape.TheVariants as shape
use Rattle.sqlite_value.specs.Keys.{plain, first_key}

-- a row whose rowid is below those of the rows after it differs from each of them in its rowid
differs : (row other : Row) → IsTrue (is_int (rowid row)) → IsTrue (is_int (rowid other))
    → value_cmp (rowid row) (rowid other) ≡ Less → differ (rowid row) (rowid other) ≡ true
differs row other one two less = ints_differ (rowid row) (rowid other) one two (ap is_eq less)

-- numbers of rows are apart, of which no two with other rowids have the same
apart_in : (number : Row → ℕ) (rows : List Row) → IsTable rows
    → AllByRecursion (λ r. IsTrue (is_int (rowid r))) rows
    → ((a b : Row) → Stands rows a → Stands rows b → differ (rowid a) (rowid b) ≡ true
    → number a ≡ number b → ⊥) → AreApart (map number rows)
apart_in number [] rising ints alone = tt
apart_in number (row ∷ rows) rising ints alone = (
  λ has.
      let from = mapped_from number rows (number row)
      (stands_from (map number rows) (number row) has) in
      alone row from.0 (inl refl) (inr from.1)
      (differs row from.0 ints.0
      (all_has (λ r. IsTrue (is_int (rowid r))) rows from.0 ints.1 from.1)
      (all_has (λ r. value_cmp (rowid row) (rowid r) ≡ Less) rows from.0 rising.0 from.1)) from.2,
  apart_in number rows rising.1 ints.1 (λ a b one two. alone a b (inr one) (inr two)),
)

module _ (db : Trees) (sound : IsSound registry_schema db) where
  none_clashes : (row : Row) → Stands (db 8) row → clashes plain (2 ∷ []) (db 8) row ≡ false
  none_clashes row there =
      let listed : Stands registry_schema.tables commands = inr (inr (inr (inr (inl refl)))) in
      let guarded : Stands registry_schema.indexes commands_by_seq =
      inr (inr (inr (inr (inr (inl refl))))) in
      let all = keeps_at Unique registry_schema db commands row (sound.obeys.rules Unique) listed
      there in
      not_both (guards commands_by_seq commands) _
      (test_has (λ i. not (guards i commands && clashes i.order i.columns (db 8) row))
      registry_schema.indexes commands_by_seq all guarded) refl

  pub one_numbered : (n : ℕ) (a b : Row) → Stands (db 8) a → Stands (db 8) b
      → differ (rowid a) (rowid b) ≡ true → number_of a ≡ Int (pos n) → number_of b ≡ Int (pos n)
      → ⊥
  unfolding first_key
  one_numbered n a b one two other is same =
      let alike : equal Binary (number_of a) (number_of b) ≡ true =
      (λ i. equal Binary (is i) (same i))
      ∙ (ints_equal (Int (pos n)) (Int (pos n)) refl refl ∙ ap is_eq (same_value_cmp (Int (pos n))))
      in
      let agrees : agree plain (2 ∷ []) a (2 ∷ []) b ≡ true = and_from _ _ alike refl in
      true≢false (sym (some_from (λ r. agree plain (2 ∷ []) r (2 ∷ []) b
      && differ (rowid r) (rowid b)) (db 8) a one (and_from _ _ agrees other))
      ∙ none_clashes b two)

  -- the numbers that are read of them are apart, if the rowids rise
  pub apart : (number : Row → ℕ)
      → ((row : Row) → Stands (db 8) row → number_of row ≡ Int (pos (number row)))
      → IsShaped shape.Table (db 8) → AreApart (map number (db 8))
  apart number is rising =
      apart_in number (db 8) rising.0 rising.1 (λ a b one two other same.
      one_numbered (number a) a b one two other (is a one)
      (is b two ∙ ap (λ n. Int (pos n)) (sym same)))
