use Rattle.gm_rows.proofs.Common.{◌≡◌, ◌≢◌, ◌∙◌, ◌==◌, ℕ, List, [], ◌∷◌, true, false, length, get_or, sym, ap, arith, eqb-true, Row, column, Blob, joined, same_joined, AreSectors, ArePatches, shown_patch}
use Rattle.gm_rows.proofs.RowsSayRecords.{blob_in, passed_on}
use Rattle.gm_rows.proofs.said_state.read_patches.Goals as goal

-- the first of some rows has the bytes, which are some
record HasBytes (row : Row) (bytes : List (List ℕ)) : Type 0 where
  there : column row 1 ≡ Blob (joined bytes)
  some : bytes ≢ []

first_has : (rows : List Row) (row : Row) (bytes : List (List ℕ)) → row ≡ get_or rows 0 row
    → (length rows == 0) ≡ false → ArePatches bytes rows → HasBytes row bytes
first_has [] row bytes is some same = absurd (let e : true ≡ false = some in cc)
first_has (r ∷ rows) row [] is some same = cc
first_has (r ∷ rows) row (x ∷ xs) is some same = record {
  there = (let shown : column r 0 ∷ column r 1 ∷ [] ≡ shown_patch (joined (x ∷ xs)) = cc in
      ap (λ (q : Row). column q 1) is ∙ ap (λ (q : Row). column q 1) shown);
  some = λ none. cc;
}

-- no bytes are those of an empty record
not_empty : (row : Row) (bytes found : List (List ℕ)) → HasBytes row bytes → AreSectors bytes
    → AreSectors found → column row 1 ≡ Blob (joined found) → (length found == 0) ≡ true → ⊥
not_empty row bytes [] has whole cut is none =
    has.some (same_joined bytes [] whole cut (ap blob_in (sym has.there ∙ is)))
not_empty row bytes (x ∷ xs) has whole cut is none =
    let h : length (x ∷ xs) ≡ 0 = eqb-true (length (x ∷ xs)) 0 none in
    let z : ⊥ = omega (arith, h) in z

pub returns-in_err-bytes-clause-unreadable : goal.returns-in_err-bytes-clause-unreadable
returns-in_err-bytes-clause-unreadable c =
    passed_on c.from_residual.result _ _ (λ e same is bytes whole says.
    c.in_err-bytes.ensures.unreadable (sym same ∙ is) bytes whole
    (first_has c.args.rows.now c.index-rows-0-2.result bytes c.index-rows-0-2.is
    (sym c.is_empty.ensures ∙ c.if-is_empty.false) says).there) c.from_residual.ensures.1

pub returns-then-is_empty-2-clause-unreadable : goal.returns-then-is_empty-2-clause-unreadable
returns-then-is_empty-2-clause-unreadable c is bytes whole says =
    not_empty c.index-rows-0-2.result bytes c.in_ok-bytes.bytes.items
    (first_has c.args.rows.now c.index-rows-0-2.result bytes c.index-rows-0-2.is
    (sym c.is_empty.ensures ∙ c.if-is_empty.false) says) whole c.in_ok-bytes.ensures.whole
    c.in_ok-bytes.ensures.bytes (ap (λ n. n == 0) (sym c.in_ok-bytes.bytes.ok.0)
    ∙ (sym c.is_empty-2.ensures ∙ c.if-is_empty-2.true))
