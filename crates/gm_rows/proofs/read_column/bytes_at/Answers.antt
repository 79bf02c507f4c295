use Rattle.gm_rows.proofs.Common.{◌≡◌, ◌∙◌, ◌==◌, ◌/◌, ◌%◌, ◌*◌, ℕ, List, [], ◌∷◌, true, false, length, drop, refl, sym, ap, subst, arith, eqb-true, mod-add-div', first_chunks, Value, Blob, AreSectors, joined}
use Rattle.gm_rows.proofs.BlobSectors.{all_joined, none_left, pieces_whole}
use Rattle.gm_rows.proofs.read_column.bytes_at.Goals as goal

-- after sectors nothing is left
no_part : (blob rest : List ℕ) (value : Value) (sectors : List (List ℕ)) → Blob blob ≡ value
    → length rest ≡ length blob % 512 → (length rest == 0) ≡ false → AreSectors sectors
    → value ≡ Blob (joined sectors) → ⊥
no_part blob rest value sectors is left some whole same =
    let e : blob ≡ joined sectors = cc in
    let none : length rest ≡ 0 = left ∙ (ap (λ (l : List ℕ). length l % 512) e
    ∙ none_left sectors whole) in
    let f : true ≡ false = sym (ap (λ n. n == 0) none) ∙ some in
    cc

empty_is : (rest : List ℕ) → (length rest == 0) ≡ true → rest ≡ []
empty_is [] e = refl
empty_is (x ∷ xs) e =
    let h : length (x ∷ xs) ≡ 0 = eqb-true (length (x ∷ xs)) 0 e in
    absurd (let z : ⊥ = omega (arith, h) in z)

-- without a part of one the sectors are all bytes
all_bytes : (blob rest : List ℕ) (value : Value) (front sectors : List (List ℕ))
    → Blob blob ≡ value → rest ≡ drop (length blob / 512 * 512) blob → (length rest == 0) ≡ true
    → front ≡ first_chunks 512 (length blob / 512) blob → sectors ≡ front
    → value ≡ Blob (joined sectors)
all_bytes blob rest value front sectors is left none cut same =
    let all = all_joined blob (sym left ∙ empty_is rest none) in
    sym is ∙ ap Blob (sym all ∙ sym (ap joined (same ∙ cut)))

pub returns-then-not-is_empty-clause-unreadable : goal.returns-then-not-is_empty-clause-unreadable
returns-then-not-is_empty-clause-unreadable c same sectors whole is =
    no_part c.in-Ok-Blob.blob.now c.as_chunks.result.1.now _ sectors
    (rw c.in-Ok-Blob.field-0-is at c.in-Ok-Blob.ensures.ok).1 c.as_chunks.ensures.back_len
    (sym c.is_empty.ensures ∙ c.if-not-is_empty.true) whole is

pub returns-in_ok-from_slice-in-Ok-Blob-clause-bytes :
    goal.returns-in_ok-from_slice-in-Ok-Blob-clause-bytes
returns-in_ok-from_slice-in-Ok-Blob-clause-bytes c =
    all_bytes c.in-Ok-Blob.blob.now c.as_chunks.result.1.now _ c.as_chunks.result.0.now _
    (rw c.in-Ok-Blob.field-0-is at c.in-Ok-Blob.ensures.ok).1 c.as_chunks.ensures.back
    (sym c.is_empty.ensures ∙ c.if-not-is_empty.false) c.as_chunks.ensures.front
    c.in_ok-from_slice-in-Ok-Blob.ensures.items

pub returns-in_ok-from_slice-in-Ok-Blob-clause-whole :
    goal.returns-in_ok-from_slice-in-Ok-Blob-clause-whole
returns-in_ok-from_slice-in-Ok-Blob-clause-whole c =
    let blob = c.in-Ok-Blob.blob.now in
    let parts = mod-add-div' (length blob) 512 in
    subst AreSectors (sym (c.in_ok-from_slice-in-Ok-Blob.ensures.items ∙ c.as_chunks.ensures.front))
    (pieces_whole (length blob / 512) blob (omega (arith, parts)))
