-- The rowid of the next row.
use Rattle.sqlite_rows.proofs.Common.{◌≡◌, ℕ, ℤ, pos, ◌+◌, ◌+ℤ◌, ◌^◌, ◌<◌, ◌≤◌, Bool, true, List, [], ◌∷◌, filter, fold, refl, ap, ◌∙◌, arith, nat_lt, Row, fits_i64, rowid, id_in, next_rowid, Has, all_has, all_from, has_filtered, AreUpTo, TakesMore}
use Rattle.std.proofs.lemmas.Bool.Decides.{nat_tests}

next_from : (last at : ℕ) (rows : List Row) → at ≤ last + 1 → AreUpTo last rows
    → (k : ℕ) × (fold (λ (_ : ℤ) r. id_in (rowid r) +ℤ pos 1) (pos at) rows ≡ pos k)
    × (k ≤ last + 1)
next_from last at [] low all = (at, refl, low)
next_from last at (r ∷ rows) low all =
    let one = all.0 in
    let here : id_in (rowid r) +ℤ pos 1 ≡ pos (one.0 + 1) = ap (λ v. id_in v +ℤ pos 1) one.1 in
    let more = next_from last (one.0 + 1) rows (omega (arith, one.2)) all.1 in (
      more.0,
      ap (λ z. fold (λ (_ : ℤ) x. id_in (rowid x) +ℤ pos 1) z rows) here ∙ more.1,
      more.2,
    )

pub next_is : (last : ℕ) (rows : List Row) → AreUpTo last rows
    → (k : ℕ) × (next_rowid rows ≡ pos k) × (k ≤ last + 1)
next_is last rows all = next_from last 1 rows (omega arith) all

pub next_fits : (rows : List Row) (more : ℕ) → TakesMore (more + 1) rows
    → fits_i64 (next_rowid rows) ≡ true
next_fits rows more takes =
    let next = next_is takes.last rows takes.up_to in
    let room = takes.room in
    let low : next.0 < 2 ^ 63 = omega (arith, next.2, room) in
    let fits : nat_lt next.0 (2 ^ 63) ≡ true = grind (arith, nat_tests) in
    ap fits_i64 next.1 ∙ fits

-- after some of the rows
pub fewer_take : (p : Row → Bool) (rows : List Row) (more : ℕ) → TakesMore more rows
    → TakesMore more (filter p rows)
fewer_take p rows more takes = record {
  last = takes.last;
  up_to = all_from _ (filter p rows) (λ r has. all_has _ rows r takes.up_to
      (has_filtered p rows r has).0);
  room = takes.room;
}

pub number_fits : (rows : List Row) (more : ℕ) (r : Row) → TakesMore more rows → Has rows r
    → fits_i64 (id_in (rowid r)) ≡ true
number_fits rows more r takes has =
    let it = all_has _ rows r takes.up_to has in
    let room = takes.room in
    let low : it.0 < 2 ^ 63 = omega (arith, it.2, room) in
    let fits : nat_lt it.0 (2 ^ 63) ≡ true = grind (arith, nat_tests) in
    ap (λ v. fits_i64 (id_in v)) it.1 ∙ fits
