-- Commands are counted by how many there are, and by the least and the greatest of their numbers.
use Rattle.gm_rows.proofs.Common.{◌≡◌, ◌∙◌, inl, inr, ℕ, ℤ, pos, negsuc, ◌≤◌, ◌<◌, Bool, true, false, ltb, List, [], ◌∷◌, map, min, length, refl, sym, ap, subst, arith, is_lt, int_cmp, min-eq_left, min-eq_right, cases_Bool, cases_lt, ltb-false, true≢false, length-map, IsPermutation-sym, length_permutation, Row, column, Trees, value_cmp-Int, Value, Int, columns, Has, Has-permutation, Tables, CommandRow, number_of, is_less, is_greater, IsFirstBy, AreNumbersShown, command_values, IsBetween, IsNumber, IsWithin, AreCounted, HasRows, HasCounted, numbers_of, CommandNumbers}
use Rattle.gm_rows.proofs.CountedNumbers.{counted_up_to}

-- ---- numbers as values

same_number : (a b : ℕ) → ◌≡◌ {A = Value} (Int (pos a)) (Int (pos b)) → a ≡ b
same_number a b e = cc

-- what isn't below a number is at least that
pub not_below : (a b : ℕ) → is_lt (int_cmp (pos a) (pos b)) ≡ false → b ≤ a
not_below a b h = elim (cases_Bool (ltb a b)) [
  | inl low ↦ absurd (true≢false (let e : is_lt (int_cmp (pos a) (pos b)) ≡ true = rw low in
      sym e ∙ h))
  | inr high ↦ omega (arith, ltb-false a b high)
]

-- an integer that is neither below the one nor above the other is between them
between : (z : ℤ) (low high : ℕ) → is_less (Int z) (Int (pos low)) ≡ false
    → is_greater (Int z) (Int (pos high)) ≡ false
    → (n : ℕ) × (z ≡ pos n) × (low ≤ n) × (n ≤ high)
between (pos n) low high above below = (
  n,
  refl,
  not_below n low (ap is_lt (sym (value_cmp-Int (pos n) (pos low))) ∙ above),
  not_below high n (ap is_lt (sym (value_cmp-Int (pos high) (pos n))) ∙ below),
)
between (negsuc k) low high above below =
    let less : is_lt (int_cmp (negsuc k) (pos low)) ≡ true = refl in
    absurd (true≢false (sym less ∙ (ap is_lt (sym (value_cmp-Int (negsuc k) (pos low))) ∙ above)))

-- a count that isn't cut is how many there are
count_whole : (many most count : ℕ) → count < most → min many most ≡ count → count ≡ many
count_whole many most count few is = elim (cases_lt most many) [
  | inl over ↦ absurd (let cut : min many most ≡ most = min-eq_right (omega (arith, over)) in
      omega (arith, cut, is, few))
  | inr under ↦ sym is ∙ min-eq_left under
]

-- ---- the rows of the commands, and what is shown of them

has_mapped : {A B : Type 0} (f : A → B) (xs : List A) (x : A) → Has xs x → Has (map f xs) (f x)
has_mapped f [] x h = absurd h
has_mapped f (y ∷ xs) x (inl same) = inl (ap f same)
has_mapped f (y ∷ xs) x (inr later) = inr (has_mapped f xs x later)

mapped_from : {A B : Type 0} (f : A → B) (xs : List A) (y : B) → Has (map f xs) y
    → (x : A) × Has xs x × (f x ≡ y)
mapped_from f [] y h = absurd h
mapped_from f (x ∷ xs) y (inl same) = (x, inl refl, same)
mapped_from f (x ∷ xs) y (inr later) = let it = mapped_from f xs y later in (it.0, inr it.1, it.2)

module _ (db : Trees) (n : CommandNumbers) (are : AreNumbersShown db n) where
  -- counted commands are as many as are counted
  pub count_is : (says : AreCounted n) → says.count ≡ length (db 8)
  count_is says =
      count_whole (length (db 8)) 9223372036854775807 says.count (omega (arith, says.few))
      (same_number _ _ (subst (IsNumber says.count) are.count says.count_is))

  -- and numbered from 1 to how many they are, if their numbers are integers
  pub each_numbered : ((row : Row) → Has (db 8) row → (z : ℤ) × (number_of row ≡ Int z))
      → AreCounted n → (row : Row) → Has (db 8) row → IsBetween 1 (length (db 8)) (number_of row)
  each_numbered ints says row has = elim are.least [
    | inl none ↦ absurd (subst (λ rows. Has rows row) none.0 has)
    | inr first ↦ elim are.greatest [
      | inl none ↦ absurd (subst (λ rows. Has rows row) none.0 has)
      | inr last ↦
          let low : IsBetween 1 says.count (number_of first.0) =
          subst (IsWithin says.count) first.3 says.least in
          let high : IsBetween 1 says.count (number_of last.0) =
          subst (IsWithin says.count) last.3 says.greatest in
          let it = ints row has in
          let above : is_less (Int it.0) (Int (pos low.0)) ≡ false =
          ap (λ v. is_less v (Int (pos low.0))) (sym it.1)
          ∙ (ap (is_less (number_of row)) (sym low.1) ∙ first.2 row has) in
          let below : is_greater (Int it.0) (Int (pos high.0)) ≡ false =
          ap (λ v. is_greater v (Int (pos high.0))) (sym it.1)
          ∙ (ap (is_greater (number_of row)) (sym high.1) ∙ last.2 row has) in
          let found = between it.0 low.0 high.0 above below in (
            found.0,
            it.1 ∙ ap Int found.1,
            omega (arith, low.2, found.2),
            omega (arith, high.3, found.3, count_is says),
          )
    ]
  ]

  within : (before : Value → Value → Bool) (rows : List Row)
      → ((row : Row) → Has (db 8) row → IsBetween 1 (length (db 8)) (number_of row))
      → IsFirstBy before number_of (db 8) rows → IsWithin (length (db 8)) rows
  within before rows each (inl none) = subst (IsWithin (length (db 8))) (sym none.1) tt
  within before rows each (inr it) =
      subst (IsWithin (length (db 8))) (sym it.3) (each it.0 it.1)

  -- commands that are numbered so are counted, if there aren't too many
  pub counted_so : length (db 8) ≤ 100000
      → ((row : Row) → Has (db 8) row → IsBetween 1 (length (db 8)) (number_of row))
      → AreCounted n
  counted_so few each = record {
    count = length (db 8);
    count_is = subst (IsNumber (length (db 8))) (sym are.count)
        (ap (λ k. Int (pos k)) (min-eq_left (omega (arith, few))));
    few = few;
    least = within is_less n.least.items each are.least;
    greatest = within is_greater n.greatest.items each are.greatest;
  }

-- ---- the commands of a registry

number_kept : (row : Row) → column (columns row) 1 ≡ number_of row
number_kept [] = refl
number_kept (v ∷ row) = refl

pub kept_many : (db : Trees) (t : Tables) → HasRows db t → length (db 8) ≡ length t.commands
kept_many db t has =
    sym (length-map (db 8) columns) ∙ (length_permutation _ _ has.commands.same
    ∙ length-map t.commands command_values)

-- they are numbered from 1 to how many they are
pub kept_numbered : (db : Trees) (t : Tables) → HasCounted db t → (row : Row) → Has (db 8) row
    → IsBetween 1 (length (db 8)) (number_of row)
kept_numbered db t has row there =
    let seq : CommandRow → ℕ = λ c. c.seq in
    let from = mapped_from command_values t.commands (columns row)
    (Has-permutation (map columns (db 8)) (map command_values t.commands) (columns row)
    (IsPermutation-sym _ _ has.rows.commands.same) (has_mapped columns (db 8) row there)) in
    let number = Has-permutation (map seq t.commands) (numbers_of (length t.commands)) from.0.seq
    (IsPermutation-sym _ _ has.numbered) (has_mapped seq t.commands from.0 from.1) in
    let up = counted_up_to (length t.commands) from.0.seq number in (
      from.0.seq,
      sym (number_kept row) ∙ ap (λ (r : Row). column r 1) (sym from.2),
      up.0,
      omega (arith, up.1, kept_many db t has.rows),
    )
