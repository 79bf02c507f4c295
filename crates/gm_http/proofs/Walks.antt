-- How a path walks over rows: along bytes that no parameter takes, and through one at their end.
use Rattle.gm_http.proofs.Common.{◌≡◌, ◌∙◌, ◌-◌, ◌<◌, ◌==◌, ◌&&◌, ℕ, Bool, true, false, zero, suc, refl, sym, ap, arith, List, [], ◌∷◌, ◌++◌, length, drop, cond, true≢false, Option, Some, None, nat_lt, nat_eq, length-append, append-nil, ends_with, list_all, Decides-eqb, ends_is, nat_tests, drop-length, drop-append_seam, is_label, is_label_byte}
use Rattle.matchit.specs.Rows.{RowsOf, param_token, catch_all_token}
use Rattle.matchit.specs.Seek.{cuts, has_slash, or_else, own, param_step, seek, segment, step, longest_suffix}

abbrev pub is_none : {A : Type 0} → List A → Bool
is_none [] = true
is_none (x ∷ xs) = false

nothing : {A : Type 0} (xs : List A) → is_none xs ≡ true → xs ≡ []
nothing [] h = refl
nothing (x ∷ xs) h = absurd (true≢false (sym h))

both : (a b : Bool) → (a && b) ≡ true → (a ≡ true) × (b ≡ true)
both true true h = (refl, refl)
both true false h = absurd (true≢false (sym h))
both false b h = absurd (true≢false (sym h))

not_param : (b : ℕ) → is_label_byte b ≡ true → (param_token == b) ≡ false
not_param b h = grind (arith, nat_tests)

not_slash : (b : ℕ) → is_label_byte b ≡ true → (b == 47) ≡ false
not_slash b h = grind (arith, nat_tests)

no_slash : (name : List ℕ) → list_all is_label_byte name ≡ true → has_slash name ≡ false
no_slash [] h = refl
no_slash (b ∷ rest) h = rw (not_slash b (both _ _ h).0) (no_slash rest (both _ _ h).1)

pub segment_label : (name path : List ℕ) → list_all is_label_byte name ≡ true
    → segment (name ++ (47 ∷ path)) ≡ name ++ (47 ∷ [])
segment_label [] path h = refl
segment_label (b ∷ rest) path h =
    rw (not_slash b (both _ _ h).0) (ap (λ l. b ∷ l) (segment_label rest path (both _ _ h).1))

pub label_letters : (name : List ℕ) → is_label name ≡ true → list_all is_label_byte name ≡ true
label_letters name h = (both _ _ h).1

cuts_end : (seg : List ℕ) → 0 < length seg → cuts (seg ++ (47 ∷ [])) (47 ∷ []) ≡ true
cuts_end seg some =
    let long : nat_lt 1 (length (seg ++ (47 ∷ []))) ≡ true =
    rw length-append (grind (arith, nat_tests)) in
    let ends : ends_with nat_eq (seg ++ (47 ∷ [])) (47 ∷ []) ≡ true =
    (ends_is Decides-eqb (seg ++ (47 ∷ [])) (47 ∷ []) _ refl).1 seg refl in
    rw (long, ends) refl

one_less : (rest : List ℕ) → length (0 ∷ rest) - 1 ≡ length rest
one_less rest = omega arith

module _ {K : Type 0} where
  or_none : (a : Option K) → or_else a None ≡ a
  or_none None = refl
  or_none (Some k) = refl

  no_step : (path : List ℕ) → (param_step {K = K} [] path).1 ≡ []
  unfolding param_step
  no_step path =
      elim (has_slash path) as (λ v. (cond {A = ℕ × RowsOf K} v (0, []) (length path, [])).1 ≡ []) [
        | true ↦ refl
        | false ↦ refl
      ]

  pub seek_nothing : (k : ℕ) (path : List ℕ) → seek {K = K} k [] path ≡ None
  unfolding seek
  seek_nothing k [] = refl
  seek_nothing (suc k) (b ∷ path) = seek_nothing k path
  seek_nothing zero (b ∷ path) =
      simp (
        seek_nothing 0 path,
        no_step (b ∷ path),
        seek_nothing (((param_step {K = K} [] (b ∷ path)).0) - 1) path,
      )

  pub seek_past : (k : ℕ) (rows : RowsOf K) (path : List ℕ)
      → seek k rows path ≡ seek 0 rows (drop k path)
  unfolding seek
  seek_past zero rows path = refl
  seek_past (suc k) rows [] = refl
  seek_past (suc k) rows (b ∷ path) = seek_past k rows path

  -- no row goes on with a parameter
  abbrev pub plain : RowsOf K → Bool
  plain rows = is_none (step param_token rows) && is_none (step catch_all_token rows)

  -- the rows that go on after these bytes
  abbrev pub walked : List ℕ → RowsOf K → RowsOf K
  walked [] rows = rows
  walked (b ∷ bytes) rows = walked bytes (step b rows)

  -- none of them meets a parameter
  abbrev pub are_plain : List ℕ → RowsOf K → Bool
  are_plain [] rows = true
  are_plain (b ∷ bytes) rows = plain rows && are_plain bytes (step b rows)

  seek_plain : (b : ℕ) (rows : RowsOf K) (path : List ℕ) → plain rows ≡ true
      → seek 0 rows (b ∷ path) ≡ seek 0 (step b rows) path
  unfolding seek
  seek_plain b rows path h =
      let no_param : step param_token rows ≡ [] = nothing _ (both _ _ h).0 in
      let no_catch : step catch_all_token rows ≡ [] = nothing _ (both _ _ h).1 in
      simp (
        no_param,
        no_catch,
        no_step (b ∷ path),
        seek_nothing (((param_step {K = K} [] (b ∷ path)).0) - 1) path,
        or_none,
      )

  pub walk : (bytes path : List ℕ) (rows : RowsOf K) → are_plain bytes rows ≡ true
      → seek 0 rows (bytes ++ path) ≡ seek 0 (walked bytes rows) path
  walk [] path rows h = refl
  walk (b ∷ bytes) path rows h =
      seek_plain b rows (bytes ++ path) (both _ _ h).0
      ∙ walk bytes path (step b rows) (both _ _ h).1

  -- the parameter takes all that is left
  to_end : (key : K) (b : ℕ) (rest : List ℕ) → has_slash (b ∷ rest) ≡ false
      → param_step (([], key) ∷ []) (b ∷ rest) ≡ (length (b ∷ rest), ([], key) ∷ [])
  unfolding param_step
  to_end key b rest whole = rw whole refl

  -- a parameter at the end of a route takes a label
  pub seek_label : (key : K) (name : List ℕ) → is_label name ≡ true
      → seek 0 ((param_token ∷ [], key) ∷ []) name ≡ Some key
  unfolding seek
  seek_label key [] h = absurd (true≢false (sym h))
  seek_label key (b ∷ rest) h =
      let letters = (both _ _ h).1 in
      let small : (param_token == b) ≡ false = not_param b (both _ _ letters).0 in
      let went : seek (length (b ∷ rest) - 1) (([], key) ∷ []) rest ≡ Some key =
      ap (λ k. seek k (([], key) ∷ []) rest) (one_less rest)
      ∙ seek_past (length rest) (([], key) ∷ []) rest
      ∙ ap (seek 0 (([], key) ∷ [])) (drop-length rest) in
      simp (small, seek_nothing 0 rest, to_end key b rest (no_slash (b ∷ rest) letters), went)

  -- it takes what comes before the end that begins with a slash
  to_slash : (key : K) (seg path back : List ℕ) → segment path ≡ seg ++ (47 ∷ [])
      → 0 < length seg → segment back ≡ 47 ∷ []
      → param_step ((back, key) ∷ []) path ≡ (length seg, (back, key) ∷ [])
  unfolding param_step
  to_slash key seg path back cut some begins =
      let suffix : longest_suffix (segment path) ((back, key) ∷ []) ≡ 47 ∷ [] =
      rw (begins, cut, cuts_end seg some) refl in
      let front : length (segment path) - 1 ≡ length seg =
      rw (cut, length-append) (omega arith) in
      rw (suffix, begins) (ap (λ n. (n, (back, key) ∷ [])) front)

  -- and before an end that begins with a slash
  pub seek_label_before : (key : K) (name back : List ℕ) → is_label name ≡ true
      → segment back ≡ 47 ∷ [] → segment (name ++ back) ≡ name ++ (47 ∷ [])
      → seek 0 ((back, key) ∷ []) back ≡ Some key
      → seek 0 ((param_token ∷ back, key) ∷ []) (name ++ back) ≡ Some key
  unfolding seek
  seek_label_before key [] back h begins cut ends = absurd (true≢false (sym h))
  seek_label_before key (b ∷ rest) back h begins cut ends =
      let letters = (both _ _ h).1 in
      let small : (param_token == b) ≡ false = not_param b (both _ _ letters).0 in
      let went : seek (length (b ∷ rest) - 1) ((back, key) ∷ []) (rest ++ back) ≡ Some key =
      ap (λ k. seek k ((back, key) ∷ []) (rest ++ back)) (one_less rest)
      ∙ seek_past (length rest) ((back, key) ∷ []) (rest ++ back)
      ∙ ap (seek 0 ((back, key) ∷ [])) (drop-append_seam rest back) ∙ ends in
      simp (
        small,
        seek_nothing 0 (rest ++ back),
        to_slash key (b ∷ rest) (b ∷ (rest ++ back)) back cut (omega arith) begins,
        went,
      )

  -- a route without a parameter takes its own text
  pub seek_end : (bytes : List ℕ) (rows : RowsOf K) (key : K) → are_plain bytes rows ≡ true
      → walked bytes rows ≡ ([], key) ∷ [] → seek 0 rows bytes ≡ Some key
  unfolding seek
  seek_end bytes rows key h e =
      ap (seek 0 rows) (sym (append-nil bytes)) ∙ walk bytes [] rows h ∙ ap own e
