-- Each image that a crash may leave is named by some picks.
use Rattle.gm_shelf.proofs.Common.{◌≡◌, ◌∙◌, ◌<◌, ◌≤◌, ◌+◌, ◌^◌, ◌++◌, ◌⊎◌, ⊎_elim, inl, inr, ℕ, zero, suc, List, [], ◌∷◌, Bool, true, false, Option, Some, None, if◌then◌else◌, min, nat_lt, refl, sym, ap, subst, arith, length, get_or, take, add-one, true≢false, IsSomeAnd, Contains, All, unwrap_or, get_or-append, get_or-append_seam, get_or_default, length-append, get_or-append-add, All-append, All-nil, sum_by_more, cases_lt, nat_tests, Label, Image, AreNames, Disks, IsCache, size_after, synced_after, written_after, may_leave_after, picked_value, pick_at, is_unsynced, unsynced_below, unsynced_of, picked_after, IsPicked, Event}
use Rattle.gm_shelf.proofs.SoFar.{name_at}
use Rattle.gm_shelf.proofs.NothingWritten.{picked_none}

-- the pick that names a value which a crash may leave
choose : (s : List ℕ) (ws : List (List ℕ)) (v : List ℕ) → (v ≡ s) ⊎ Contains ws v
    → (m : ℕ) × (m ≤ length ws) × (picked_value s ws m ≡ v)
choose s ws v (inl e) =
    (0, omega arith, (let z : min 0 (length ws) ≡ 0 = omega arith in rw z (sym e)))
choose s ws v (inr among) = (
  suc among.0,
  omega (arith, among.1),
  (let z : min (suc among.0) (length ws) ≡ suc among.0 = omega (arith, among.1) in
      rw z (get_or_default ws among.0 [] v among.1 ∙ among.2)),
)

some_written : (w : List ℕ) (ws : List (List ℕ)) → nat_lt 0 (length (w ∷ ws)) ≡ true
some_written w ws = grind (arith, nat_tests)

-- if nothing is written, the picks don't differ
any_pick : (s : List ℕ) (ws : List (List ℕ)) (m n : ℕ) → nat_lt 0 (length ws) ≡ false
    → picked_value s ws m ≡ picked_value s ws n
any_pick s [] m n none = picked_none s m ∙ sym (picked_none s n)
any_pick s (w ∷ ws) m n none = absurd (true≢false (sym (some_written w ws) ∙ none))

-- the pick of an unsynced sector
abbrev pub one_more : Bool → ℕ → List ℕ
one_more true m = m ∷ []
one_more false m = []

count_more : (b : Bool) (m k : ℕ) → k + length (one_more b m) ≡ k + (if b then 1 else 0)
count_more true m k = refl
count_more false m k = refl

one_below : (b : Bool) (m : ℕ) → m < 2 ^ 32 → All (λ (n : ℕ). n < 2 ^ 32) (one_more b m)
one_below true m small zero d lt = small
one_below true m small (suc k) d lt = absurd (omega (arith, lt))
one_below false m small k d lt = absurd (omega (arith, lt))

below_or_at : (j n : ℕ) → j < suc n → (j < n) ⊎ (j ≡ n)
below_or_at j n lt =
    ⊎_elim (λ (below : j < n). inl below) (λ (ge : n ≤ j). inr (omega arith)) (cases_lt j n)

module _ (history : List Event) (x : Image) (left : may_leave_after history x)
    (names : List Label) where
  pub choice : (p : Label) (j : ℕ) → (m : ℕ) × (m ≤ length (written_after history p j))
      × (picked_value (synced_after history p j) (written_after history p j) m ≡ x p j)
  choice p j = choose (synced_after history p j) (written_after history p j) (x p j) (left p j)

  -- the picks of a provider's first n sectors
  abbrev pub picks_of : Label → ℕ → List ℕ
  picks_of p zero = []
  picks_of p (suc n) = picks_of p n ++ one_more (is_unsynced history p n) (choice p n).0

  length-picks_of : (p : Label) (n : ℕ) → length (picks_of p n) ≡ unsynced_below history p n
  length-picks_of p zero = refl
  length-picks_of p (suc n) =
      length-append (picks_of p n) (one_more (is_unsynced history p n) (choice p n).0)
      ∙ count_more (is_unsynced history p n) (choice p n).0 (length (picks_of p n))
      ∙ ap (λ (k : ℕ). k + (if is_unsynced history p n then 1 else 0)) (length-picks_of p n)

  -- the pick of an unsynced sector comes after those of the unsynced sectors before it

  stands : (p : Label) (n j : ℕ) → j < n → is_unsynced history p j ≡ true
      → (unsynced_below history p j < length (picks_of p n))
      × (get_or (picks_of p n) (unsynced_below history p j) 0 ≡ (choice p j).0)
  stands p zero j lt un = absurd (omega (arith, lt))
  stands p (suc n) j lt un =
      ⊎_elim
      (λ (below : j < n).
      let before : (unsynced_below history p j < length (picks_of p n))
      × (get_or (picks_of p n) (unsynced_below history p j) 0 ≡ (choice p j).0) =
      stands p n j below un in (
        omega (
          arith,
          before.0,
          length-append (picks_of p n) (one_more (is_unsynced history p n) (choice p n).0),
        ),
        get_or-append (picks_of p n) (one_more (is_unsynced history p n) (choice p n).0) 0
            (unsynced_below history p j) before.0 ∙ before.1,
      ))
      (λ (here : j ≡ n).
      subst
      (λ (i : ℕ). (unsynced_below history p i < length (picks_of p (suc n)))
      × (get_or (picks_of p (suc n)) (unsynced_below history p i) 0 ≡ (choice p i).0))
      (sym here)
      (last (subst (λ (i : ℕ). is_unsynced history p i ≡ true) here un)))
      (below_or_at j n lt)
    where
      last : is_unsynced history p n ≡ true
          → (unsynced_below history p n < length (picks_of p (suc n)))
          × (get_or (picks_of p (suc n)) (unsynced_below history p n) 0 ≡ (choice p n).0)
      last e =
          let len : length (picks_of p n) ≡ unsynced_below history p n = length-picks_of p n in
          rw e (
            omega (arith, len, length-append (picks_of p n) ((choice p n).0 ∷ [])),
            subst (λ (k : ℕ). get_or (picks_of p n ++ (choice p n).0 ∷ []) k 0 ≡ (choice p n).0) len
                (get_or-append_seam (picks_of p n) (choice p n).0 [] 0),
          )

  -- the picks of the first k providers
  abbrev pub picks_upto : ℕ → List ℕ
  picks_upto zero = []
  picks_upto (suc k) =
      picks_upto k ++ picks_of (name_at names k)
      (unwrap_or (size_after history (name_at names k)) 0)

  length-picks_upto : (k : ℕ) → k ≤ length names
      → length (picks_upto k) ≡ unsynced_of history (take k names)
  length-picks_upto zero le = refl
  length-picks_upto (suc k) le =
      length-append (picks_upto k) (picks_of (name_at names k)
      (unwrap_or (size_after history (name_at names k)) 0))
      ∙ ap (λ (n : ℕ). n
      + length (picks_of (name_at names k)
      (unwrap_or (size_after history (name_at names k)) 0)))
      (length-picks_upto k (omega (arith, le)))
      ∙ ap (λ (n : ℕ). unsynced_of history (take k names) + n) (length-picks_of (name_at names k) _)
      ∙ sym (sum_by_more (λ (q : Label). unsynced_below history q
      (unwrap_or (size_after history q) 0)) names k [] (omega (arith, le)))
      ∙ ap (λ (n : ℕ). unsynced_of history (take n names)) (add-one k)

  -- the picks of a provider come after those of the providers before it
  stands_upto : (all k i : ℕ) → k < all → all ≤ length names
      → i < length (picks_of (name_at names k) (unwrap_or (size_after history (name_at names k)) 0))
      → (unsynced_of history (take k names) + i < length (picks_upto all))
      × (get_or (picks_upto all) (unsynced_of history (take k names) + i) 0
      ≡ get_or (picks_of (name_at names k) (unwrap_or (size_after history (name_at names k)) 0))
      i 0)
  stands_upto zero k i lt le within = absurd (omega (arith, lt))
  stands_upto (suc all) k i lt le within =
      ⊎_elim
      (λ (below : k < all).
      let before : (unsynced_of history (take k names) + i < length (picks_upto all))
      × (get_or (picks_upto all) (unsynced_of history (take k names) + i) 0
      ≡ get_or (picks_of (name_at names k) (unwrap_or (size_after history (name_at names k)) 0))
      i 0) =
      stands_upto all k i below (omega (arith, le)) within in (
        omega (
          arith,
          before.0,
          length-append (picks_upto all) (picks_of (name_at names all)
              (unwrap_or (size_after history (name_at names all)) 0)),
        ),
        get_or-append (picks_upto all) (picks_of (name_at names all)
            (unwrap_or (size_after history (name_at names all)) 0)) 0
            (unsynced_of history (take k names) + i) before.0 ∙ before.1,
      ))
      (λ (here : k ≡ all).
      subst
      (λ (m : ℕ). i
      < length (picks_of (name_at names m) (unwrap_or (size_after history (name_at names m)) 0))
      → (unsynced_of history (take m names) + i < length (picks_upto (suc all)))
      × (get_or (picks_upto (suc all)) (unsynced_of history (take m names) + i) 0
      ≡ get_or (picks_of (name_at names m) (unwrap_or (size_after history (name_at names m)) 0))
      i 0))
      (sym here) last within)
      (below_or_at k all lt)
    where
      last : i < length (picks_of (name_at names all)
          (unwrap_or (size_after history (name_at names all)) 0))
          → (unsynced_of history (take all names) + i < length (picks_upto (suc all)))
          × (get_or (picks_upto (suc all)) (unsynced_of history (take all names) + i) 0
          ≡ get_or (picks_of (name_at names all)
          (unwrap_or (size_after history (name_at names all)) 0)) i 0)
      last inside =
          let len : length (picks_upto all) ≡ unsynced_of history (take all names) =
          length-picks_upto all (omega (arith, le)) in (
            omega (
              arith,
              len,
              inside,
              length-append (picks_upto all) (picks_of (name_at names all)
                  (unwrap_or (size_after history (name_at names all)) 0)),
            ),
            subst
                (λ (k : ℕ). get_or (picks_upto (suc all)) (k + i) 0
                ≡ get_or (picks_of (name_at names all)
                (unwrap_or (size_after history (name_at names all)) 0)) i 0)
                len
                (get_or-append-add (picks_upto all)
                (picks_of (name_at names all)
                (unwrap_or (size_after history (name_at names all)) 0)) i 0),
          )

  known_below : (o : Option ℕ) (j : ℕ) → IsSomeAnd o (λ n. j < n) → j < unwrap_or o 0
  known_below None j inside = absurd inside
  known_below (Some n) j inside = inside

  -- what the picks make of a sector
  picked_there : (k j : ℕ) → k < length names
      → j < unwrap_or (size_after history (name_at names k)) 0 → (b : Bool)
      → is_unsynced history (name_at names k) j ≡ b
      → x (name_at names k) j ≡ picked_after history (picks_upto (length names))
      (unsynced_of history (take k names)) (name_at names k) j
  picked_there k j within inside true un =
      let own : (unsynced_below history (name_at names k) j
      < length (picks_of (name_at names k)
      (unwrap_or (size_after history (name_at names k)) 0)))
      × (get_or (picks_of (name_at names k)
      (unwrap_or (size_after history (name_at names k)) 0))
      (unsynced_below history (name_at names k) j) 0 ≡ (choice (name_at names k) j).0) =
      stands (name_at names k) (unwrap_or (size_after history (name_at names k)) 0) j inside un in
      let all : pick_at (picks_upto (length names))
      (unsynced_of history (take k names) + unsynced_below history (name_at names k) j)
      ≡ (choice (name_at names k) j).0 =
      (stands_upto (length names) k (unsynced_below history (name_at names k) j) within
      (omega arith) own.0).1 ∙ own.1 in
      sym (ap (picked_value (synced_after history (name_at names k) j)
      (written_after history (name_at names k) j)) all ∙ (choice (name_at names k) j).2)
  picked_there k j within inside false un =
      sym (any_pick (synced_after history (name_at names k) j)
      (written_after history (name_at names k) j) _ (choice (name_at names k) j).0 un
      ∙ (choice (name_at names k) j).2)

  pub picks_name : (disks : Disks) → IsCache history disks → AreNames (size_after history) names
      → IsPicked history (picks_upto (length names)) x
  picks_name disks cache are = record {
    names = names;
    are_names = are;
    sectors = λ k j within inside. picked_there k j within
        (known_below (size_after history (name_at names k)) j inside)
        (is_unsynced history (name_at names k) j) refl;
    outside = λ p j out.
        ⊎_elim
        (λ (e : x p j ≡ synced_after history p j). e ∙ cache.never_synced p j out)
        (λ (among : Contains (written_after history p j) (x p j)).
        let none : Contains [] (x p j) =
        subst (λ (ws : List (List ℕ)). Contains ws (x p j))
        (cache.never_written p j out) among in
        absurd (omega (arith, none.1)))
        (left p j);
  }

  module _ (few : (p : Label) (j : ℕ) → length (written_after history p j) < 2 ^ 32) where
    small_of : (p : Label) (n : ℕ) → All (λ (m : ℕ). m < 2 ^ 32) (picks_of p n)
    small_of p zero = All-nil (λ (m : ℕ). m < 2 ^ 32)
    small_of p (suc n) =
        All-append (λ (m : ℕ). m < 2 ^ 32) (picks_of p n)
        (one_more (is_unsynced history p n) (choice p n).0) (small_of p n)
        (one_below (is_unsynced history p n) (choice p n).0
        (omega (arith, (choice p n).1, few p n)))

    pub small_upto : (k : ℕ) → All (λ (m : ℕ). m < 2 ^ 32) (picks_upto k)
    small_upto zero = All-nil (λ (m : ℕ). m < 2 ^ 32)
    small_upto (suc k) =
        All-append (λ (m : ℕ). m < 2 ^ 32) (picks_upto k)
        (picks_of (name_at names k) (unwrap_or (size_after history (name_at names k)) 0))
        (small_upto k)
        (small_of (name_at names k) (unwrap_or (size_after history (name_at names k)) 0))
