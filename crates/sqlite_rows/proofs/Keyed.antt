-- Rows of a table taken out by their rowids.
use Rattle.sqlite_rows.proofs.Common.{◌≡◌, inl, inr, ℤ, Bool, true, false, not, ◌||◌, ◌&&◌, cond, List, [], ◌∷◌, map, filter, IsTrue, refl, sym, ap, subst, ◌∙◌, IsPermutation, list_any, Ordering, Less, Equal, Greater, is_eq, ordering_reverse, false_from_ne_true, true≢false, list_any-IsPermutation, IsPermutation-map, filter_agree, Row, Value, value_cmp, value_cmp_total, IsTable, rowid, has_rowid, without_rowid, is_int, IsShaped, filter_all, filter_same, filter_none, all_of, id_in, without_all, ids_of, Has, all_has, all_from, some_has, some_from, has_filtered, has_kept, int_is, tied_same}
use Rattle.sqlite_trees.specs.declared.store.Shape.TheVariants as shape
use Rattle.sqlite_rows.proofs.ValueLemmas.{tied}

pub has_mapped : {A B : Type 0} (f : A → B) (xs : List A) (x : A) → Has xs x → Has (map f xs) (f x)
has_mapped f [] x h = absurd h
has_mapped f (y ∷ xs) x (inl same) = inl (ap f same)
has_mapped f (y ∷ xs) x (inr later) = inr (has_mapped f xs x later)

pub mapped_from : {A B : Type 0} (f : A → B) (xs : List A) (y : B) → Has (map f xs) y
    → (x : A) × Has xs x × (y ≡ f x)
mapped_from f [] y h = absurd h
mapped_from f (x ∷ xs) y (inl same) = (x, inl refl, same)
mapped_from f (x ∷ xs) y (inr later) = let it = mapped_from f xs y later in (it.0, inr it.1, it.2)

twice : {A : Type 0} (p q : A → Bool) (xs : List A)
    → filter p (filter q xs) ≡ filter (λ x. q x && p x) xs
twice p q [] = refl
twice p q (x ∷ xs) =
    elim (q x) as (λ b. filter p (cond b (x ∷ filter q xs) (filter q xs))
    ≡ cond (b && p x) (x ∷ filter (λ y. q y && p y) xs) (filter (λ y. q y && p y) xs))
    [ true ↦ ap (λ l. cond (p x) (x ∷ l) l) (twice p q xs) | false ↦ twice p q xs ]

neither : (a b : Bool) → not a && not b ≡ not (a || b)
neither true b = refl
neither false b = refl

abbrev pub is_named : List ℤ → Row → Bool
is_named ids r = list_any (λ id. has_rowid id r) ids

none_named : (rows : List Row) → filter (λ r. not (is_named [] r)) rows ≡ rows
none_named rows =
    filter_all (λ r. not (is_named [] r)) rows
    (all_of (λ r. not (is_named [] r) ≡ true) (λ r. refl) rows)

pub without_all_is : (ids : List ℤ) (rows : List Row)
    → without_all rows ids ≡ filter (λ r. not (is_named ids r)) rows
without_all_is [] rows = sym (none_named rows)
without_all_is (id ∷ ids) rows =
    without_all_is ids (without_rowid id rows)
    ∙ (twice (λ r. not (is_named ids r)) (λ r. not (has_rowid id r)) rows
    ∙ filter_agree (λ r. not (has_rowid id r) && not (is_named ids r))
    (λ r. not (is_named (id ∷ ids) r)) (λ r. neither (has_rowid id r) (is_named ids r)) rows)

own_equal : (o : Ordering) → o ≡ ordering_reverse o → o ≡ Equal
own_equal Less e = absurd (let f : Less ≡ Greater = e in cc)
own_equal Equal e = refl
own_equal Greater e = absurd (let f : Greater ≡ Less = e in cc)

pub same_value_cmp : (v : Value) → value_cmp v v ≡ Equal
same_value_cmp v = own_equal (value_cmp v v) (value_cmp_total.antisymm v v)

-- a row has its own rowid
pub named_itself : (r : Row) → IsTrue (is_int (rowid r)) → has_rowid (id_in (rowid r)) r ≡ true
named_itself r h =
    ap is_eq (ap (value_cmp (rowid r)) (sym (int_is (rowid r) h)) ∙ same_value_cmp (rowid r))

module _ (rows : List Row) (keyed : IsShaped shape.Table rows) where
  int_in : (r : Row) → Has rows r → IsTrue (is_int (rowid r))
  int_in r has = all_has (λ x. IsTrue (is_int (rowid x))) rows r keyed.1 has

  -- a rowid names one row
  pub one_row : (a b : Row) → Has rows a → Has rows b → has_rowid (id_in (rowid b)) a ≡ true → a ≡ b
  one_row a b h k is =
      tied_same rows a b keyed.0 h k (ap (value_cmp (rowid a)) (int_is (rowid b) (int_in b k))
      ∙ tied _ is)

  module _ (p : Row → Bool) (f : Row → Row) (keeps : (r : Row) → rowid (f r) ≡ rowid r)
      (shown : List Row) (among : IsPermutation (map f (filter p rows)) shown) where
    abbrev ids : List ℤ
    ids = ids_of (map f (filter p rows))

    id_of : (r : Row) → id_in (rowid (f r)) ≡ id_in (rowid r)
    id_of r = ap id_in (keeps r)

    passed : (r : Row) → Has rows r → is_named ids r ≡ true → p r ≡ true
    passed r has is =
        let it = some_has (λ id. has_rowid id r) ids is in
        let from = mapped_from (λ x. id_in (rowid x)) (map f (filter p rows)) it.0 it.1 in
        let under = mapped_from f (filter p rows) from.0 from.1 in
        let old = has_filtered p rows under.0 under.1 in
        let id : it.0 ≡ id_in (rowid under.0) =
        from.2 ∙ ap (λ x. id_in (rowid x)) under.2 ∙ id_of under.0 in
        let same : r ≡ under.0 =
        one_row r under.0 has old.0 (subst (λ i. has_rowid i r ≡ true) id it.2) in
        ap p same ∙ old.1

    meets : (r : Row) → Has rows r → p r ≡ true → is_named ids r ≡ true
    meets r has is = some_from (λ id. has_rowid id r) ids (id_in (rowid r))
        (subst (Has ids) (id_of r) (has_mapped (λ x. id_in (rowid x)) (map f (filter p rows)) (f r)
        (has_mapped f (filter p rows) r (has_kept p rows r has is))))
        (named_itself r (int_in r has))

    agrees : (r : Row) → Has rows r → (b : Bool) → p r ≡ b → is_named ids r ≡ b
    agrees r has true is = meets r has is
    agrees r has false is =
        false_from_ne_true _ (λ named. true≢false (sym (passed r has named) ∙ is))

    -- without the rows that were found the others are left
    pub left_are : without_all rows (ids_of shown) ≡ filter (λ r. not (p r)) rows
    left_are =
        without_all_is (ids_of shown) rows
        ∙ filter_same (λ r. not (is_named (ids_of shown) r)) (λ r. not (p r)) rows
        (all_from (λ r. not (is_named (ids_of shown) r) ≡ not (p r)) rows (λ r has.
        ap not (sym (list_any-IsPermutation (λ id. has_rowid id r) ids (ids_of shown)
        (IsPermutation-map (λ x. id_in (rowid x)) _ _ among)) ∙ agrees r has (p r) refl)))

never_less : (v : Value) → value_cmp v v ≡ Less → ⊥
never_less v h = let e = sym (same_value_cmp v) ∙ h in cc

-- a test that one row of a table passes finds that row
pub just_one : (p : Row → Bool) (x : Row) (rows : List Row) → IsTable rows → Has rows x → p x ≡ true
    → ((r : Row) → Has rows r → p r ≡ true → r ≡ x) → filter p rows ≡ x ∷ []
just_one p x [] up h is only = absurd h
just_one p x (r ∷ rows) up (inl here) is only =
    let mine : p r ≡ true = ap p (sym here) ∙ is in
    let none = filter_none p rows (all_from (λ y. p y ≡ false) rows
    (λ y has. false_from_ne_true (p y) (λ passes.
    let same : y ≡ r = only y (inr has) passes ∙ here in
    never_less (rowid r) (subst (λ z. value_cmp (rowid r) (rowid z) ≡ Less) same
    (all_has (λ z. value_cmp (rowid r) (rowid z) ≡ Less) rows y up.0 has))))) in
    rw (mine, none, here)
just_one p x (r ∷ rows) up (inr later) is only =
    let other : p r ≡ false = false_from_ne_true (p r) (λ passes.
    let same : r ≡ x = only r (inl refl) passes in
    never_less (rowid r) (subst (λ z. value_cmp (rowid r) (rowid z) ≡ Less) (sym same)
    (all_has (λ z. value_cmp (rowid r) (rowid z) ≡ Less) rows x up.0 later))) in
    rw (other, just_one p x rows up.1 later is (λ y has. only y (inr has)))
