-- Keys of mirrors: their order, and which of the taken have one.
use Rattle.gm_taste.proofs.Common.{◌≡◌, ◌∙◌, ℕ, Bool, true, false, not, ◌||◌, ◌&&◌, ◌==◌, nat_lt, refl, sym, inl, inr, ap₂, subst, arith, true≢false, List, is_lt, is_eq, nat_cmp, Ordering, Less, Equal, Greater, ordering_then, ordering_reverse, IsTotalOrder, IsStrictWeakOrder, slice_cmp, ties, cases_Bool, and_parts, nat_tests, ranks_by, Key, Taken, key_lt, same_key, key_in, is_of, same_is, same_from}
use mathlib.Core.Path.{fun_ext}
use Rattle.std.specs.Str.{bytes_eq}
use Rattle.std.proofs.lemmas.Cmp.{then_total, on_total, nat_cmp_total, nat_list_cmp_total}
use Rattle.std.proofs.lemmas.Map.Text.{is_eq-slice_cmp}

-- ---- the order of keys, which is the one that is derived

abbrev pub key_cmp : Key → Key → Ordering
key_cmp a b = ordering_then (slice_cmp nat_cmp a.name b.name) (nat_cmp a.mid b.mid)

key_cmp_total : IsTotalOrder key_cmp
key_cmp_total = then_total (on_total (λ (k : Key). k.name) nat_list_cmp_total)
    (on_total (λ (k : Key). k.mid) nat_cmp_total)

then_lt : (o p : Ordering) → is_lt (ordering_then o p) ≡ (is_lt o || (is_eq o && is_lt p))
then_lt Less p = refl
then_lt Equal p = refl
then_lt Greater p = refl

then_eq : (o p : Ordering) → is_eq (ordering_then o p) ≡ (is_eq o && is_eq p)
then_eq Less p = refl
then_eq Equal p = refl
then_eq Greater p = refl

number_lt : (a b : ℕ) → is_lt (nat_cmp a b) ≡ nat_lt a b
number_lt a b = grind (arith, nat_tests)

number_eq : (a b : ℕ) → is_eq (nat_cmp a b) ≡ (a == b)
number_eq a b = grind (arith, nat_tests)

lt_is : (a b : Key) → is_lt (key_cmp a b) ≡ key_lt a b
lt_is a b = rw (
  then_lt (slice_cmp nat_cmp a.name b.name) (nat_cmp a.mid b.mid),
  is_eq-slice_cmp a.name b.name,
  number_lt a.mid b.mid,
) refl

eq_is : (a b : Key) → is_eq (key_cmp a b) ≡ same_key a b
eq_is a b = rw (
  then_eq (slice_cmp nat_cmp a.name b.name) (nat_cmp a.mid b.mid),
  is_eq-slice_cmp a.name b.name,
  number_eq a.mid b.mid,
) refl

-- the order that the code sorts by is that of keys
pub key_lt_is : (λ (a b : Key). is_lt (key_cmp a b)) ≡ key_lt
key_lt_is = fun_ext (λ a. fun_ext (λ b. lt_is a b))

pub key_order : IsStrictWeakOrder key_lt
key_order = subst (λ (lt : Key → Key → Bool). IsStrictWeakOrder lt) key_lt_is
    (ranks_by key_cmp_total (λ (k : Key). k))

pub key_lt_irrefl : (a : Key) → key_lt a a ≡ true → ⊥
key_lt_irrefl a h = true≢false (sym h ∙ key_order.one_way a a h)

pub key_lt_itself : (a : Key) → key_lt a a ≡ false
key_lt_itself a =
    elim (cases_Bool (key_lt a a)) [ inl e ↦ absurd (key_lt_irrefl a e) | inr e ↦ e ]

pub key_lt_trans : (a b c : Key) → key_lt a b ≡ true → key_lt b c ≡ true → key_lt a c ≡ true
key_lt_trans a b c h k =
    elim (cases_Bool (key_lt a c)) [
      | inl e ↦ e
      | inr e ↦ absurd (true≢false (sym h ∙ key_order.chain a c b e (key_order.one_way b c k)))
    ]

-- ---- of two that have one key, neither goes before the other

abbrev pub taken_lt : Taken → Taken → Bool
taken_lt t u = key_lt (key_in t) (key_in u)

tied : (o : Ordering) → (not (is_lt o) && not (is_lt (ordering_reverse o)))
    ≡ is_eq (ordering_reverse o)
tied Less = refl
tied Equal = refl
tied Greater = refl

ties_are : (a b : Key) → ties key_lt a b ≡ same_key b a
ties_are a b =
    rw (sym (lt_is a b), sym (lt_is b a), sym (eq_is b a), key_cmp_total.antisymm b a)
    (tied (key_cmp a b))

pub is_of_ties : (t : Taken) → ties taken_lt t ≡ is_of (key_in t)
is_of_ties t = fun_ext (λ u. ties_are (key_in t) (key_in u))

-- ---- which of the taken have the key

equal : (a b : ℕ) → (a == b) ≡ true → a ≡ b
equal a b h = grind (arith, nat_tests)

equal_from : (a b : ℕ) → a ≡ b → (a == b) ≡ true
equal_from a b h = grind (arith, nat_tests)

both : (a b : Bool) → a ≡ true → b ≡ true → (a && b) ≡ true
both a b e f = rw (e, f) refl

pub is_of_tells : (k : Key) (t : Taken) → is_of k t ≡ true
    → (t.metadata.name ≡ k.name) × (t.metadata.mid ≡ k.mid)
is_of_tells k t h =
    let p = and_parts (bytes_eq t.metadata.name k.name) (t.metadata.mid == k.mid) h in
    (same_is t.metadata.name k.name p.0, equal t.metadata.mid k.mid p.1)

pub is_of_from : (k : Key) (t : Taken) → t.metadata.name ≡ k.name → t.metadata.mid ≡ k.mid
    → is_of k t ≡ true
is_of_from k t e f =
    both (bytes_eq t.metadata.name k.name) (t.metadata.mid == k.mid)
    (same_from t.metadata.name k.name e) (equal_from t.metadata.mid k.mid f)

pub is_of_is : (k : Key) (t : Taken) → is_of k t ≡ true → key_in t ≡ k
is_of_is k t h = let p = is_of_tells k t h in
    ap₂ (λ (n : List ℕ) (m : ℕ). let j : Key = record { name = n; mid = m } in j) p.0 p.1
