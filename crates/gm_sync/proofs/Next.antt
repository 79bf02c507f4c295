-- What is next is due.
use Rattle.gm_sync.proofs.Common.{◌≡◌, ◌⊎◌, ⊎_elim, cases_lt, inl, inr, sym, ap, ◌∙◌, subst, arith, ◌≤◌, ◌+◌, ℕ, suc, refl, length, List, [], ◌∷◌, Bool, None, Some, find, get_or, slice_get, zero, ◌<◌, false, true, Command, Component, Records, Bench, BenchFault, CallRefusal, Due, FailsFilling, Fills, FillsBy, IsRefusedIn, IsAdvanceIn, IsAdvanceOf, IsAdvanceOn, Refuses, RefusesOneOf, is_due, is_filling, is_next, calls_in}
use Rattle.sqlite_trees.specs.declared.store.Store.{Ghosts as StoreGhosts}
use Rattle.gm_metadata.proofs.Labels.{both}
use Rattle.gm_shelf.specs.declared.shelf.Shelf.{Ghosts as ShelfGhosts}
use Rattle.gm_sync.proofs.Filled.{fills_too, refused_in_too, so_too}
use Rattle.gm_sync.proofs.Stops.{fails_filling_too}

-- a command that fills it fills what is due
module _ (due : Due) (s : Records) (k : Component) (next : is_next due s k ≡ true) where
  advance_on : (c : Command) → IsAdvanceOf k c → IsAdvanceOn due k.provider c
  advance_on c is =
      (k.mirror, is, (both (is_due due k.mirror k.provider) (is_filling s k) next).0)

  advance_in : (c : Command) → IsAdvanceOf k c → IsAdvanceIn due c
  advance_in c is =
      (k.mirror, k.provider, is, (both (is_due due k.mirror k.provider) (is_filling s k) next).0)

  -- so does a call that fills it and does nothing else
  module _ {S H : Type 0} (g : StoreGhosts S) (h : ShelfGhosts H) (a b : Bench S H) where
    pub fills_next : Fills g h (IsAdvanceOf k) a b → Fills g h (IsAdvanceIn due) a b
    fills_next = fills_too g h (IsAdvanceOf k) (IsAdvanceIn due) advance_in a b

    pub refuses_next : (why : CallRefusal) → Refuses g h (IsAdvanceOf k) (IsAdvanceOf k) a b why
        → RefusesOneOf g h due a b k.provider why
    refuses_next why = so_too g h (IsAdvanceOf k) (IsAdvanceIn due)
        (λ handed w. IsRefusedIn (IsAdvanceOf k) w why)
        (λ handed w. IsRefusedIn (IsAdvanceOn due k.provider) w why) advance_in
        (λ handed w it. refused_in_too (IsAdvanceOf k) (IsAdvanceOn due k.provider) advance_on w why
        it) a b

    pub by_next : (n : ℕ) → FillsBy g h (IsAdvanceOf k) a b n → FillsBy g h (IsAdvanceIn due) a b n
    by_next n = so_too g h (IsAdvanceOf k) (IsAdvanceIn due)
        (λ handed w. n ≤ length (calls_in handed)) (λ handed w. n ≤ length (calls_in handed))
        advance_in (λ handed w it. it) a b

    pub fails_next : (fault : BenchFault) → FailsFilling g h (IsAdvanceOf k) a b fault
        → FailsFilling g h (IsAdvanceIn due) a b fault
    fails_next fault =
        fails_filling_too g h (IsAdvanceOf k) (IsAdvanceIn due) advance_in a b fault

-- if none of these is meant, none is found
pub none_found : {A : Type 0} (p : A → Bool) (xs : List A)
    → ((k : ℕ) (x : A) → k < length xs → slice_get xs k ≡ Some x → p x ≡ false) → find p xs ≡ None
none_found p [] none = refl
none_found p (x ∷ xs) none = rw (none 0 x (omega arith) refl)
    (none_found p xs (λ k y below at. none (suc k) y (omega arith) at))

-- an element by its index
pub at_index : {A : Type 0} (xs : List A) (k : ℕ) (x d : A) → slice_get xs k ≡ Some x
    → get_or xs k d ≡ x
at_index [] k x d at = let no : ⊥ = cc in absurd no
at_index (y ∷ ys) zero x d at = cc
at_index (y ∷ ys) (suc k) x d at = at_index ys k x d at

-- none of the first ones is meant, or this holds; so it is of one more that isn't meant
pub one_more : {A P : Type 0} (p : A → Bool) (xs : List A) (i : ℕ) (x : A) → get_or xs i x ≡ x
    → p x ≡ false
    → ((k : ℕ) (y : A) → k < i → slice_get xs k ≡ Some y → p y ≡ false) ⊎ P
    → ((k : ℕ) (y : A) → k < i + 1 → slice_get xs k ≡ Some y → p y ≡ false) ⊎ P
one_more p xs i x is not (inr holds) = inr holds
one_more {A} p xs i x is not (inl none) = inl (λ k y below at. elim (lt_or k below) [
  | inl less ↦ none k y less at
  | inr same ↦ (let e : y ≡ x = sym (at_index xs k y x at) ∙ ap (λ (n : ℕ). get_or xs n x) same
      ∙ is in subst (λ (z : A). p z ≡ false) (sym e) not)
])
  where
    lt_or : (k : ℕ) → k < i + 1 → (k < i) ⊎ (k ≡ i)
    lt_or k below = ⊎_elim (λ (less : k < i). inl less) (λ (most : i ≤ k). inr (omega arith))
        (cases_lt k i)
