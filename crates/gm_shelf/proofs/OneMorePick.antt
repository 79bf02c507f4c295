-- One sector more with its pick, and one provider more.
use Rattle.gm_shelf.proofs.Common.{◌≡◌, ◌∙◌, ◌<◌, ◌≤◌, ◌≢◌, ◌+◌, ◌++◌, ◌⊎◌, inl, inr, ℕ, List, [], ◌∷◌, Bool, if◌then◌else◌, min, refl, sym, ap, subst, arith, length, add-one, get_or-append, get_or-append_seam, get_or_past, cases_lt, eqb_tells, Label, sector_at, pick_at, is_unsynced, unsynced_below, Event}

-- a pick at the end of those that are there is a missing one
pub pick_at_taken : (pick : List ℕ) (n : ℕ) → pick_at pick (min n (length pick)) ≡ pick_at pick n
pick_at_taken pick n = go (cases_lt n (length pick))
  where
    go : (n < length pick) ⊎ (length pick ≤ n) → pick_at pick (min n (length pick)) ≡ pick_at pick n
    go (inl few) = let e : min n (length pick) ≡ n = omega arith in rw e refl
    go (inr many) = get_or_past pick _ 0 (omega arith) ∙ sym (get_or_past pick n 0 many)

pub unsynced_more : (history : List Event) (p : Label) (n : ℕ)
    → unsynced_below history p (n + 1) ≡ unsynced_below history p n
    + (if is_unsynced history p n then 1 else 0)
unsynced_more history p n = ap (unsynced_below history p) (add-one n)

pub taken_more : (history : List Event) (p : Label) (place before t len : ℕ) (b : Bool)
    → b ≡ is_unsynced history p place
    → t ≡ min ((before + unsynced_below history p place) + (if b then 1 else 0)) len
    → t ≡ min (before + unsynced_below history p (place + 1)) len
taken_more history p place before t len b is told =
    let known : t ≡ min ((before + unsynced_below history p place)
    + (if is_unsynced history p place then 1 else 0)) len =
    subst (λ (r : Bool). t ≡ min ((before + unsynced_below history p place) + (if r then 1 else 0))
    len) is told in
    let sum : (before + unsynced_below history p place)
    + (if is_unsynced history p place then 1 else 0) ≡ before
    + unsynced_below history p (place + 1) = omega (arith, unsynced_more history p place) in
    known ∙ ap (λ (n : ℕ). min n len) sum

-- the sector that was pushed
pub pushed_sectors : (items : List (List ℕ)) (s : List ℕ) (n : ℕ) (f : ℕ → List ℕ)
    → length items ≡ n → ((j : ℕ) → j < n → sector_at items j ≡ f j) → s ≡ f n
    → (j : ℕ) → j < n + 1 → sector_at (items ++ s ∷ []) j ≡ f j
pushed_sectors items s n f len so_far new j below =
    elim (eqb_tells j n) [
      | inl here ↦ subst (λ (k : ℕ). sector_at (items ++ s ∷ []) k ≡ f k) (len ∙ sym here.1)
          (get_or-append_seam items s [] [] ∙ new ∙ ap f (sym len))
      | inr off ↦ let ne : j ≢ n = off.1 in let lt : j < n = omega arith in
          get_or-append items (s ∷ []) [] j (omega (arith, len, lt)) ∙ so_far j lt
    ]
