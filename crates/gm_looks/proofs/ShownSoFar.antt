-- What was looked at so far are the providers of the shelf under the names so far.
use Rattle.gm_looks.proofs.Common.{◌≡◌, ◌≢◌, ◌∙◌, inl, inr, ⊎_elim, ℕ, zero, suc, ◌+◌, ◌-◌, ◌==◌, if◌then◌else◌, ◌<◌, ◌≤◌, true, refl, sym, ap, subst, arith, List, [], ◌∷◌, ◌++◌, length, take, get_or, Option, None, Contains, IsSome, take_more, take_all, Image, Sizes, zeros, AreNames, last_of, Provider, Has, Distinct, DistinctNames, Has-push, lt_differ, IsShown, AreShown}
use Rattle.std.specs.List.{AllByRecursion}
use Rattle.std.specs.List.Sorted.{IsStrictlySortedBy}
use Rattle.std.specs.Ordering.{nat_cmp, is_lt}
use Rattle.std.specs.Cmp.Lexicographic.{slice_cmp}
use Rattle.std.specs.declared.cmp.Ordering.TheVariants.{Less}
use Rattle.gm_looks.proofs.Pushed.{has_left, has_last}

-- ---- lists

distinct_push : {X : Type 0} (key : X → List ℕ) (xs : List X) (x : X) → Distinct key xs
    → ((y : X) → Has xs y → key y ≢ key x) → Distinct key (xs ++ x ∷ [])
distinct_push key [] x d other = (λ y none. absurd none, tt)
distinct_push {X} key (z ∷ zs) x d other = (
  λ y h. ⊎_elim (λ (was : Has zs y). d.0 y was)
      (λ (e : x ≡ y). subst (λ (v : X). key z ≢ key v) e (other z (inl refl)))
      (Has-push zs x y h),
  distinct_push key zs x d.1 (λ y h. other y (inr h)),
)

contained_has : {X : Type 0} (xs : List X) (x : X) (k : ℕ) → k < length xs → get_or xs k x ≡ x
    → Has xs x
contained_has [] x k low e = absurd (omega (arith, low))
contained_has (y ∷ ys) x zero low e = inl e
contained_has (y ∷ ys) x (suc k) low e = inr (contained_has ys x k (omega (arith, low)) e)

each_at : {X : Type 0} (P : X → Type 0) (xs : List X) (k : ℕ) (d : X) → AllByRecursion P xs
    → k < length xs → P (get_or xs k d)
each_at P [] k d all low = absurd (omega (arith, low))
each_at P (x ∷ xs) zero d all low = all.0
each_at P (x ∷ xs) (suc k) d all low = each_at P xs k d all.1 (omega (arith, low))

-- a name in order is none of those before it
others_before : (names : List (List ℕ)) (i : ℕ) (name : List ℕ)
    → IsStrictlySortedBy (slice_cmp nat_cmp) names → i < length names → name ≡ get_or names i name
    → (q : List ℕ) → Has (take i names) q → q ≢ name
unfolding IsStrictlySortedBy
others_before [] i name order low is q h = absurd (omega (arith, low))
others_before (n ∷ names) zero name order low is q h = absurd h
others_before (n ∷ names) (suc i) name order low is q (inl e) =
    let less : slice_cmp nat_cmp n (get_or names i name) ≡ Less =
    each_at (λ (y : List ℕ). slice_cmp nat_cmp n y ≡ Less) names i name order.0
    (omega (arith, low)) in
    let under : is_lt (slice_cmp nat_cmp n name) ≡ true =
    ap is_lt (subst (λ (v : List ℕ). slice_cmp nat_cmp n v ≡ Less) (sym is) less) in
    subst (λ (v : List ℕ). v ≢ name) e (lt_differ n name under)
others_before (n ∷ names) (suc i) name order low is q (inr h) =
    others_before names i name order.1 (omega (arith, low)) is q h

-- ---- the providers

-- an image that was only read shows the same last sector
pub seen_last : (n : ℕ) (v w : ℕ → List ℕ) → ((j : ℕ) → v j ≡ w j) → last_of n v ≡ last_of n w
seen_last n v w same = ap (λ (x : List ℕ). if n == 0 then zeros else x) (same (n - 1))

-- of these names
pub record ShownSoFar (size : Sizes) (seen : Image) (done : List (List ℕ))
    (ps : List Provider) : Type 0 where
  pub each : (p : Provider) → Has ps p → IsShown size seen p
  pub all : (name : List ℕ) → Has done name → (p : Provider) × Has ps p × (p.name ≡ name)
  pub among : (p : Provider) → Has ps p → Has done p.name
  pub once : DistinctNames ps

module _ (size : Sizes) (seen : Image) (names : List (List ℕ)) (are : AreNames size names) where
  -- a name of the shelf isn't absent
  pub not_absent : (i : ℕ) (name : List ℕ) → i < length names → name ≡ get_or names i name
      → size name ≡ None → ⊥
  not_absent i name low is gone =
      let there : IsSome (size name) = (are.there name).0 (i, low, sym is) in
      let none = subst (λ (o : Option ℕ). IsSome o) gone there in (let no : ⊥ = cc in no)

  pub shown_more : (i : ℕ) (name : List ℕ) (f : Provider) (ps : List Provider)
      → i < length names → name ≡ get_or names i name → IsShown size seen f → f.name ≡ name
      → ShownSoFar size seen (take i names) ps
      → ShownSoFar size seen (take (i + 1) names) (ps ++ f ∷ [])
  shown_more i name f ps low is shown at so = record {
    each = λ p h. ⊎_elim (λ (was : Has ps p). so.each p was)
        (λ (e : f ≡ p). subst (IsShown size seen) e shown) (Has-push ps f p h);
    all = λ q h. ⊎_elim (λ (was : Has (take i names) q). let from = so.all q was in
        (from.0, has_left ps f from.0 from.1, from.2))
        (λ (e : name ≡ q). (f, has_last ps f, at ∙ e))
        (Has-push (take i names) name q (subst (λ (l : List (List ℕ)). Has l q) more h));
    among = λ p h. ⊎_elim (λ (was : Has ps p). still p.name (so.among p was))
        (λ (e : f ≡ p). subst (λ (v : Provider). Has (take (i + 1) names) v.name) e
        (subst (Has (take (i + 1) names)) (sym at) there)) (Has-push ps f p h);
    once = distinct_push (λ (p : Provider). p.name) ps f so.once
        (λ p h e. others_before names i name are.ascending low is p.name (so.among p h) (e ∙ at));
  }
    where
      more : take (i + 1) names ≡ take i names ++ name ∷ []
      more = take_more names i name low ∙ ap (λ (x : List ℕ). take i names ++ x ∷ []) (sym is)

      still : (q : List ℕ) → Has (take i names) q → Has (take (i + 1) names) q
      still q h = subst (λ (l : List (List ℕ)). Has l q) (sym more)
          (has_left (take i names) name q h)

      there : Has (take (i + 1) names) name
      there = subst (λ (l : List (List ℕ)). Has l name) (sym more) (has_last (take i names) name)

  pub all_shown : (i : ℕ) (ps : List Provider) → length names ≤ i
      → ShownSoFar size seen (take i names) ps → AreShown size seen ps
  all_shown i ps high so = record {
    each = so.each;
    all = λ name n is.
        let there : Contains names name =
        (are.there name).1 (subst (λ (o : Option ℕ). IsSome o) (sym is) refl) in
        so.all name (subst (λ (l : List (List ℕ)). Has l name) (sym (take_all i names high))
        (contained_has names name there.0 there.1 there.2));
    once = so.once;
  }
