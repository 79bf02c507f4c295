-- A copy, one run after another.
use Rattle.gm_apply.proofs.Common.{◌≡◌, inl, inr, ℕ, ◌≤◌, ◌<◌, ◌+◌, ◌-◌, length, List, Bool, true, false, ◌&&◌, ◌||◌, refl, sym, ◌∙◌, ap, subst, arith, le-leb, lt-ltb, le-ltb, leb-true, ltb-true, nat_le, nat_lt, if◌then◌else◌, cases_Bool, and_parts, nat_tests, Image, Same, same_label, label_tells, label_refl, View, sector_of, IsRun, put_run, IsRunWrite, Copy, copies, with_places, IsUnderWay}
use Rattle.gm_apply.proofs.UnderWay.{going_run, going_trans, laid_out}

and_false : (b : Bool) → (b && false) ≡ false
and_false true = refl
and_false false = refl

pub swapped : (a b : List ℕ) → same_label a b ≡ same_label b a
swapped a b =
    elim (label_tells a b) [
      | inl x ↦ elim (label_tells b a) [ inl y ↦ x.0 ∙ sym y.0 | inr y ↦ absurd (y.1 (sym x.1)) ]
      | inr x ↦ elim (label_tells b a) [ inl y ↦ absurd (x.1 (sym y.1)) | inr y ↦ x.0 ∙ sym y.0 ]
    ]

module _ (s t : List ℕ) (a b : ℕ) where
  pub copies_here : (i : ℕ) → a ≤ i → i < b → copies (Copy s t a b) t i ≡ true
  copies_here i low high = rw (label_refl t, le-leb a i low, lt-ltb i b high) refl

  pub copies_on : (q : List ℕ) (j : ℕ) → copies (Copy s t a b) q j ≡ true → q ≡ t
  copies_on q j e =
      elim (label_tells t q) [ inl same ↦ sym same.1 | inr other ↦ (let h = rw other.0 at e in cc) ]

  pub copies_none : (q : List ℕ) (j : ℕ) → b ≤ j → copies (Copy s t a b) q j ≡ false
  copies_none q j high =
      elim (label_tells t q) [
        | inl same
            ↦ (rw (same.0, le-ltb j b high) (and_false (nat_le a j)))
        | inr other ↦ rw other.0 refl
      ]

  pub copies_range : (q : List ℕ) (j : ℕ) → copies (Copy s t a b) q j ≡ true → (a ≤ j) × (j < b)
  copies_range q j e = elim (label_tells t q) [
    | inr other ↦ (let h = rw other.0 at e in cc)
    | inl same ↦ (let h : (nat_le a j && nat_lt j b) ≡ true = rw same.0 at e in
        let parts = and_parts (nat_le a j) (nat_lt j b) h in
        (leb-true a j parts.0, ltb-true j b parts.1))
  ]

-- a run that was read, and is laid over the target
pub run_laid : (s t : List ℕ) (a n : ℕ) (x : Image) (run : List (List ℕ)) → length run ≡ n
    → IsRun s a x run
    → Same (put_run t a run x) (with_places (copies (Copy s t a (a + n))) (λ q j. x s j) x)
run_laid s t a n x run long read q j =
    elim (cases_Bool (copies (Copy s t a (a + n)) q j)) [
      | inl here ↦
          let at = copies_range s t a (a + n) q j here in
          let from : a ≤ j = at.0 in
          let below : j < a + n = at.1 in
          let sum : a + (j - a) ≡ j = omega (arith, from) in
          let few : j - a < length run = omega (arith, from, below, long) in
          let value : sector_of run (j - a) ≡ x s j = read (j - a) few ∙ ap (x s) sum in
          let inside : (same_label q t && (nat_le a j && nat_lt j (a + length run))) ≡ true =
          ap (λ (n : ℕ). same_label q t && (nat_le a j && nat_lt j (a + n))) long ∙ turned q j
          ∙ here in
          rw (inside, here) value
      | inr off ↦
          let outside : (same_label q t && (nat_le a j && nat_lt j (a + length run))) ≡ false =
          ap (λ (n : ℕ). same_label q t && (nat_le a j && nat_lt j (a + n))) long ∙ turned q j
          ∙ off in
          rw (outside, off) refl
    ]
  where
    turned : (q : List ℕ) (j : ℕ)
        → (same_label q t && (nat_le a j && nat_lt j (a + n))) ≡ copies (Copy s t a (a + n)) q j
    turned q j = ap (λ (b : Bool). b && (nat_le a j && nat_lt j (a + n))) (swapped q t)

-- a run was read, and written over the target where it differs
module _ (s t : List ℕ) (a n : ℕ) (old mid new : View) (run : List (List ℕ)) (long : length run ≡ n)
    (read : IsRun s a old.seen run) where
  pub run_going : IsUnderWay (copies (Copy s t a (a + n))) (λ q j. old.seen s j) old mid
      → IsRunWrite t a run mid new
      → IsUnderWay (copies (Copy s t a (a + n))) (λ q j. old.seen s j) old new
  run_going so_far law =
      let place = copies (Copy s t a (a + n)) in
      going_trans place (λ q j. old.seen s j) place (λ q j. old.seen s j)
      (λ q j e. (e, refl)) old mid new so_far
      (going_run place (λ q j. old.seen s j) mid new t a run
      (λ k few. (
        copies_here s t a (a + n) (a + k) (omega arith) (omega (arith, few, long)),
        sym (read k few),
      )) law)

  pub run_copied : Same mid.seen old.seen → Same new.seen (put_run t a run mid.seen)
      → Same new.seen (with_places (copies (Copy s t a (a + n))) (λ q j. old.seen s j) old.seen)
  run_copied same written q j =
      written q j ∙ ap (λ (x : List ℕ). if same_label q t &&
      (nat_le a j && nat_lt j (a + length run)) then sector_of run (j - a) else x) (same q j)
      ∙ run_laid s t a n old.seen run long read q j

-- a run was copied, after what had been copied before it
module _ (s t : List ℕ) (a b i n : ℕ) (low : a ≤ i) (old mid : View)
    (so_far : Same mid.seen (with_places (copies (Copy s t a i))
    (λ q j. old.seen s j) old.seen)) where
  ahead : (j : ℕ) → i ≤ j → mid.seen s j ≡ old.seen s j
  ahead j high = so_far s j ∙ laid_out (copies (Copy s t a i)) (λ q j. old.seen s j) old.seen s j
      (copies_none s t a i s j high)

  run_told : i + n ≤ b → (q : List ℕ) (j : ℕ) → copies (Copy s t i (i + n)) q j ≡ true
      → (copies (Copy s t a b) q j ≡ true) × (mid.seen s j ≡ old.seen s j)
  run_told high q j e =
      let at = copies_range s t i (i + n) q j e in
      let from : i ≤ j = at.0 in
      let below : j < i + n = at.1 in
      let same : q ≡ t = copies_on s t i (i + n) q j e in
      let here : copies (Copy s t a b) t j ≡ true =
      copies_here s t a b j (omega (arith, low, from)) (omega (arith, below, high)) in
      (subst (λ (p : List ℕ). copies (Copy s t a b) p j ≡ true) (sym same) here, ahead j from)

  pub run_gone : i + n ≤ b → (new : View)
      → IsUnderWay (copies (Copy s t a b)) (λ q j. old.seen s j) old mid
      → IsUnderWay (copies (Copy s t i (i + n))) (λ q j. mid.seen s j) mid new
      → IsUnderWay (copies (Copy s t a b)) (λ q j. old.seen s j) old new
  run_gone high new so_far law =
      going_trans (copies (Copy s t a b)) (λ q j. old.seen s j) (copies (Copy s t i (i + n)))
      (λ q j. mid.seen s j) (run_told high) old mid new so_far law

  widened : (j : ℕ) → (nat_le a j && nat_lt j (i + n))
      ≡ ((nat_le i j && nat_lt j (i + n)) || (nat_le a j && nat_lt j i))
  widened j = grind (arith, nat_tests)

  copies_run : (q : List ℕ) (j : ℕ)
      → copies (Copy s t a (i + n)) q j
      ≡ (copies (Copy s t i (i + n)) q j || copies (Copy s t a i) q j)
  copies_run q j =
      elim (label_tells t q) [ inr other ↦ rw other.0 refl | inl same ↦ rw same.0 (widened j) ]

  pub run_seen : (new : Image)
      → Same new (with_places (copies (Copy s t i (i + n))) (λ q j. mid.seen s j) mid.seen)
      → Same new (with_places (copies (Copy s t a (i + n))) (λ q j. old.seen s j) old.seen)
  run_seen new copied q j =
      copied q j ∙ elim (cases_Bool (copies (Copy s t i (i + n)) q j)) [
        | inl here ↦
            let value : mid.seen s j ≡ old.seen s j =
            ahead j (copies_range s t i (i + n) q j here).0 in
            let more : copies (Copy s t a (i + n)) q j ≡ true = rw (copies_run q j, here) refl in
            rw (here, more) value
        | inr off ↦
            let same : copies (Copy s t a (i + n)) q j ≡ copies (Copy s t a i) q j =
            rw (copies_run q j, off) refl in
            rw (off, same) (so_far q j)
      ]
