-- A run of sectors, written one after another.
use Rattle.gm_shelf.proofs.Common.{◌≡◌, ◌∙◌, ◌<◌, ◌+◌, ◌-◌, ◌&&◌, ◌||◌, ◌==◌, inl, inr, ⊎_elim, ℕ, List, refl, arith, length, nat_le, nat_lt, eqb-true, if◌then◌else◌, cases_Bool, nat_tests, Label, Image, Same, put, same_label, View, IsPut, Torn, From, IsWrite, IsPutByRun, TornRun, IsRunWrite}
use Rattle.gm_shelf.specs.Disk.{sector_of}

module _ (p : Label) (first : ℕ) (run : List (List ℕ)) where
  torn_more : (d x y : Image) (k : ℕ) → k < length run → TornRun p first run d x
      → Torn p (first + k) (sector_of run k) x y → TornRun p first run d y
  torn_more d x y k few so_far torn q j =
      ⊎_elim
      (λ (e : y q j ≡ x q j).
      ⊎_elim
      (λ (h : x q j ≡ d q j). inl (e ∙ h))
      (λ (h : IsPutByRun p first run q j (x q j)). inr (
        h.0,
        h.1,
        record { provider = h.2.provider; place = h.2.place; value = e ∙ h.2.value },
      ))
      (so_far q j))
      (λ (h : IsPut p (first + k) (sector_of run k) q j (y q j)). inr (k, few, h))
      (torn q j)

  -- one write more
  pub run_then : (old mid new : View) (k : ℕ) → k < length run → IsRunWrite p first run old mid
      → IsWrite p (first + k) (sector_of run k) mid new → IsRunWrite p first run old new
  run_then old mid new k few so_far law =
      let here : (x : Image) → new.may_leave x → From old.may_leave (λ d. TornRun p first run d x) =
      λ x left.
      let before = law.crash x left in
      let from = so_far.crash before.0 before.1 in
      (from.0, from.1, torn_more from.0 before.0 x k few from.2 before.2) in
      record {
        seen = torn_more old.seen mid.seen new.seen k few so_far.seen law.seen;
        crash = here;
        later = omega (arith, so_far.later, law.time.later);
        since = λ t x le left.
            ⊎_elim
            (λ (before : mid.left_since t x). so_far.since t x le before)
            (λ (now : new.may_leave x). inr (here x now))
            (law.time.nothing_else t x (omega (arith, le, so_far.later)) left);
        keeps = λ t x le left. law.time.keeps t x (omega (arith, le, so_far.later))
            (so_far.keeps t x le left);
      }

  -- the image with the run's first n sectors laid over it
  abbrev pub put_upto : ℕ → Image → Image
  put_upto n x q j =
      if same_label q p && (nat_le first j && nat_lt j (first + n)) then sector_of run
      (j - first) else x q j

  more : (n j : ℕ) → (nat_le first j && nat_lt j (first + (n + 1)))
      ≡ ((j == (first + n)) || (nat_le first j && nat_lt j (first + n)))
  more n j = grind (arith, nat_tests)

  pub put_more : (old mid new : Image) (n : ℕ) → Same mid (put_upto n old)
      → Same new (put p (first + n) (sector_of run n) mid) → Same new (put_upto (n + 1) old)
  put_more old mid new n so_far written q j =
      written q j ∙ elim (cases_Bool (same_label q p)) [
        | inr other ↦ let h = so_far q j in rw other (rw other at h)
        | inl same ↦ elim (cases_Bool (j == (first + n))) [
          | inl here ↦
              let e : j ≡ first + n = eqb-true j (first + n) here in
              let off : j - first ≡ n = omega (arith, e) in
              rw (same, more n j, here, off) refl
          | inr away ↦ let h = so_far q j in rw (same, more n j, away) (rw same at h)
        ]
      ]
