-- The stretches of a run, written one after another.
use Rattle.gm_apply.proofs.Common.{◌≡◌, ◌∙◌, ◌≤◌, ◌<◌, ◌+◌, ◌-◌, ◌&&◌, ◌||◌, ◌==◌, inl, inr, ⊎_elim, ℕ, List, [], false, refl, sym, ap, subst, arith, length, take, drop, nat_le, nat_lt, eqb-true, leb-true, ltb-true, get_or-drop, get_or-take, length-drop, length-take-le, cases_Bool, and_parts, nat_tests, Label, Image, Same, same_label, label_tells, View, From, sector_of, IsRun, put_run, IsPutByRun, TornRun, IsRunWrite, put_upto}

-- no sectors are held anywhere
pub none_held : (p : Label) (first : ℕ) (x : Image) → IsRun p first x []
none_held p first x k few = absurd (omega (arith, few))

module _ (p : Label) (first : ℕ) (run : List (List ℕ)) where
  torn_trans : (d x y : Image) → TornRun p first run d x → TornRun p first run x y
      → TornRun p first run d y
  torn_trans d x y so_far torn q j =
      ⊎_elim
      (λ (e : y q j ≡ x q j).
      ⊎_elim
      (λ (h : x q j ≡ d q j). inl (e ∙ h))
      (λ (h : IsPutByRun p first run q j (x q j)). inr (
        h.0,
        h.1,
        record { provider = h.2.provider; place = h.2.place; value = e ∙ h.2.value },
      ))
      (so_far q j))
      (λ (h : IsPutByRun p first run q j (y q j)). inr h)
      (torn q j)

  -- one write of it after another
  pub run_trans : (old mid new : View) → IsRunWrite p first run old mid
      → IsRunWrite p first run mid new → IsRunWrite p first run old new
  run_trans old mid new so_far law =
      let join : (x : Image) → From mid.may_leave (λ d. TornRun p first run d x)
      → From old.may_leave (λ d. TornRun p first run d x) = λ x before.
      let from = so_far.crash before.0 before.1 in
      (from.0, from.1, torn_trans from.0 before.0 x from.2 before.2) in
      record {
        seen = torn_trans old.seen mid.seen new.seen so_far.seen law.seen;
        crash = λ x left. join x (law.crash x left);
        later = omega (arith, so_far.later, law.later);
        since = λ t x le left.
            ⊎_elim
            (λ (before : mid.left_since t x). so_far.since t x le before)
            (λ (now : From mid.may_leave (λ d. TornRun p first run d x)). inr (join x now))
            (law.since t x (omega (arith, le, so_far.later)) left);
        keeps = λ t x le left. law.keeps t x (omega (arith, le, so_far.later))
            (so_far.keeps t x le left);
      }

  -- a stretch of it, from the sector n on
  module _ (n : ℕ) (part : List (List ℕ)) (within : n + length part ≤ length run)
      (told : (k : ℕ) → k < length part → sector_of part k ≡ sector_of run (n + k)) where
    torn_part : (d x : Image) → TornRun p (first + n) part d x → TornRun p first run d x
    torn_part d x torn q j =
        ⊎_elim
        (λ (e : x q j ≡ d q j). inl e)
        (λ (h : IsPutByRun p (first + n) part q j (x q j)).
        let few : h.0 < length part = h.1 in
        let sum : first + n + h.0 ≡ first + (n + h.0) = omega arith in
        inr (
          n + h.0,
          omega (arith, within, few),
          record {
            provider = h.2.provider;
            place = h.2.place ∙ sum;
            value = h.2.value ∙ told h.0 few;
          },
        ))
        (torn q j)

    pub run_part : (old new : View) → IsRunWrite p (first + n) part old new
        → IsRunWrite p first run old new
    run_part old new law =
        let torn : (x : Image) → From old.may_leave (λ d. TornRun p (first + n) part d x)
        → From old.may_leave (λ d. TornRun p first run d x) =
        λ x from. (from.0, from.1, torn_part from.0 x from.2) in
        record {
          seen = torn_part old.seen new.seen law.seen;
          crash = λ x left. torn x (law.crash x left);
          later = law.later;
          since = λ t x le left. ⊎_elim (λ before. inl before) (λ from. inr (torn x from))
              (law.since t x le left);
          keeps = law.keeps;
        }

    more : (j : ℕ) → (nat_le first j && nat_lt j (first + (n + length part)))
        ≡ ((nat_le (first + n) j && nat_lt j (first + n + length part)) ||
        (nat_le first j && nat_lt j (first + n)))
    more j = grind (arith, nat_tests)

    -- after the sectors that are laid over the image already
    pub put_part : (old mid new : Image) → Same mid (put_upto p first run n old)
        → Same new (put_run p (first + n) part mid)
        → Same new (put_upto p first run (n + length part) old)
    put_part old mid new so_far written q j =
        written q j ∙ elim (cases_Bool (same_label q p)) [
          | inr other ↦ let h = so_far q j in rw other (rw other at h)
          | inl same ↦ elim (cases_Bool (nat_le (first + n) j && nat_lt j
              (first + n + length part))) [
                | inl here ↦
                    let at = and_parts (nat_le (first + n) j) (nat_lt j (first + n + length part))
                    here in
                    let from : first + n ≤ j = leb-true (first + n) j at.0 in
                    let below : j < first + n + length part =
                    ltb-true j (first + n + length part) at.1 in
                    let few : j - (first + n) < length part = omega (arith, from, below) in
                    let sum : n + (j - (first + n)) ≡ j - first = omega (arith, from) in
                    let value : sector_of part (j - (first + n)) ≡ sector_of run (j - first) =
                    told (j - (first + n)) few ∙ ap (sector_of run) sum in
                    rw (same, more j, here) value
                | inr away ↦ let h = so_far q j in rw (same, more j, away) (rw same at h)
              ]
        ]

  -- the stretch of m sectors from the sector n on
  module _ (n m : ℕ) (within : n + m ≤ length run) where
    part_long : length (take m (drop n run)) ≡ m
    part_long = length-take-le m (drop n run) (rw length-drop (omega (arith, within)))

    part_told : (k : ℕ) → k < length (take m (drop n run))
        → sector_of (take m (drop n run)) k ≡ sector_of run (n + k)
    part_told k few = get_or-take m (drop n run) k [] (omega (arith, few, part_long))
        ∙ get_or-drop n run k []

    pub stretch_law : (old mid new : View) → IsRunWrite p first run old mid
        → IsRunWrite p (first + n) (take m (drop n run)) mid new → IsRunWrite p first run old new
    stretch_law old mid new so_far law =
        run_trans old mid new so_far (run_part n (take m (drop n run))
        (omega (arith, within, part_long)) part_told mid new law)

    pub stretch_seen : (old mid new : Image) → Same mid (put_upto p first run n old)
        → Same new (put_run p (first + n) (take m (drop n run)) mid)
        → Same new (put_upto p first run (n + m) old)
    stretch_seen old mid new so_far written =
        subst (λ (l : ℕ). Same new (put_upto p first run (n + l) old)) part_long
        (put_part n (take m (drop n run)) (omega (arith, within, part_long)) part_told old mid
        new so_far written)

  pub rest_seen : (n : ℕ) (old mid new : Image) → n ≤ length run
      → Same mid (put_upto p first run n old)
      → Same new (put_run p (first + n) (take (length run - n) (drop n run)) mid)
      → Same new (put_run p first run old)
  rest_seen n old mid new within so_far written =
      let whole : n + (length run - n) ≡ length run = omega (arith, within) in
      subst (λ (l : ℕ). Same new (put_upto p first run l old)) whole
      (stretch_seen n (length run - n) (omega (arith, within)) old mid new so_far written)

  one_more : (n j : ℕ) → (nat_le first j && nat_lt j (first + (n + 1)))
      ≡ ((j == (first + n)) || (nat_le first j && nat_lt j (first + n)))
  one_more n j = grind (arith, nat_tests)

  -- a sector that is there already needn't be written
  pub put_same : (old new : Image) (n : ℕ) → sector_of run n ≡ old p (first + n)
      → Same new (put_upto p first run n old) → Same new (put_upto p first run (n + 1) old)
  put_same old new n equal so_far q j =
      so_far q j ∙ elim (label_tells q p) [
        | inr other ↦ rw other.0 refl
        | inl same ↦ elim (cases_Bool (j == (first + n))) [
          | inl here ↦
              let e : j ≡ first + n = eqb-true j (first + n) here in
              let off : j - first ≡ n = omega (arith, e) in
              let before : (nat_le first j && nat_lt j (first + n)) ≡ false =
              grind (arith, nat_tests, e) in
              let there : old q j ≡ sector_of run (j - first) = there_already q j same.1 e off in
              rw (same.0, one_more n j, here, before) there
          | inr away ↦ rw (same.0, one_more n j, away) refl
        ]
      ]
    where
      there_already : (q : List ℕ) (j : ℕ) → q ≡ p → j ≡ first + n → j - first ≡ n
          → old q j ≡ sector_of run (j - first)
      there_already q j a b c = rw (c, a, b) (sym equal)
