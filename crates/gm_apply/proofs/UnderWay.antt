-- One call of a shelf after another, within one intent.
use Rattle.gm_apply.proofs.Common.{◌≡◌, ◌<◌, ◌+◌, length, inl, inr, ⊎_elim, ℕ, List, true, false, refl, ◌∙◌, arith, cases_Bool, Image, View, From, Elapses, IsQuiet, sector_of, IsPutByRun, TornRun, IsRunWrite, Places, with_places, SomePlacesNew, CrashLeaves, PlacesAreNew, Moments, IsUnderWay}

-- before the first call
pub at_start : (v : View) (P : Image → Type 0) → CrashLeaves v v P
at_start v P = record { later = omega arith; since = λ t x le left. inl left }

-- one call more, after which a crash leaves what has P
pub goes_on : (old mid new : View) (P : Image → Type 0) → CrashLeaves old mid P → Elapses mid new
    → ((x : Image) → new.may_leave x → P x) → CrashLeaves old new P
goes_on old mid new P so_far time here = record {
  later = omega (arith, so_far.later, time.later);
  since = λ t x le left. ⊎_elim (λ before. so_far.since t x le before) (λ now. inr (here x now))
      (time.nothing_else t x (omega (arith, le, so_far.later)) left);
}

-- one part of a run after another
pub leaves_trans : (old mid new : View) (P Q : Image → Type 0) → CrashLeaves old mid P
    → CrashLeaves mid new Q → ((x : Image) → Q x → P x) → CrashLeaves old new P
leaves_trans old mid new P Q first second there = record {
  later = omega (arith, first.later, second.later);
  since = λ t x le left. ⊎_elim (λ before. first.since t x le before) (λ q. inr (there x q))
      (second.since t x (omega (arith, le, first.later)) left);
}

module _ (place : Places) (w : Image) where
  pub mix_refl : (d : Image) → SomePlacesNew place w d d
  mix_refl d q j = inl refl

  mix_torn_run : (x y : Image) (p : List ℕ) (first : ℕ) (run : List (List ℕ))
      → ((k : ℕ) → k < length run → (place p (first + k) ≡ true)
      × (w p (first + k) ≡ sector_of run k)) → TornRun p first run x y → SomePlacesNew place w x y
  mix_torn_run x y p first run told torn q j =
      ⊎_elim
      (λ (e : y q j ≡ x q j). inl e)
      (λ (h : IsPutByRun p first run q j (y q j)).
      let there = (told h.0 h.1).0 in
      let value = (told h.0 h.1).1 in
      let a = h.2.provider in
      let b = h.2.place in
      let v = h.2.value in
      inr ((let r : place q j ≡ true = cc in r), (let r : y q j ≡ w q j = cc in r)))
      (torn q j)

  pub going_start : (v : View) → IsUnderWay place w v v
  going_start v = record {
    seen = mix_refl v.seen;
    moments = at_start v _;
    left = λ x left. (x, left, mix_refl x);
  }

  -- a run of places was written
  pub going_run : (old new : View) (p : List ℕ) (first : ℕ) (run : List (List ℕ))
      → ((k : ℕ) → k < length run → (place p (first + k) ≡ true)
      × (w p (first + k) ≡ sector_of run k)) → IsRunWrite p first run old new
      → IsUnderWay place w old new
  going_run old new p first run told law =
      let torn : (x : Image) → From old.may_leave (λ d. TornRun p first run d x)
      → From old.may_leave (λ d. SomePlacesNew place w d x) =
      λ x from. (from.0, from.1, mix_torn_run from.0 x p first run told from.2) in
      record {
        seen = mix_torn_run old.seen new.seen p first run told law.seen;
        moments = record {
          later = law.later;
          since = λ t x le left. ⊎_elim (λ before. inl before) (λ from. inr (torn x from))
              (law.since t x le left);
        };
        left = λ x left. torn x (law.crash x left);
      }

  -- a part of the places comes after another
  module _ (part : Places) (v : Image)
      (told : (q : List ℕ) (j : ℕ) → part q j ≡ true → (place q j ≡ true) × (v q j ≡ w q j)) where
    mix_trans : (d x y : Image) → SomePlacesNew place w d x → SomePlacesNew part v x y
        → SomePlacesNew place w d y
    mix_trans d x y first second q j =
        ⊎_elim
        (λ (e : y q j ≡ x q j). ⊎_elim (λ (h : x q j ≡ d q j). inl (e ∙ h))
        (λ (h : (place q j ≡ true) × (x q j ≡ w q j)). inr (h.0, e ∙ h.1)) (first q j))
        (λ (h : (part q j ≡ true) × (y q j ≡ v q j)). inr (
          (told q j h.0).0,
          h.1 ∙ (told q j h.0).1,
        ))
        (second q j)

    pub going_trans : (old mid new : View) → IsUnderWay place w old mid → IsUnderWay part v mid new
        → IsUnderWay place w old new
    going_trans old mid new first second =
        let join : (x : Image) → From mid.may_leave (λ y. SomePlacesNew part v y x)
        → From old.may_leave (λ d. SomePlacesNew place w d x) = λ x y.
        let from = first.left y.0 y.1 in
        (from.0, from.1, mix_trans from.0 y.0 x from.2 y.2) in
        record {
          seen = mix_trans old.seen mid.seen new.seen first.seen second.seen;
          moments = leaves_trans old mid new _
              (λ x. From mid.may_leave (λ y. SomePlacesNew part v y x)) first.moments second.moments
              join;
          left = λ x left. join x (second.left x left);
        }

  pub going_quiet : (old mid new : View) → IsUnderWay place w old mid → IsQuiet mid new
      → IsUnderWay place w old new
  going_quiet old mid new so_far law =
      let here : (x : Image) → new.may_leave x
      → From old.may_leave (λ d. SomePlacesNew place w d x) =
      λ x left. so_far.left x (law.crash x left) in
      record {
        seen = λ q j. ⊎_elim (λ (h : mid.seen q j ≡ old.seen q j). inl (law.seen q j ∙ h))
            (λ (h : (place q j ≡ true) × (mid.seen q j ≡ w q j)). inr (h.0, law.seen q j ∙ h.1))
            (so_far.seen q j);
        moments = goes_on old mid new _ so_far.moments law.time here;
        left = here;
      }

  pub laid_in : (d : Image) (q : List ℕ) (j : ℕ) → place q j ≡ true
      → with_places place w d q j ≡ w q j
  laid_in d q j e = rw e refl

  pub laid_out : (d : Image) (q : List ℕ) (j : ℕ) → place q j ≡ false
      → with_places place w d q j ≡ d q j
  laid_out d q j e = rw e refl

-- only what the places are as in matters
module _ (place : Places) (v w : Image)
    (same : (q : List ℕ) (j : ℕ) → place q j ≡ true → v q j ≡ w q j) where
  laid_same : (d : Image) (q : List ℕ) (j : ℕ)
      → with_places place v d q j ≡ with_places place w d q j
  laid_same d q j = elim (cases_Bool (place q j)) [ inl e ↦ rw e (same q j e) | inr e ↦ rw e refl ]

  mix_same : (d x : Image) → SomePlacesNew place v d x → SomePlacesNew place w d x
  mix_same d x mix q j =
      ⊎_elim (λ (h : x q j ≡ d q j). inl h) (λ (h : (place q j ≡ true) × (x q j ≡ v q j)).
      inr (h.0, h.1 ∙ same q j h.0)) (mix q j)

  pub redone_same : (old new : View) → PlacesAreNew place v old new → PlacesAreNew place w old new
  redone_same old new redone = record {
    seen = λ q j. redone.seen q j ∙ laid_same old.seen q j;
    left = λ x left. let from = redone.left x left in
        (from.0, from.1, λ q j. from.2 q j ∙ laid_same from.0 q j);
  }

  pub moments_same : (old new : View) → Moments place v old new → Moments place w old new
  moments_same old new moments = record {
    later = moments.later;
    since = λ t x le left. ⊎_elim (λ before. inl before)
        (λ from. inr (from.0, from.1, mix_same from.0 x from.2)) (moments.since t x le left);
  }
