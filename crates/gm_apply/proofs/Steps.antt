-- One intent after another, in what a read gives and in what a crash may leave.
use Rattle.gm_apply.proofs.Common.{◌≡◌, ◌∙◌, inl, inr, ⊎_elim, ℕ, sym, subst, List, [], ◌∷◌, ◌++◌, true, if◌then◌else◌, cases_Bool, Image, Sizes, View, From, Intent, Records, is_dirty, names, IsPartlyDone, CrashLeaves, PlacesAreNew, Moments, SomePlacesNew, with_places}
use Rattle.gm_apply.proofs.UnderWay.{leaves_trans, laid_in, laid_out}
use Rattle.gm_apply.proofs.Reached.{Which, Old, Dirt, New, latest, IsValue, IsReached, IsStepping, latest_more}
use Rattle.gm_apply.proofs.Stages.{partly}

-- the intents are done, in what a read gives and in each image that a crash may leave
pub record Reaches (s : Records) (size : Sizes) (done : List Intent) (w : Image) (old new : View)
    : Type 0 where
  pub seen : IsReached s size done w old.seen new.seen
  pub left : (x : Image) → new.may_leave x → From old.may_leave (λ d. IsReached s size done w d x)

-- v is what the intent lays where it names sectors, on the way to w
abbrev pub IsAim : Records → Sizes → Intent → Image → Image → Type 0
IsAim s size t w v = (q : List ℕ) (j : ℕ) → names size t q j ≡ true → (d : Image)
    → IsValue s w d q j (v q j) (if is_dirty t then Dirt else New)

module _ (s : Records) (size : Sizes) (done : List Intent) (t : Intent) (rest : List Intent)
    (w v : Image) (aim : IsAim s size t w v) where
  stepping : (y x : Image) → SomePlacesNew (names size t) v y x → IsStepping s size t w y x
  stepping y x mix q j =
      ⊎_elim (λ (h : x q j ≡ y q j). inl h)
      (λ (h : (names size t q j ≡ true) × (x q j ≡ v q j)).
      inr (
        h.0,
        subst (λ (z : List ℕ). IsValue s w y q j z (if is_dirty t then Dirt else New))
            (sym h.1) (aim q j h.0 y),
      ))
      (mix q j)

  reached_more : (d y x : Image) → IsReached s size done w d y
      → ((q : List ℕ) (j : ℕ) → x q j ≡ with_places (names size t) v y q j)
      → IsReached s size (done ++ t ∷ []) w d x
  reached_more d y x before step q j =
      subst (λ (c : Which). IsValue s w d q j (x q j) c) (sym (latest_more size done t q j Old))
      (elim (cases_Bool (names size t q j)) [
        | inl here ↦
            let laid : x q j ≡ v q j = step q j ∙ laid_in (names size t) v y q j here in
            rw here (subst (λ (z : List ℕ).
            IsValue s w d q j z (if is_dirty t then Dirt else New)) (sym laid) (aim q j here d))
        | inr off ↦
            let same : x q j ≡ y q j = step q j ∙ laid_out (names size t) v y q j off in
            rw off (subst (λ (z : List ℕ). IsValue s w d q j z (latest size done q j Old))
            (sym same) (before q j))
      ])

  -- the step is done
  pub step_done : (old mid new : View) → Reaches s size done w old mid
      → PlacesAreNew (names size t) v mid new → Reaches s size (done ++ t ∷ []) w old new
  step_done old mid new so_far step = record {
    seen = reached_more old.seen mid.seen new.seen so_far.seen step.seen;
    left = λ x left.
        let before = step.left x left in
        let from = so_far.left before.0 before.1 in
        (from.0, from.1, reached_more from.0 before.0 x from.2 before.2);
  }

  -- at each of its moments a crash leaves all of the intents partly done
  pub step_moments : (old mid new : View) → Reaches s size done w old mid
      → CrashLeaves old mid
      (λ x. From old.may_leave (λ d. IsPartlyDone s size (done ++ t ∷ rest) w d x))
      → Moments (names size t) v mid new
      → CrashLeaves old new
      (λ x. From old.may_leave (λ d. IsPartlyDone s size (done ++ t ∷ rest) w d x))
  step_moments old mid new so_far moments step =
      leaves_trans old mid new
      (λ x. From old.may_leave (λ d. IsPartlyDone s size (done ++ t ∷ rest) w d x))
      (λ x. From mid.may_leave (λ y. SomePlacesNew (names size t) v y x)) moments step
      (λ x before.
      let from = so_far.left before.0 before.1 in (
        from.0,
        from.1,
        partly s size done t rest w from.0 before.0 x from.2 (stepping before.0 x before.2),
      ))
