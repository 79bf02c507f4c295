-- Steps that lead on, one more each time.
use Rattle.std.proofs.Common.{◌≡◌, ◌∙◌, ℕ, zero, suc, ◌+◌, ◌<◌, List, [], ◌∷◌, ◌++◌, length, get_or, sym, ap, subst, refl, arith, add-one, inl, inr}
use Rattle.std.proofs.lemmas.Bool.{cases_lt}
use Rattle.std.proofs.lemmas.List.{get_or_append_left, length-append}
use Rattle.std.proofs.Math.Seq.{get_or-append_seam}
use Rattle.gm_commands.specs.declared.command.Command.{Command}
use Rattle.gm_state.specs.Records.{Records}
use Rattle.gm_refusals.specs.Seen.{Seen}
use Rattle.gm_ways.specs.declared.step.Exchange.{Exchange}
use Rattle.gm_ways.specs.declared.step.Step.{Step}
use Rattle.gm_ways.specs.Judged.{Follows, Lead, Passes, Repeats}

-- one command more
pub repeats_more : (x : Seen) (c : Command) (n : ℕ) (s v w : Records) → Repeats x c n s v
    → Follows v x c w → Repeats x c (n + 1) s w
repeats_more x c n s v w before then =
    subst (λ (k : ℕ). Repeats x c k s w) (sym (add-one n)) (v, before, then)

module _ (x : Seen) (e : Exchange) (did : ℕ) (steps : List Step) (s : Records) where
  -- one step more
  pub lead_more : (i m k : ℕ) (v w : Records) (step : Step) → Lead x e did steps s i m v
      → step ≡ get_or steps i step → Passes x e did step v k w
      → Lead x e did steps s (i + 1) (m + k) w
  lead_more i m k v w step before is then =
      subst (λ (j : ℕ). Lead x e did steps s j (m + k) w) (sym (add-one i))
      (v, m, k, step, before, is, then, refl)

  -- these are the records that the first steps find
  abbrev pub AreFound : List Records → Type 0
  AreFound found = (i : ℕ) → i < length found → (v : Records) → v ≡ get_or found i v
      → (n : ℕ) × Lead x e did steps s i n v

  -- and those that the next one finds
  pub found_more : (found : List Records) (n : ℕ) (w : Records) → AreFound found
      → Lead x e did steps s (length found) n w → AreFound (found ++ w ∷ [])
  found_more found n w before now i low v is = elim (cases_lt i (length found)) [
    | inl was ↦ before i was v (is ∙ get_or_append_left found (w ∷ []) v i was)
    | inr new ↦
        let long : length (found ++ w ∷ []) ≡ length found + 1 = length-append found (w ∷ []) in
        let at : i ≡ length found = omega (arith, low, new, long) in
        let same : w ≡ v =
        sym (is ∙ (ap (λ (j : ℕ). get_or (found ++ w ∷ []) j v) at
        ∙ get_or-append_seam found w [] v)) in (
          n,
          subst (λ (j : ℕ). Lead x e did steps s j n v) (sym at)
              (subst (λ (u : Records). Lead x e did steps s (length found) n u) same now),
        )
  ]

  -- the same, by the place of those
  module _ (found found' : List Records) (i n : ℕ) (w : Records) (more : found' ≡ found ++ w ∷ [])
      (at : length found ≡ i) where
    pub found_so : AreFound found → Lead x e did steps s i n w → AreFound found'
    found_so before now =
        subst AreFound (sym more)
        (found_more found n w before
        (subst (λ (j : ℕ). Lead x e did steps s j n w) (sym at) now))

    pub longer : length found' ≡ i + 1
    longer =
        ap length more ∙ (length-append found (w ∷ []) ∙ ap (λ (j : ℕ). j + 1) at)

    pub last_is : w ≡ get_or found' i w
    last_is =
        sym (ap (λ (l : List Records). get_or l i w) more
        ∙ (ap (λ (j : ℕ). get_or (found ++ w ∷ []) j w) (sym at)
        ∙ get_or-append_seam found w [] w))
