-- What was listed so far is what the scrub lists of the components that were looked at.
use Rattle.gm_looks.proofs.Common.{◌≡◌, ◌∙◌, inl, inr, ⊎_elim, ℕ, ◌≤◌, arith, sym, subst, List, length, take, Option, Some, None, Image, Same, Sizes, Component, Mirror, Records, Has, difference_same, HasFlaw, IsActiveOf, IsAskedFor, IsAsSource, IsScrub, MayHaveFlaw, Flaw, Uncompared, Differs, Scrubbed}
use Rattle.gm_looks.proofs.Listed.{SoFar, all_looked_at}

-- ---- an image that holds the same

module _ (size : Sizes) (x y : Image) (same : Same y x) (m : Mirror) (k a : Component) where
  as_source_seen : IsAsSource size y m k a → IsAsSource size x m k a
  as_source_seen is = record {
    comparable = is.comparable;
    same = λ i low. sym (same k.provider i) ∙ is.same i low ∙ same a.provider i;
  }

  flaw_seen : (flaw : Flaw) → HasFlaw size y m k a flaw → HasFlaw size x m k a flaw
  flaw_seen Uncompared h = h
  flaw_seen (Differs sectors first) h = record {
    comparable = h.comparable;
    some = h.some;
    within = h.within;
    by = difference_same (y a.provider) (y k.provider) (x a.provider) (x k.provider)
        m.data_sectors (record { sectors = sectors; first = first })
        (λ i low. same a.provider i) (λ i low. same k.provider i)
        (let low = h.within in omega (arith, low)) h.by;
  }

may_have_seen : (s : Records) (size : Sizes) (x y : Image) (m : Mirror) (k : Component)
    (found : Option Flaw) → Same y x → MayHaveFlaw s size y m k found
    → MayHaveFlaw s size x m k found
may_have_seen s size x y m k None same h =
    (h.0, h.1, as_source_seen size x y same m k h.0 h.2)
may_have_seen s size x y m k (Some flaw) same h =
    (h.0, h.1, flaw_seen size x y same m k h.0 flaw h.2)

-- what was only read has the flaws that it had
pub flaws_before : (s : Records) (size size' : Sizes) (x y : Image) (m : Mirror) (k : Component)
    (found : Option Flaw) → size' ≡ size → Same y x → MayHaveFlaw s size' y m k found
    → MayHaveFlaw s size x m k found
flaws_before s size size' x y m k found e same h =
    may_have_seen s size x y m k found same
    (subst (λ (z : Sizes). MayHaveFlaw s z y m k found) e h)

-- ---- the components in their order

module _ (s : Records) (size : Sizes) (seen : Image) (asked : Option (List ℕ)) where
  -- what an entry tells of its component, and what holds of one without
  abbrev pub Told : Mirror → Component → Scrubbed → Type 0
  Told m k e = IsActiveOf s m k × IsAskedFor asked m × MayHaveFlaw s size seen m k (Some e.flaw)

  abbrev pub Right : Mirror → Component → Type 0
  Right m k = IsActiveOf s m k → IsAskedFor asked m → MayHaveFlaw s size seen m k None

  abbrev pub ScrubbedSoFar : List Component → List Scrubbed → Type 0
  ScrubbedSoFar done list = SoFar (λ e. e.provider) Told Right s done list

  pub all_scrubbed : (i : ℕ) (list : List Scrubbed) → length s.components ≤ i
      → ScrubbedSoFar (take i s.components) list → IsScrub s size seen asked list
  all_scrubbed i list high so = record {
    amiss = λ e h. let told = so.told e h in
        (told.0, told.1, told.4.0, told.4.1, told.3, told.4.2);
    others = λ m k active wanted. ⊎_elim
        (λ (right : Right m k). inl (right active wanted))
        (λ (e : (x : Scrubbed) × Has list x × (x.provider ≡ k.provider)). inr e)
        (all_looked_at (λ e. e.provider) Told Right s i list high so m k active.of);
    ascend = so.ascend;
  }
