-- How an image stands is the same if a shelf was only read in between.
use Rattle.gm_looks.proofs.Common.{◌≡◌, ◌∙◌, inl, inr, ◌-◌, ◌==◌, ℕ, List, Option, Some, None, refl, sym, ap, subst, if◌then◌else◌, option_and_then, Image, Same, Sizes, Intent, Mirror, Component, Records, last_sector, IsAsRegistered, IsOfCleared, IsOfComponent, IsOfNamed, ShowsOther, IsTold, Standing}
use Rattle.gm_state.specs.declared.intents.Intent.TheVariants.{Meta, Clear, Copy, Dirty, Patch}

-- of so many sectors, if there are any, the last holds the same
last_same : (v w : ℕ → List ℕ) → ((n : ℕ) → v n ≡ w n) → (o : Option ℕ)
    → option_and_then (λ n. if n == 0 then None else Some (v (n - 1))) o
    ≡ option_and_then (λ n. if n == 0 then None else Some (w (n - 1))) o
last_same v w same None = refl
last_same v w same (Some n) = ap (λ (x : List ℕ). if n == 0 then None else Some x) (same (n - 1))

module _ (s : Records) (size : Sizes) (x y : Image) (same : Same y x) where
  last_seen : (p : List ℕ) → last_sector size y p ≡ last_sector size x p
  last_seen p = last_same (y p) (x p) (same p) (size p)

  registered_seen : (m : Mirror) (k : Component) → IsAsRegistered size y m k
      → IsAsRegistered size x m k
  registered_seen m k h = record {
    size_is = h.size_is;
    last_is = sym (same k.provider (k.sectors - 1)) ∙ h.last_is;
  }

  shows_other : (m : Mirror) (k : Component) (z : List ℕ) → ShowsOther size y m k z
      → ShowsOther size x m k z
  shows_other m k z h = record {
    size_is = h.size_is;
    last_is = sym (same k.provider (k.sectors - 1)) ∙ h.last_is;
    other = h.other;
  }

  component_seen : (m : Mirror) (k : Component) (standing : Standing)
      → IsOfComponent size y m k standing → IsOfComponent size x m k standing
  component_seen m k standing (inl is) = inl (registered_seen m k is.0, is.1)
  component_seen m k standing (inr (inl none)) =
      inr (inl (sym (last_seen k.provider) ∙ none.0, none.1))
  component_seen m k standing (inr (inr (inl sized))) = inr (inr (inl sized))
  component_seen m k standing (inr (inr (inr shown))) =
      inr (inr (inr (shown.0, shows_other m k shown.0 shown.1, shown.2)))

  cleared_seen : (p : List ℕ) (standing : Standing) → IsOfCleared s size y p standing
      → IsOfCleared s size x p standing
  cleared_seen p standing (inl none) = inl (sym (last_seen p) ∙ none.0, none.1)
  cleared_seen p standing (inr (inl zero)) =
      inr (inl (sym (last_seen p) ∙ zero.0, zero.1))
  cleared_seen p standing (inr (inr says)) =
      inr (inr (says.0, sym (last_seen p) ∙ says.1, says.2, says.3))

  named_seen : (p : List ℕ) (standing : Standing) → IsOfNamed s size y p standing
      → IsOfNamed s size x p standing
  named_seen p standing h = record {
    component = λ m k o at. component_seen m k standing (h.component m k o at);
    stranger = λ none. let st = h.stranger none in (st.0, cleared_seen p st.0 st.1, st.2);
  }

  told_seen : (t : Intent) (told : List ℕ) → IsTold s size y t told → IsTold s size x t told
  told_seen (Meta p) told h = (h.0, named_seen p h.0 h.1, h.2)
  told_seen (Clear p) told h = (h.0, cleared_seen p h.0 h.1, h.2)
  told_seen (Copy source target first end) told h =
      (h.0, h.1, named_seen source h.0 h.2, named_seen target h.1 h.3, h.4)
  told_seen (Dirty p) told h = (h.0, named_seen p h.0 h.1, h.2)
  told_seen (Patch p first end) told h = (h.0, named_seen p h.0 h.1, h.2)

module _ (s : Records) (size size' : Sizes) (x y : Image) (sizes : size' ≡ size)
    (same : Same y x) where
  pub named_before : (p : List ℕ) (standing : Standing) → IsOfNamed s size' y p standing
      → IsOfNamed s size x p standing
  named_before p standing h =
      named_seen s size x y same p standing
      (subst (λ (z : Sizes). IsOfNamed s z y p standing) sizes h)

  pub component_before : (m : Mirror) (k : Component) (standing : Standing)
      → IsOfComponent size' y m k standing → IsOfComponent size x m k standing
  component_before m k standing h =
      component_seen s size x y same m k standing
      (subst (λ (z : Sizes). IsOfComponent z y m k standing) sizes h)

  pub told_before : (t : Intent) (told : List ℕ) → IsTold s size' y t told
      → IsTold s size x t told
  told_before t told h =
      told_seen s size x y same t told (subst (λ (z : Sizes). IsTold s z y t told) sizes h)
