-- What is listed of writes one after the other, over a shelf that is only read meanwhile.
use Rattle.gm_stopped.proofs.Common.{◌≡◌, ◌∙◌, ◌⊎◌, ⊎_elim, inl, refl, Has-append_left, Has-append_right, ℕ, ◌+◌, ◌-◌, ◌<◌, ◌==◌, if◌then◌else◌, List, [], ◌∷◌, ◌++◌, Option, Some, None, length, take, get_or, sym, ap, subst, Image, Sizes, Same, Has, Has-push, take_more, last_sector}
use Rattle.std.specs.Option.{option_and_then}
use Rattle.gm_state.specs.declared.intents.Intent.{Intent}
use Rattle.gm_state.specs.Records.{Records}
use Rattle.gm_stopped.specs.Strange.{AreStrange, HasStrange, HasStrangeOf, IsStrange, IsStrangeTo, Needs}
use Rattle.gm_stopped.specs.declared.stopped.Stopped.{Stopped}
use Rattle.gm_stopped.specs.declared.strange.Need.{Need}

-- ---- the same sectors are seen

last_at : (a b : Image) (p : List ℕ) → Same a b → (o : Option ℕ)
    → option_and_then (λ n. if n == 0 then None else Some (a p (n - 1))) o
    ≡ option_and_then (λ n. if n == 0 then None else Some (b p (n - 1))) o
last_at a b p same None = refl
last_at a b p same (Some n) =
    ap (λ (x : List ℕ). if n == 0 then None else Some x) (same p (n - 1))

pub same_last : (size size' : Sizes) (a b : Image) → size' ≡ size → Same a b → (p : List ℕ)
    → last_sector size' a p ≡ last_sector size b p
same_last size size' a b e same p = last_at a b p same (size' p)
    ∙ ap (λ (o : Sizes). last_sector o b p) e

module _ (s : Records) (stopped : Stopped) (size : Sizes) (seen : Image) where
  -- what is strange to a later look is strange to the first one
  pub strange_before : (size' : Sizes) (seen' : Image) → size' ≡ size → Same seen' seen
      → (need : Need) → IsStrange s stopped size' seen' need → IsStrange s stopped size seen need
  strange_before size' seen' e same need is = record {
    sectors = is.sectors;
    last = is.last;
    there = sym (ap (λ (o : Sizes). o need.image) e) ∙ is.there;
    last_is = sym (same_last size size' seen' seen e same need.image) ∙ is.last_is;
    right = is.right;
    strange = is.strange;
  }

  -- and the other way round
  pub strange_after : (size' : Sizes) (seen' : Image) → size' ≡ size → Same seen' seen
      → (need : Need) → IsStrange s stopped size seen need → IsStrange s stopped size' seen' need
  strange_after size' seen' e same need is = record {
    sectors = is.sectors;
    last = is.last;
    there = ap (λ (o : Sizes). o need.image) e ∙ is.there;
    last_is = same_last size size' seen' seen e same need.image ∙ is.last_is;
    right = is.right;
    strange = is.strange;
  }

  pub to_before : (size' : Sizes) (seen' : Image) → size' ≡ size → Same seen' seen
      → (t : Intent) (p : List ℕ) → IsStrangeTo s stopped size' seen' t p
      → IsStrangeTo s stopped size seen t p
  to_before size' seen' e same t p is = record {
    need = is.need;
    needs = is.needs;
    image = is.image;
    strange = strange_before size' seen' e same is.need is.strange;
  }

  -- ---- one write more

  -- what is among one more was among them, or is the one
  abbrev Before : List Intent → ℕ → Intent → Type 0
  Before ts i t = (x : Intent) → Has (take (i + 1) ts) x → Has (take i ts) x ⊎ (t ≡ x)

  last_or_before : (ts : List Intent) (i : ℕ) (t : Intent) → i < length ts → t ≡ get_or ts i t
      → Before ts i t
  last_or_before ts i t low is x h =
      Has-push (take i ts) t x (subst (λ (l : List Intent). Has l x) (take_more ts i t low
      ∙ ap (λ (r : Intent). take i ts ++ r ∷ []) (sym is)) h)

  in_more : (ts : List Intent) (i : ℕ) (t : Intent) → i < length ts → t ≡ get_or ts i t
      → (x : Intent) → Has (take i ts ++ t ∷ []) x → Has (take (i + 1) ts) x
  in_more ts i t low is x h =
      subst (λ (l : List Intent). Has l x) (sym (take_more ts i t low
      ∙ ap (λ (r : Intent). take i ts ++ r ∷ []) (sym is))) h

  pub told_more : (ts : List Intent) (i : ℕ) (t : Intent) (names more : List (List ℕ))
      → i < length ts → t ≡ get_or ts i t → AreStrange s stopped size seen (take i ts) names
      → ((p : List ℕ) → Has more p → Has names p ⊎ IsStrangeTo s stopped size seen t p)
      → AreStrange s stopped size seen (take (i + 1) ts) more
  told_more ts i t names more low is before added p h =
      ⊎_elim (λ (was : Has names p). let b = before p was in
      (b.0, in_more ts i t low is b.0 (Has-append_left (take i ts) (t ∷ []) b.0 b.1), b.2))
      (λ (new : IsStrangeTo s stopped size seen t p).
      (t, in_more ts i t low is t (Has-append_right (take i ts) (t ∷ []) t (inl refl)), new))
      (added p h)

  pub others_more : (ts : List Intent) (i : ℕ) (t : Intent) (names more : List (List ℕ))
      → i < length ts → t ≡ get_or ts i t → HasStrange s stopped size seen (take i ts) names
      → ((p : List ℕ) → Has names p → Has more p) → HasStrangeOf s stopped size seen t more
      → HasStrange s stopped size seen (take (i + 1) ts) more
  others_more ts i t names more low is before kept new x h need needs strange =
      ⊎_elim (λ (was : Has (take i ts) x). kept need.image (before x was need needs strange))
      (λ (e : t ≡ x). new need (subst (λ (y : Intent). Needs y need) (sym e) needs) strange)
      (last_or_before ts i t low is x h)
