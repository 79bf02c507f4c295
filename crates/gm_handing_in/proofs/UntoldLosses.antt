-- A command of whose losses nothing is told loses nothing.
use Rattle.std.proofs.Common.{◌≡◌, true, false, not, List, [], ◌∷◌, cond, refl, inl, inr, arith}
use Rattle.std.proofs.lemmas.List.Sums.{sum_by-cons}
use Rattle.gm_metadata.specs.Images.{Image, Sizes}
use Rattle.gm_commands.specs.declared.command.Command.{Command}
use Rattle.gm_commands.specs.declared.command.Command.TheVariants.{Label, Insert, Remove, Deactivate, Clear, Destroy, Lost, Adopt}
use Rattle.gm_state.specs.Records.{Records}
use Rattle.gm_losses.specs.Losses.{AreLosses, IsLoss}
use Rattle.gm_losses.specs.declared.loss.Loss.{Loss}
use Rattle.gm_losses.specs.declared.loss.Loss.TheVariants as loss
use Rattle.gm_handing_in.specs.LettingGo.{is_adoption, is_of_whole, sentence_count}

module _ (s : Records) (size : Sizes) (seen : Image) where
  -- a loss is none of another kind
  false_is : {x y : Loss} → x ≡ y → is_of_whole y ≡ false → is_of_whole x ≡ true → false ≡ true
  false_is same other whole = cc

  -- only an adoption loses an image that is whole
  pub whole_adopted : (c : Command) (x : Loss) → IsLoss s size seen c x → is_of_whole x ≡ true
      → is_adoption c ≡ true
  whole_adopted (Adopt name ps) x lost whole = refl
  whole_adopted (Label new) x lost whole = elim lost.1 [
    | inl h ↦ false_is h.0 refl whole
    | inr h ↦ false_is h.0 refl whole
  ]
  whole_adopted (Insert new) x lost whole = elim lost.1 [
    | inl h ↦ false_is h.0 refl whole
    | inr h ↦ false_is h.1 refl whole
  ]
  whole_adopted (Remove name p) x lost whole = false_is lost.1 refl whole
  whole_adopted (Deactivate name p) x lost whole = false_is lost.1 refl whole
  whole_adopted (Clear p) x lost whole = false_is lost.1 refl whole
  whole_adopted (Destroy name) x lost whole = false_is lost.0 refl whole
  whole_adopted (Lost name ps) x lost whole = false_is lost.6 refl whole
  whole_adopted c x lost whole = absurd lost

  -- one loss has its sentence
  told_first : (c : Command) (x : Loss) (xs : List Loss) → IsLoss s size seen c x
      → 0 ≡ sentence_count c (x ∷ xs) → ⊥
  told_first c (loss.Whole p) xs lost none =
      let adopts = whole_adopted c (loss.Whole p) lost refl in grind (arith, adopts)
  told_first c x xs lost none =
      let first = sum_by-cons (λ y. cond (not (is_of_whole y)) 1 0) x xs in omega (arith, first)

  -- and if no sentence is told there is no loss
  pub none_untold : (c : Command) (list : List Loss) → AreLosses s size seen c list
      → 0 ≡ sentence_count c list → list ≡ []
  none_untold c [] just none = refl
  none_untold c (x ∷ xs) just none =
      absurd (told_first c x xs (just.told x (inl refl)) none)
