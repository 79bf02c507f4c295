-- Truth values.
use Rattle.gm_stopped.proofs.Common.{◌≡◌, Bool, true, false, sym, refl}

-- two are one if each is true when the other is
pub told_by : (a b : Bool) → (a ≡ true → b ≡ true) → (b ≡ true → a ≡ true) → a ≡ b
told_by true b there back = sym (there refl)
told_by false true there back = back refl
told_by false false there back = refl
