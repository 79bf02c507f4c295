-- How many first sectors of two providers are equal.
use Rattle.std.specs.Prelude.{◌≡◌, ◌≢◌, ◌<◌, ◌≤◌, ◌+◌, ℕ, min, nat_le, unwrap_or}
use Rattle.gm_metadata.specs.declared.label.Label.{Label}
use Rattle.gm_metadata.specs.Images.{Image, Sizes, agree}

-- how many sectors a provider has: none if it isn't there
abbrev pub count_of : Sizes → Label → ℕ
count_of size p = unwrap_or (size p) 0

-- how far two providers are compared: up to a limit and to the ends of both
abbrev pub reach_of : Sizes → Label → Label → ℕ → ℕ
reach_of size p q limit = min limit (min (count_of size p) (count_of size q))

-- within the reach so many first sectors of two providers are equal, and no more
abbrev pub CountsEqual : Image → Label → Label → ℕ → ℕ → Type 0
CountsEqual x p q reach n = (k : ℕ) → k ≤ reach → nat_le k n ≡ agree x p q k

-- of a run of so many sectors the first n are equal, and the next one differs if the run has it
pub record IsEqualPart (x : Image) (p q : Label) (first sectors n : ℕ) : Type 0 where
  pub equal : (k : ℕ) → k < n → x p (first + k) ≡ x q (first + k)
  pub differs : n < sectors → x p (first + n) ≢ x q (first + n)
