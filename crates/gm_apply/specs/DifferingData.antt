-- By how many sectors two providers differ, and which is the first of those.
use Rattle.std.specs.Prelude.{◌≡◌, ◌≢◌, ◌<◌, ◌≤◌, ◌+◌, ℕ, zero, suc, List, if◌then◌else◌}
use Rattle.std.specs.Str.{bytes_eq}
use Rattle.gm_metadata.specs.declared.label.Label.{Label}
use Rattle.gm_metadata.specs.Images.{Image}
use Rattle.gm_apply.specs.declared.differing_data.Difference.{Difference}

-- the sectors of a provider, from this one on
abbrev pub sectors_from : Image → Label → ℕ → ℕ → List ℕ
sectors_from x p first k = x p (first + k)

module _ (a b : ℕ → List ℕ) where
  -- how many of the first n sectors differ
  abbrev pub count_differing : ℕ → ℕ
  count_differing zero = 0
  count_differing (suc k) = count_differing k + (if bytes_eq (a k) (b k) then 0 else 1)

  -- of the first n sectors so many differ, and that one is the first; if none differs, n stands
  -- in its place
  pub record IsDifference (n : ℕ) (d : Difference) : Type 0 where
    pub sectors : d.sectors ≡ count_differing n
    pub equal : (k : ℕ) → k < d.first → a k ≡ b k
    pub first : d.first < n → a d.first ≢ b d.first

-- both numbers are at most n
pub record IsWithin (n : ℕ) (d : Difference) : Type 0 where
  pub sectors : d.sectors ≤ n
  pub first : d.first ≤ n
