-- The last sector of a provider that is read, by how many it has.
use Rattle.gm_shelf.proofs.Common.{◌≡◌, ◌==◌, ◌-◌, ◌<◌, inl, inr, ℕ, List, Some, refl, arith, cases_Bool, nat_tests, Image, Sizes, zeros, last_of, last_sector}
use Rattle.std.specs.Option.{unwrap_or}

module _ (size : Sizes) (seen : Image) (p : List ℕ) (n : ℕ) (is : size p ≡ Some n) where
  -- zeros are that of a provider without sectors
  pub last_read : unwrap_or (last_sector size seen p) zeros ≡ last_of n (seen p)
  last_read = elim (cases_Bool (n == 0)) [ inl e ↦ rw (is, e) refl | inr e ↦ rw (is, e) refl ]

  -- one that has some has a last one
  pub last_there : 0 < n → last_sector size seen p ≡ Some (seen p (n - 1))
  last_there some = elim (cases_Bool (n == 0)) [
    | inl e ↦ absurd (grind (arith, nat_tests))
    | inr e ↦ rw (is, e) refl
  ]
