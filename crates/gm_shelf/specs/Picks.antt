-- What a list of picks makes of a shelf in memory at a crash.
use Rattle.std.specs.Prelude.{◌≡◌, ◌<◌, ◌+◌, ℕ, zero, suc, List, [], ◌∷◌, Bool, length, take, min, nat_lt, sum_by, slice_index_or, IsSomeAnd, unwrap_or, if◌then◌else◌}
use Rattle.gm_metadata.specs.declared.label.Label.{Label}
use Rattle.gm_metadata.specs.Images.{Image}
use Rattle.gm_shelf.specs.Disk.{AreNames}
use Rattle.gm_shelf.specs.Cache.{IsOutside}
use Rattle.gm_shelf.specs.History.{size_after, synced_after, written_after}
use Rattle.gm_shelf.specs.declared.history.Event.{Event}

-- the value that a pick names: 0 the synced one, k the k-th that was written since, or the last
-- if there are fewer
abbrev pub picked_value : List ℕ → List (List ℕ) → ℕ → List ℕ
picked_value synced written pick = slice_index_or (synced ∷ written) (min pick (length written)) []

-- the n-th pick; a missing one counts as 0
abbrev pub pick_at : List ℕ → ℕ → ℕ
pick_at pick n = slice_index_or pick n 0

-- whether something was written to the sector since its provider was synced
abbrev pub is_unsynced : List Event → Label → ℕ → Bool
is_unsynced history p j = nat_lt 0 (length (written_after history p j))

-- how many of the provider's first n sectors are unsynced
abbrev pub unsynced_below : List Event → Label → ℕ → ℕ
unsynced_below history p zero = 0
unsynced_below history p (suc n) =
    unsynced_below history p n + (if is_unsynced history p n then 1 else 0)

-- how many sectors of these providers are unsynced
abbrev pub unsynced_of : List Event → List Label → ℕ
unsynced_of history names =
    sum_by (λ p. unsynced_below history p (unwrap_or (size_after history p) 0)) names

-- what the sector holds, if so many unsynced ones come before it
abbrev pub picked_after : List Event → List ℕ → ℕ → Label → ℕ → List ℕ
picked_after history pick before p j =
    picked_value (synced_after history p j) (written_after history p j)
    (pick_at pick (before + unsynced_below history p j))

-- x is the image that the picks name: before a sector come the unsynced ones of the providers whose
-- names come before in byte order, and those of its own provider at lower places
pub record IsPicked (history : List Event) (pick : List ℕ) (x : Image) : Type 0 where
  pub names : List Label
  pub are_names : AreNames (size_after history) names
  pub sectors : (k j : ℕ) → k < length names
      → IsSomeAnd (size_after history (slice_index_or names k [])) (λ n. j < n)
      → x (slice_index_or names k []) j ≡ picked_after history pick
      (unsynced_of history (take k names)) (slice_index_or names k []) j
  pub outside : (p : Label) (j : ℕ) → IsOutside (size_after history p) j → x p j ≡ []
