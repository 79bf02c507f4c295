-- One sector on the way through a history.
use Rattle.std.specs.Prelude.{◌≡◌, ◌<◌, ℕ, List, length, IsSomeAnd}
use Rattle.gm_metadata.specs.declared.label.Label.{Label}
use Rattle.gm_shelf.specs.History.{size_after, seen_after, synced_after, written_after}
use Rattle.gm_shelf.specs.Picks.{picked_value}
use Rattle.gm_shelf.specs.declared.history.Event.{Event}
use Rattle.gm_shelf.specs.declared.crash_image.Walk.{Walk}

-- what is known of the sector j of q after this history: its newest value, and the one that the
-- pick names
pub record IsWalked (history : List Event) (q : Label) (j pick : ℕ) (walk : Walk) : Type 0 where
  pub newest : IsSomeAnd (size_after history q) (λ n. j < n) → walk.newest ≡ seen_after history q j
  pub picked : IsSomeAnd (size_after history q) (λ n. j < n)
      → walk.picked ≡ picked_value (synced_after history q j) (written_after history q j) pick
  pub written : walk.written ≡ length (written_after history q j)
