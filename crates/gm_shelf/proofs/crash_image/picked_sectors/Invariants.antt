use Rattle.gm_shelf.proofs.Common.{◌≡◌, ◌<◌, ◌+◌, ℕ, length, min, reverse, vec_len, sector_at, unsynced_below, picked_after}
use Rattle.gm_shelf.proofs.crash_image.picked_sectors.Given as goal

abbrev pub invariant-loop-place : goal.invariant-loop-place
invariant-loop-place l = record {
  len : vec_len l.sectors ≡ l.place;
  taken : (before : ℕ) → l.fn.taken ≡ min before (length l.pick)
      → l.taken ≡ min (before + unsynced_below (reverse l.log.items) l.provider l.place)
      (length l.pick);
  sectors : (before : ℕ) → l.fn.taken ≡ min before (length l.pick) → (j : ℕ) → j < l.place
      → sector_at l.sectors.items j ≡ picked_after (reverse l.log.items) l.pick before l.provider j;
}
