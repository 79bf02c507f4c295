-- A shelf in memory, by what was done to it: the providers that were added, the writes and the
-- syncs, the newest first.
use Rattle.std.specs.Prelude.{◌≡◌, ◌≤◌, ◌⊎◌, ℕ, List, [], ◌∷◌, ◌++◌, length, ◌==◌, ◌&&◌, if◌then◌else◌, None, Some, OnOk, OnErr, IsErrOf, slice_index_or, Contains, vec_len}
use Rattle.gm_metadata.specs.declared.label.Label.{Label}
use Rattle.gm_metadata.specs.Images.{Image, Sizes, put, same_label}
use Rattle.gm_shelf.specs.Disk.{View, Answer}
use Rattle.gm_shelf.specs.declared.history.Event.{Event}
use Rattle.gm_shelf.specs.declared.history.Event.TheVariants.{Added, Wrote, Synced}
use Rattle.gm_shelf.specs.declared.fault.ShelfFault.TheVariants.{Memory}

-- one of these sectors
abbrev pub sector_at : List (List ℕ) → ℕ → List ℕ
sector_at sectors j = slice_index_or sectors j []

-- how many sectors each provider has
abbrev pub size_after : List Event → Sizes
size_after [] q = None
size_after (Added p sectors ∷ older) q =
    if same_label q p then Some (vec_len sectors) else size_after older q
size_after (Wrote p i s ∷ older) q = size_after older q
size_after (Synced p ∷ older) q = size_after older q

-- what a read gives
abbrev pub seen_after : List Event → Image
seen_after [] q j = []
seen_after (Added p sectors ∷ older) q j =
    if same_label q p then sector_at sectors.items j else seen_after older q j
seen_after (Wrote p i s ∷ older) q j = put p i s (seen_after older) q j
seen_after (Synced p ∷ older) q j = seen_after older q j

-- what the sector held when its provider was synced last
abbrev pub synced_after : List Event → Image
synced_after [] q j = []
synced_after (Added p sectors ∷ older) q j =
    if same_label q p then sector_at sectors.items j else synced_after older q j
synced_after (Wrote p i s ∷ older) q j = synced_after older q j
synced_after (Synced p ∷ older) q j =
    if same_label q p then seen_after older q j else synced_after older q j

-- what was written to the sector since then, the oldest first
abbrev pub written_after : List Event → Label → ℕ → List (List ℕ)
written_after [] q j = []
written_after (Added p sectors ∷ older) q j = if same_label q p then [] else written_after older q j
written_after (Wrote p i s ∷ older) q j =
    if same_label q p && (j == i) then written_after older q j ++ s
    ∷ [] else written_after older q j
written_after (Synced p ∷ older) q j = if same_label q p then [] else written_after older q j

-- a crash leaves each sector, chosen by itself, with its value at the last sync or with any that
-- was written since
abbrev pub may_leave_after : List Event → Image → Type 0
may_leave_after history x = (q : Label) (j : ℕ)
    → (x q j ≡ synced_after history q j) ⊎ Contains (written_after history q j) (x q j)

-- at some moment since t
abbrev pub left_since_after : List Event → ℕ → Image → Type 0
left_since_after [] t x = may_leave_after [] x
left_since_after (event ∷ older) t x = may_leave_after (event ∷ older) x
    ⊎ ((t ≤ length older) × left_since_after older t x)

-- nothing in memory fails
abbrev pub view_after : List Event → View
view_after history = record {
  seen = seen_after history;
  may_leave = may_leave_after history;
  moment = length history;
  left_since = left_since_after history;
  faults = 0;
}

-- a read does nothing, and takes no memory
pub record OnlyReads (answer : Answer) (older newer : List Event) : Type 0 where
  pub nothing_done : newer ≡ older
  pub no_memory : IsErrOf answer Memory → ⊥

-- a write or a sync does this one thing alone, or answers a fault and does nothing
pub record OnlyDoes (event : Event) (answer : Answer) (older newer : List Event) : Type 0 where
  pub done : OnOk answer (newer ≡ event ∷ older)
  pub nothing_done : OnErr answer (newer ≡ older)
