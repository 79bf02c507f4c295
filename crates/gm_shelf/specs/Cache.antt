-- The newest contents of each provider, kept beside the history.
use Rattle.std.specs.Prelude.{◌≡◌, ◌≤◌, ℕ, List, [], Option, None, Some, Vec, vec_len}
use Rattle.std.specs.declared.alloc.Global.{Global}
use Rattle.std.specs.Option.{option_map}
use Rattle.std.specs.Ordering.{nat_cmp}
use Rattle.std.specs.Cmp.Lexicographic.{slice_cmp}
use Rattle.std.specs.BTreeMap.{BTreeMap, get}
use Rattle.gm_metadata.specs.declared.label.Label.{Label}
use Rattle.gm_metadata.specs.Images.{Image, Sizes}
use Rattle.gm_shelf.specs.History.{sector_at, size_after, seen_after, synced_after, written_after}
use Rattle.gm_shelf.specs.declared.history.Event.{Event}

-- the sectors of each provider
abbrev pub Disks : Type 0
Disks = BTreeMap (List ℕ) (Vec (List ℕ) Global)

abbrev pub size_in : Disks → Sizes
size_in disks q = option_map vec_len (get (slice_cmp nat_cmp) disks q)

abbrev pub sector_of : Option (Vec (List ℕ) Global) → ℕ → List ℕ
sector_of None j = []
sector_of (Some sectors) j = sector_at sectors.items j

abbrev pub held_in : Disks → Image
held_in disks q j = sector_of (get (slice_cmp nat_cmp) disks q) j

-- a place that is no sector of a provider of this size
abbrev pub IsOutside : Option ℕ → ℕ → Type 0
IsOutside None j = Unit {0}
IsOutside (Some n) j = n ≤ j

-- the disks hold what the history says, which speaks of no other sectors
pub record IsCache (history : List Event) (disks : Disks) : Type 0 where
  pub sizes : (q : Label) → size_in disks q ≡ size_after history q
  pub sectors : (q : Label) (j : ℕ) → held_in disks q j ≡ seen_after history q j
  pub never_synced : (q : Label) (j : ℕ) → IsOutside (size_after history q) j
      → synced_after history q j ≡ []
  pub never_written : (q : Label) (j : ℕ) → IsOutside (size_after history q) j
      → written_after history q j ≡ []
