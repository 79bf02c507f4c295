-- What was written over a file, by the blocks in memory.
use Rattle.std.specs.Prelude.{◌≡◌, ℕ, List, length, take, drop, Option, IsSomeAnd}
use Rattle.std.specs.BTreeMap.{get}
use Rattle.std.specs.Option.{option_map}
use Rattle.std.specs.Ordering.{nat_cmp}
use Rattle.gm_overlay.specs.declared.layers.Layers.{Layers}

-- the bytes of a block that is in memory
abbrev pub block_at : Layers → ℕ → Option (List ℕ)
block_at it place = option_map (λ block. block.value) (get nat_cmp it.written place)

-- a block has these bytes from this place on
abbrev pub HasWithin : List ℕ → ℕ → List ℕ → Type 0
HasWithin block within bytes = take (length bytes) (drop within block) ≡ bytes

-- the block at this place is in memory, and has these bytes
abbrev pub HasOver : Layers → ℕ → ℕ → List ℕ → Type 0
HasOver it place within bytes =
    IsSomeAnd (block_at it place) (λ block. HasWithin block within bytes)
