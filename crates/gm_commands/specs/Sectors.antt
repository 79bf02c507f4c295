-- The sectors of a patch.
use Rattle.std.specs.Prelude.{◌≡◌, ℕ, Bool, ◌&&◌, ◌==◌, nat_lt, List, flat_map, length}
use Rattle.std.specs.List.{list_all}
use Rattle.gm_lists.specs.Ordered.{Has}

-- each of them is a byte
abbrev pub is_bytes : List ℕ → Bool
is_bytes xs = list_all (λ b. nat_lt b 256) xs

-- a sector is 512 bytes
abbrev pub is_sector : List ℕ → Bool
is_sector xs = length xs == 512 && is_bytes xs

-- each of them has the bytes of a sector
abbrev pub AreSectors : List (List ℕ) → Type 0
AreSectors sectors = (s : List ℕ) → Has sectors s → length s ≡ 512

-- the sectors' bytes in their order
abbrev pub joined : List (List ℕ) → List ℕ
joined sectors = flat_map (λ sector. sector) sectors
