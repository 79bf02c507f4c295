-- Which keys a command may be accepted under, beside its first.
use Rattle.std.specs.Prelude.{◌≡◌, ◌≢◌, ◌+◌, ◌<◌, ◌≤◌, ℕ, Bool, true, false, List, [], ◌∷◌, length, map}
use Rattle.std.specs.String.{string_bytes}
use Rattle.gm_commands.specs.Commands.{is_key}
use Rattle.gm_lists.specs.Ordered.{Has}
use Rattle.gm_state.specs.Rows.{Tables}
use Rattle.gm_changes.specs.Decides.{Changed}
use Rattle.gm_registry.specs.Replies.{AreWrittenUnder, IsFree, count_of}

-- in turn each of the keys has the form of one, is free, and isn't one of those that are taken by
-- then
abbrev pub AreFresh : Tables → List (List ℕ) → List (List ℕ) → Type 0
AreFresh t taken [] = Unit {0}
AreFresh t taken (key ∷ keys) = (is_key key ≡ true) × IsFree t key × (Has taken key → ⊥)
    × AreFresh t (key ∷ taken) keys

-- the further keys of a change
abbrev pub further_keys : Changed → List (List ℕ)
further_keys ch = map (λ f. string_bytes f.key) ch.further

-- the key has the form of one and is free, and is neither the first nor one of those that are taken
abbrev pub IsFreeBeside : List ℕ → List ℕ → List (List ℕ) → Bool → Tables → Type 0
IsFreeBeside key first taken true t = (is_key key ≡ true) × IsFree t key × (key ≢ first)
    × (Has taken key → ⊥)
IsFreeBeside key first taken false t = Unit {0}

-- these further keys may be taken, after the first
pub record MayBeTaken (first : List ℕ) (keys : List (List ℕ)) (t : Tables) : Type 0 where
  pub fresh : AreFresh t (first ∷ []) keys
  pub room : count_of t + length keys < 100000

-- the commands under these keys are such as this program writes, and no more than there may be
abbrev pub AreReadUnderAll : List (List ℕ) → Tables → Type 0
AreReadUnderAll keys t = (count_of t ≤ 100000)
    × ((key : List ℕ) → Has keys key → AreWrittenUnder key t)
