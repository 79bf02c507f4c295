-- A shelf as contracts see it, and what its calls may do to what it holds and to what a crash may
-- leave.
use Rattle.std.specs.Prelude.{◌≡◌, ◌≤◌, ◌<◌, ◌⊎◌, ◌↔◌, ◌+◌, ◌-◌, ◌&&◌, ℕ, List, [], Result, Err, IsSome, Contains, length, slice_index_or, nat_le, nat_lt, if◌then◌else◌}
use Rattle.std.specs.Ordering.{nat_cmp}
use Rattle.std.specs.Cmp.Lexicographic.{slice_cmp}
use Rattle.std.specs.List.Sorted.{IsStrictlySortedBy}
use Rattle.gm_metadata.specs.declared.label.Label.{Label}
use Rattle.gm_metadata.specs.Images.{Image, Sizes, Same, same_label}
use Rattle.gm_shelf.specs.declared.fault.ShelfFault.{ShelfFault}
use Rattle.gm_shelf.specs.declared.fault.ShelfFault.TheVariants.{Device}

-- the four facts of a shelf, with the moment that the third counts from
pub record View : Type 1 where
  pub seen : Image  -- what a read gives
  pub may_leave : Image → Type 0  -- what a crash now may leave
  pub moment : ℕ  -- a number that doesn't fall
  pub left_since : ℕ → Image → Type 0  -- what a crash at some moment from that one on may have left
  pub faults : ℕ  -- how often the device has failed

-- the value is the one that was put to this sector
pub record IsPut (p : Label) (i : ℕ) (s : List ℕ) (q : Label) (j : ℕ) (v : List ℕ) : Type 0 where
  pub provider : q ≡ p
  pub place : j ≡ i
  pub value : v ≡ s

-- a write that may have failed: the one sector holds what it held or the new value, every other
-- what it held
abbrev pub Torn : Label → ℕ → List ℕ → Image → Image → Type 0
Torn p i s old new = (q : Label) (j : ℕ) → (new q j ≡ old q j) ⊎ IsPut p i s q j (new q j)

-- an image that this one may leave, from which that one follows
abbrev pub From : (Image → Type 0) → (Image → Type 0) → Type 0
From old step = (d : Image) × old d × step d

-- time goes on: a crash since t might have left what it might have left before, or what it may
-- leave now
pub record Elapses (old new : View) : Type 0 where
  pub later : old.moment ≤ new.moment
  pub nothing_else : (t : ℕ) (x : Image) → t ≤ old.moment → new.left_since t x
      → old.left_since t x ⊎ new.may_leave x
  pub keeps : (t : ℕ) (x : Image) → t ≤ old.moment → old.left_since t x → new.left_since t x

-- a read, or a sync that failed: a read gives what it gave, and a crash leaves nothing that it
-- couldn't leave before
pub record IsQuiet (old new : View) : Type 0 where
  pub seen : Same new.seen old.seen
  pub crash : (x : Image) → new.may_leave x → old.may_leave x
  pub time : Elapses old new

-- reads, one or several: quiet, and what a crash might have left it may leave still
pub record AreReads (old new : View) : Type 0 where
  pub quiet : IsQuiet old new
  pub kept : (x : Image) → old.may_leave x → new.may_leave x

-- a write, also one that failed
pub record IsWrite (p : Label) (i : ℕ) (s : List ℕ) (old new : View) : Type 0 where
  pub seen : Torn p i s old.seen new.seen
  pub crash : (x : Image) → new.may_leave x → From old.may_leave (λ d. Torn p i s d x)
  pub time : Elapses old new

-- one sector of a run
abbrev pub sector_of : List (List ℕ) → ℕ → List ℕ
sector_of run k = slice_index_or run k []

-- the run is what the image holds from that sector on
abbrev pub IsRun : Label → ℕ → Image → List (List ℕ) → Type 0
IsRun p first x run = (k : ℕ) → k < length run → sector_of run k ≡ x p (first + k)

-- the image with this run laid over it, from that sector on
abbrev pub put_run : Label → ℕ → List (List ℕ) → Image → Image
put_run p first run x q j =
    if same_label q p && (nat_le first j && nat_lt j (first + length run)) then sector_of run
    (j - first) else x q j

-- the value is the one that the run has for this sector
abbrev pub IsPutByRun : Label → ℕ → List (List ℕ) → Label → ℕ → List ℕ → Type 0
IsPutByRun p first run q j v = (k : ℕ) × (k < length run)
    × IsPut p (first + k) (sector_of run k) q j v

-- a write of a run that may have failed: each sector, chosen by itself, holds what it held or what
-- the run has for it
abbrev pub TornRun : Label → ℕ → List (List ℕ) → Image → Image → Type 0
TornRun p first run old new = (q : Label) (j : ℕ)
    → (new q j ≡ old q j) ⊎ IsPutByRun p first run q j (new q j)

-- a write of a run, also one that failed: so torn is what is seen, and what a crash leaves, now or
-- at any moment since
pub record IsRunWrite (p : Label) (first : ℕ) (run : List (List ℕ)) (old new : View) : Type 0 where
  pub seen : TornRun p first run old.seen new.seen
  pub crash : (x : Image) → new.may_leave x → From old.may_leave (λ d. TornRun p first run d x)
  pub later : old.moment ≤ new.moment
  pub since : (t : ℕ) (x : Image) → t ≤ old.moment → new.left_since t x
      → old.left_since t x ⊎ From old.may_leave (λ d. TornRun p first run d x)
  pub keeps : (t : ℕ) (x : Image) → t ≤ old.moment → old.left_since t x → new.left_since t x

-- a sync that succeeded fixes what the provider holds
abbrev pub IsFixed : Label → View → View → Type 0
IsFixed p old new = (x : Image) → new.may_leave x → (j : ℕ) → x p j ≡ old.seen p j

-- how a read, a write or a sync is answered
abbrev pub Answer : Type 0
Answer = Result (Unit {0}) ShelfFault

-- the count of failures after a call: one more if it answers `Device`, and else as it was
abbrev pub faults_after : Answer → ℕ → ℕ
faults_after (Err Device) n = n + 1
faults_after _ n = n

-- what any shelf keeps to at any time
pub record IsLawful (v : View) : Type 0 where
  pub holds_now : v.may_leave v.seen
  pub counts_now : (t : ℕ) (x : Image) → t ≤ v.moment → v.may_leave x → v.left_since t x
  pub only_now : (x : Image) → v.left_since v.moment x → v.may_leave x

-- byte order of the texts, each once
abbrev pub IsAscending : List Label → Type 0
IsAscending names = IsStrictlySortedBy (slice_cmp nat_cmp) names

-- the names of the providers that are there, in byte order
pub record AreNames (sizes : Sizes) (names : List Label) : Type 0 where
  pub ascending : IsAscending names
  pub there : (p : Label) → Contains names p ↔ IsSome (sizes p)
