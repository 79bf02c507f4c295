-- A shelf in memory keeps to the law.
use Rattle.std.specs.Prelude.{◌≡◌, ◌≤◌, ◌⊎◌, ℕ, List, [], ◌∷◌, length, Contains}
use Rattle.std.proofs.Common.{inl, inr, refl, arith}
use Rattle.std.proofs.lemmas.Bool.Decides.{eqb_tells}
use Rattle.std.proofs.lemmas.List.Elements.{Contains-push}
use Rattle.gm_metadata.specs.declared.label.Label.{Label}
use Rattle.gm_metadata.specs.Images.{Image, put, label_tells}
use Rattle.gm_shelf.specs.Disk.{IsPut, IsLawful}
use Rattle.gm_shelf.specs.History.{seen_after, synced_after, written_after, may_leave_after, left_since_after, view_after}
use Rattle.gm_shelf.specs.declared.history.Event.{Event}
use Rattle.gm_shelf.specs.declared.history.Event.TheVariants.{Added, Wrote, Synced}

-- the value that a crash may leave in one sector
abbrev pub MayHold : List Event → Label → ℕ → List ℕ → Type 0
MayHold history q j v = (v ≡ synced_after history q j) ⊎ Contains (written_after history q j) v

-- a sector after a write
pub put_tells : (p : Label) (i : ℕ) (s : List ℕ) (x : Image) (q : Label) (j : ℕ)
    → (put p i s x q j ≡ x q j) ⊎ IsPut p i s q j (put p i s x q j)
put_tells p i s x q j =
    elim (label_tells q p) [
      | inl same ↦ elim (eqb_tells j i) [
        | inl here ↦ inr (record {
          provider = same.1;
          place = here.1;
          value = rw (same.0, here.0) refl;
        })
        | inr off ↦ inl (rw (same.0, off.0) refl)
      ]
      | inr other ↦ inl (rw other.0 refl)
    ]

-- what is held now is among what may be left
pub holds_seen : (history : List Event) (q : Label) (j : ℕ)
    → MayHold history q j (seen_after history q j)
holds_seen [] q j = inl refl
holds_seen (Added p sectors ∷ older) q j =
    elim (label_tells q p) [
      | inl same ↦ inl (rw same.0 refl)
      | inr other ↦ rw other.0 (holds_seen older q j)
    ]
holds_seen (Wrote p i s ∷ older) q j =
    elim (label_tells q p) [
      | inl same ↦ elim (eqb_tells j i) [
        | inl here ↦ rw (same.0, here.0) (inr (Contains-push (written_after older q j) s))
        | inr off ↦ rw (same.0, off.0) (holds_seen older q j)
      ]
      | inr other ↦ rw other.0 (holds_seen older q j)
    ]
holds_seen (Synced p ∷ older) q j =
    elim (label_tells q p) [
      | inl same ↦ inl (rw same.0 refl)
      | inr other ↦ rw other.0 (holds_seen older q j)
    ]

pub lawful_after : (history : List Event) → IsLawful (view_after history)
lawful_after history = record {
  holds_now = λ q j. holds_seen history q j;
  counts_now = counts history;
  only_now = only history;
}
  where
    counts : (history : List Event) (t : ℕ) (x : Image) → t ≤ length history
        → may_leave_after history x → left_since_after history t x
    counts [] t x le now = now
    counts (event ∷ older) t x le now = inl now

    only : (history : List Event) (x : Image) → left_since_after history (length history) x
        → may_leave_after history x
    only [] x now = now
    only (event ∷ older) x (inl now) = now
    only (event ∷ older) x (inr before) = absurd (omega (arith, before.0))
