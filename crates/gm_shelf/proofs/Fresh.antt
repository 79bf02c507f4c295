-- A history of providers that were added, with nothing written.
use Rattle.gm_shelf.proofs.Common.{◌≡◌, ◌∙◌, inl, inr, ⊎_elim, arith, subst, ℕ, List, [], ◌∷◌, refl, Contains, Label, Image, Same, label_tells, seen_after, synced_after, written_after, may_leave_after, Event, Added, Wrote, Synced}

-- providers came, and nothing else was done
abbrev pub IsFresh : List Event → Type 0
IsFresh [] = Unit {0}
IsFresh (Added p sectors ∷ older) = IsFresh older
IsFresh (Wrote p i s ∷ older) = ⊥
IsFresh (Synced p ∷ older) = ⊥

fresh_written : (history : List Event) → IsFresh history → (q : Label) (j : ℕ)
    → written_after history q j ≡ []
fresh_written [] fresh q j = refl
fresh_written (Added p sectors ∷ older) fresh q j =
    elim (label_tells q p) [
      | inl same ↦ rw same.0 refl
      | inr other ↦ rw other.0 (fresh_written older fresh q j)
    ]
fresh_written (Wrote p i s ∷ older) fresh q j = absurd fresh
fresh_written (Synced p ∷ older) fresh q j = absurd fresh

fresh_synced : (history : List Event) → IsFresh history → (q : Label) (j : ℕ)
    → synced_after history q j ≡ seen_after history q j
fresh_synced [] fresh q j = refl
fresh_synced (Added p sectors ∷ older) fresh q j =
    elim (label_tells q p) [
      | inl same ↦ rw same.0 refl
      | inr other ↦ rw other.0 (fresh_synced older fresh q j)
    ]
fresh_synced (Wrote p i s ∷ older) fresh q j = absurd fresh
fresh_synced (Synced p ∷ older) fresh q j = absurd fresh

-- nothing is unsynced: a crash leaves what is seen
pub fresh_settled : (history : List Event) → IsFresh history → (x : Image)
    → may_leave_after history x → Same x (seen_after history)
fresh_settled history fresh x left q j =
    ⊎_elim
    (λ (e : x q j ≡ synced_after history q j). e ∙ fresh_synced history fresh q j)
    (λ (among : Contains (written_after history q j) (x q j)). let none :
    Contains [] (x q j) =
    subst (λ (l : List (List ℕ)). Contains l (x q j)) (fresh_written history fresh q j) among in
    absurd (omega (arith, none.1)))
    (left q j)
