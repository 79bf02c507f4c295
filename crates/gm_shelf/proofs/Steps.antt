-- What a write or a sync in the history does to the view.
use Rattle.gm_shelf.proofs.Common.{◌≡◌, ◌⊎◌, inl, inr, ⊎_elim, ℕ, List, [], ◌∷◌, ◌++◌, refl, sym, subst, arith, reverse, Contains, eqb_tells, reverse-append, Contains-push_cases, Label, Image, label_tells, label_refl, IsPut, Elapses, IsQuiet, IsWrite, IsFixed, seen_after, synced_after, written_after, may_leave_after, view_after, MayHold, put_tells, holds_seen, Event, Wrote, Synced}
use Rattle.gm_shelf.proofs.InTurn.{elapses_itself}

elapses : (event : Event) (older : List Event)
    → Elapses (view_after older) (view_after (event ∷ older))
elapses event older = record {
  later = omega arith;
  nothing_else = λ t x le left. ⊎_elim (λ now. inr now) (λ before. inl before.1) left;
  keeps = λ t x le left. inr (le, left);
}

pub write_same : (p : Label) (i : ℕ) (s : List ℕ) (history : List Event)
    → IsWrite p i s (view_after history) (view_after history)
write_same p i s history = record {
  seen = λ q j. inl refl;
  crash = λ x left. (x, left, λ q j. inl refl);
  time = elapses_itself (view_after history);
}

no_more : {A : Type 0} (v : A) → Contains [] v → ⊥
no_more v among = omega (arith, among.1)

-- what was synced may be what is seen, and nothing that couldn't be left before
synced_keeps : (p : Label) (older : List Event) (q : Label) (j : ℕ) (v : List ℕ)
    → MayHold (Synced p ∷ older) q j v → MayHold older q j v
synced_keeps p older q j v h =
    elim (label_tells q p) [
      | inl same ↦
          ⊎_elim
          (λ (e : v ≡ seen_after older q j). subst (MayHold older q j) (sym e)
          (holds_seen older q j))
          (λ (among : Contains [] v). absurd (no_more v among))
          (rw same.0 at h)
      | inr other ↦ rw other.0 at h
    ]

quiet_sync : (p : Label) (older : List Event)
    → IsQuiet (view_after older) (view_after (Synced p ∷ older))
quiet_sync p older = record {
  seen = λ q j. refl;
  crash = λ x left q j. synced_keeps p older q j (x q j) (left q j);
  time = elapses (Synced p) older;
}

fixed_sync : (p : Label) (older : List Event)
    → IsFixed p (view_after older) (view_after (Synced p ∷ older))
fixed_sync p older x left j =
    ⊎_elim (λ (e : x p j ≡ seen_after older p j). e)
    (λ (among : Contains [] (x p j)). absurd (no_more _ among)) (let h = left p j in
    rw (label_refl p) at h)

-- a value that may be left after a write might have been left before, or is the one that was
-- written
written_tells : (p : Label) (i : ℕ) (s : List ℕ) (older : List Event) (q : Label) (j : ℕ)
    (v : List ℕ) → MayHold (Wrote p i s ∷ older) q j v → MayHold older q j v ⊎ IsPut p i s q j v
written_tells p i s older q j v h =
    elim (label_tells q p) [
      | inr other ↦ inl (rw other.0 at h)
      | inl same ↦ elim (eqb_tells j i) [
        | inr off ↦ inl (rw (same.0, off.0) at h)
        | inl here ↦
            ⊎_elim
            (λ (e : v ≡ synced_after older q j). inl (inl e))
            (λ (among : Contains (written_after older q j ++ s ∷ []) v).
            ⊎_elim
            (λ (before : Contains (written_after older q j) v). inl (inr before))
            (λ (new : s ≡ v). inr (record { provider = same.1; place = here.1; value = sym new }))
            (Contains-push_cases _ s v among))
            (rw (same.0, here.0) at h)
      ]
    ]

-- an image before the write, from which this one follows: where the new value stands, the one that
-- is seen
before : (p : Label) (i : ℕ) (s : List ℕ) (older : List Event) (x : Image)
    → may_leave_after (Wrote p i s ∷ older) x
    → (q : Label) (j : ℕ) → (v : List ℕ) × MayHold older q j v
    × ((x q j ≡ v) ⊎ IsPut p i s q j (x q j))
before p i s older x left q j =
    ⊎_elim (λ old. (x q j, old, inl refl)) (λ new. (
      seen_after older q j,
      holds_seen older q j,
      inr new,
    )) (written_tells p i s older q j (x q j) (left q j))

write_logged : (p : Label) (i : ℕ) (s : List ℕ) (older : List Event)
    → IsWrite p i s (view_after older) (view_after (Wrote p i s ∷ older))
write_logged p i s older = record {
  seen = λ q j. put_tells p i s (seen_after older) q j;
  crash = λ x left. (
    (λ q j. (before p i s older x left q j).0),
    (λ q j. (before p i s older x left q j).1),
    (λ q j. (before p i s older x left q j).2),
  );
  time = elapses (Wrote p i s) older;
}

-- the newest first, after a push
pub pushed : (event : Event) (old new : List Event) → new ≡ old ++ event ∷ []
    → reverse new ≡ event ∷ reverse old
pushed event old new is = rw is (reverse-append old (event ∷ []))

-- by the logs, the oldest first
pub write_to : (p : Label) (i : ℕ) (s : List ℕ) (old new : List Event)
    → new ≡ old ++ Wrote p i s ∷ []
    → IsWrite p i s (view_after (reverse old)) (view_after (reverse new))
write_to p i s old new is =
    subst (λ (l : List Event). IsWrite p i s (view_after (reverse old)) (view_after l))
    (sym (pushed _ old new is)) (write_logged p i s (reverse old))

pub sync_to : (p : Label) (old new : List Event) → new ≡ old ++ Synced p ∷ []
    → IsQuiet (view_after (reverse old)) (view_after (reverse new))
sync_to p old new is =
    subst (λ (l : List Event). IsQuiet (view_after (reverse old)) (view_after l))
    (sym (pushed _ old new is)) (quiet_sync p (reverse old))

pub fixed_to : (p : Label) (old new : List Event) → new ≡ old ++ Synced p ∷ []
    → IsFixed p (view_after (reverse old)) (view_after (reverse new))
fixed_to p old new is =
    subst (λ (l : List Event). IsFixed p (view_after (reverse old)) (view_after l))
    (sym (pushed _ old new is)) (fixed_sync p (reverse old))

pub write_none : (p : Label) (i : ℕ) (s : List ℕ) (old new : List Event) → new ≡ old
    → IsWrite p i s (view_after (reverse old)) (view_after (reverse new))
write_none p i s old new is =
    subst (λ (l : List Event). IsWrite p i s (view_after (reverse old)) (view_after (reverse l)))
    (sym is) (write_same p i s (reverse old))
