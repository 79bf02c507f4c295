-- A write of one sector and a sync after it.
use Rattle.gm_shelf.proofs.Common.{◌≡◌, ◌∙◌, inl, inr, ⊎_elim, ℕ, List, refl, sym, eqb_tells, Label, Image, Same, put, label_tells, label_refl, View, IsPut, Torn, IsQuiet, IsWrite, IsFixed, IsDone}

-- an image that was torn at the sector and is fixed has the new value there
fixed_torn : (p : Label) (i : ℕ) (s : List ℕ) (d x seen : Image) → Torn p i s d x
    → ((j : ℕ) → x p j ≡ seen p j) → seen p i ≡ s → Same x (put p i s d)
fixed_torn p i s d x seen torn fix new q j =
    elim (label_tells q p) [
      | inr other ↦ rw other.0 (⊎_elim (λ (e : x q j ≡ d q j). e)
          (λ (h : IsPut p i s q j (x q j)). absurd (other.1 h.provider)) (torn q j))
      | inl same ↦ elim (eqb_tells j i) [
        | inr off ↦ rw (same.0, off.0) (⊎_elim (λ (e : x q j ≡ d q j). e)
            (λ (h : IsPut p i s q j (x q j)). absurd (off.1 h.place)) (torn q j))
        | inl here ↦ rw (same.0, here.0) (let a : q ≡ p = same.1 in let b : j ≡ i = here.1 in
            let f : x p i ≡ seen p i = fix i in cc)
      ]
    ]

-- what is put is seen
put_here : (p : Label) (i : ℕ) (s : List ℕ) (x : Image) → put p i s x p i ≡ s
put_here p i s x =
    elim (eqb_tells i i) [
      | inl here ↦ rw (label_refl p, here.0) refl
      | inr off
          ↦ absurd (off.1 refl)
    ]

pub last_done : (p : Label) (i : ℕ) (s : List ℕ) (old mid new : View) → IsWrite p i s old mid
    → Same mid.seen (put p i s old.seen) → IsQuiet mid new → IsFixed p mid new
    → IsDone p i s old new
last_done p i s old mid new law written quiet fix = record {
  seen = λ q j. quiet.seen q j ∙ written q j;
  left = λ x left.
      let from = law.crash x (quiet.crash x left) in (
        from.0,
        from.1,
        fixed_torn p i s from.0 x mid.seen from.2 (λ j. fix x left j)
            (written p i ∙ put_here p i s old.seen),
      );
  fixed = λ x left j. fix x left j ∙ sym (quiet.seen p j);
}
