-- What stays of the sectors that nobody writes.
use Rattle.gm_apply.proofs.Common.{◌≡◌, ◌∙◌, ◌⊎◌, inl, inr, ⊎_elim, ℕ, ◌+◌, List, true, false, refl, subst, Some, None, cases_Bool, Image, Sizes, View, IsPut, Torn, From, OldOrNew, Intent, Records, Has, any_from, not_both, Places, last_of, AgreeBut, KeepsOthers, writes, is_written}
use Rattle.gm_apply.proofs.UnderWay.{at_start, leaves_trans}
use Rattle.gm_apply.proofs.Written.{by_size, here}

pub agree_trans : (place : Places) (d y x : Image) → AgreeBut place d y → AgreeBut place y x
    → AgreeBut place d x
agree_trans place d y x first second q j off = second q j off ∙ first q j off

agree_torn : (place : Places) (p : List ℕ) (i : ℕ) (s : List ℕ) (d x : Image) → place p i ≡ true
    → Torn p i s d x → AgreeBut place d x
agree_torn place p i s d x there torn q j off =
    ⊎_elim (λ (e : x q j ≡ d q j). e)
    (λ (h : IsPut p i s q j (x q j)). let a = h.provider in let b = h.place in
    not_both (place q j) (let r : place q j ≡ true = cc in r) off)
    (torn q j)

pub keeps_start : (place : Places) (v : View) → KeepsOthers place v v
keeps_start place v = record {
  seen = λ q j off. refl;
  left = λ x left. (x, left, λ q j off. refl);
  moments = at_start v _;
}

keeps_trans : (place : Places) (old mid new : View) → KeepsOthers place old mid
    → KeepsOthers place mid new → KeepsOthers place old new
keeps_trans place old mid new first second =
    let join : (x : Image) → From mid.may_leave (λ y. AgreeBut place y x)
    → From old.may_leave (λ d. AgreeBut place d x) = λ x y.
    let from = first.left y.0 y.1 in
    (from.0, from.1, agree_trans place from.0 y.0 x from.2 y.2) in
    record {
      seen = λ q j off. second.seen q j off ∙ first.seen q j off;
      left = λ x left. join x (second.left x left);
      moments = leaves_trans old mid new (λ x. From old.may_leave (λ d. AgreeBut place d x))
          (λ x. From mid.may_leave (λ y. AgreeBut place y x)) first.moments second.moments join;
    }

-- more may be written
keeps_within : (place more : Places) (old new : View)
    → ((q : List ℕ) (j : ℕ) → more q j ≡ false → place q j ≡ false) → KeepsOthers place old new
    → KeepsOthers more old new
keeps_within place more old new within keeps = record {
  seen = λ q j off. keeps.seen q j (within q j off);
  left = λ x left. let from = keeps.left x left in
      (from.0, from.1, λ q j off. from.2 q j (within q j off));
  moments = record {
    later = keeps.moments.later;
    since = λ t x le left. ⊎_elim (λ before. inl before)
        (λ from. inr (from.0, from.1, λ q j off. from.2 q j (within q j off)))
        (keeps.moments.since t x le left);
  };
}

-- a last sector that is old or new
keeps_last : (place : Places) (p : List ℕ) (i : ℕ) (s : List ℕ) (old new : View) → place p i ≡ true
    → OldOrNew p i s old new → KeepsOthers place old new
keeps_last place p i s old new there one = record {
  seen = agree_torn place p i s old.seen new.seen there one.seen;
  left = λ x left. let from = one.left x left in
      (from.0, from.1, agree_torn place p i s from.0 x there from.2);
  moments = record {
    later = one.later;
    since = λ t x le left. ⊎_elim (λ before. inl before)
        (λ from. inr (from.0, from.1, agree_torn place p i s from.0 x there from.2))
        (one.since t x le left);
  };
}

pub others_step : (size : Sizes) (p s : List ℕ) (old new : View)
    → ((size p ≡ None) ⊎ (size p ≡ Some 0) → KeepsOthers (last_of size p) old new)
    → ((i : ℕ) → size p ≡ Some (i + 1) → OldOrNew p i s old new)
    → KeepsOthers (last_of size p) old new
others_step size p s old new nothing moments =
    by_size size p (size p) refl nothing
    (λ i is. keeps_last (last_of size p) p i s old new (here size p i is) (moments i is))

-- what one of the intents writes is written by them all
written_by : (s : Records) (size : Sizes) (ts : List Intent) (t : Intent) → Has ts t
    → (q : List ℕ) (j : ℕ) → is_written s size ts q j ≡ false → writes s size t q j ≡ false
written_by s size ts t h q j off =
    elim (cases_Bool (writes s size t q j)) [
      | inl e
          ↦ not_both (is_written s size ts q j) (any_from (λ r. writes s size r q j) ts t h e) off
      | inr e
          ↦ e
    ]

-- one of the intents after those before it
pub others_on : (s : Records) (size sizes : Sizes) → size ≡ sizes → (ts : List Intent) (t : Intent)
    → Has ts t → (old mid new : View) → KeepsOthers (is_written s sizes ts) old mid
    → KeepsOthers (writes s size t) mid new → KeepsOthers (is_written s sizes ts) old new
others_on s size sizes same ts t h old mid new so_far step =
    keeps_trans (is_written s sizes ts) old mid new so_far
    (keeps_within (writes s sizes t) (is_written s sizes ts) mid new (written_by s sizes ts t h)
    (subst (λ (z : Sizes). KeepsOthers (writes s z t) mid new) same step))
