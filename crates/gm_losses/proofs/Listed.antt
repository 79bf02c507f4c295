-- Lists of no loss, of one, and of losses in byte order.
use Rattle.gm_losses.proofs.Common.{◌≡◌, ◌<◌, arith, length, inl, ⊎_elim, Bool, true, false, refl, sym, subst, List, [], ◌∷◌, Option, Some, None, is_some, AscendsBy, Has, label_lt, AreJust, goes_before, provider_of, Loss, Database, LastSector}

module _ (IsOne : Loss → Type 0) where
  pub none_lost : ((x : Loss) → IsOne x → ⊥) → AreJust IsOne []
  none_lost none = record {
    told = λ x h. absurd h;
    others = λ x is. absurd (none x is);
    order = tt;
  }

  pub one_lost : (x : Loss) → IsOne x → ((y : Loss) → IsOne y → x ≡ y) → AreJust IsOne (x ∷ [])
  one_lost x is only = record {
    told = λ y h. ⊎_elim (λ (e : x ≡ y). subst IsOne e is) (λ (none : ⊥). absurd none) h;
    others = λ y it. inl (only y it);
    order = (λ y h. absurd h, tt);
  }

before : (x y : Loss) → label_lt (provider_of x) (provider_of y) ≡ true → goes_before x y ≡ true
before (Database p) (LastSector q) e = refl
before x y e = e

-- losses in byte order of providers are in order
pub in_order : (xs : List Loss) → AscendsBy (λ a b. label_lt (provider_of a) (provider_of b)) xs
    → AscendsBy goes_before xs
in_order [] a = a
in_order (x ∷ xs) a = (λ y h. before x y (a.0 y h), in_order xs a.1)

-- losses under a condition that holds, and under one that doesn't
module _ (A : Type 0) (IsOne : Loss → Type 0) where
  pub given : (list : List Loss) → A → AreJust IsOne list → AreJust (λ x. A × IsOne x) list
  given list a are = record {
    told = λ x h. (a, are.told x h);
    others = λ x is. are.others x is.1;
    order = are.order;
  }

pub is_gone : {X : Type 0} (o : Option X) → is_some o ≡ false → o ≡ None
is_gone None e = refl
is_gone (Some x) e = absurd (let never : ⊥ = cc in never)

-- two tests of one fact give one answer
pub told_by : (a b : Bool) → (a ≡ true → b ≡ true) → (b ≡ true → a ≡ true) → a ≡ b
told_by true b there back = sym (there refl)
told_by false true there back = back refl
told_by false false there back = refl

-- a list that isn't empty has a first
pub first_of : {X : Type 0} (xs : List X) → 0 < length xs → (x : X) × Has xs x
first_of [] some = absurd (omega (arith, some))
first_of (x ∷ xs) some = (x, inl refl)
