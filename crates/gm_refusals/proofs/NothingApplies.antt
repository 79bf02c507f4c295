-- What follows if no refusal applies, and which refusal is the least.
use Rattle.gm_refusals.proofs.Common.{◌≡◌, ◌≢◌, ◌∙◌, inl, inr, ⊎_elim, ℕ, ◌+◌, ◌≤◌, ◌<◌, ◌^◌, Bool, true, false, ◌&&◌, ◌==◌, nat_lt, refl, sym, ap, subst, arith, List, [], ◌∷◌, length, find, Option, Some, None, IsSome, is_none, is_some, ltb-true, ltb-false, ForSome, list_all, cases_Bool, and_parts, or_parts, eqb-false, Has, Records, IsState, mirror_of, Command, Mirror, Component, same_from, Refusal, Absent, WrongSize, number_of, own, Seen, is_there_and, applies, has_wrong_size, is_on_any, reaches_beyond, IsLeast, IsGood, IsGoodButCount, found_none, any_one}
use Rattle.gm_commands.specs.declared.command.Command.TheVariants.{Label, Insert, Remove, Deactivate, Activate, Forget, Rebuild, Configure, Clear, Destroy, Lost, Advance, Adopt, Patch}
use Rattle.gm_commands.specs.declared.command.NewMirror.{NewMirror}
use Rattle.gm_lists.proofs.Finding.{found}
use Rattle.gm_state.proofs.FoundRecords.{rules_of}
use Rattle.gm_refusals.proofs.Listed.{listed, lists}

pub some_from : {X : Type 0} (o : Option X) → is_none o ≡ false → IsSome o
some_from None e = absurd (let h : ⊥ = cc in h)
some_from (Some x) e = refl

pub there_from : {X : Type 0} (o : Option X) → is_none o ≡ false → (x : X) × (o ≡ Some x)
there_from None e = absurd (let h : ⊥ = cc in h)
there_from (Some x) e = (x, refl)

pub none_from : {X : Type 0} (o : Option X) → is_some o ≡ false → o ≡ None
none_from None e = refl
none_from (Some x) e = cc

-- a test that fails at what is there
pub fails_there : {X : Type 0} (o : Option X) (x : X) (p : X → Bool) → o ≡ Some x
    → is_there_and o p ≡ false → p x ≡ false
fails_there None x p e f = cc
fails_there (Some a) x p e f = let h : a ≡ x = cc in sym (ap p h) ∙ f

pub not_below : (a b : ℕ) → nat_lt a b ≡ false → b ≤ a
not_below a b e = ltb-false a b e

pub not_at : (a b : ℕ) → (a == b) ≡ false → a ≢ b
not_at a b e = eqb-false a b e

-- a provider of a right size
pub right_size : (n : ℕ) → has_wrong_size n ≡ false → (2 ≤ n) × (n ≤ 1048576)
right_size n e = let parts = or_parts (nat_lt n 2) (nat_lt 1048576 n) e in
    (ltb-false n 2 parts.0, ltb-false 1048576 n parts.1)

pub fits_32 : (o : Option ℕ) → is_there_and o has_wrong_size ≡ false → ForSome o (λ n. n < 2 ^ 32)
fits_32 o e n is = let r = right_size n (fails_there o n has_wrong_size is e) in omega arith

-- the numbers rise along the list
abbrev rises : List Refusal → Bool
rises [] = true
rises (r ∷ rs) = list_all (λ q. nat_lt (number_of r) (number_of q)) rs && rises rs

own_rises : (c : Command) → rises (own c) ≡ true
own_rises (Label new) = refl
own_rises (Insert new) = refl
own_rises (Remove n p) = refl
own_rises (Deactivate n p) = refl
own_rises (Activate n p) = refl
own_rises (Forget n) = refl
own_rises (Rebuild n p) = refl
own_rises (Configure n settings) = refl
own_rises (Clear p) = refl
own_rises (Destroy n) = refl
own_rises (Lost n ps) = refl
own_rises (Advance n p) = refl
own_rises (Adopt n ps) = refl
own_rises (Patch n first sectors) = refl

all_of : (r : Refusal) (qs : List Refusal)
    → list_all (λ q. nat_lt (number_of r) (number_of q)) qs ≡ true → (q : Refusal) → Has qs q
    → number_of r ≤ number_of q
all_of r [] e q h = absurd h
all_of r (s ∷ qs) e q h =
    let parts : (nat_lt (number_of r) (number_of s) ≡ true)
    × (list_all (λ q. nat_lt (number_of r) (number_of q)) qs ≡ true) = and_parts _ _ e in
    ⊎_elim (λ (i : s ≡ q). subst (λ (t : Refusal). number_of r ≤ number_of t) i
    (let l : number_of r < number_of s = ltb-true (number_of r) (number_of s) parts.0 in
    omega arith)) (λ (k : Has qs q). all_of r qs parts.1 q k) h

least_in : (p : Refusal → Bool) (rs : List Refusal) → rises rs ≡ true → (r : Refusal)
    → find p rs ≡ Some r → (q : Refusal) → Has rs q → p q ≡ true → number_of r ≤ number_of q
least_in p [] e r f q h t = absurd h
least_in p (s ∷ rs) e r f q h t =
    let parts : (list_all (λ q. nat_lt (number_of s) (number_of q)) rs ≡ true) × (rises rs ≡ true) =
    and_parts _ _ e in
    elim (cases_Bool (p s)) [
      | inl u ↦
          let g : Some s ≡ Some r = rw u at f in
          let is : s ≡ r = cc in
          subst (λ (a : Refusal). number_of a ≤ number_of q) is
          (⊎_elim (λ (i : s ≡ q). subst (λ (a : Refusal). number_of s ≤ number_of a) i
          (omega arith)) (λ (k : Has rs q). all_of s rs parts.0 q k) h)
      | inr u ↦
          let g : find p rs ≡ Some r = rw u at f in
          ⊎_elim (λ (i : s ≡ q). absurd (let a : p s ≡ true = ap p i ∙ t in let b : ⊥ = cc in
          b)) (λ (k : Has rs q). least_in p rs parts.1 r g q k t) h
    ]

-- the first in the list is the least
pub is_least : (s : Records) (x : Seen) (c : Command) (r : Refusal)
    → find (applies s x c) (own c) ≡ Some r → IsLeast s x c r
is_least s x c r e =
    let f = found (applies s x c) (own c) r e in
    record {
      listed = lists c r f.0;
      met = f.1;
      least = λ q h t. least_in (applies s x c) (own c) (own_rises c) r e q (listed c q h) t;
    }

pub is_good : (s : Records) (x : Seen) (c : Command) → find (applies s x c) (own c) ≡ None
    → IsGood s x c
is_good s x c e r h = found_none (applies s x c) (own c) e r (listed c r h)

-- a mirror whose syncid isn't the last one
pub one_more_sync : (s : Records) (n : List ℕ) (m : Mirror) → IsState s → mirror_of s n ≡ Some m
    → is_there_and (mirror_of s n) (λ m. m.syncid == 4294967295) ≡ false → m.syncid < 4294967295
one_more_sync s n m state e off =
    let apart : m.syncid ≢ 4294967295 =
    not_at m.syncid 4294967295 (fails_there (mirror_of s n) m
    (λ a. a.syncid == 4294967295) e off) in
    let small : m.syncid < 2 ^ 32 = (rules_of s n m state e).fits.syncid in omega arith

-- a mirror whose genid isn't the last one
pub one_more_loss : (s : Records) (n : List ℕ) (m : Mirror) → IsState s → mirror_of s n ≡ Some m
    → is_there_and (mirror_of s n) (λ m. m.genid == 4294967295) ≡ false → m.genid < 4294967295
one_more_loss s n m state e off =
    let apart : m.genid ≢ 4294967295 =
    not_at m.genid 4294967295 (fails_there (mirror_of s n) m
    (λ a. a.genid == 4294967295) e off) in
    let small : m.genid < 2 ^ 32 = (rules_of s n m state e).fits.genid in omega arith

-- a mirror's data are fewer sectors than an image may have
pub few_data : (s : Records) (n : List ℕ) (m : Mirror) → IsState s → mirror_of s n ≡ Some m
    → m.data_sectors < 1048576
few_data s n m state e =
    let rules = rules_of s n m state e in
    let k = rules.active in
    let room : m.data_sectors + 1 ≤ k.0.sectors = rules.sizes k.0 k.1 in
    let most : k.0.sectors ≤ 1048576 = rules.limits k.0 k.1 in
    omega arith

-- what is laid over them ends within them
pub ends_within : (o : Option Mirror) (n : List ℕ) (first : ℕ) (sectors : List (List ℕ))
    (m : Mirror) → o ≡ Some m → is_there_and o (reaches_beyond (Patch n first sectors)) ≡ false
    → first + length sectors ≤ m.data_sectors
ends_within o n first sectors m e off =
    not_below m.data_sectors (first + length sectors)
    (fails_there o m (reaches_beyond (Patch n first sectors)) e off)

-- the provider of a good label is there with a right size
pub label_size : (s : Records) (x : Seen) (c : Command) (new : NewMirror)
    → c ≡ Label new → IsGoodButCount s x c → (is_none (x.size new.provider) ≡ false)
    × (is_there_and (x.size new.provider) has_wrong_size ≡ false)
label_size s x c new is good =
    let g : IsGoodButCount s x (Label new) =
    subst (λ (d : Command). IsGoodButCount s x d) is good in (
      any_one (λ q. is_none (x.size q)) new.provider
          (or_parts _ _ (g Absent refl refl)).0,
      any_one (λ q. is_there_and (x.size q) has_wrong_size) new.provider
          (g WrongSize refl refl),
    )

pub on_one : (k : Component) (p : List ℕ) → k.provider ≡ p → is_on_any (p ∷ []) k ≡ true
on_one k p e = rw (same_from k.provider p e) refl
