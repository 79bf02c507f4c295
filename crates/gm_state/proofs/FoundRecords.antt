-- What is found in the records by its name, and the rules that hold of it.
use Rattle.gm_state.proofs.Common.{[], ◌≡◌, ℕ, ◌≤◌, ◌<◌, false, subst, arith, List, ◌∷◌, Some, None, length, ◌∙◌, inl, inr, true, not, refl, sym, ap, IsSome, Has, Records, IsState, IsMirror, members, provider, mirror_of, component_of, is_active, Mirror, Component, same_is, same_from, same_label, found, found_none, any_one, some_any, not_both, option_cases, list_any, not-false, Disk, InSync, Inactive, Copying, one, Has-filter}

-- the mirror that is found has the name
pub named : (s : Records) (n : List ℕ) (m : Mirror) → mirror_of s n ≡ Some m
    → Has s.mirrors m × (m.name ≡ n)
named s n m e = let f = found (λ (a : Mirror). same_label a.name n) s.mirrors m e in
    (f.0, same_is m.name n f.1)

-- so is the component that is found
pub provider_at : (s : Records) (p : List ℕ) (k : Component) → component_of s p ≡ Some k
    → k.provider ≡ p
provider_at s p k e =
    same_is k.provider p (found (λ (a : Component). same_label a.provider p) s.components k e).1

-- no component is on a provider that is none
pub new_name : (s : Records) (p : List ℕ) → component_of s p ≡ None → (k : Component)
    → Has s.components k → same_label k.provider p ≡ false
new_name s p e k h = found_none (λ (a : Component). same_label a.provider p) s.components e k h

-- the rules of the mirror that is found
pub rules_of : (s : Records) (n : List ℕ) (m : Mirror) → IsState s → mirror_of s n ≡ Some m
    → IsMirror m (members s.components n)
rules_of s n m state e = let f = named s n m e in
    subst (λ (a : List ℕ). IsMirror m (members s.components a)) f.1 (state.each m f.0)

one_there : {X : Type 0} (xs : List X) (x : X) → Has xs x → 0 < length xs
one_there [] x h = absurd h
one_there (y ∷ ys) x h = omega arith

-- a mirror counts at least its ACTIVE component, and at most 16
pub some_all : (s : Records) (n : List ℕ) (m : Mirror) → IsState s → mirror_of s n ≡ Some m
    → 0 < m.all
some_all s n m state e =
    let r = rules_of s n m state e in
    let l : 0 < length (members s.components n) =
    one_there (members s.components n) r.active.0 r.active.1 in
    let g : length (members s.components n) ≤ m.all = r.room in omega arith

pub few_all : (s : Records) (n : List ℕ) (m : Mirror) → IsState s → mirror_of s n ≡ Some m
    → m.all < 255
few_all s n m state e = let l : m.all ≤ 16 = (rules_of s n m state e).all in omega arith

pub few_members : (s : Records) (n : List ℕ) (m : Mirror) → IsState s → mirror_of s n ≡ Some m
    → length (members s.components n) < 256
few_members s n m state e =
    let r = rules_of s n m state e in
    let l : length (members s.components n) ≤ m.all = r.room in
    let g : m.all ≤ 16 = r.all in omega arith

-- one of these components is on p
pub is_member : (ks : List Component) (p : List ℕ)
    → list_any (λ q. not (list_any (λ k. same_label k.provider q) ks)) (p ∷ []) ≡ false
    → (k : Component) × Has ks k × (k.provider ≡ p)
is_member ks p e =
    let k = some_any (λ (k : Component). same_label k.provider p) ks
    (not-false _ (any_one (λ q. not (list_any (λ k. same_label k.provider q) ks)) p e)) in
    (k.0, k.1, same_is k.0.provider p k.2)

-- so it is registered
pub member_found : (s : Records) (n p : List ℕ)
    → list_any (λ q. not (list_any (λ k. same_label k.provider q) (members s.components n)))
    (p ∷ []) ≡ false → IsSome (component_of s p)
member_found s n p e =
    let k = is_member (members s.components n) p e in
    elim (option_cases (component_of s p)) [
      | inr some ↦ rw some.1 refl
      | inl none ↦ not_both (same_label k.0.provider p) (same_from k.0.provider p k.2)
          (found_none (λ (j : Component). same_label j.provider p) s.components none k.0
          (Has-filter (λ (j : Component). same_label j.mirror n) s.components k.0 k.1).0)
    ]

-- and is one of that mirror
pub home_of : (s : Records) (n p : List ℕ) → IsState s → (k : Component) → component_of s p ≡ Some k
    → list_any (λ q. not (list_any (λ k. same_label k.provider q) (members s.components n)))
    (p ∷ []) ≡ false → k.mirror ≡ n
home_of s n p state k at off =
    let j = is_member (members s.components n) p off in
    let mine = Has-filter (λ (c : Component). same_label c.mirror n) s.components j.0 j.1 in
    let f = found (λ (c : Component). same_label c.provider p) s.components k at in
    let same : k ≡ j.0 = one provider s.components state.components_in_order k j.0 f.0 mine.0
    (same_is k.provider p f.1 ∙ sym j.2) in
    ap (λ (c : Component). c.mirror) same ∙ same_is j.0.mirror n mine.1

pub active_is : (d : Disk) → is_active d ≡ true → d ≡ InSync
active_is InSync e = refl
active_is Inactive e = cc
active_is (Copying f h) e = cc
