-- What the refusals of a command rule out.
use Rattle.gm_rules.proofs.Common.{◌≡◌, ◌≢◌, ◌∙◌, ⊎_elim, ℕ, ◌<◌, ◌≤◌, ◌-◌, ◌==◌, ◌&&◌, Bool, true, false, not, refl, sym, ap, subst, arith, List, [], ◌∷◌, Option, Some, None, is_none, is_some, eqb-true, filter, length, list_any, list_all, ne_eqb, or_parts, same_label, carries, Command, Mirror, Component, InSync, Inactive, Records, IsMirror, IsState, members, provider, mirror_of, component_of, is_active, is_inactive, Has, put, World, present, bears_carries, active_is, named, new_name, same_is, same_from, same_refl, one, put_or, Has-filter, filter-Has, any_one, found_none, none_any, some_other, find_one, not_both, is_listed, Seen, has_size, is_there_and, IsGood, awaited, has_wrong_size, is_awaited, is_member_of, is_on_any, looked_at, name_of, providers_of, last_carries, last_of, seen_of, fails_there, none_from, not_at, on_one, right_size, there_from, NewAreBare}
use Rattle.gm_refusals.specs.declared.refusals.Refusal.TheVariants as refusals
use Rattle.gm_rules.proofs.PlanOf.{Allowed, PlanOf}

pub has_size_is : (o : Option ℕ) (n : ℕ) → not (has_size o n) ≡ false → o ≡ Some n
has_size_is None n e = absurd (let h : ⊥ = cc in h)
has_size_is (Some k) n e = by (k == n) refl
  where
    by : (b : Bool) → (k == n) ≡ b → Some k ≡ Some n
    by true t = ap Some (eqb-true k n t)
    by false t = absurd (let f : not (k == n) ≡ false = e in
        let g : not false ≡ false = rw t at f in let h : ⊥ = cc in h)

-- the components that a command waits for are there with their sizes
pub awaited_there : (s : Records) (x : Seen) (c : Command) → IsGood s x c
    → is_listed c refusals.Absent ≡ true → (k : Component) → Has (awaited s c) k
    → x.size k.provider ≡ Some k.sectors
awaited_there s x c good absent k h =
    has_size_is (x.size k.provider) k.sectors
    (none_any (λ j. not (has_size (x.size j.provider) j.sectors)) (awaited s c)
    (or_parts (list_any (λ p. is_none (x.size p)) (looked_at c)) _
    (good refusals.Absent absent)).1 k h)

-- ---- a command that takes providers

-- a provider of a fit size on which no component is
pub record IsFree (s : Records) (x : Seen) (p : List ℕ) : Type 0 where
  pub none : component_of s p ≡ None
  pub sectors : ℕ
  pub size : x.size p ≡ Some sectors
  pub some : 2 ≤ sectors
  pub limit : sectors ≤ 1048576

pub is_free : (s : Records) (x : Seen) (c : Command) → IsGood s x c → looked_at c ≡ providers_of c
    → is_listed c refusals.Absent ≡ true → is_listed c refusals.ProviderTaken ≡ true
    → is_listed c refusals.WrongSize ≡ true → (p : List ℕ) → Has (providers_of c) p → IsFree s x p
is_free s x c good same absent taken wrong p h =
    let all : Has (looked_at c) p = rw same h in
    let size = there_from (x.size p) (none_any (λ q. is_none (x.size q)) (looked_at c)
    (or_parts (list_any (λ q. is_none (x.size q)) (looked_at c)) _
    (good refusals.Absent absent)).0 p all) in
    let range = right_size size.0 (fails_there (x.size p) size.0 has_wrong_size size.1
    (none_any (λ q. is_there_and (x.size q) has_wrong_size) (looked_at c)
    (good refusals.WrongSize wrong) p all)) in
    record {
      none = none_from (component_of s p) (none_any (λ q. is_some (component_of s q))
          (providers_of c) (good refusals.ProviderTaken taken) p h);
      sectors = size.0;
      size = size.1;
      some = range.0;
      limit = range.1;
    }

-- if none of them carries metadata, a component that is made of one wasn't bearing any
pub put_bare : (u : World) (k : Component) → present u k.provider ≡ Some k.sectors
    → 0 < k.sectors → list_any (λ p. last_carries (last_of u p)) (k.provider ∷ []) ≡ false
    → (w : World) → w.state.components ≡ put provider k u.state.components → NewAreBare u w
put_bare u k size some off w is j h none d bears =
    let apart : (k.sectors == 0) ≡ false = ne_eqb k.sectors 0 (λ e. omega arith) in
    let told : last_carries (last_of u k.provider) ≡ carries (u.shelf k.provider (k.sectors - 1)) =
    rw (size, apart) refl in
    let bare : carries (u.shelf k.provider (k.sectors - 1)) ≡ false =
    sym told ∙ any_one (λ p. last_carries (last_of u p)) k.provider off in
    ⊎_elim
    (λ (e : k ≡ j). not_both (carries (u.shelf j.provider (j.sectors - 1)))
    (bears_carries _ d bears)
    (subst (λ (c : Component). carries (u.shelf c.provider (c.sectors - 1)) ≡ false) e bare))
    (λ (old : Has u.state.components j). not_both (same_label j.provider j.provider)
    (same_refl j.provider) (new_name u.state j.provider none j old))
    (put_or provider k u.state.components j
    (subst (λ (l : List Component). Has l j) is h))

-- a mirror that is new: none has its name, and there is room for it
pub no_namesake : (s : Records) (n : List ℕ) → is_some (mirror_of s n) ≡ false → (a : Mirror)
    → Has s.mirrors a → a.name ≢ n
no_namesake s n free a h e = not_both (same_label a.name n) (same_from a.name n e)
    (found_none (λ (m : Mirror). same_label m.name n) s.mirrors
    (none_from (mirror_of s n) free) a h)

pub one_more_mirror : (s : Records) → IsState s → (length s.mirrors == 64) ≡ false
    → length s.mirrors < 64
one_more_mirror s state off =
    let count : length s.mirrors ≤ 64 = state.count in
    let apart : length s.mirrors ≢ 64 = not_at (length s.mirrors) 64 off in omega arith

-- ---- a command that names a mirror

-- What is known if the command c, which nothing refuses, names the mirror m.
pub record Names (u : World) (c : Command) (m : Mirror) : Type 0 where
  pub may : Allowed u c
  pub named : name_of c ≡ Some m.name
  pub here : Has u.state.mirrors m
  pub found : mirror_of u.state m.name ≡ Some m
  pub rules : IsMirror m (members u.state.components m.name)
  pub there : (k : Component) → Has (members u.state.components m.name) k → is_awaited c k ≡ true
      → present u k.provider ≡ Some k.sectors

-- what such a command shows of each registered mirror it shows of the one that it names
pub by_name : (u : World) (c : List ℕ → Command) (n : List ℕ) → Allowed u (c n)
    → ((a : List ℕ) → name_of (c a) ≡ Some a) → ((a : List ℕ) → is_listed (c a) refusals.NoMirror
    ≡ true) → ((a : List ℕ) → is_listed (c a) refusals.Absent ≡ true)
    → ((m : Mirror) → Names u (c m.name) m → PlanOf u (c m.name)) → PlanOf u (c n)
by_name u c n may name no_mirror absent each =
    let some : is_none (mirror_of u.state n) ≡ false =
    rw (name n) at (may.good refusals.NoMirror (no_mirror n)) in
    let found = there_from (mirror_of u.state n) some in
    let m : Mirror = found.0 in
    let at = named u.state n m found.1 in
    subst (λ (a : List ℕ). mirror_of u.state a ≡ Some m → Allowed u (c a) → PlanOf u (c a)) at.1
    (λ found may. each m (record {
      may = may;
      named = name m.name;
      here = at.0;
      found = found;
      rules = may.sound.state.each m at.0;
      there = λ k h waits. awaited_there u.state (seen_of u) (c m.name) may.good (absent m.name) k
          (filter-Has (λ (j : Component). is_awaited (c m.name) j) _ k
          (subst (λ (o : Option (List ℕ)).
          Has (filter (λ j. is_member_of o j) u.state.components) k) (sym (name m.name)) h) waits);
    })) found.1 may

-- One of its components is on p, and another is ACTIVE.
pub record CanTouch (u : World) (m : Mirror) (p : List ℕ) : Type 0 where
  pub member : (k : Component) × Has (members u.state.components m.name) k × (k.provider ≡ p)
  pub active : (k : Component) × Has (members u.state.components m.name) k × (k.disk ≡ InSync)
      × (k.provider ≢ p)

-- an ACTIVE one is left
pub active_left : (ks : List Component) (ps : List (List ℕ))
    → list_all (is_on_any ps) (filter (λ k. is_active k.disk) ks) ≡ false
    → (k : Component) × Has ks k × (k.disk ≡ InSync) × (is_on_any ps k ≡ false)
active_left ks ps e =
    let k = some_other (is_on_any ps) (filter (λ (k : Component). is_active k.disk) ks) e in
    let parts = Has-filter (λ (k : Component). is_active k.disk) ks k.0 k.1 in
    (k.0, parts.0, active_is k.0.disk parts.1, k.2)

pub other_active : (ks : List Component) (p : List ℕ)
    → list_all (is_on_any (p ∷ [])) (filter (λ k. is_active k.disk) ks) ≡ false
    → (k : Component) × Has ks k × (k.disk ≡ InSync) × (k.provider ≢ p)
other_active ks p e =
    let k = active_left ks (p ∷ []) e in
    (k.0, k.1, k.2, λ at. not_both (is_on_any (p ∷ []) k.0) (on_one k.0 p at) k.3)

-- if the one on p is INACTIVE, another is ACTIVE
pub other_in_use : (ks : List Component) (p : List ℕ)
    → list_any (λ k. is_on_any (p ∷ []) k && not (is_inactive k.disk)) ks ≡ false
    → (k : Component) × Has ks k × (k.disk ≡ InSync)
    → (k : Component) × Has ks k × (k.disk ≡ InSync) × (k.provider ≢ p)
other_in_use ks p e k = (
  k.0,
  k.1,
  k.2,
  λ at.
      not_both (is_on_any (p ∷ []) k.0 && not (is_inactive k.0.disk))
      (rw (on_one k.0 p at, k.2) refl)
      (none_any (λ k. is_on_any (p ∷ []) k && not (is_inactive k.disk)) ks e k.0 k.1),
)

-- the one on p isn't INACTIVE
pub in_use : (ks : List Component) (p : List ℕ)
    → list_any (λ k. is_on_any (p ∷ []) k && is_inactive k.disk) ks ≡ false
    → (k : Component) → Has ks k → k.provider ≡ p → k.disk ≢ Inactive
in_use ks p e k h at off =
    not_both (is_on_any (p ∷ []) k && is_inactive k.disk) (rw (on_one k p at, off) refl)
    (none_any (λ k. is_on_any (p ∷ []) k && is_inactive k.disk) ks e k h)

module _ (u : World) (m : Mirror) (p : List ℕ) (state : IsState u.state)
    (can : CanTouch u m p) where
  abbrev in_all : Has u.state.components can.member.0
      × (same_label can.member.0.mirror m.name ≡ true)
  in_all = Has-filter (λ (c : Component). same_label c.mirror m.name) u.state.components
      can.member.0 can.member.1

  -- it is the one that is found on p
  pub component_at : component_of u.state p ≡ Some can.member.0
  component_at = subst (λ (x : List ℕ). component_of u.state x ≡ Some can.member.0) can.member.2
      (find_one provider u.state.components state.components_in_order can.member.0 in_all.0)

  -- a component of another mirror is elsewhere
  pub not_on : (j : Component) → Has u.state.components j → j.mirror ≢ m.name → j.provider ≢ p
  not_on j h d e =
      let same : can.member.0 ≡ j =
      one provider u.state.components state.components_in_order can.member.0 j in_all.0 h
      (can.member.2 ∙ sym e) in
      d (sym (ap (λ (c : Component). c.mirror) same) ∙ same_is can.member.0.mirror m.name in_all.1)
