-- A mirror that a command turns: what the records after it are, and the rules that they keep.
use Rattle.gm_rules.proofs.Common.{◌≡◌, ◌≢◌, ◌∙◌, ◌⊎◌, inl, inr, ⊎_elim, ℕ, ◌<◌, ◌≤◌, ◌^◌, refl, sym, ap, subst, List, length, same_label, Command, Mirror, Component, Has, Ascends, put, Records, IsState, IsMirror, MirrorFits, members, name, provider, World, Sound, laid_over, same_is, same_refl, same_tells, one, put_there, put_stays, put_cases, Ascends-put, length-put_same, Has-filter, filter-Has, Ascends-filter}

-- What a command makes of the records r: the records s, in which mirror m has the components ks.
pub record Turns (r : Records) (m : Mirror) (ks : List Component) (s : Records) : Type 0 where
  pub state : IsState s
  pub mirror : (a : Mirror) → Has s.mirrors a → (a ≡ m) ⊎ ((a.name ≢ m.name) × Has r.mirrors a)
  pub mine : members s.components m.name ≡ ks
  pub others : (n : List ℕ) → n ≢ m.name → members s.components n ≡ members r.components n

module _ (r : Records) (m : Mirror) (ks : List Component) (s : Records) (t : Turns r m ks s) where
  -- a component of ks is one of s, and of the mirror
  pub in_s : (k : Component) → Has ks k → Has s.components k × (k.mirror ≡ m.name)
  in_s k h =
      let i = Has-filter (λ (c : Component). same_label c.mirror m.name) s.components k
      (subst (λ (l : List Component). Has l k) (sym t.mine) h) in
      (i.0, same_is k.mirror m.name i.1)

  pub in_order : Ascends provider ks
  in_order = subst (λ (l : List Component). Ascends provider l) t.mine
      (Ascends-filter (λ (c : Component). same_label c.mirror m.name) provider s.components
      t.state.components_in_order)

  -- the mirror is registered if it has a component
  pub here : (k : Component) → Has ks k → Has s.mirrors m
  here k h =
      let i = in_s k h in
      let a = t.state.homes k i.0 in
      ⊎_elim (λ (e : a.0 ≡ m). subst (λ (x : Mirror). Has s.mirrors x) e a.1)
      (λ (o : (a.0.name ≢ m.name) × Has r.mirrors a.0). absurd (o.0 (a.2 ∙ i.1)))
      (t.mirror a.0 a.1)

  pub rules_of : (k : Component) → Has ks k → IsMirror m ks
  rules_of k h = subst (λ (l : List Component). IsMirror m l) t.mine (t.state.each m (here k h))

-- ---- a mirror that is put among the others

abbrev pub with_put : Records → Mirror → List Component → Records
with_put r m comps = record { mirrors = put name m r.mirrors; components = comps }

-- m can be put among the mirrors of r, where all components are comps and its own are ks
pub record Puts (r : Records) (m : Mirror) (comps ks : List Component) : Type 0 where
  pub count : length (put name m r.mirrors) ≤ 64
  pub mids : (a : Mirror) → Has r.mirrors a → a.name ≢ m.name → a.mid ≢ m.mid
  pub in_order : Ascends provider comps
  pub mine : members comps m.name ≡ ks
  pub others : (n : List ℕ) → n ≢ m.name → members comps n ≡ members r.components n
  pub rules : IsMirror m ks

module _ (r : Records) (m : Mirror) (comps ks : List Component) (state : IsState r)
    (p : Puts r m comps ks) where
  each_mirror : (a : Mirror) → Has (put name m r.mirrors) a
      → (a ≡ m) ⊎ ((a.name ≢ m.name) × Has r.mirrors a)
  each_mirror a h =
      ⊎_elim (λ (e : m ≡ a). inl (sym e)) (λ (o : Has r.mirrors a × (name a ≢ name m)).
      inr (o.1, o.0)) (put_cases name m r.mirrors state.mirrors_in_order a h)

  -- what holds of m, and of the mirrors of other names, holds of each
  of_each : (P : Mirror → Type 0) → P m
      → ((a : Mirror) → a.name ≢ m.name → Has r.mirrors a → P a) → (a : Mirror)
      → Has (put name m r.mirrors) a → P a
  of_each P new olds a h =
      ⊎_elim (λ (e : a ≡ m). subst P (sym e) new)
      (λ (o : (a.name ≢ m.name) × Has r.mirrors a). olds a o.0 o.1) (each_mirror a h)

  put_state : IsState (with_put r m comps)
  put_state = record {
    mirrors_in_order = Ascends-put name m r.mirrors state.mirrors_in_order;
    components_in_order = p.in_order;
    count = p.count;
    each = of_each (λ a. IsMirror a (members comps a.name))
        (subst (λ (l : List Component). IsMirror m l) (sym p.mine) p.rules)
        (λ a d h. subst (λ (l : List Component). IsMirror a l) (sym (p.others a.name d))
        (state.each a h));
    mids = λ a b h k. of_each (λ x. x.mid ≡ b.mid → x ≡ b)
        (of_each (λ y. m.mid ≡ y.mid → m ≡ y) (λ e. refl)
        (λ y d i e. absurd (p.mids y i d (sym e))) b k)
        (λ x d i. of_each (λ y. x.mid ≡ y.mid → x ≡ y) (λ e. absurd (p.mids x i d e))
        (λ y g j e. state.mids x y i j e) b k) a h;
    homes = λ k h. elim (same_tells k.mirror m.name) [
      | inl y ↦ (m, put_there name m r.mirrors, sym y.1)
      | inr n ↦
          let mine : Has (members comps k.mirror) k =
          filter-Has (λ (c : Component). same_label c.mirror k.mirror) comps k h
          (same_refl k.mirror) in
          let old : Has r.components k =
          (Has-filter (λ (c : Component). same_label c.mirror k.mirror) r.components k
          (subst (λ (l : List Component). Has l k) (p.others k.mirror n.1) mine)).0 in
          let home = state.homes k old in (
            home.0,
            put_stays name m r.mirrors home.0 home.1 (λ e. n.1 (sym home.2 ∙ e)),
            home.2,
          )
    ];
  }

  pub put_turns : Turns r m ks (with_put r m comps)
  put_turns = record {
    state = put_state;
    mirror = each_mirror;
    mine = p.mine;
    others = p.others;
  }

-- ---- a mirror that stays, with another record

-- m' is another record of mirror m, and fits too
pub record Renews (m m' : Mirror) : Type 0 where
  pub name : m'.name ≡ m.name
  pub mid : m'.mid ≡ m.mid
  pub sectors : m'.data_sectors ≡ m.data_sectors
  pub counts : (m'.genid < 2 ^ 32) × (m'.syncid < 2 ^ 32) × (m'.slice < 2 ^ 32)
  pub all : m'.all ≤ 16

pub renewed_fits : (m m' : Mirror) → Renews m m' → MirrorFits m → MirrorFits m'
renewed_fits m m' new fits = record {
  name = rw new.name fits.name;
  mid = rw new.mid fits.mid;
  genid = new.counts.0;
  syncid = new.counts.1;
  slice = new.counts.2;
}

-- What the command makes of mirror m and its components: m' in its place, and the list ks.
pub record Adjusts (r : Records) (m m' : Mirror) (comps ks : List Component) : Type 0 where
  pub here : Has r.mirrors m
  pub same : Renews m m'
  pub in_order : Ascends provider comps
  pub mine : members comps m.name ≡ ks
  pub others : (n : List ℕ) → n ≢ m.name → members comps n ≡ members r.components n
  pub rules : IsMirror m' ks

pub adjusts_turns : (r : Records) (m m' : Mirror) (comps ks : List Component) → IsState r
    → Adjusts r m m' comps ks
    → Turns r m' ks (with_put r m' comps)
adjusts_turns r m m' comps ks state a = put_turns r m' comps ks state (record {
  count = rw (length-put_same name m' r.mirrors state.mirrors_in_order m a.here (sym a.same.name))
      state.count;
  mids = λ x h d e. d (ap name (state.mids x m h a.here (e ∙ a.same.mid)) ∙ sym a.same.name);
  in_order = a.in_order;
  mine = rw a.same.name a.mine;
  others = λ n d. a.others n (λ e. d (e ∙ sym a.same.name));
  rules = a.rules;
})

-- the mirror kept its data, but for what the command lays over them
pub adjusts_data : (u : World) (c : Command) (m m' : Mirror) (comps ks : List Component) → Sound u
    → Adjusts u.state m m' comps ks → (a : Mirror) → Has u.state.mirrors a → a.name ≡ m'.name
    → (a.data_sectors ≡ m'.data_sectors)
    × ((i : ℕ) → laid_over c m.name (u.holds m.name) i ≡ laid_over c a.name (u.holds a.name) i)
adjusts_data u c m m' comps ks sound adjusts a h e =
    let same : a ≡ m = one name u.state.mirrors sound.state.mirrors_in_order a m h adjusts.here
    (e ∙ adjusts.same.name) in (
      ap (λ (x : Mirror). x.data_sectors) same ∙ sym adjusts.same.sectors,
      λ i. ap (λ (x : Mirror). laid_over c x.name (u.holds x.name) i) (sym same),
    )
