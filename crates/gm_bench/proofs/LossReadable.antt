-- What is pending after a loss can be read again.
use Rattle.gm_bench.proofs.Common.{◌≡◌, ◌≢◌, ◌∙◌, ◌⊎◌, inl, inr, ⊎_elim, ℕ, ◌+◌, ◌-◌, ◌&&◌, ◌==◌, eqb-true, true, false, not, refl, sym, ap, subst, arith, List, [], ◌∷◌, filter, length, Option, Some, None, IsSomeAnd, list_any, cases_Bool, and_parts, same_label, Lost, Intent, Meta, Clear, Copy, Dirty, Patch, Mirror, Component, InSync, Has, put, Records, IsState, members, name, provider, component_of, mirror_of, IsOf, is_copy, is_patch, IsCopyWithin, IsPatchWithin, IsReadable, IsOfRange, AreOfOnePatch, AreReadable, World, Sound, Step, Reply, not_both, option_cases, found, found_none, find_none, find_one, some_any, same_from, same_is, differ, same_tells, without_patch, member, one, put_there, put_or, put_stays, Has-filter, filter-Has, metas, Plan, writes_to, redirected, remaining, left_to_lay, pending_after, HasNext, Has-append}
use Rattle.gm_state.specs.declared.intents.Reply.TheVariants.{Plain}
use Rattle.gm_state.proofs.CopyFound.{component_named}
use Rattle.gm_bench.proofs.LossRemaining.{has_remaining, ordered_after, unpatched_after, uncopied_after, range_stays, one_copy_after, has_meta}

pub apart_from : (a b : List ℕ) → same_label a b ≡ false → a ≢ b
apart_from a b e s = not_both (same_label a b) (same_from a b s) e

-- What `lost` of p makes of w.
pub record IsLoss (w v : World) (m : Mirror) (p : List ℕ) : Type 0 where
  pub key : List ℕ
  pub reply : Reply
  pub step : Step w key (Lost m.name (p ∷ [])) v reply
  pub here : Has w.state.mirrors m
  pub mirrors : (a : Mirror) → Has v.state.mirrors a
      → (a ≡ record m { genid = m.genid + 1 }) ⊎ ((a.name ≢ m.name) × Has w.state.mirrors a)
  pub mirror_stays : Has v.state.mirrors (record m { genid = m.genid + 1 })
  pub others_stay : (a : Mirror) → Has w.state.mirrors a → a.name ≢ m.name → Has v.state.mirrors a
  pub components : (k : Component) → Has v.state.components k
      → Has w.state.components k × (k.provider ≢ p)
  pub stay : (k : Component) → Has w.state.components k → k.provider ≢ p → Has v.state.components k
  pub sound : Sound v
  pub sizes : v.size ≡ w.size
  pub holds : (a : Mirror) → Has w.state.mirrors a → (i : ℕ) → v.holds a.name i ≡ w.holds a.name i
  pub shelf : (q : List ℕ) (j : ℕ) → ((k : Component) → Has (members v.state.components m.name) k
      → k.provider ≡ q → j ≡ k.sectors - 1 → ⊥) → v.shelf q j ≡ w.shelf q j

pub on_provider : (s : Records) (p : List ℕ) → component_of s p ≢ None
    → (k : Component) × Has s.components k × (k.provider ≡ p)
on_provider s p some =
    elim (option_cases (component_of s p)) [
      | inl none ↦ absurd (some none)
      | inr k ↦ (let f = found (λ (c : Component). same_label c.provider p) s.components k.0 k.1 in
          (k.0, f.0, same_is k.0.provider p f.1))
    ]

pub is_some_there : (s : Records) (k : Component) → Has s.components k
    → component_of s k.provider ≢ None
is_some_there s k h none =
    not_both (same_label k.provider k.provider) (same_from k.provider k.provider refl)
    (found_none (λ (c : Component). same_label c.provider k.provider) s.components none k h)

-- a component of a state is one of its mirror
pub home : (s : Records) → IsState s → (k : Component) → Has s.components k
    → (m : Mirror) × IsOf s m k
home s state k h =
    let a = state.homes k h in (
      a.0,
      record {
        mirror = a.1;
        component = filter-Has (λ (c : Component). same_label c.mirror a.0.name) s.components k h
            (same_from k.mirror a.0.name (sym a.2));
      },
    )

module _ (w v : World) (m : Mirror) (p : List ℕ) (loss : IsLoss w v m p) (sound : Sound w) where
  -- a component on another provider stays, of the same mirror, which has as many data
  pub stays_home : (n : Mirror) (k : Component) → IsOf w.state n k → k.provider ≢ p
      → (a : Mirror) × IsOf v.state a k × (a.name ≡ n.name) × (a.data_sectors ≡ n.data_sectors)
  stays_home n k of other =
      let was = member w.state n.name k of.component in
      let at = home v.state loss.sound.state k (loss.stay k was.0 other) in
      let named : at.0.name ≡ n.name =
      sym (member v.state at.0.name k at.1.component).1 ∙ was.1 in
      -- the mirror is the one of before, or the one whose genid rose
      let same : at.0.data_sectors ≡ n.data_sectors =
      elim (loss.mirrors at.0 at.1.mirror) [
        | inl bumped ↦
            let one_is : m ≡ n =
            one name w.state.mirrors sound.state.mirrors_in_order m n loss.here
            of.mirror (sym (ap (λ (x : Mirror). x.name) bumped) ∙ named) in
            ap (λ (x : Mirror). x.data_sectors) bumped ∙ ap (λ (x : Mirror). x.data_sectors) one_is
        | inr old ↦ ap (λ (x : Mirror). x.data_sectors)
            (one name w.state.mirrors sound.state.mirrors_in_order at.0 n old.1
            of.mirror named)
      ] in
      (at.0, at.1, named, same)

-- what is left to lay is all, if a Patch stays, or nothing
pub left_or_none : (ts : List Intent) (bytes : List (List ℕ))
    → ((list_any is_patch ts ≡ true) × (left_to_lay ts bytes ≡ bytes))
    ⊎ ((list_any is_patch ts ≡ false) × (left_to_lay ts bytes ≡ []))
left_or_none ts bytes = elim (cases_Bool (list_any is_patch ts)) [
  | inl some ↦ inl (some, rw some refl)
  | inr none ↦ inr (none, rw none refl)
]

-- there is one, which is ACTIVE
abbrev InSyncOn : Option Component → Type 0
InSyncOn o = IsSomeAnd o (λ (c : Component). c.disk ≡ InSync)

module _ (w v : World) (m : Mirror) (p next : List ℕ) (loss : IsLoss w v m p) (sound : Sound w)
    (ts : List Intent) (bytes : List (List ℕ)) (readable : AreReadable w.state bytes ts)
    (has_next : HasNext v.state p next ts) where
  abbrev others : List Component
  others = members v.state.components m.name

  abbrev after : List Intent
  after = pending_after p next ts others

  abbrev left : List (List ℕ)
  left = left_to_lay after bytes

  -- a copy that doesn't write to p and doesn't take from it stays within the data
  copy_stays : (f t : List ℕ) (a b : ℕ) → t ≢ p → f ≢ p → IsCopyWithin w.state f t a b
      → IsCopyWithin v.state f t a b
  copy_stays f t a b other apart c =
      let from = member w.state c.mirror.name c.from c.from_is.component in
      let from_stays = loss.stay c.from from.0 (λ e. apart (sym c.source_is ∙ e)) in
      let at = stays_home w v m p loss sound c.mirror c.to c.to_is
      (λ e. other (sym c.target_is ∙ e)) in
      let within = c.within in
      let same = at.3 in
      record {
        mirror = at.0;
        to = c.to;
        from = c.from;
        to_is = at.1;
        from_is = record {
          mirror = at.1.mirror;
          component = filter-Has (λ (k : Component). same_label k.mirror at.0.name)
              v.state.components c.from from_stays
              (same_from c.from.mirror at.0.name (from.1 ∙ sym at.2));
        };
        target_is = c.target_is;
        source_is = c.source_is;
        other = c.other;
        active = c.active;
        ordered = c.ordered;
        within = (omega (arith, within, same));
      }

  -- so does a patch of another provider
  patch_stays : (q : List ℕ) (a b : ℕ) → q ≢ p → IsPatchWithin w.state q a b
      → IsPatchWithin v.state q a b
  patch_stays q a b other c =
      let at = stays_home w v m p loss sound c.mirror c.on c.on_is
      (λ e. other (sym c.provider_is ∙ e)) in
      let within = c.within in
      let same = at.3 in
      record {
        mirror = at.0;
        on = c.on;
        on_is = at.1;
        provider_is = c.provider_is;
        active = c.active;
        ordered = c.ordered;
        within = (omega (arith, within, same));
      }

  readable_stays : (r : Intent) → Has ts r → writes_to p r ≡ false
      → IsReadable v.state (redirected p next r)
  readable_stays (Meta a) h e =
      let k = on_provider w.state a (readable.each (Meta a) h) in
      let stays = loss.stay k.0 k.1 (λ s. apart_from a p e (sym k.2 ∙ s)) in
      subst (λ (q : List ℕ). component_of v.state q ≢ None) k.2 (is_some_there v.state k.0 stays)
  readable_stays (Clear a) h e =
      let clear : IsReadable w.state (Clear a) = readable.each (Clear a) h in
      let none : component_of w.state a ≡ None = clear.1 in (
        clear.0,
        find_none (λ (c : Component). same_label c.provider a) v.state.components
            (λ k g. found_none (λ (c : Component). same_label c.provider a) w.state.components
            none k
            (loss.components k g).0),
      )
  readable_stays (Copy f t a b) h e =
      let c : IsCopyWithin w.state f t a b = readable.each (Copy f t a b) h in
      let other : t ≢ p = apart_from t p e in
      elim (cases_Bool (same_label f p)) [
        | inl s ↦ rw s
            (has_next t a b (subst (λ (q : List ℕ). Has ts (Copy q t a b)) (same_is f p s) h) other)
        | inr s ↦ rw s (copy_stays f t a b other (apart_from f p s) c)
      ]
  readable_stays (Dirty a) h e =
      elim (option_cases (component_of w.state a)) [
        | inl none ↦ absurd (let z : ⊥ = subst InSyncOn none (readable.each (Dirty a) h) in z)
        | inr some ↦
            let k : Component = some.0 in
            let was = component_named w.state a k some.1 in
            let stays = loss.stay k was.0 (λ s. apart_from a p e (sym was.1 ∙ s)) in
            let at : component_of v.state k.provider ≡ Some k =
            find_one provider v.state.components loss.sound.state.components_in_order k stays in
            let active : k.disk ≡ InSync = subst InSyncOn some.1 (readable.each (Dirty a) h) in
            subst (λ (q : List ℕ). InSyncOn (component_of v.state q)) was.1
            (subst InSyncOn (sym at) active)
      ]
  readable_stays (Patch a x y) h e =
      patch_stays a x y (apart_from a p e) (readable.each (Patch a x y) h)

  -- ---- the sectors that are to be laid

  left_has : (x : List ℕ) → Has left x → Has bytes x
  left_has x h = elim (left_or_none after bytes) [
    | inl some ↦ subst (λ (b : List (List ℕ)). Has b x) some.1 h
    | inr none ↦ absurd (subst (λ (b : List (List ℕ)). Has b x) none.1 h)
  ]

  one_range : (t : Intent) → Has after t
      → IsOfRange readable.one_patch.start (length bytes) t
  one_range t h =
      let start = readable.one_patch.start in
      ⊎_elim
      (λ (g : Has (remaining p next ts) t).
      let was = has_remaining p next ts t g in
      subst (IsOfRange start (length bytes)) was.3
      (range_stays p next start (length bytes) was.0
      (readable.one_patch.ranges was.0 was.1)))
      (λ (g : Has (metas others) t).
      let k = has_meta p next others t g in
      let none : IsOfRange start (length bytes) (Meta k.0.provider) = tt in
      subst (IsOfRange start (length bytes)) k.2 none)
      (Has-append (remaining p next ts) (metas others) t h)

  one_patch : AreOfOnePatch left after
  one_patch = elim (left_or_none after bytes) [
    | inr none ↦ subst (λ (b : List (List ℕ)). AreOfOnePatch b after) (sym none.1)
        (without_patch [] after none.0 refl)
    | inl some ↦ subst (λ (b : List (List ℕ)). AreOfOnePatch b after) (sym some.1) (record {
      start = readable.one_patch.start;
      ranges = one_range;
      apart = ⊎_elim
          (λ (off : list_any is_patch ts ≡ false). not_both (list_any is_patch after) some.0
          (unpatched_after p next ts others off))
          (λ (off : list_any is_copy ts ≡ false). inr (uncopied_after p next ts others off))
          readable.one_patch.apart;
      needed = λ off. not_both (list_any is_patch after) some.0 off;
    })
  ]

  pub are_readable : AreReadable v.state left after
  are_readable = record {
    sectors = λ x h. readable.sectors x (left_has x h);
    each = λ t h. ⊎_elim
        (λ (g : Has (remaining p next ts) t). let was = has_remaining p next ts t g in
        subst (λ (x : Intent). IsReadable v.state x) was.3 (readable_stays was.0 was.1 was.2))
        (λ (g : Has (metas others) t).
        let k = has_meta p next others t g in
        subst (λ (x : Intent). IsReadable v.state x) k.2
        (is_some_there v.state k.0 (member v.state m.name k.0 k.1).0))
        (Has-append (remaining p next ts) (metas others) t h);
    one_copy = one_copy_after p next ts others readable.one_copy;
    one_patch = one_patch;
    ordered = ordered_after p next ts others readable.ordered;
  }

-- ---- the plan of `lost`

module _ (w v : World) (key n p : List ℕ) (ts : List Intent) (m : Mirror) (sound : Sound w)
    (found_is : mirror_of w.state n ≡ Some m) (plan : Plan w key (Lost n (p ∷ [])) ts [] v) where
  there : Has w.state.mirrors m × (same_label m.name n ≡ true)
  there = found (λ (a : Mirror). same_label a.name n) w.state.mirrors m found_is

  abbrev bumped : Mirror
  bumped = record m { genid = m.genid + 1 }

  mirrors_are : v.state.mirrors ≡ put name bumped w.state.mirrors
  mirrors_are = ap (λ (s : Records). s.mirrors) plan.step.records ∙ rw found_is refl

  components_are : v.state.components ≡ filter (λ (k : Component). not (same_label k.provider p))
      w.state.components
  components_are = ap (λ (s : Records). s.components) plan.step.records ∙ rw found_is refl

  bumped_there : Has v.state.mirrors bumped
  bumped_there = subst (λ (l : List Mirror). Has l bumped) (sym mirrors_are)
      (put_there name bumped w.state.mirrors)

  mirror_or : (a : Mirror) → Has v.state.mirrors a
      → (a ≡ bumped) ⊎ ((a.name ≢ m.name) × Has w.state.mirrors a)
  mirror_or a h =
      elim (same_tells a.name m.name) [
        | inl same ↦ inl (one name v.state.mirrors plan.sound.state.mirrors_in_order a bumped h
            bumped_there same.1)
        | inr apart ↦ ⊎_elim
            (λ (e : bumped ≡ a). inl (sym e))
            (λ (g : Has w.state.mirrors a). inr (apart.1, g))
            (put_or name bumped w.state.mirrors a
            (subst (λ (l : List Mirror). Has l a) mirrors_are h))
      ]

  component_was : (k : Component) → Has v.state.components k
      → Has w.state.components k × (k.provider ≢ p)
  component_was k h =
      let r = Has-filter (λ (c : Component). not (same_label c.provider p)) w.state.components k
      (subst (λ (l : List Component). Has l k) components_are h) in
      (r.0, λ e. not_both (not (same_label k.provider p)) r.1 (ap not (same_from k.provider p e)))

  component_stays : (k : Component) → Has w.state.components k → k.provider ≢ p
      → Has v.state.components k
  component_stays k h d =
      subst (λ (l : List Component). Has l k) (sym components_are)
      (filter-Has (λ (c : Component). not (same_label c.provider p)) w.state.components k h
      (ap not (differ k.provider p d)))

  -- a last sector of another mirror's component says what it said
  other_says : (k : Component) → Has v.state.components k → k.mirror ≢ m.name → (j : ℕ)
      → k.sectors ≡ j + 1 → v.shelf k.provider j ≡ w.shelf k.provider j
  other_says k h d j is =
      let at = home v.state plan.sound.state k h in
      ⊎_elim
      (λ (e : at.0 ≡ bumped).
      absurd (d ((member v.state at.0.name k at.1.component).1
      ∙ ap (λ (x : Mirror). x.name) e)))
      (λ (g : (at.0.name ≢ m.name) × Has w.state.mirrors at.0).
      let of : IsOf w.state at.0 k = record {
        mirror = g.1;
        component = filter-Has (λ (c : Component). same_label c.mirror at.0.name)
            w.state.components k (component_was k h).0
            (same_from k.mirror at.0.name (member v.state at.0.name k at.1.component).1);
      } in
      let last : j ≡ k.sectors - 1 = omega (arith, is) in
      ap (v.shelf k.provider) last ∙ (plan.sound.full at.0 k at.1
      ∙ (sym (sound.full at.0 k of) ∙ sym (ap (w.shelf k.provider) last))))
      (mirror_or at.0 at.1.mirror)

  shelf_stays : (q : List ℕ) (j : ℕ)
      → ((k : Component) → Has (members v.state.components m.name) k → k.provider ≡ q
      → j ≡ k.sectors - 1 → ⊥) → v.shelf q j ≡ w.shelf q j
  shelf_stays q j none =
      elim (cases_Bool (list_any (λ (k : Component). same_label k.provider q && k.sectors == j + 1)
      v.state.components)) [
        | inr off ↦ plan.step.others q j (rw off refl)
        | inl e ↦
            let k = some_any (λ (k : Component). same_label k.provider q && k.sectors == j + 1)
            v.state.components e in
            let parts = and_parts (same_label k.0.provider q) (k.0.sectors == j + 1) k.2 in
            let at : k.0.provider ≡ q = same_is k.0.provider q parts.0 in
            let last : k.0.sectors ≡ j + 1 = eqb-true k.0.sectors (j + 1) parts.1 in
            elim (same_tells k.0.mirror m.name) [
              | inl mine ↦ absurd
                  (none k.0 (filter-Has (λ (c : Component). same_label c.mirror m.name)
                  v.state.components k.0 k.1 mine.0) at (omega (arith, last)))
              | inr theirs ↦ subst (λ (x : List ℕ). v.shelf x j ≡ w.shelf x j) at
                  (other_says k.0 k.1 theirs.1 j last)
            ]
      ]

  pub loss_of : IsLoss w v m p
  loss_of = record {
    key = key;
    reply = Plain;
    step = subst (λ (q : List ℕ). Step w key (Lost q (p ∷ [])) v Plain)
        (sym (same_is m.name n there.1)) plan.step;
    here = there.0;
    mirrors = mirror_or;
    mirror_stays = bumped_there;
    others_stay = λ a h apart. subst (λ (l : List Mirror). Has l a) (sym mirrors_are)
        (put_stays name bumped w.state.mirrors a h apart);
    components = component_was;
    stay = component_stays;
    sound = plan.sound;
    sizes = λ i q. plan.step.sizes q i;
    holds = plan.step.holds;
    shelf = shelf_stays;
  }
