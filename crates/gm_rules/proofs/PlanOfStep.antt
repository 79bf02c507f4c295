-- From what a command shows to its plan.
use Rattle.gm_rules.proofs.Common.{◌≡◌, ◌∙◌, inl, inr, ⊎_elim, ℕ, ◌+◌, ◌-◌, ◌<◌, ◌≤◌, ◌==◌, ◌&&◌, ◌||◌, Bool, true, false, refl, sym, ap, subst, arith, List, [], filter, find, length, Option, None, Some, nat_le, nat_lt, ltb-true, eq-eqb, IsSomeAnd, slice_get, list_any, cases_Bool, and_parts, leb-true, or_parts, Image, same_label, zeros, encoded, Command, Intent, Meta, Clear, Dirty, Patch, Component, Has, AreThere, is_last, names, is_place, IsMeta, Says, IsAtHand, component_of, metadata, AreReadable, IsReadable, provider, World, Sound, CopiesData, present, same_is, same_from, same_refl, differ, any_from, find_none, find_one, not_both, option_cases, no_dirt_left, copied_at, last_named, place_from, some_and, clears, fills, intents_of, IsGood, applies, is_member_of, seen_of, CanAnswer, HasPlan, IsOwn, Plan, is_changed}
use Rattle.gm_lists.proofs.Finding.{found}
use Rattle.gm_state.proofs.ReadableIntents.{in_order, lent}
use Rattle.gm_rules.proofs.PlanOf.{PlanOf, Stretch, bytes_in, copying, with_filled, written}
use Rattle.gm_rules.proofs.StepOfMirror.{as_copied, brought, claims_after, data_after, data_stay, is_gone, last_new, mine, next, registered, size_of, some_sectors, sound_next}
use Rattle.gm_rules.proofs.WrittenIntents.{Brings, IsBrought, IsLaidOn, clear_there, each, last_is, meta_there}

module _ (u : World) (key : List ℕ) (c : Command) (sound : Sound u) (can : CanAnswer u key c)
    (good : IsGood u.state (seen_of u) c) (p : PlanOf u c) where
  abbrev w : World
  w = next u key c sound can p

  abbrev mid : Image
  mid = with_filled p.fill p.told u.shelf

  abbrev ts : List Intent
  ts = written p.fill p.gone p.told

  abbrev bytes : List (List ℕ)
  bytes = bytes_in p.fill

  abbrev gone : List ℕ → Bool
  gone = clears u.state c

  brings : Brings u p.components p.records p.fill p.told mid ts
  brings = brought u key c sound can p

  -- what holds of the copy, of what lays sectors, of Clear and of Meta holds of each intent
  each_intent : (P : Intent → Type 0)
      → ((x : Stretch) → IsBrought u mid p.records x → P (copying x))
      → ((first : ℕ) (sectors : List (List ℕ)) → bytes ≡ sectors → (k : Component) → Has p.told k
      → IsLaidOn u mid p.records k first sectors
      → P (Dirty k.provider) × P (Patch k.provider first (first + length sectors)))
      → ((q : List ℕ) → Has p.gone q → P (Clear q))
      → ((k : Component) → Has p.told k → P (Meta k.provider)) → (t : Intent) → Has ts t → P t
  each_intent P copied laid = each p.gone p.told p.fill P (λ x e. copied x (brings.each x e))
      (λ first sectors e k h. laid first sectors (ap bytes_in e) k h
      (brings.laid first sectors e k h))

  -- ---- what the intents say

  cleared : (q : List ℕ) → Has p.gone q → gone q ≡ true
  cleared q h = sym (p.all_gone q)
      ∙ any_from (λ (x : List ℕ). same_label x q) p.gone q h (same_refl q)

  none_on : (q : List ℕ) → Has p.gone q
      → find (λ (k : Component). same_label k.provider q) p.components ≡ None
  none_on q g = find_none (λ (k : Component). same_label k.provider q) p.components
      (λ k h. differ k.provider q ((p.cleared q g).free k (registered u key c sound can p k h).0))

  zero : (q : List ℕ) → Has p.gone q → (j : ℕ) → is_last (u.size q) j ≡ true
      → w.shelf q j ≡ zeros
  zero q g j last = rw (last, none_on q g, cleared q g) refl

  -- the last sector of a component that is told says its metadata
  told_meta : (k : Component) → Has p.told k → (q : List ℕ) (j : ℕ)
      → (same_label k.provider q && is_last (u.size q) j) ≡ true
      → IsMeta p.records k.provider (w.shelf q j)
  told_meta k h q j e =
      let at = last_named u.size k.provider q j e in
      let i = p.told_are k h in (
        p.mirror,
        k,
        mine u key c sound can p k i,
        refl,
        subst (λ (a : List ℕ). is_last (u.size a) j ≡ true
            → w.shelf a j ≡ encoded (metadata p.mirror k)) at.0 (last_new u key c sound can p k i j)
            at.1,
      )

  abbrev SaysThere : Intent → Type 0
  SaysThere t = (q : List ℕ) (j : ℕ) → names u.size t q j ≡ true
      → Says p.records bytes w.shelf t j (w.shelf q j)

  says : (t : Intent) → Has ts t → SaysThere t
  says = each_intent SaysThere
      (λ x b q j e.
      let at = copied_at x.source x.target x.first x.end q j e in
      subst (λ (a : List ℕ). w.shelf a j ≡ w.shelf x.source j) at.0
      (rw (b.target j at.1 at.2, b.source j at.1 at.2) (b.same j at.1 at.2)))
      (λ first sectors e k h b. (
        told_meta k h,
        λ q j n.
            let parts = and_parts (same_label k.provider q)
            (nat_le first j && nat_lt j (first + length sectors)) n in
            let range = and_parts (nat_le first j) (nat_lt j (first + length sectors)) parts.1 in
            let low : first ≤ j = leb-true first j range.0 in
            let high : j < first + length sectors =
            ltb-true j (first + length sectors) range.1 in
            subst (λ (a : List ℕ). slice_get bytes (j - first) ≡ Some (w.shelf a j))
            (same_is k.provider q parts.0)
            (rw (b.inner j high, e) (b.laid j low high)),
      ))
      (λ q g a j e.
      let at = last_named u.size q a j e in
      zero a (subst (λ (x : List ℕ). Has p.gone x) at.0 g) j at.1)
      told_meta

  -- a last sector: of a component, or cleared, or as it was
  by_last : (P : List ℕ → Type 0) (q : List ℕ) (j : ℕ) → is_last (u.size q) j ≡ true
      → ((k : Component) → Has p.components k → is_last (u.size k.provider) j ≡ true
      → P k.provider) → (Has p.gone q → P q) → (w.shelf q j ≡ u.shelf q j → P q) → P q
  by_last P q j last one zero same =
      elim (option_cases (find (λ (k : Component). same_label k.provider q) p.components)) [
        | inl none ↦ elim (cases_Bool (gone q)) [
          | inl g ↦ zero (is_gone u key c sound can p q g)
          | inr g ↦ same (as_copied u key c sound can p q j none g)
        ]
        | inr some ↦
            let f = found (λ (k : Component). same_label k.provider q) p.components some.0
            some.1 in
            let at : some.0.provider ≡ q = same_is some.0.provider q f.1 in
            subst P at (one some.0 f.0
            (subst (λ (x : List ℕ). is_last (u.size x) j ≡ true) (sym at) last))
      ]

  agrees : (q : List ℕ) (j : ℕ) → is_place u.size ts q j ≡ false → u.shelf q j ≡ w.shelf q j
  agrees q j off =
      elim (cases_Bool (is_last (u.size q) j)) [
        | inr e ↦ rw e (sym (brings.kept q j (brings.named q j off)))
        | inl e ↦ by_last (λ q. is_place u.size ts q j ≡ false → u.shelf q j ≡ w.shelf q j) q j e
            (λ k h last off.
            ⊎_elim
            (λ (i : Has p.told k). not_both (is_place u.size ts k.provider j)
            (place_from u.size ts (Meta k.provider) k.provider j
            (meta_there p.gone p.told p.fill k i) (rw (same_refl k.provider, last) refl)) off)
            (λ (old : u.shelf k.provider (k.sectors - 1) ≡ encoded (metadata p.mirror k)).
            let at : j + 1 ≡ k.sectors =
            last_is (u.size k.provider) k.sectors j (size_of u key c sound can p k h) last in
            let j' : k.sectors - 1 ≡ j = omega arith in
            ap (u.shelf k.provider) (sym j') ∙ old
            ∙ sym (last_new u key c sound can p k h j last))
            (p.all_told k h))
            (λ g off. not_both (is_place u.size ts q j)
            (place_from u.size ts (Clear q) q j
            (clear_there p.gone p.told u p.mirror p.components p.fill p.can_fill q g)
            (rw (same_refl q, e) refl)) off)
            (λ same off. sym same) off
      ]

  -- what is neither a last sector of a component nor cleared nor filled is as it was
  others : (q : List ℕ) (j : ℕ) → is_changed u c w q j ≡ false → w.shelf q j ≡ u.shelf q j
  others q j off =
      let is_one : Component → Bool = λ k. same_label k.provider q && k.sectors == j + 1 in
      let first = or_parts (list_any is_one p.records.components)
      ((gone q && is_last (u.size q) j) || fills u.state c q j) off in
      let rest = or_parts (gone q && is_last (u.size q) j) (fills u.state c q j) first.1 in
      elim (cases_Bool (is_last (u.size q) j)) [
        | inr e ↦ rw e (brings.kept q j (p.filled q j ∙ rest.1))
        | inl e ↦ by_last (λ a. a ≡ q → w.shelf a j ≡ u.shelf a j) q j e
            (λ k h last at.
            let n : j + 1 ≡ k.sectors =
            last_is (u.size k.provider) k.sectors j (size_of u key c sound can p k h) last in
            not_both (list_any is_one p.records.components)
            (any_from is_one p.records.components k (registered u key c sound can p k h).0
            (rw (same_from k.provider q at, eq-eqb k.sectors (j + 1) (sym n)) refl)) first.0)
            (λ g at. not_both (gone q && is_last (u.size q) j) (rw (cleared q g, e) refl) rest.0)
            (λ same at. same) refl
      ]

  -- ---- the registry that keeps them

  is_component : (k : Component) → Has p.told k → component_of p.records k.provider ≡ Some k
  is_component k h = find_one provider p.records.components p.turns.state.components_in_order k
      (registered u key c sound can p k (p.told_are k h)).0

  one_readable : (t : Intent) → Has ts t → IsReadable p.records t
  one_readable = each_intent (IsReadable p.records) (λ x b. b.within)
      (λ first sectors e k h b. (rw (is_component k h) b.active, b.within))
      (λ q g. (
        (p.cleared q g).label,
        find_none (λ (k : Component). same_label k.provider q) p.records.components
            (λ k h. differ k.provider q ((p.cleared q g).free k h)),
      ))
      (λ k h none. let f : Some k ≡ None = sym (is_component k h) ∙ none in
      let z : ⊥ = cc in z)

  readable : AreReadable p.records bytes ts
  readable = record {
    sectors = brings.sectors;
    each = one_readable;
    one_copy = brings.one_copy;
    one_patch = brings.one_patch;
    ordered = brings.ordered;
  }

  told_there : (k : Component) → Has p.told k → IsSomeAnd (present u k.provider) (λ n. 0 < n)
  told_there k h = some_and (present u k.provider) k.sectors (λ n. 0 < n)
      (p.there k (p.told_are k h)) (some_sectors u key c sound can p k (p.told_are k h))

  at_hand : (t : Intent) → Has ts t → IsAtHand (present u) t
  at_hand = each_intent (IsAtHand (present u)) (λ x b. b.at_hand)
      (λ first sectors e k h b. (told_there k h, b.at_hand)) (λ q g. (p.cleared q g).there)
      told_there

  abbrev Own : Intent → Type 0
  Own (Meta q) = IsOwn p.records c q
  Own _ = Unit {0}

  own : (t : Intent) → Has ts t → Own t
  own = each_intent Own (λ x b. tt) (λ first sectors e k h b. (tt, tt)) (λ q g. tt)
      (λ k h. (
        k,
        subst (λ (o : Option (List ℕ)).
            Has (filter (λ j. is_member_of o j) p.records.components) k)
            (sym (p.named k (p.told_are k h)))
            (mine u key c sound can p k (p.told_are k h)).component,
        refl,
      ))

  -- what is copied to a component of before isn't its last sector, so that it stays
  copied : CopiesData u w ts
  copied a k o i e =
      let b = brings.mirrored a k o i e in
      (rw b.1 b.2, data_stay u key c sound can p b.0 a o.mirror i, b.3)

  there : AreThere p.records ts u.size
  there a k o touched = (sound_next u key c sound can p).sizes a k o

  planned : Plan u key c ts bytes w
  planned = record {
    step = record {
      good = λ r b. not_both (applies u.state (seen_of u) c r) b.met (good r b.listed);
      records = p.after_is;
      reply = refl;
      answered = refl;
      sizes = λ q. refl;
      there = λ q. refl;
      holds = data_after u key c sound can p;
      new = p.new w (λ i. rw (same_refl p.mirror.name) refl);
      held = (sound_next u key c sound can p).whole;
      full = (sound_next u key c sound can p).full;
      cleared = λ q j g last. zero q (is_gone u key c sound can p q g) j last;
      others = others;
    };
    sound = sound_next u key c sound can p;
    redo = record {
      says = says;
      lends = lent p.records u.size p.turns.state ts there bytes ts (λ t h. h) readable;
      clean = no_dirt_left [] ts brings.ordered;
      agrees = λ q there j off. agrees q j off;
    };
    order = in_order p.records u.size p.turns.state ts there ts one_readable (λ t h. h)
        brings.ordered;
    claims = claims_after u key c sound can p;
    readable = readable;
    at_hand = at_hand;
    own = λ q h. own (Meta q) h;
    copies = copied;
    bare = p.bare w refl;
  }

  pub has_plan : HasPlan u key c
  has_plan = (
    w,
    subst (λ (b : List (List ℕ)). Plan u key c (intents_of c u.state p.records) b w) p.bytes
        (subst (λ (l : List Intent). Plan u key c l bytes w) p.intents planned),
  )
