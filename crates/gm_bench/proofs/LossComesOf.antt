-- What is pending after a loss comes of what was accepted.
use Rattle.gm_bench.proofs.Common.{◌≡◌, ◌≢◌, ◌∙◌, inl, inr, ⊎_elim, ℕ, suc, ◌+◌, ◌≤◌, true, false, refl, sym, ap, subst, arith, List, Option, list_any, Image, Sizes, same_label, encoded, Intent, Meta, Clear, Copy, Dirty, Patch, Mirror, Component, members, name, metadata, dirty_metadata, IsOf, is_last, is_dirty_of, is_place, names, Has, World, member, one, any_from, some_any, not_both, found_none, find_none, Has-append, Has-append_left, last_named, place_from, placed_by, same_is, differ, metas, Tables, Leads, ComesOf, IsBetween, of_genid, remaining, pending_after, as_left}
use Rattle.gm_bench.proofs.ComesOf.{component_between}
use Rattle.gm_bench.proofs.LossReadable.{IsLoss, home}
use Rattle.gm_bench.proofs.LossRemaining.{has_meta, has_remaining, names_none, remaining_has, same_names}

module _ (u w v : World) (m : Mirror) (p next : List ℕ) (loss : IsLoss w v m p) (ts : List Intent)
    (bytes : List (List ℕ)) (y away : Image) (before : Tables) (l : Leads before ts bytes y w)
    (c : ComesOf ts y u w) where
  abbrev others : List Component
  others = members v.state.components m.name

  abbrev after : List Intent
  after = pending_after p next ts others

  abbrev world : World
  world = as_left v p away

  same_size : (q : List ℕ) → v.size q ≡ w.size q
  same_size q = λ i. loss.sizes i q

  rises : (a b : Mirror) → Has u.state.mirrors a → Has v.state.mirrors b → a.name ≡ b.name
      → a.genid ≤ b.genid
  rises a b h k e = elim (loss.mirrors b k) [
    | inl is ↦
        let low : a.genid ≤ m.genid =
        c.rises a m h loss.here (e ∙ ap (λ (x : Mirror). x.name) is) in
        let high : b.genid ≡ m.genid + 1 = ap (λ (x : Mirror). x.genid) is in
        omega (arith, low, high)
    | inr was ↦ c.rises a b h was.1 e
  ]

  -- what marks a provider that isn't lost still does
  still_marks : (q : List ℕ) → q ≢ p → (t : Intent) → Has ts t → is_dirty_of q t ≡ true
      → list_any (is_dirty_of q) after ≡ true
  still_marks q apart (Meta a) h e = cc
  still_marks q apart (Clear a) h e = cc
  still_marks q apart (Copy f t a b) h e = cc
  still_marks q apart (Patch a b d) h e = cc
  still_marks q apart (Dirty a) h e =
      let off : same_label a p ≡ false = differ a p (λ s. apart (sym (same_is a q e) ∙ s)) in
      any_from (is_dirty_of q) after (Dirty a) (Has-append_left (remaining p next ts) (metas others)
      (Dirty a) (remaining_has p next ts (Dirty a) h off)) e

  -- a component of w that isn't lost is one of v, whose mirror is the same but for its genid
  stays : (n : Mirror) (k : Component) → IsOf w.state n k → k.provider ≢ p
      → (a : Mirror) × IsOf v.state a k × (a.name ≡ n.name) × (n.genid ≤ a.genid)
      × ((g : ℕ) → of_genid g a ≡ of_genid g n)
  stays n k of apart =
      let was = member w.state n.name k of.component in
      let at = home v.state loss.sound.state k (loss.stay k was.0 apart) in
      let named : at.0.name ≡ n.name =
      sym (member v.state at.0.name k at.1.component).1 ∙ was.1 in
      let order = l.sound.state.mirrors_in_order in
      elim (loss.mirrors at.0 at.1.mirror) [
        | inl is ↦
            let one_is : m ≡ n = one name w.state.mirrors order m n loss.here of.mirror
            (sym (ap (λ (x : Mirror). x.name) is) ∙ named) in
            let high : at.0.genid ≡ m.genid + 1 = ap (λ (x : Mirror). x.genid) is in
            let same : m.genid ≡ n.genid = ap (λ (x : Mirror). x.genid) one_is in (
              at.0,
              at.1,
              named,
              omega (arith, high, same),
              λ g. ap (of_genid g) is ∙ ap (of_genid g) one_is,
            )
        | inr old ↦
            let one_is : at.0 ≡ n =
            one name w.state.mirrors order at.0 n old.1 of.mirror named in
            let same : at.0.genid ≡ n.genid = ap (λ (x : Mirror). x.genid) one_is in
            (at.0, at.1, named, omega (arith, same), λ g. ap (of_genid g) one_is)
      ]

  -- what is between u and w is between u and the world of the loss
  still : (q : List ℕ) (j : ℕ) (x : List ℕ) → q ≢ p → IsBetween c.begun u w ts q j x
      → IsBetween c.begun u world after q j x
  still q j x apart (inl old) = inl old
  still q j x apart (inr (inl (wiped, none))) = inr (inl (
    wiped,
    find_none (λ (k : Component). same_label k.provider q) v.state.components (λ k h.
        found_none (λ (i : Component). same_label i.provider q) w.state.components none k
        (loss.components k h).0),
  ))
  still q j x apart (inr (inr s)) =
      let at = stays s.mirror s.component s.is (λ e. apart (sym s.on ∙ e)) in
      let risen = at.3 in
      let low = s.at_most in
      inr (inr (record {
        mirror = at.0;
        component = s.component;
        is = at.1;
        on = s.on;
        genid = s.genid;
        since = λ a h e. s.since a h (e ∙ at.2);
        at_most = omega (arith, risen, low);
        says = elim s.says [
          | inl says ↦ inl (says
              ∙ ap (λ (n : Mirror). encoded (metadata n s.component)) (sym (at.4 s.genid)))
          | inr (mark, says) ↦
              let by = some_any (is_dirty_of q) ts mark in
              inr (
                still_marks q apart by.0 by.1 by.2,
                says
                    ∙ ap (λ (n : Mirror). encoded (dirty_metadata n s.component))
                    (sym (at.4 s.genid)),
              )
        ];
      }))

  -- a place of before is between u and the world of the loss
  old_place : (q : List ℕ) (j : ℕ) → q ≢ p → is_last (v.size q) j ≡ true
      → is_place v.size ts q j ≡ true → IsBetween c.begun u world after q j (y q j)
  old_place q j apart last place =
      still q j (y q j) apart (c.lasts q j
      (subst (λ (o : Option ℕ). is_last o j ≡ true) (same_size q) last)
      (subst (λ (z : Sizes). is_place z ts q j ≡ true) loss.sizes place))

  -- so is the last sector of a component of the mirror
  own_place : (k : Component) → Has others k → (q : List ℕ) (j : ℕ) → k.provider ≡ q
      → is_last (v.size q) j ≡ true → IsBetween c.begun u world after q j (y q j)
  own_place k h q j on last =
      let at = member v.state m.name k h in
      let in_w = loss.components k at.0 in
      let of = home w.state l.sound.state k in_w.0 in
      let last_w : is_last (w.size q) j ≡ true =
      subst (λ (o : Option ℕ). is_last o j ≡ true) (same_size q) last in
      still q j (y q j) (λ e. in_w.1 (on ∙ e))
      (component_between ts bytes u w y before l c of.0 k of.1 q on j last_w)

  lasts : (q : List ℕ) (j : ℕ) → is_last (v.size q) j ≡ true → is_place v.size after q j ≡ true
      → IsBetween c.begun u world after q j (y q j)
  lasts q j last place =
      let by = placed_by v.size after q j place in
      ⊎_elim
      (λ (g : Has (remaining p next ts) by.0).
      let was = has_remaining p next ts by.0 g in
      let named : names v.size was.0 q j ≡ true =
      sym (same_names p next v.size was.0 q j)
      ∙ (ap (λ (t : Intent). names v.size t q j) was.3 ∙ by.2) in
      let apart : q ≢ p = λ e. not_both (names v.size was.0 p j)
      (subst (λ (i : List ℕ). names v.size was.0 i j ≡ true) e named)
      (names_none p next v.size was.0 j was.2) in
      old_place q j apart last (place_from v.size ts was.0 q j was.1 named))
      (λ (g : Has (metas others) by.0).
      let k = has_meta p next others by.0 g in
      let named : names v.size (Meta k.0.provider) q j ≡ true =
      ap (λ (t : Intent). names v.size t q j) k.2 ∙ by.2 in
      own_place k.0 k.1 q j (last_named v.size k.0.provider q j named).0 last)
      (Has-append (remaining p next ts) (metas others) by.0 by.1)

  pub loss_comes : ComesOf after y u world
  loss_comes = record {
    losses = suc c.losses;
    begun = c.begun;
    pending = (
      w,
      ts,
      c.pending,
      record {
        sound = l.sound;
        key = loss.key;
        name = m.name;
        provider = p;
        next = next;
        stepped = v;
        reply = loss.reply;
        step = loss.step;
        sound_after = loss.sound;
        state = refl;
        answered = refl;
        intents = refl;
      },
    );
    rises = rises;
    lasts = lasts;
  }
