-- What is pending comes of what was accepted: at rest, after a commit, and on the way.
use Rattle.gm_bench.proofs.Common.{◌≡◌, ◌∙◌, ◌≤◌, ◌-◌, ◌<◌, inl, inr, ℕ, Bool, true, false, refl, sym, ap, subst, arith, List, [], Option, Some, None, IsSome, list_any, and_parts, Image, SameThere, Intent, Meta, Clear, Copy, Dirty, Patch, Mirror, Component, name, component_of, IsOf, IsMeta, Says, AllSay, is_last, is_dirty_of, names, Has, World, Sound, Command, one, AreIntentsOf, InTurn, IsSeries, Keyed, calls_of, IsReadable, AreReadable, IsPartlyDone, last_named, placed_by, ComesOf, IsBetween, is_place, cases_Bool, encoded, metadata, Tables, Leads}
use Rattle.gm_rules.proofs.GrownRecords.{Grows}
use Rattle.gm_rules.proofs.SeriesTurns.{steps_in_turn, steps_sizes}
use Rattle.gm_bench.proofs.LossLists.{last_is, range_of}

-- a provider with a last sector has a size
pub has_last_there : (o : Option ℕ) (j : ℕ) → is_last o j ≡ true → IsSome o
has_last_there None j e = cc
has_last_there (Some n) j e = refl

-- ---- at rest

-- each mirror has the genid that it has
still_rises : (w : World) → Sound w → (a b : Mirror) → Has w.state.mirrors a
    → Has w.state.mirrors b → a.name ≡ b.name → a.genid ≤ b.genid
still_rises w sound a b h k e =
    let is : a ≡ b = one name w.state.mirrors sound.state.mirrors_in_order a b h k e in
    subst (λ (m : Mirror). a.genid ≤ m.genid) is (omega arith)

-- nothing is pending
pub rest_comes : (x : Image) (w : World) → Sound w → ComesOf [] x w w
rest_comes x w sound = record {
  losses = 0;
  begun = false;
  pending = refl;
  rises = still_rises w sound;
  lasts = λ q j last place. absurd (let f : ⊥ = cc in f);
}

-- nothing is pending any more
pub settled_comes : (ts : List Intent) (x : Image) (u w : World) → ComesOf ts x u w
    → ComesOf [] x u w
settled_comes ts x u w c = record {
  losses = 0;
  begun = false;
  pending = refl;
  rises = c.rises;
  lasts = λ q j last place. absurd (let f : ⊥ = cc in f);
}

-- ---- after a commit

-- a command is pending, or several advances, and the image is still that of before
pub turns_come : (u w : World) (c : Command) (keys : List Keyed) (ts : List Intent) (x : Image)
    → IsSeries c keys → InTurn u c keys w → Sound w → Grows u.state w.state
    → AreIntentsOf u c w ts → SameThere u.size x u.shelf → ComesOf ts x u w
turns_come u w c keys ts x series turns sound grown is same = record {
  losses = 0;
  begun = true;
  pending = record {
    command = c;
    keys = keys;
    series = series;
    stepped = w;
    turns = turns;
    sound = sound;
    state = refl;
    answered = refl;
    intents = is;
  };
  rises = λ a b h k e. (grown.mirrors a b h k e).genid;
  lasts = λ q j last place.
      let there : IsSome (u.size q) =
      subst (λ (o : Option ℕ). IsSome o)
      (steps_sizes u w (calls_of c keys) (steps_in_turn u w c keys turns) q)
      (has_last_there (w.size q) j last) in
      inl (refl, same q there j);
}

-- ---- on the way

module _ (ts : List Intent) (bytes : List (List ℕ)) (u w : World) (sound : Sound w)
    (readable : AreReadable w.state bytes ts)
    (rises : (a b : Mirror) → Has u.state.mirrors a → Has w.state.mirrors b → a.name ≡ b.name
    → a.genid ≤ b.genid) (begun : Bool) where
  -- a sector that says a component of w
  says_now : (q : List ℕ) (j : ℕ) (p : List ℕ) → p ≡ q → (x : List ℕ) → IsMeta w.state p x
      → IsBetween begun u w ts q j x
  says_now q j p at x (m, k, is, on, full) = inr (inr (record {
    mirror = m;
    component = k;
    is = is;
    on = on ∙ at;
    genid = m.genid;
    since = λ a h e. rises a m h is.mirror e;
    at_most = omega arith;
    says = inl full;
  }))

  -- data of a component don't reach its last sector
  no_data : (m : Mirror) (k : Component) → IsOf w.state m k → (j : ℕ) → j < m.data_sectors
      → is_last (w.size k.provider) j ≡ true → ⊥
  no_data m k is j low last =
      let at : j ≡ k.sectors - 1 =
      last_is (w.size k.provider) k.sectors j (sound.sizes m k is) last in
      let room = (sound.state.each m is.mirror).sizes k is.component in
      omega (arith, at, room, low)

  -- what an intent says of a last sector in the end
  said : (t : Intent) → Has ts t → (q : List ℕ) (j : ℕ) → is_last (w.size q) j ≡ true
      → names w.size t q j ≡ true → IsReadable w.state t → (x : List ℕ)
      → Says w.state bytes w.shelf t j x → IsBetween begun u w ts q j x
  said (Meta p) h q j last n is x says = says_now q j p (last_named w.size p q j n).0 x says
  said (Dirty p) h q j last n is x says = says_now q j p (last_named w.size p q j n).0 x says
  said (Clear p) h q j last n is x says =
      inr (inl (
        says,
        subst (λ (a : List ℕ). component_of w.state a ≡ None)
            (last_named w.size p q j n).0 is.1,
      ))
  said (Copy f t a b) h q j last n is x says =
      let range = range_of t a b q j n in
      let at : is.to.provider ≡ q = is.target_is ∙ range.0 in
      let within = is.within in
      let high = range.2 in
      absurd (no_data is.mirror is.to is.to_is j (omega (arith, within, high))
      (subst (λ (o : List ℕ). is_last (w.size o) j ≡ true) (sym at) last))
  said (Patch p a b) h q j last n is x says =
      let range = range_of p a b q j n in
      let at : is.on.provider ≡ q = is.provider_is ∙ range.0 in
      let within = is.within in
      let high = range.2 in
      absurd (no_data is.mirror is.on is.on_is j (omega (arith, within, high))
      (subst (λ (o : List ℕ). is_last (w.size o) j ≡ true) (sym at) last))

-- an image that the intents leave on the way comes of the same
pub partly_comes : (ts : List Intent) (bytes : List (List ℕ)) (u w : World) (d x : Image)
    → Sound w → AreReadable w.state bytes ts → AllSay w.state bytes w.size ts w.shelf
    → IsPartlyDone w.state w.size ts w.shelf d x → ComesOf ts d u w → ComesOf ts x u w
partly_comes ts bytes u w d x sound readable says part c = record {
  losses = c.losses;
  begun = c.begun;
  pending = c.pending;
  rises = c.rises;
  lasts = λ q j last place.
      let between : List ℕ → Type 0 = λ s. IsBetween c.begun u w ts q j s in
      elim (part.mix q j) [
        | inl old ↦ subst between (sym old) (c.lasts q j last place)
        | inr (inl new) ↦
            let by = placed_by w.size ts q j place in
            subst between (sym new.1)
            (said ts bytes u w sound readable c.rises c.begun by.0 by.1 q j last by.2
            (readable.each by.0 by.1) (w.shelf q j) (says by.0 by.1 q j by.2))
        | inr (inr (mark, (m, k, is, on, full))) ↦ inr (inr (record {
          mirror = m;
          component = k;
          is = is;
          on = on;
          genid = m.genid;
          since = λ a h e. c.rises a m h is.mirror e;
          at_most = omega arith;
          says = inr (
            (and_parts (list_any (is_dirty_of q) ts) (is_last (w.size q) j) mark).0,
            full,
          );
        }))
      ];
}

-- the last sector of a component is between the two worlds, whether it is written or not
pub component_between : (ts : List Intent) (bytes : List (List ℕ)) (u w : World) (y : Image)
    (t : Tables) → Leads t ts bytes y w → (c : ComesOf ts y u w) → (m : Mirror) (k : Component)
    → IsOf w.state m k → (q : List ℕ) → k.provider ≡ q → (j : ℕ) → is_last (w.size q) j ≡ true
    → IsBetween c.begun u w ts q j (y q j)
component_between ts bytes u w y t l c m k is q on j last = elim
    (cases_Bool (is_place w.size ts q j)) [
      | inl place ↦ c.lasts q j last place
      | inr off ↦
          let same : y q j ≡ w.shelf q j =
          l.redo.agrees q (has_last_there (w.size q) j last) j off in
          let at : j ≡ k.sectors - 1 = last_is (w.size q) k.sectors j
          (subst (λ (i : List ℕ). w.size i ≡ Some k.sectors) on (l.sound.sizes m k is)) last in
          inr (inr (record {
            mirror = m;
            component = k;
            is = is;
            on = on;
            genid = m.genid;
            since = λ a h e. c.rises a m h is.mirror e;
            at_most = omega arith;
            says = inl (same ∙ subst (λ (i : List ℕ). w.shelf i j ≡ encoded (metadata m k)) on
                (ap (w.shelf k.provider) at ∙ l.sound.full m k is));
          }))
    ]
