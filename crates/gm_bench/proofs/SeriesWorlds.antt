-- What is planned of a command is planned of all its calls, from a world.
use Rattle.gm_bench.proofs.Common.{◌≡◌, ◌≢◌, ◌∙◌, ◌⊎◌, inl, inr, ⊎_elim, ℕ, suc, true, ◌+◌, ◌<◌, ◌≤◌, refl, sym, ap, subst, subst₂, arith, List, [], ◌∷◌, ◌++◌, length, map, length-map, length-append, string_bytes, Some, Has, one, filter-Has, find_one, same_from, Command, Advance, Intent, Meta, Clear, Copy, Dirty, Patch, Records, IsState, IsOf, Mirror, Component, CommandFits, Has-push, same_label, Sizes, name, provider, member, mirror_of, put, Tables, HoldRecords, World, Answered, Sound, is_key, IsFree, Changed, changed_by, intents_of, Plan, CanAnswer, HasPlan, every_plan, Keyed, SeriesPlan, answered_on, calls_of, keyed_in, keyed_of, Planned, IsPlanned, Cover, ArePlanned, AreFresh, IsStretchedBy, CanGoOn, calls_under, count_of}
use Rattle.std.proofs.lemmas.List.{map-append}
use Rattle.gm_state.proofs.FoundRecords.{named}
use Rattle.gm_changes.specs.After.{advanced, reach}
use Rattle.gm_changes.specs.declared.change.Further.{Further}
use Rattle.gm_changes.specs.Stretches.{IsUnfilled, copied_to, stretch_reply, stretched}
use Rattle.gm_rules.specs.AbstractCalls.{Call}
use Rattle.gm_rules.proofs.SeriesGoesOn.{stretch_plan}
use Rattle.gm_rules.proofs.SeriesOfOne.{one_plan}
use Rattle.gm_rules.proofs.SeriesTurns.{steps_answered, steps_in_turn, turns_rows}
use Rattle.gm_bench.proofs.CallAnswers.{as_many, free_key}
use Rattle.gm_bench.proofs.PartCovers.{covers_after}
use Rattle.gm_bench.proofs.StretchedBy.{StandsIn, begins, component_there, made_already, mirror_there, over, stands_once}
use Rattle.gm_rules.proofs.StretchedState.{stretched_has, stretched_is, stretched_keeps}

-- ---- what is planned under one key

module _ (u : World) (key : List ℕ) (c : Command) (p : Planned) (sound : Sound u)
    (planned : IsPlanned u c p) (can : CanAnswer u key c) where
  abbrev has_plan : HasPlan u key c
  has_plan = every_plan u key c sound can planned.makes.good

  abbrev pub world : World
  world = has_plan.0

  are : intents_of c u.state world.state ≡ p.change.intents
  are = ap (intents_of c u.state) has_plan.1.step.records ∙ sym planned.makes.intents

  plan : Plan u key c p.change.intents p.change.bytes world
  plan = subst₂ (λ (l : List Intent) (b : List (List ℕ)). Plan u key c l b world) are
      (sym planned.makes.bytes) has_plan.1

  -- it is a series of one
  pub series : SeriesPlan u key c p.change world
  series = one_plan u world key c p.change sound can planned.makes plan

  -- the part of the records covers it
  pub cover : Cover p.work.part world.state p.change.intents
  cover = subst (λ (x : Records). Cover x world.state p.change.intents) (sym planned.is)
      (covers_after c planned.part u.state world.state p.change planned.leaves
      series.records plan.sound.state p.change.intents plan.own)

  pub planned_once : ArePlanned u key c p
  planned_once = record {
    world = world;
    plan = series;
    intents = planned.intents;
    bytes = planned.bytes;
    cover = cover;
  }

-- ---- the keys

-- what is answered was answered before, or is answered under one of these keys
answered_or : (c : Command) (ks : List Keyed) (old : List Answered) (a : Answered)
    → Has (answered_on old c ks) a → Has old a ⊎ Has (map (λ (k : Keyed). k.key) ks) a.key
answered_or c [] old a h = inl h
answered_or c (k ∷ ks) old a h =
    let new : Answered =
    record { key = k.key; command = c; number = length old + 1; reply = k.reply } in
    ⊎_elim (λ (i : Has (new ∷ old) a). ⊎_elim
    (λ (e : new ≡ a). inr (inl (ap (λ (x : Answered). x.key) e))) (λ (was : Has old a). inl was) i)
    (λ i. inr (inr i)) (answered_or c ks (new ∷ old) a h)

-- the calls of a change are those under its first key and its further ones
pub calls_are : (c : Command) (fs : List Further) → calls_of c (map keyed_of fs)
    ≡ calls_under c (map (λ (f : Further). string_bytes f.key) fs)
calls_are c [] = refl
calls_are c (f ∷ fs) =
    ap (λ (l : List Call). record { key = string_bytes f.key; command = c } ∷ l) (calls_are c fs)

-- ---- what goes on under further keys

-- the records with the next stretch of a component
abbrev with_stretch : Mirror → Component → Records → Records
with_stretch m k s = record {
  mirrors = s.mirrors;
  components = put provider (advanced m k) s.components;
}

-- a copy that ends elsewhere brings no other write of metadata
same_metas : (end : ℕ) (ts : List Intent) (q : List ℕ) → Has (copied_to end ts) (Meta q)
    → Has ts (Meta q)
same_metas end [] q h = h
same_metas end (Copy a b first was ∷ ts) q (inl e) = let no : ⊥ = cc in absurd no
same_metas end (Copy a b first was ∷ ts) q (inr h) = inr h
same_metas end (Meta p ∷ ts) q h = h
same_metas end (Clear p ∷ ts) q h = h
same_metas end (Dirty p ∷ ts) q h = h
same_metas end (Patch p first last ∷ ts) q h = h

module _ (m : Mirror) (k : Component) (part all : Records) (state : IsState all)
    (here : Has all.mirrors m) (there : Has all.components k) (home : k.mirror ≡ m.name)
    (too : Has part.mirrors m) (then : IsState (with_stretch m k part)) where
  -- what covers the records covers them after one more stretch
  covers_on : (ts : List Intent) → Cover part all ts
      → Cover (with_stretch m k part) (with_stretch m k all) (copied_to (reach m k) ts)
  covers_on ts covers = record {
    state = then;
    metas = λ q h n j of at.
        ⊎_elim (λ (e : j ≡ advanced m k).
        let named : j.mirror ≡ n.name = (member (with_stretch m k all) n.name j of.component).1 in
        let same : m ≡ n = one name all.mirrors state.mirrors_in_order m n here of.mirror
        (sym home ∙ (sym (ap (λ (c : Component). c.mirror) e) ∙ named)) in
        subst (λ (a : Mirror). IsOf (with_stretch m k part) a j) same
        (subst (λ (c : Component). IsOf (with_stretch m k part) m c) (sym e)
        (stretched_has part m k too home)))
        (λ (o : IsOf all n j × (j.provider ≢ k.provider)).
        stretched_keeps part m n k j
        (covers.metas q (same_metas (reach m k) ts q h) n j o.0 at) o.1)
        (stretched_is all m n k j state here there home of);
  }

module _ (u : World) (key n p : List ℕ) (part : Records) (m : Mirror) (t : Tables)
    (sound : Sound u) (holds : HoldRecords u t) (fits : CommandFits (Advance n p)) where
  -- The change has gone on under the keys that are taken, with room for so many more, and the part
  -- of the records covers the world that it takes u to.
  pub record GoesIn (taken : List (List ℕ)) (left : ℕ) (ch : Changed) (w : World) : Type 0 where
    pub plan : SeriesPlan u key (Advance n p) ch w
    pub cover : Cover (changed_by ch part) w.state ch.intents
    pub stands : StandsIn part m ch
    pub at : mirror_of w.state n ≡ Some m
    pub keys : (k : List ℕ) → Has (map (λ (x : Keyed). x.key) (keyed_in key ch)) k → Has taken k
    pub room : length u.answered + length (keyed_in key ch) + left ≤ 100000

  module _ (taken : List (List ℕ)) (left : ℕ) (ch : Changed) (w : World)
      (it : GoesIn taken (suc left) ch w) (k : Component) (f : Further) (un : IsUnfilled ch k)
      (reply : f.reply ≡ stretch_reply m k) where
    -- the command can be answered under one more key
    can_again : is_key (string_bytes f.key) ≡ true → IsFree t (string_bytes f.key)
        → (Has taken (string_bytes f.key) → ⊥) → CanAnswer w (string_bytes f.key) (Advance n p)
    can_again ok free none = record {
      key_ok = ok;
      free = λ a h e.
          ⊎_elim (λ (was : Has u.answered a).
          free_key u t sound holds (string_bytes f.key) (Advance n p) free a was e)
          (λ (i : Has (map (λ (x : Keyed). x.key) (keyed_in key ch)) a.key).
          none (subst (Has taken) e (it.keys a.key i)))
          (answered_or (Advance n p) (keyed_in key ch) u.answered a
          (subst (λ (l : List Answered). Has l a)
          (turns_rows u w (Advance n p) (keyed_in key ch) it.plan.turns) h));
      room =
          (let many : length (calls_of (Advance n p) (keyed_in key ch)) ≡ length (keyed_in key ch) =
          length-map (keyed_in key ch) _ in
          let all : length w.answered
          ≡ length (calls_of (Advance n p) (keyed_in key ch)) + length u.answered =
          steps_answered u w (calls_of (Advance n p) (keyed_in key ch))
          (steps_in_turn u w (Advance n p) (keyed_in key ch) it.plan.turns) in
          let room : length u.answered + length (keyed_in key ch) + suc left ≤ 100000 = it.room in
          omega arith);
      fits = fits;
    }

    module _ (can : CanAnswer w (string_bytes f.key) (Advance n p)) where
      abbrev ch' : Changed
      ch' = stretched m k f ch

      next : (z : World) × SeriesPlan u key (Advance n p) ch' z
      next = stretch_plan u w key n p ch m k f sound it.plan it.at un reply can

      -- the records of the world after it
      after_it : next.0.state ≡ with_stretch m k w.state
      after_it = sym next.1.records
          ∙ (over u.state ch m k f it.stands.puts un ∙ ap (with_stretch m k) it.plan.records)

      stands_still : StandsIn part m ch'
      stands_still = stands_once part m ch k f it.stands un

      -- the part covers it
      covers_it : Cover (changed_by ch' part) next.0.state ch'.intents
      covers_it =
          subst₂ (λ (a b : Records). Cover a b ch'.intents)
          (sym (over part ch m k f it.stands.puts un)) (sym after_it)
          (covers_on m k (changed_by ch part) w.state it.plan.sound.state
          (named w.state n m it.at).0
          (subst (λ (s : Records). Has s.components k) it.plan.records
          (component_there u.state ch k un)) (it.stands.home k un.alone) it.stands.mirror
          (subst IsState (over part ch m k f it.stands.puts un) stands_still.state) ch.intents
          it.cover)

      -- its keys
      keys_are : keyed_in key ch' ≡ keyed_in key ch ++ keyed_of f ∷ []
      keys_are = ap (λ (l : List Keyed). record { key = key; reply = ch.reply } ∷ l)
          (map-append keyed_of ch.further (f ∷ []))

      goes_once : GoesIn (string_bytes f.key ∷ taken) left ch' next.0
      goes_once = record {
        plan = next.1;
        cover = covers_it;
        stands = stands_still;
        at = subst (λ (s : Records). mirror_of s n ≡ Some m) (sym after_it) it.at;
        keys = λ x h.
            let h' : Has (map (λ (y : Keyed). y.key) (keyed_in key ch)
            ++ string_bytes f.key ∷ []) x =
            subst (λ (l : List (List ℕ)). Has l x)
            (ap (map (λ (y : Keyed). y.key)) keys_are
            ∙ map-append (λ (y : Keyed). y.key) (keyed_in key ch) (keyed_of f ∷ [])) h in
            ⊎_elim (λ (old : Has (map (λ (y : Keyed). y.key) (keyed_in key ch)) x).
            inr (it.keys x old)) (λ (e : string_bytes f.key ≡ x). inl e)
            (Has-push (map (λ (y : Keyed). y.key) (keyed_in key ch)) (string_bytes f.key) x h');
        room =
            (let more : length (keyed_in key ch') ≡ length (keyed_in key ch) + 1 =
            ap length keys_are ∙ length-append (keyed_in key ch) (keyed_of f ∷ []) in
            let room : length u.answered + length (keyed_in key ch) + suc left ≤ 100000 =
            it.room in omega arith);
      }

  -- the change takes the world to another, which the part of the records covers then
  abbrev pub LeadsOn : Changed → Type 0
  LeadsOn ch = (z : World) × SeriesPlan u key (Advance n p) ch z
      × Cover (changed_by ch part) z.state ch.intents

  -- it goes on under all the keys, if they are free in turn
  pub goes_in_turn : (ks taken : List (List ℕ)) (a b : Changed) (w : World)
      → GoesIn taken (length ks) a w → AreFresh t taken ks → IsStretchedBy m ks a b
      → LeadsOn b
  goes_in_turn [] taken a b w it fresh is =
      subst LeadsOn (sym is) (w, it.plan, it.cover)
  goes_in_turn (x ∷ ks) taken a b w it fresh is =
      let k : Component = is.0 in
      let f : Further = is.1 in
      let same : string_bytes f.key ≡ x = is.3.0 in
      let it' : GoesIn taken (suc (length ks)) a w = it in
      let can : CanAnswer w (string_bytes f.key) (Advance n p) =
      can_again taken (length ks) a w it' k f is.2 is.3.1
      (subst (λ (y : List ℕ). is_key y ≡ true) (sym same) fresh.0)
      (subst (IsFree t) (sym same) fresh.1)
      (λ h. fresh.2 (subst (Has taken) same h)) in
      goes_in_turn ks (x ∷ taken) (stretched m k f a) b _
      (subst (λ (y : List ℕ). GoesIn (y ∷ taken) (length ks) (stretched m k f a)
      (next taken (length ks) a w it' k f is.2 is.3.1 can).0) same
      (goes_once taken (length ks) a w it' k f is.2 is.3.1 can)) fresh.3 is.4

-- ---- from what is planned under the first

module _ (size : Sizes) (u : World) (key n p : List ℕ) (planned : Planned) (m : Mirror)
    (t : Tables) (sound : Sound u) (holds : HoldRecords u t)
    (is : IsPlanned u (Advance n p) planned) (can : CanAnswer u key (Advance n p))
    (may : CanGoOn size planned.work.part planned.change m) (named_so : m.name ≡ n) where
  abbrev w : World
  w = world u key (Advance n p) planned sound is can

  first : SeriesPlan u key (Advance n p) planned.change w
  first = series u key (Advance n p) planned sound is can

  -- the mirror is the world's
  at_first : mirror_of w.state n ≡ Some m
  at_first =
      let k : Component = may.component in
      let there : Has w.state.components k = subst (λ (s : Records). Has s.components k)
      first.records (component_there u.state planned.change k may.unfilled) in
      let a = first.sound.state.homes k there in
      let called : a.0.name ≡ m.name = a.2 ∙ may.own in
      let of : IsOf w.state a.0 k = record {
        mirror = a.1;
        component = filter-Has (λ (c : Component). same_label c.mirror a.0.name) w.state.components
            k there (same_from k.mirror a.0.name (sym a.2));
      } in
      let in_part : IsOf planned.work.part a.0 k = subst (λ (s : Records). IsOf s a.0 k) (sym is.is)
      (is.leaves.own a.0 k (subst (λ (s : Records). IsOf s a.0 k) (sym first.records) of)
      (ap Some (sym named_so ∙ sym called))) in
      let same : a.0 ≡ m = one name planned.work.part.mirrors may.state.mirrors_in_order a.0 m
      in_part.mirror (mirror_there size planned.work.part planned.change m may) called in
      subst (λ (l : List ℕ). mirror_of w.state l ≡ Some m) named_so
      (find_one name w.state.mirrors first.sound.state.mirrors_in_order m
      (subst (Has w.state.mirrors) same a.1))

  -- it begins to go on
  pub begins_in : (left : ℕ) → count_of t + left < 100000
      → GoesIn u key n p planned.work.part m t sound holds can.fits (key ∷ []) left planned.change w
  begins_in left room = record {
    plan = first;
    cover = subst (λ (s : Records). Cover s w.state planned.change.intents)
        (sym (made_already size planned.work.part planned.change m may))
        (cover u key (Advance n p) planned sound is can);
    stands = begins size planned.work.part planned.change m may;
    at = at_first;
    keys = λ x h. subst (λ (fs : List Further).
        Has (map (λ (y : Keyed). y.key)
        (record { key = key; reply = planned.change.reply } ∷ map keyed_of fs)) x)
        is.makes.once h;
    room =
        (let many : count_of t ≡ length u.answered =
        as_many u t sound holds key (Advance n p) in
        let one : length (keyed_in key planned.change) ≡ 1 =
        ap (λ (fs : List Further). length
        (record { key = key; reply = planned.change.reply } ∷ map keyed_of fs)) is.makes.once in
        omega arith);
  }
