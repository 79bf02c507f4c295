-- A sound world that has any state, and of which facts are as far as a command that nothing refuses
-- asks them: so what holds of each plan holds of what is decided from a state and facts alone.
use Rattle.gm_rules.proofs.Common.{◌≡◌, ◌≢◌, ◌∙◌, ◌⊎◌, inl, inr, ⊎_elim, ℕ, zero, suc, ◌+◌, ◌-◌, ◌<◌, ◌≤◌, ◌==◌, ◌&&◌, nat_le, Bool, true, false, not, refl, sym, ap, ap₂, subst, arith, eq-eqb, eqb-true, List, [], ◌∷◌, Option, Some, None, unwrap_or, if◌then◌else◌, IsSomeAnd, list_any, bytes_eq, cases_Bool, eqb-false, ne_eqb, not-false, or_parts, nat_tests, Sizes, agree, same_label, encoded, Metadata, Member, Command, Label, Insert, Remove, Deactivate, Activate, Forget, Rebuild, Configure, Destroy, Lost, Advance, Adopt, CommandFits, Intent, Meta, Clear, Copy, Dirty, Patch, Mirror, Component, Has, put, put_all, Records, IsState, held_by, members, name, provider, mirror_of, component_of, metadata, metadata_of, IsOf, is_last, IsAtHand, World, Sound, ReplyFits, present, same_is, same_from, find_one, found_none, none_any, not_both, option_cases, some_any, put_all_or, Has-filter, filter-Has, Has-map, fact_of, size_in, last_in, equals_in, seen_in, has_size, own, is_listed, IsGood, awaited, is_awaited, is_member_of, looked_at, members_named, name_of, providers_of, source_in, data_of, has_twice, is_adoptable, adopted, adopted_mirror, last_of, seen_of, none_from, taken_name, after, intents_of, reply_to, IsItself, CanAnswer, HasPlan, answer}
use Rattle.std.proofs.Common.{leb-true, leb-false}
use Rattle.gm_commands.specs.declared.command.Command.TheVariants.{Clear}
use Rattle.gm_commands.specs.declared.command.Command.TheVariants as commands
use Rattle.gm_state.proofs.TestsTellRules.{member}
use Rattle.gm_refusals.specs.declared.facts.Fact.{Fact}
use Rattle.gm_refusals.specs.declared.refusals.Refusal.{Refusal}
use Rattle.gm_refusals.specs.declared.refusals.Refusal.TheVariants.{Absent, NameTaken, NotMember, NotAdoptable}
use Rattle.gm_refusals.proofs.Listed.{listed}
use Rattle.gm_refusals.proofs.SeenAlike.{SeeAlike, same_source}
use Rattle.gm_changes.proofs.DecidedInWorld.{AdoptAlike, AskAlike, asks_last, same_after, same_applies}
use Rattle.gm_rules.proofs.AdoptedState.{is_adopted, roomy, size_is}
use Rattle.gm_rules.proofs.EveryPlan.{every_plan}
use Rattle.gm_rules.proofs.FoundMembers.{IsAdoptable, adoptable, member_found}
use Rattle.gm_rules.proofs.RuledOut.{IsFree, awaited_there, has_size_is, is_free}
use Rattle.gm_rules.proofs.StepOfMirror.{held_within}

moved : (size size' : Sizes) → ((p : List ℕ) (n : ℕ) → size p ≡ Some n → size' p ≡ Some n)
    → (p : List ℕ) (P : ℕ → Type 0) → IsSomeAnd (size p) P → IsSomeAnd (size' p) P
moved size size' more p P h =
    elim (option_cases (size p)) [
      | inl none ↦ (let f : IsSomeAnd None P = subst (λ (o : Option ℕ). IsSomeAnd o P) none h in
          absurd f)
      | inr some ↦
          subst (λ (o : Option ℕ). IsSomeAnd o P) (sym (more p some.0 some.1))
          (subst (λ (o : Option ℕ). IsSomeAnd o P) some.1 h)
    ]

-- what is at hand by some sizes is at hand by sizes that have those
pub hand_moves : (size size' : Sizes)
    → ((p : List ℕ) (n : ℕ) → size p ≡ Some n → size' p ≡ Some n) → (t : Intent)
    → IsAtHand size t → IsAtHand size' t
hand_moves size size' more (Meta p) h = moved size size' more p (λ n. 0 < n) h
hand_moves size size' more (Clear p) h = moved size size' more p (λ n. 0 < n) h
hand_moves size size' more (Copy a b first end) h = (
  moved size size' more a (λ n. end ≤ n) h.0,
  moved size size' more b (λ n. end ≤ n) h.1,
)
hand_moves size size' more (Dirty p) h = moved size size' more p (λ n. 0 < n) h
hand_moves size size' more (Patch p first end) h = moved size size' more p (λ n. end ≤ n) h

-- ---- the world

-- a component has its registered size, and is there if the facts say so
abbrev size_by : Option Component → Option ℕ → Option ℕ
size_by None told = told
size_by (Some k) told = Some k.sectors

abbrev there_by : Option Component → Option ℕ → Bool
there_by None told = true
there_by (Some k) told = has_size told k.sectors

-- its last sector has its metadata; of another provider it is as the facts say
abbrev last_by : Option Metadata → List ℕ → List ℕ
last_by None told = told
last_by (Some d) told = encoded d

-- data are empty sectors, but for the first one that isn't equal by the facts
abbrev data_by : Option Component → ℕ → ℕ → List ℕ
data_by None equals i = if i == equals then 0 ∷ [] else []
data_by (Some k) equals i = []

listed_absent : (c : Command) → is_listed c Absent ≡ true
listed_absent (Label new) = refl
listed_absent (Insert new) = refl
listed_absent (Remove n p) = refl
listed_absent (Deactivate n p) = refl
listed_absent (Activate n p) = refl
listed_absent (Forget n) = refl
listed_absent (Rebuild n p) = refl
listed_absent (Configure n settings) = refl
listed_absent (Clear p) = refl
listed_absent (Destroy n) = refl
listed_absent (Lost n ps) = refl
listed_absent (Advance n p) = refl
listed_absent (Adopt n ps) = refl
listed_absent (commands.Patch n first sectors) = refl

and_false : (b : Bool) → (b && false) ≡ false
and_false true = refl
and_false false = refl

and_true : (b : Bool) → (b && true) ≡ b
and_true true = refl
and_true false = refl

le_told : (k e : ℕ) → k ≤ e → nat_le k e ≡ true
le_told k e l = grind (arith, nat_tests)

le_here : (k e : ℕ) → k ≡ e → nat_le (suc k) e ≡ (nat_le k e && false)
le_here k e is = let off : nat_le (suc k) e ≡ false = grind (arith, nat_tests) in
    off ∙ sym (and_false (nat_le k e))

le_past : (k e : ℕ) → k ≢ e → nat_le (suc k) e ≡ (nat_le k e && true)
le_past k e apart =
    let same : nat_le (suc k) e ≡ nat_le k e = elim (cases_Bool (nat_le k e)) [
      | inl t ↦ (let l : k ≤ e = leb-true k e t in
          let m : suc k ≤ e = omega (arith, l, apart) in
          let u : nat_le (suc k) e ≡ true = grind (arith, nat_tests) in u ∙ sym t)
      | inr t ↦ (let l : e < k = leb-false k e t in
          let u : nat_le (suc k) e ≡ false = grind (arith, nat_tests) in u ∙ sym t)
    ] in same ∙ sym (and_true (nat_le k e))

-- a sector of a provider
abbrev sector_by : Option Component → Option Metadata → Option ℕ → List ℕ → ℕ → ℕ → List ℕ
sector_by k d told last equals i =
    if is_last (size_by k told) i then last_by d last else data_by k equals i

module _ (s : Records) (facts : List Fact) where
  abbrev pub stand_in : World
  stand_in = record {
    state = s;
    holds = λ n i. [];
    answered = [];
    shelf = λ p i. sector_by (component_of s p) (metadata_of s p) (size_in facts p)
        (unwrap_or (last_in facts p) []) (equals_in facts p) i;
    size = λ p. size_by (component_of s p) (size_in facts p);
    there = λ p. there_by (component_of s p) (size_in facts p);
  }

  module _ (state : IsState s) where
    -- the component of a mirror is found on its provider, and says its metadata
    found_at : (k : Component) → Has s.components k → component_of s k.provider ≡ Some k
    found_at k h = find_one provider s.components state.components_in_order k h

    says : (m : Mirror) (k : Component) → IsOf s m k
        → metadata_of s k.provider ≡ Some (metadata m k)
    says m k o =
        let mine = member s m.name k o.component in
        let home : mirror_of s k.mirror ≡ Some m =
        subst (λ (n : List ℕ). mirror_of s n ≡ Some m) (sym mine.1)
        (find_one name s.mirrors state.mirrors_in_order m o.mirror) in
        rw (found_at k mine.0, home) refl

    pub sound : Sound stand_in
    sound = record {
      state = state;
      answers = record {
        count = omega arith;
        fit = λ a h. absurd h;
        numbers = tt;
        keys = λ a b h. absurd h;
      };
      sizes = λ m k o. rw (found_at k (member s m.name k o.component).0) refl;
      full = λ m k o.
          let rules = state.each m o.mirror in
          let some : m.data_sectors + 1 ≤ k.sectors = rules.sizes k o.component in
          let last : (k.sectors == k.sectors - 1 + 1) ≡ true =
          eq-eqb k.sectors (k.sectors - 1 + 1) (omega arith) in
          ap₂ (λ j d. sector_by j d (size_in facts k.provider)
          (unwrap_or (last_in facts k.provider) []) (equals_in facts k.provider) (k.sectors - 1))
          (found_at k (member s m.name k o.component).0) (says m k o)
          ∙ ap (λ b. if b then encoded (metadata m k) else []) last;
      whole = λ m k o i low.
          let rules = state.each m o.mirror in
          let some : m.data_sectors + 1 ≤ k.sectors = rules.sizes k o.component in
          let held : held_by k.disk m.data_sectors ≤ m.data_sectors =
          held_within k.disk m.data_sectors (rules.held k o.component) in
          let inner : (k.sectors == i + 1) ≡ false =
          ne_eqb k.sectors (i + 1) (λ e. omega (arith, e, low, held, some)) in
          ap (λ j. sector_by j (metadata_of s k.provider) (size_in facts k.provider)
          (unwrap_or (last_in facts k.provider) []) (equals_in facts k.provider) i)
          (found_at k (member s m.name k o.component).0)
          ∙ ap (λ b. if b then last_by (metadata_of s k.provider)
          (unwrap_or (last_in facts k.provider) []) else []) inner;
    }

    -- what is there in the world the facts say
    pub present_told : (p : List ℕ) (n : ℕ) → present stand_in p ≡ Some n → size_in facts p ≡ Some n
    present_told p n e =
        elim (option_cases (component_of s p)) [
          | inl none ↦ rw none at e
          | inr some ↦ elim (cases_Bool (has_size (size_in facts p) some.0.sectors)) [
            | inl t ↦
                let f : Some some.0.sectors ≡ Some n = rw (some.1, t) at e in
                has_size_is (size_in facts p) some.0.sectors (ap not t) ∙ f
            | inr t ↦ (let f : None ≡ Some n = rw (some.1, t) at e in absurd (let h : ⊥ = cc in h))
          ]
        ]

    -- ---- what is seen in it is what the facts say

    -- a component of its size is on the provider
    record IsHeld (p : List ℕ) : Type 0 where
      component : Component
      at : component_of s p ≡ Some component
      size : size_in facts p ≡ Some component.sectors

    free_size : (p : List ℕ) → IsFree s (seen_in facts) p → size_in facts p ≡ present stand_in p
    free_size p f = rw f.none refl

    held_size : (p : List ℕ) → IsHeld p → size_in facts p ≡ present stand_in p
    held_size p h =
        let same : (h.component.sectors == h.component.sectors) ≡ true =
        eq-eqb h.component.sectors h.component.sectors refl in
        rw (h.at, h.size, same) refl

    free_last : (p : List ℕ) → IsFree s (seen_in facts) p → last_in facts p ≡ last_of stand_in p
    free_last p f =
        elim (option_cases (fact_of facts p)) [
          | inl none ↦
              let e : None ≡ Some f.sectors = rw none at f.size in
              absurd (let h : ⊥ = cc in h)
          | inr fact ↦
              let e : Some fact.0.sectors ≡ Some f.sectors = rw fact.1 at f.size in
              let same : fact.0.sectors ≡ f.sectors = cc in
              let many : 2 ≤ f.sectors = f.some in
              let apart : (fact.0.sectors == 0) ≡ false =
              ne_eqb fact.0.sectors 0 (λ z. omega (arith, z, same, many)) in
              let last : (fact.0.sectors == fact.0.sectors - 1 + 1) ≡ true =
              eq-eqb fact.0.sectors (fact.0.sectors - 1 + 1) (omega (arith, same, many)) in
              rw (f.none, fact.1, apart, last) refl
        ]

    -- the components that a command waits for are there
    held_awaited : (c : Command) → IsGood s (seen_in facts) c → (k : Component)
        → Has (awaited s c) k → IsHeld k.provider
    held_awaited c good k h =
        let named = Has-filter (λ (j : Component). is_awaited c j) (members_named s c) k h in
        let all = Has-filter (λ (j : Component). is_member_of (name_of c) j) s.components k
        named.0 in
        record {
          component = k;
          at = found_at k all.0;
          size = awaited_there s (seen_in facts) c good (listed_absent c) k h;
        }

    -- a command looks at free providers, or at those of components, and then it asks nothing of
    -- what last sectors say
    abbrev Looks : Command → Type 0
    Looks c = ((p : List ℕ) → Has (looked_at c) p → IsFree s (seen_in facts) p)
        ⊎ (((p : List ℕ) → Has (looked_at c) p → IsHeld p) × (list_any asks_last (own c) ≡ false))

    on_members : (c : Command) → IsGood s (seen_in facts) c → looked_at c ≡ providers_of c
        → is_listed c NotMember ≡ true → ((k : Component) → is_awaited c k ≡ true)
        → list_any asks_last (own c) ≡ false → Looks c
    on_members c good same listed waits off = inr (
      λ p h.
          let some = some_any (λ (k : Component). same_label k.provider p) (members_named s c)
          (not-false _ (none_any (λ q. not (list_any (λ k. same_label k.provider q)
          (members_named s c))) (providers_of c) (or_parts (has_twice (providers_of c)) _
          (good NotMember listed)).1 p (subst (λ (ps : List (List ℕ)). Has ps p) same h))) in
          subst IsHeld (same_is some.0.provider p some.2)
          (held_awaited c good some.0 (filter-Has (λ (j : Component). is_awaited c j)
          (members_named s c) some.0 some.1 (waits some.0))),
      off,
    )

    looks : (c : Command) → IsGood s (seen_in facts) c → Looks c
    looks (Label new) good = inl (is_free s (seen_in facts) (Label new) good refl refl refl refl)
    looks (Insert new) good = inl (is_free s (seen_in facts) (Insert new) good refl refl refl refl)
    looks (Remove n p) good = on_members (Remove n p) good refl refl (λ k. refl) refl
    looks (Deactivate n p) good = on_members (Deactivate n p) good refl refl (λ k. refl) refl
    looks (Activate n p) good = on_members (Activate n p) good refl refl (λ k. refl) refl
    looks (Forget n) good = inr (λ p h. absurd h, refl)
    looks (Rebuild n p) good = on_members (Rebuild n p) good refl refl (λ k. refl) refl
    looks (Configure n settings) good =
        on_members (Configure n settings) good refl refl (λ k. refl) refl
    looks (Clear p) good = inl (is_free s (seen_in facts) (Clear p) good refl refl refl refl)
    looks (Destroy n) good = inr (λ p h. absurd h, refl)
    looks (Lost n ps) good = inr (λ p h. absurd h, refl)
    looks (Advance n p) good = on_members (Advance n p) good refl refl (λ k. refl) refl
    looks (Adopt n ps) good =
        inl (is_free s (seen_in facts) (Adopt n ps) good refl refl refl refl)
    looks (commands.Patch n first sectors) good = inr (λ p h. absurd h, refl)

    alike : (c : Command) → IsGood s (seen_in facts) c → Looks c → (r : Refusal) → Has (own c) r
        → AskAlike s c (seen_in facts) (seen_of stand_in) r
    alike c good (inl free) r h = record {
      size = λ p i. free_size p (free p i);
      mirror = λ k i. held_size k.provider (held_awaited c good k i);
      last = λ asks p i. free_last p (free p i);
    }
    alike c good (inr held) r h = record {
      size = λ p i. held_size p (held.0 p i);
      mirror = λ k i. held_size k.provider (held_awaited c good k i);
      last = λ asks p i.
          not_both (asks_last r) asks (none_any asks_last (own c) held.1 r h);
    }

    good_in : (c : Command) → IsGood s (seen_in facts) c → IsGood s (seen_of stand_in) c
    good_in c good r h =
        sym (same_applies s c (seen_in facts) (seen_of stand_in) r
        (alike c good (looks c good) r (listed c r h))) ∙ good r h

    -- ---- so the command has a plan there

    module _ (c : Command) (fits : CommandFits c) (good : IsGood s (seen_in facts) c) where
      abbrev pub key : List ℕ
      key = 97 ∷ []

      can : CanAnswer stand_in key c
      can = record {
        key_ok = refl;
        free = λ a h e. h;
        room = omega arith;
        fits = fits;
      }

      pub plan : HasPlan stand_in key c
      plan = every_plan stand_in key c sound can (good_in c good)

      pub planned : AdoptAlike (seen_in facts) (seen_of stand_in) c
          → plan.0.state ≡ after (seen_in facts) c s
      planned adopts =
          plan.1.step.records
          ∙ sym (same_after (seen_in facts) (seen_of stand_in) c s
          (alike c good (looks c good) Absent (listed c Absent (listed_absent c))).size adopts)

      state_by : AdoptAlike (seen_in facts) (seen_of stand_in) c
          → IsState (after (seen_in facts) c s)
      state_by adopts = subst IsState (planned adopts) plan.1.sound.state

      hand_by : AdoptAlike (seen_in facts) (seen_of stand_in) c → (t : Intent)
          → Has (intents_of c s (after (seen_in facts) c s)) t → IsAtHand (size_in facts) t
      hand_by adopts t h =
          hand_moves (present stand_in) (size_in facts) present_told t
          (plan.1.at_hand t (subst (λ (r : Records). Has (intents_of c s r) t)
          (sym (planned adopts)) h))

    -- ---- an adoption

    -- a sector of data of a free provider
    free_data : (p : List ℕ) (f : IsFree s (seen_in facts) p) (i : ℕ) → i + 1 < f.sectors
        → stand_in.shelf p i ≡ data_by None (equals_in facts p) i
    free_data p f i low =
        let inner : (f.sectors == i + 1) ≡ false =
        ne_eqb f.sectors (i + 1) (λ e. omega (arith, e, low)) in
        ap₂ (λ j o. sector_by j (metadata_of s p) o (unwrap_or (last_in facts p) [])
        (equals_in facts p) i) f.none f.size
        ∙ ap (λ b. if b then last_by (metadata_of s p) (unwrap_or (last_in facts p) [])
        else data_by None (equals_in facts p) i) inner

    -- the world's first sectors are equal exactly when the facts say so
    agree_told : (b p : List ℕ) (d : ℕ) (from : IsFree s (seen_in facts) b)
        (to : IsFree s (seen_in facts) p) → d < from.sectors
        → d < to.sectors → d ≤ equals_in facts b → (k : ℕ) → k ≤ d
        → nat_le k (equals_in facts p) ≡ agree stand_in.shelf b p k
    agree_told b p d from to l m all zero low = le_told 0 (equals_in facts p) (omega arith)
    agree_told b p d from to l m all (suc k) low =
        let below : suc k ≤ d = low in
        let earlier = agree_told b p d from to l m all k (omega (arith, below)) in
        let off : (k == equals_in facts b) ≡ false =
        ne_eqb k (equals_in facts b) (λ e. omega (arith, e, below, all)) in
        let source : stand_in.shelf b k ≡ [] =
        free_data b from k (omega (arith, below, l))
        ∙ ap (λ t. if t then 0 ∷ [] else []) off in
        let target = free_data p to k (omega (arith, below, m)) in
        elim (cases_Bool (k == equals_in facts p)) [
          | inl t ↦ le_here k (equals_in facts p) (eqb-true k (equals_in facts p) t)
              ∙ ap₂ (λ a z. a && z) earlier
              (sym (ap₂ bytes_eq source (target ∙ ap (λ z. if z then 0 ∷ [] else []) t)))
          | inr t ↦ le_past k (equals_in facts p) (eqb-false k (equals_in facts p) t)
              ∙ ap₂ (λ a z. a && z) earlier
              (sym (ap₂ bytes_eq source (target ∙ ap (λ z. if z then 0 ∷ [] else []) t)))
        ]

    module _ (n : List ℕ) (ps : List (List ℕ)) (good : IsGood s (seen_in facts) (Adopt n ps)) where
      adopt_free : (p : List ℕ) → Has ps p → IsFree s (seen_in facts) p
      adopt_free = is_free s (seen_in facts) (Adopt n ps) good refl refl refl refl

      fit : is_adoptable (seen_in facts) n ps ≡ true
      fit = not-false _ (good NotAdoptable refl)

      adoption : (b : Member) × IsAdoptable (seen_in facts) n ps b
      adoption = adoptable (seen_in facts) n ps fit

      room_free : (p : List ℕ) (h : Has ps p)
          → data_of adoption.0.metadata < (adopt_free p h).sectors
      room_free p h =
          let room : data_of adoption.0.metadata < (adoption.1.each p h).sectors =
          (adoption.1.each p h).room in
          let one : size_in facts p ≡ Some (adoption.1.each p h).sectors =
          (adoption.1.each p h).size_is in
          let two : size_in facts p ≡ Some (adopt_free p h).sectors = (adopt_free p h).size in
          let same : (adoption.1.each p h).sectors ≡ (adopt_free p h).sectors = cc in
          omega (arith, room, same)

      see_alike : SeeAlike (seen_in facts) (seen_of stand_in) ps
      see_alike = record {
        size = λ p h. free_size p (adopt_free p h);
        last = λ p h. free_last p (adopt_free p h);
      }

      -- the source is one of the providers
      source_listed : Has ps adoption.0.provider
      source_listed =
          let o = member_found (seen_in facts) ps adoption.0 adoption.1.one in
          let at : adoption.0.provider ≡ o.at = ap (λ (k : Member). k.provider) o.is
          ∙ taken_name (seen_in facts) o.at o.entry o.taken_is in
          subst (λ (p : List ℕ). Has ps p) (sym at) o.listed

      pub adopts : IsItself (seen_in facts) (Adopt n ps)
          → AdoptAlike (seen_in facts) (seen_of stand_in) (Adopt n ps)
      adopts itself = (
        see_alike,
        λ b from p h k low.
            let is : source_in (seen_in facts) ps ≡ Some b =
            same_source (seen_in facts) (seen_of stand_in) ps see_alike ∙ from in
            let was : source_in (seen_in facts) ps ≡ Some adoption.0 = adoption.1.source in
            let same : adoption.0 ≡ b = cc in
            let all : data_of adoption.0.metadata ≤ equals_in facts adoption.0.provider =
            leb-true _ _ (itself fit adoption.0 was) in
            let low' : k ≤ data_of adoption.0.metadata =
            subst (λ (m : Member). k ≤ data_of m.metadata) (sym same) low in
            subst (λ (m : Member). nat_le k (equals_in facts p)
            ≡ agree stand_in.shelf m.provider p k) same
            (agree_told adoption.0.provider p (data_of adoption.0.metadata)
            (adopt_free adoption.0.provider source_listed) (adopt_free p h)
            (room_free adoption.0.provider source_listed) (room_free p h) all k low'),
      )

      abbrev adopting_after : Member → Records
      adopting_after b = record {
        mirrors = put name (adopted_mirror n b.metadata) s.mirrors;
        components = put_all provider (adopted (seen_in facts) n ps b) s.components;
      }

      -- its components are on the providers that it names, whatever is equal
      after_is : after (seen_in facts) (Adopt n ps) s ≡ adopting_after adoption.0
      after_is = rw adoption.1.source refl

      pub adopt_hand : (t : Intent)
          → Has (intents_of (Adopt n ps) s (after (seen_in facts) (Adopt n ps) s)) t
          → IsAtHand (size_in facts) t
      adopt_hand t h =
          let among = subst (λ (r : Records). Has (intents_of (Adopt n ps) s r) t) after_is h in
          let of = Has-map (λ (k : Component). Meta k.provider)
          (members (adopting_after adoption.0).components n) t among in
          let k : Component = of.0 in
          let mine = Has-filter (λ (j : Component). same_label j.mirror n)
          (adopting_after adoption.0).components k of.1 in
          subst (IsAtHand (size_in facts)) of.2
          (⊎_elim
          (λ (new : Has (adopted (seen_in facts) n ps adoption.0) k).
          let is = is_adopted (seen_in facts) n ps adoption.0 adoption.1 k new in
          let size : size_in facts k.provider ≡ Some k.sectors =
          size_is (seen_in facts) n ps adoption.0 adoption.1 k is in
          let many : data_of adoption.0.metadata + 1 ≤ k.sectors =
          roomy (seen_in facts) n ps adoption.0 adoption.1 k is in
          let some : 0 < k.sectors = omega (arith, many) in
          subst (λ (o : Option ℕ). IsSomeAnd o (λ z. 0 < z)) (sym size) some)
          (λ (old : Has s.components k).
          let home = state.homes k old in
          absurd (not_both (same_label home.0.name n)
          (same_from home.0.name n (home.2 ∙ same_is k.mirror n mine.1))
          (found_none (λ (m : Mirror). same_label m.name n) s.mirrors
          (none_from (mirror_of s n) (good NameTaken refl)) home.0 home.1)))
          (put_all_or provider (adopted (seen_in facts) n ps adoption.0) s.components k mine.0))

-- ---- what holds of each command

adopts_or : (s : Records) (facts : List Fact) (c : Command)
    → AdoptAlike (seen_in facts) (seen_of (stand_in s facts)) c
    ⊎ ((n : List ℕ) × (ps : List (List ℕ)) × (c ≡ Adopt n ps))
adopts_or s facts (Adopt n ps) = inr (n, ps, refl)
adopts_or s facts _ = inl tt

adopts_itself : (s : Records) (facts : List Fact) (state : IsState s) (c : Command)
    → IsGood s (seen_in facts) c → IsItself (seen_in facts) c
    → AdoptAlike (seen_in facts) (seen_of (stand_in s facts)) c
adopts_itself s facts state (Adopt n ps) good itself = adopts s facts state n ps good itself
adopts_itself s facts state _ good itself = tt

-- The providers of what a command has written are there by the facts, if none of its refusals
-- applies.
pub hand_told : (s : Records) (facts : List Fact) (c : Command) → IsState s → CommandFits c
    → IsGood s (seen_in facts) c → (t : Intent)
    → Has (intents_of c s (after (seen_in facts) c s)) t → IsAtHand (size_in facts) t
hand_told s facts c state fits good =
    ⊎_elim
    (λ (a : AdoptAlike (seen_in facts) (seen_of (stand_in s facts)) c).
    hand_by s facts state c fits good a)
    (λ (a : (n : List ℕ) × (ps : List (List ℕ)) × (c ≡ Adopt n ps)).
    subst (λ (d : Command). (t : Intent) → Has (intents_of d s (after (seen_in facts) d s)) t
    → IsAtHand (size_in facts) t) (sym a.2)
    (adopt_hand s facts state a.0 a.1 (subst (IsGood s (seen_in facts)) a.2 good)))
    (adopts_or s facts c)

-- And what it makes of a state is one.
pub state_told : (s : Records) (facts : List Fact) (c : Command) → IsState s → CommandFits c
    → IsGood s (seen_in facts) c → IsItself (seen_in facts) c
    → IsState (after (seen_in facts) c s)
state_told s facts c state fits good itself =
    state_by s facts state c fits good (adopts_itself s facts state c good itself)

-- And the reply to it is in range.
pub reply_told : (s : Records) (facts : List Fact) (c : Command) → IsState s → CommandFits c
    → IsGood s (seen_in facts) c → ReplyFits (reply_to c s)
reply_told s facts c state fits good =
    let it = plan s facts state c fits good in
    let step = it.1.step in
    (it.1.sound.answers.fit (answer (stand_in s facts) (key s facts state c fits good) c
    (reply_to c s)) (rw step.answered (inl refl))).reply
