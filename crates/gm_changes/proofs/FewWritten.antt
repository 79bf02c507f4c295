-- How much a change writes: the components and the intents of one mirror.
use Rattle.gm_changes.proofs.Common.{◌≡◌, ◌∙◌, ℕ, ◌+◌, ◌*◌, ◌≤◌, not, refl, inl, inr, sym, ap, arith, List, [], ◌∷◌, Option, Some, None, flat_map, length, map, length-map, bytes_eq, same_label, Command, Label, Insert, Remove, Deactivate, Activate, Forget, Rebuild, Configure, Clear, Destroy, Lost, Advance, Adopt, Patch, Meta, Component, Has, Ascends, Distinct, without, option_cases, Has-map, filter-Has, differ, lt_differ, same_from, put_all_there, length-filter_le, length-filter_lt, one, Records, IsState, members, provider, mirror_of, component_of, is_active, source_of, rules_of, no_members, active_of, intents_of, metas, on_found, patching, Changed, PutsInPlace, changed_by}
use Rattle.gm_state.specs.declared.intents.Intent.{Intent}
use Rattle.gm_state.specs.declared.intents.Intent.TheVariants.{Clear as Clears}
use Rattle.gm_changes.proofs.MakesChange.{no_component}

-- names that differ are no more than the records among which each of them is one's name
pub names_among : {X : Type 0} (key : X → List ℕ) (names : List (List ℕ)) (xs : List X)
    → Distinct (λ (n : List ℕ). n) names
    → ((n : List ℕ) → Has names n → (x : X) × Has xs x × (key x ≡ n)) → length names ≤ length xs
names_among key [] xs apart h = omega arith
names_among {X = X} key (n ∷ names) xs apart h =
    let at = h n (inl refl) in
    let others : List X = without key n xs in
    let rest : length names ≤ length others =
    names_among key names others apart.1 (λ m i. let it = h m (inr i) in (
      it.0,
      filter-Has (λ (x : X). not (bytes_eq (key x) n)) xs it.0 it.1
          (ap not (differ (key it.0) n (λ e. apart.0 m i (sym e ∙ it.2)))),
      it.2,
    )) in
    let less : length others + 1 ≤ length xs =
    length-filter_lt (λ (x : X). not (bytes_eq (key x) n)) xs at.0 at.1
    (ap not (same_from (key at.0) n at.2)) in
    omega (arith, rest, less)

-- so records in order are no more than those among which each of them stands
keys_differ : {X : Type 0} (key : X → List ℕ) (xs : List X) → Ascends key xs
    → Distinct (λ (n : List ℕ). n) (map key xs)
keys_differ key [] a = tt
keys_differ key (x ∷ xs) a = (
  λ n h e. let at = Has-map key xs n h in
      lt_differ (key x) (key at.0) (a.0 at.0 at.1) (e ∙ sym at.2),
  keys_differ key xs a.1,
)

length_among : {X : Type 0} (key : X → List ℕ) (xs ys : List X) → Ascends key xs
    → ((x : X) → Has xs x → Has ys x) → length xs ≤ length ys
length_among key xs ys a h =
    let few : length (map key xs) ≤ length ys =
    names_among key (map key xs) ys (keys_differ key xs a) (λ n i.
    let at = Has-map key xs n i in (at.0, h at.0 at.1, at.2)) in
    let as_many : length (map key xs) ≡ length xs = length-map xs key in
    omega (arith, few, as_many)

-- a mirror has at most 16 components
pub few_members : (s : Records) → IsState s → (n : List ℕ) → length (members s.components n) ≤ 16
few_members s state n =
    elim (option_cases (mirror_of s n)) [
      | inl none ↦
          let bare : members s.components n ≡ [] =
          no_members s.components n (no_component s n state none) in
          rw bare (omega arith)
      | inr some ↦
          let rules = rules_of s n some.0 state some.1 in
          let room : length (members s.components n) ≤ some.0.all = rules.room in
          let all : some.0.all ≤ 16 = rules.all in
          omega (arith, room, all)
    ]

-- so at most 16 are put
pub few_put : (s : Records) (ch : Changed) → PutsInPlace s ch → IsState (changed_by ch s)
    → length ch.components ≤ 16
few_put s ch puts state = of_list ch.components refl
  where
    there : (k : Component) → Has ch.components k → Has (changed_by ch s).components k
    there k h = put_all_there provider ch.components _ k
        (λ x i e. one provider ch.components puts.once x k i h e) h

    of_list : (ks : List Component) → ch.components ≡ ks → length ks ≤ 16
    of_list [] e = omega arith
    of_list (k ∷ ks) e =
        let here : Has ch.components k = rw e (inl refl) in
        let own : List Component = members (changed_by ch s).components k.mirror in
        let among : length ch.components ≤ length own =
        length_among provider ch.components own puts.once
        (λ j h. filter-Has (λ (c : Component). same_label c.mirror k.mirror)
        (changed_by ch s).components j (there j h)
        (same_from j.mirror k.mirror (puts.of_one j k h here))) in
        let most : length own ≤ 16 =
        few_members (changed_by ch s) state k.mirror in
        let as_many : length ch.components ≡ length (k ∷ ks) = ap length e in
        omega (arith, among, most, as_many)

-- ---- what is written

few_metas : (s : Records) → IsState s → (n : List ℕ) → length (metas (members s.components n)) ≤ 16
few_metas s state n =
    let as_many : length (metas (members s.components n)) ≡ length (members s.components n) =
    length-map (members s.components n) (λ (k : Component). Meta k.provider) in
    let few : length (members s.components n) ≤ 16 = few_members s state n in
    omega (arith, as_many, few)

-- three for each component that is patched
length-patching : (first end : ℕ) (ks : List Component)
    → length (flat_map (patching first end) ks) ≡ 3 * length ks
length-patching first end [] = refl
length-patching first end (k ∷ ks) = let rest = length-patching first end ks in omega (arith, rest)

few_found : {X : Type 0} (o : Option X) (f : X → List Intent) → ((x : X) → length (f x) ≤ 48)
    → length (on_found o [] f) ≤ 48
few_found None f few = omega arith
few_found (Some x) f few = few x

-- at most three for each component that a mirror has
pub few_intents : (c : Command) (s t : Records) → IsState s → IsState t
    → length (intents_of c s t) ≤ 48
few_intents (Label new) s t before after = omega arith
few_intents (Insert new) s t before after = omega (arith, few_metas t after new.name)
few_intents (Remove n p) s t before after = omega (arith, few_metas t after n)
few_intents (Deactivate n p) s t before after = omega (arith, few_metas t after n)
few_intents (Activate n p) s t before after = omega arith
few_intents (Forget n) s t before after = omega (arith, few_metas t after n)
few_intents (Rebuild n p) s t before after = omega arith
few_intents (Configure n settings) s t before after = omega (arith, few_metas t after n)
few_intents (Clear p) s t before after = omega arith
few_intents (Destroy n) s t before after =
    let as_many = length-map (members s.components n) (λ (k : Component). Clears k.provider) in
    omega (arith, as_many, few_members s before n)
few_intents (Lost n ps) s t before after = omega (arith, few_metas t after n)
few_intents (Advance n p) s t before after =
    few_found (mirror_of s n) _ (λ m. few_found (component_of s p) _
    (λ k. few_found (source_of s p) _ (λ source. omega arith)))
few_intents (Adopt n ps) s t before after = omega (arith, few_metas t after n)
few_intents (Patch n first sectors) s t before after =
    let own : List Component = members t.components n in
    let three = length-patching first (first + length sectors) (active_of own) in
    let fewer : length (active_of own) ≤ length own =
    length-filter_le (λ (k : Component). is_active k.disk) own in
    let few : length own ≤ 16 = few_members t after n in
    omega (arith, three, fewer, few)
