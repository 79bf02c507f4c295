-- If no image claims to be a component that it isn't, each that carries a mirror's metadata is
-- registered as one, and the other way round.
use Rattle.std.proofs.Common.{◌≡◌, ◌∙◌, ◌⊎◌, inl, inr, ⊎_elim, ℕ, ◌<◌, ◌≤◌, ◌==◌, ◌++◌, nat_lt, Bool, true, false, refl, sym, ap, subst, arith, List, [], ◌∷◌, flat_map, Option, Some, None, eq-eqb}
use Rattle.std.proofs.lemmas.Bool.{cases_Bool, lt-ltb, le-ltb}
use Rattle.std.proofs.lemmas.Bool.Decides.{nat_tests}
use Rattle.std.specs.List.{filter_map, list_all}
use Rattle.gm_metadata.specs.Images.{Image, Sizes, same_label}
use Rattle.gm_metadata.specs.declared.metadata.Metadata.{Metadata}
use Rattle.gm_lists.specs.Ordered.{Has}
use Rattle.gm_lists.proofs.Finding.{Has-append_left, Has-append_right, find_one, found, option_cases}
use Rattle.gm_lists.proofs.Lists.{Has-filter_map, filter-Has, filter_map-Has}
use Rattle.gm_lists.proofs.Order.{same_from, same_is}
use Rattle.gm_lists.proofs.Sorting.{all_has, has_all}
use Rattle.gm_state.specs.declared.records.Mirror.{Mirror}
use Rattle.gm_state.specs.declared.records.Component.{Component}
use Rattle.gm_state.specs.Intents.{IsOf}
use Rattle.gm_state.specs.Lookups.{component_of, mirror_of}
use Rattle.gm_state.specs.Records.{IsState, Records, name, provider}
use Rattle.gm_state.proofs.TestsTellRules.{member}
use Rattle.gm_taste.specs.declared.provider.Provider.{Provider}
use Rattle.gm_taste.specs.declared.tasted.Group.{Group}
use Rattle.gm_taste.specs.declared.tasted.Member.{Member}
use Rattle.gm_taste.specs.declared.tasted.Tasted.{Tasted}
use Rattle.gm_taste.specs.States.{state_of}
use Rattle.gm_taste.specs.Tasted.{SaysOf}
use Rattle.gm_taste.specs.Verdicts.{verdict}
use Rattle.gm_shelf.specs.LastSector.{last_of}
use Rattle.gm_looks.specs.Shown.{IsTastedOn}
use Rattle.gm_looks.proofs.Listed.{some_other}
use Rattle.gm_unlike.specs.Claims.{AreClaims, AreRegistered, Carries, claim_of, claims_in, is_component_of, named_mirror}
use Rattle.gm_unlike.specs.declared.claims.Claim.{Claim}

-- ---- lists of lists

flat_map-Has : {X Y : Type 0} (f : X → List Y) (xs : List X) (x : X) (y : Y) → Has xs x
    → Has (f x) y → Has (flat_map f xs) y
flat_map-Has f [] x y h k = absurd h
flat_map-Has {X} {Y} f (z ∷ zs) x y (inl s) k =
    Has-append_left (f z) (flat_map f zs) y (subst (λ (w : X). Has (f w) y) (sym s) k)
flat_map-Has f (z ∷ zs) x y (inr h) k =
    Has-append_right (f z) (flat_map f zs) y (flat_map-Has f zs x y h k)

Has-append : {Y : Type 0} (xs ys : List Y) (y : Y) → Has (xs ++ ys) y → Has xs y ⊎ Has ys y
Has-append [] ys y h = inr h
Has-append (x ∷ xs) ys y (inl s) = inl (inl s)
Has-append (x ∷ xs) ys y (inr h) =
    ⊎_elim (λ (k : Has xs y). inl (inr k)) (λ (k : Has ys y). inr k) (Has-append xs ys y h)

Has-flat_map : {X Y : Type 0} (f : X → List Y) (xs : List X) (y : Y) → Has (flat_map f xs) y
    → (x : X) × Has xs x × Has (f x) y
Has-flat_map f [] y h = absurd h
Has-flat_map f (x ∷ xs) y h =
    ⊎_elim (λ (k : Has (f x) y). (x, inl refl, k))
    (λ (k : Has (flat_map f xs) y). let r = Has-flat_map f xs y k in (r.0, inr r.1, r.2))
    (Has-append (f x) (flat_map f xs) y h)

-- ---- providers

abbrev provider_of : List ℕ → ℕ → List ℕ → Provider
provider_of p n l = record { name = p; sectors = n; last = l }

same_provider : (r q : Provider) → r.name ≡ q.name → r.sectors ≡ q.sectors → r.last ≡ q.last → r ≡ q
same_provider r q e f g =
    ap (λ p. provider_of p r.sectors r.last) e ∙ ap (λ n. provider_of q.name n r.last) f
    ∙ ap (λ l. provider_of q.name q.sectors l) g

module _ (s : Records) (state : IsState s) (size : Sizes) (seen : Image) (t : Tasted)
    (tasted : IsTastedOn size seen t) where
  -- ---- mirrors and components

  -- metadata with the name and the number of a mirror name it
  mirror_named : (m : Mirror) (x : Metadata) → Has s.mirrors m → x.name ≡ m.name → x.mid ≡ m.mid
      → named_mirror s x ≡ Some m
  mirror_named m x has same mid =
      let is : mirror_of s x.name ≡ Some m =
      subst (λ p. mirror_of s p ≡ Some m) (sym same)
      (find_one name s.mirrors state.mirrors_in_order m has) in
      rw (is, eq-eqb m.mid x.mid (sym mid)) refl

  -- the other way round
  record IsNamed (m : Mirror) (x : Metadata) : Type 0 where
    pub has : Has s.mirrors m
    pub same : x.name ≡ m.name
    pub mid : x.mid ≡ m.mid

  named_by : (m : Mirror) (x : Metadata) → named_mirror s x ≡ Some m → IsNamed m x
  named_by m x e =
      elim (option_cases (mirror_of s x.name)) [
        | inl none ↦ absurd (let no = rw none at e in let z : ⊥ = cc in z)
        | inr some ↦
            let n = some.0 in
            let is = found (λ (m : Mirror). same_label m.name x.name) s.mirrors n some.1 in
            elim (cases_Bool (n.mid == x.mid)) [
              | inl numbered ↦
                  let both : Some n ≡ Some m = rw (some.1, numbered) at e in
                  let one : n ≡ m = cc in
                  subst (λ (m : Mirror). IsNamed m x) one
                  (record {
                    has = is.0;
                    same = sym (same_is n.name x.name is.1);
                    mid = let same : n.mid ≡ x.mid = grind (arith, nat_tests) in sym same;
                  })
              | inr other ↦ absurd (let no = rw (some.1, other) at e in let z : ⊥ = cc in z)
            ]
      ]

  component_if : (m : Mirror) (p : List ℕ) → Has s.mirrors m
      → is_component_of s p m.name ≡ true → (k : Component) × IsOf s m k × (k.provider ≡ p)
  component_if m p has e =
      elim (option_cases (component_of s p)) [
        | inl none ↦ absurd (let no : false ≡ true = rw none at e in let z : ⊥ = cc in z)
        | inr some ↦
            let k = some.0 in
            let is = found (λ (c : Component). same_label c.provider p) s.components k some.1 in
            let home : same_label k.mirror m.name ≡ true = rw some.1 at e in (
              k,
              record {
                mirror = has;
                component = filter-Has (λ (c : Component). same_label c.mirror m.name) s.components
                    k is.0 home;
              },
              same_is k.provider p is.1,
            )
      ]

  is_component : (m : Mirror) (k : Component) (p : List ℕ) → IsOf s m k → k.provider ≡ p
      → is_component_of s p m.name ≡ true
  is_component m k p of same =
      let mine = member s m.name k of.component in
      let is : component_of s p ≡ Some k =
      subst (λ q. component_of s q ≡ Some k) same
      (find_one provider s.components state.components_in_order k mine.0) in
      rw is (same_from k.mirror m.name mine.1)

  -- ---- members

  -- what an image of the shelf is taken to say is told of as a member
  record IsMemberOf (g : Group) (y : Member) (p : List ℕ) (x : Metadata) : Type 0 where
    pub group : Has t.groups.items g
    pub has : Has g.members.items y
    pub provider : y.provider ≡ p
    pub metadata : y.metadata ≡ x

  told : (p : List ℕ) (x : Metadata) → Carries size seen p x
      → (g : Group) × (y : Member) × IsMemberOf g y p x
  told p x carries =
      let q = carries.image in
      let shown = tasted.1 in
      let there = shown.all q.name q.sectors carries.shown.sectors_are in
      let r = there.0 in
      let is = shown.each r there.1 in
      let sectors : r.sectors ≡ q.sectors =
      some_other (size q.name) r.sectors q.sectors
      (subst (λ n. size n ≡ Some r.sectors) there.2 is.sectors_are) carries.shown.sectors_are in
      let last : r.last ≡ q.last =
      is.last_is ∙ (ap (λ n. last_of r.sectors (seen n)) there.2
      ∙ (ap (λ n. last_of n (seen q.name)) sectors ∙ sym carries.shown.last_is)) in
      let same : r ≡ q = same_provider r q there.2 sectors last in
      let says : SaysOf tasted.0 p x =
      (r, there.1, there.2 ∙ carries.name_is, ap verdict same ∙ carries.says) in
      let group = tasted.2.all_in_groups p x says in
      let g = group.0 in
      let y : Member = record {
        provider = p;
        metadata = x;
        state = state_of g.genid g.syncid x;
      } in (
        g,
        y,
        record {
          group = group.1;
          has = ((tasted.2.groups_are g group.1).members_are y).1 (record {
            says = says;
            name_is = sym group.2;
            mid_is = sym group.3;
            state_is = refl;
          });
          provider = refl;
          metadata = refl;
        },
      )

  -- and a member is an image of the shelf
  carried : (g : Group) (y : Member) → Has t.groups.items g → Has g.members.items y
      → Carries size seen y.provider y.metadata
  carried g y in_t in_g =
      let is = ((tasted.2.groups_are g in_t).members_are y).0 in_g in
      record {
        image = is.says.0;
        name_is = is.says.2;
        shown = tasted.1.each is.says.0 is.says.1;
        says = is.says.3;
      }

  -- ---- claims

  registered : list_all (λ (c : Claim). c.is_given_up) (claims_in s t) ≡ true
      → AreRegistered s size seen
  registered given_up m p x has carries same mid newer =
      let found = told p x carries in
      let g = found.0 in
      let y = found.1 in
      let is = found.2 in
      let mirror : named_mirror s y.metadata ≡ Some m =
      ap (named_mirror s) is.metadata ∙ mirror_named m x has same mid in
      elim (cases_Bool (is_component_of s y.provider m.name)) [
        | inl there ↦
            component_if m p has
            (ap (λ q. is_component_of s q m.name) (sym is.provider) ∙ there)
        | inr elsewhere ↦
            let claim : Claim = record {
              provider = y.provider;
              mirror = m.name;
              is_given_up = nat_lt y.metadata.genid m.genid;
            } in
            let claimed : claim_of s y ≡ Some claim = rw (mirror, elsewhere) refl in
            let in_all : Has (claims_in s t) claim =
            flat_map-Has (λ (g : Group). filter_map (claim_of s) g.members.items) t.groups.items g
            claim is.group
            (filter_map-Has (claim_of s) g.members.items y claim is.has claimed) in
            let older : nat_lt y.metadata.genid m.genid ≡ true =
            all_has (λ (c : Claim). c.is_given_up) (claims_in s t) given_up claim in_all in
            let its : y.metadata.genid ≡ x.genid = ap (λ (d : Metadata). d.genid) is.metadata in
            let not_older : nat_lt y.metadata.genid m.genid ≡ false =
            le-ltb y.metadata.genid m.genid (omega (arith, its, newer)) in
            let no : true ≡ false = sym older ∙ not_older in
            absurd (let z : ⊥ = cc in z)
      ]

  given_up : AreRegistered s size seen
      → list_all (λ (c : Claim). c.is_given_up) (claims_in s t) ≡ true
  given_up registered =
      has_all (λ (c : Claim). c.is_given_up) (claims_in s t) (λ c has.
      let in_group = Has-flat_map (λ (g : Group). filter_map (claim_of s) g.members.items)
      t.groups.items c has in
      let g = in_group.0 in
      let of = Has-filter_map (claim_of s) g.members.items c in_group.2 in
      let y = of.0 in
      one_given_up g y c in_group.1 of.1 of.2)
    where
      one_given_up : (g : Group) (y : Member) (c : Claim) → Has t.groups.items g
          → Has g.members.items y → claim_of s y ≡ Some c → c.is_given_up ≡ true
      one_given_up g y c in_t in_g e =
          elim (option_cases (named_mirror s y.metadata)) [
            | inl none ↦ absurd (let no = rw none at e in let z : ⊥ = cc in z)
            | inr some ↦
                let m = some.0 in
                let is = named_by m y.metadata some.1 in
                elim (cases_Bool (is_component_of s y.provider m.name)) [
                  | inl there ↦ absurd (let no = rw (some.1, there) at e in let z : ⊥ = cc in z)
                  | inr elsewhere ↦
                      let made : Some (record {
                        provider = y.provider;
                        mirror = m.name;
                        is_given_up = nat_lt y.metadata.genid m.genid;
                      }) ≡ Some c = rw (some.1, elsewhere) at e in
                      let same : nat_lt y.metadata.genid m.genid ≡ c.is_given_up = cc in
                      elim (cases_Bool (nat_lt y.metadata.genid m.genid)) [
                        | inl older ↦ sym same ∙ older
                        | inr newer ↦
                            let k = registered m y.provider y.metadata is.has
                            (carried g y in_t in_g) is.same is.mid
                            (let up : m.genid ≤ y.metadata.genid = grind (arith, nat_tests) in up)
                            in
                            let registered_there = is_component m k.0 y.provider k.1 k.2 in
                            absurd (let z : true ≡ false = sym registered_there ∙ elsewhere in
                            let n : ⊥ = cc in n)
                      ]
                ]
          ]

-- ---- the images of a shelf

pub none_claim : (s : Records) (size : Sizes) (seen : Image) (claims : List Claim) → IsState s
    → AreClaims s size seen claims → list_all (λ (c : Claim). c.is_given_up) claims ≡ true
    → AreRegistered s size seen
none_claim s size seen claims state are given =
    registered s state size seen are.0 are.1
    (subst (λ (l : List Claim). list_all (λ (c : Claim). c.is_given_up) l ≡ true) are.2 given)

pub all_given_up : (s : Records) (size : Sizes) (seen : Image) (claims : List Claim) → IsState s
    → AreClaims s size seen claims → AreRegistered s size seen
    → list_all (λ (c : Claim). c.is_given_up) claims ≡ true
all_given_up s size seen claims state are registered =
    subst (λ (l : List Claim). list_all (λ (c : Claim). c.is_given_up) l ≡ true) (sym are.2)
    (given_up s state size seen are.0 are.1 registered)
