-- What entries tell of a mirror's components, if each has its source and names its first.
use Rattle.std.proofs.Common.{◌≡◌, ◌≢◌, ◌∙◌, ◌↔◌, inl, inr, ⊎_elim, ℕ, ◌<◌, ◌≤◌, true, false, refl, sym, ap, subst, arith, List, [], ◌∷◌, Option, Some, None, map}
use Rattle.std.proofs.lemmas.Bool.{cases_Bool, cases_order}
use Rattle.std.specs.Option.{option_map_or, unwrap_or}
use Rattle.gm_metadata.specs.Images.{Image, Sizes, same_label}
use Rattle.gm_lists.specs.Ordered.{Has, Ascends}
use Rattle.gm_lists.proofs.Finding.{find_one, found, option_cases}
use Rattle.gm_lists.proofs.Lists.{map-Has}
use Rattle.gm_lists.proofs.Order.{lt_irrefl, same_is}
use Rattle.gm_state.specs.declared.records.Mirror.{Mirror}
use Rattle.gm_state.specs.declared.records.Component.{Component}
use Rattle.gm_state.specs.Intents.{IsOf}
use Rattle.gm_state.specs.Lookups.{component_of, mirror_of}
use Rattle.gm_state.specs.Records.{IsState, Records, name, provider}
use Rattle.gm_state.specs.Sources.{GoesFirst, IsBest, goes_first, source_of}
use Rattle.gm_state.proofs.FoundSource.{source_of_is}
use Rattle.gm_state.proofs.TestsTellRules.{member}
use Rattle.gm_apply.specs.EqualData.{count_of}
use Rattle.gm_apply.specs.DifferingData.{IsDifference}
use Rattle.gm_apply.proofs.DifferingSectors.{difference_same}
use Rattle.gm_looks.specs.Scrubs.{DiffersBy, HasFlaw, IsActiveOf, IsScrub, IsSourceOfMirror}
use Rattle.gm_looks.specs.declared.scrub.Flaw.{Flaw}
use Rattle.gm_looks.specs.declared.scrub.Flaw.TheVariants.{Uncompared, Differs}
use Rattle.gm_looks.specs.declared.scrub.Scrubbed.{Scrubbed}
use Rattle.gm_looks.proofs.Listed.{home_found, one_home, some_other}
use Rattle.gm_looks.proofs.MirrorSource.{best_lender, first_trans, itself_source, kept_source, lender_source}
use Rattle.gm_unlike.proofs.Grouped.{AreGrouped}
use Rattle.gm_unlike.specs.Unequals.{AreUnequal, HoldEqualData, HoldSame, IsToldOf, by_itself, differs, scrubbed, sectors_in}
use Rattle.gm_unlike.specs.declared.unequal.Unequal.{Unequal}

-- ---- sources

not_first : (a : Component) → GoesFirst a a → ⊥
not_first a (inl less) = omega arith
not_first a (inr same) = lt_irrefl a.provider same.1

-- there is one best
pub one_best : (P : Component → Type 0) (a b : Component) → IsBest P (Some a) → IsBest P (Some b)
    → a ≡ b
one_best P a b first second =
    elim (first.1 b second.0) [
      | inl same ↦ sym same
      | inr before ↦ elim (second.1 a first.0) [
        | inl same ↦ same
        | inr after ↦ absurd (not_first a (first_trans a b a before after))
      ]
    ]

-- the source of a copy to an ACTIVE component is its mirror's, if that isn't the component
source_named : (s : Records) → IsState s → (m : Mirror) (k a : Component) → IsActiveOf s m k
    → IsSourceOfMirror s m a → a.provider ≢ k.provider
    → unwrap_or (source_of s k.provider) k.provider ≡ a.provider
source_named s state m k a active source other =
    let r = source_of s k.provider in
    let is = source_of_is s k.provider state in
    elim (option_cases r) [
      | inl none ↦
          let itself = itself_source s state m k active r is none in
          let same = one_best (IsActiveOf s m) a k source itself in
          absurd (other (ap (λ (c : Component). c.provider) same))
      | inr some ↦
          let lent = best_lender s state m k active r some.0 is some.1 in
          let b = lent.0 in
          elim (cases_Bool (goes_first b k)) [
            | inl first ↦
                let same = one_best (IsActiveOf s m) a b source
                (lender_source s state m k active b lent.2 first) in
                let named = found (λ (c : Component). same_label c.provider some.0) s.components b
                lent.1 in
                rw some.1 (sym (same_is b.provider some.0 named.1)
                ∙ sym (ap (λ (c : Component). c.provider) same))
            | inr not_first ↦
                let same = one_best (IsActiveOf s m) a k source
                (kept_source s state m k active b lent.2 not_first) in
                absurd (other (ap (λ (c : Component). c.provider) same))
          ]
    ]

-- ---- differences

-- what holds the same differs from another by as much, from the same first on
one_difference : (a x y : ℕ → List ℕ) (n c d e f : ℕ) → ((i : ℕ) → i < n → x i ≡ y i)
    → d < n → f < n → IsDifference a x n (record { sectors = c; first = d })
    → IsDifference a y n (record { sectors = e; first = f }) → Differs c d ≡ Differs e f
one_difference a x y n c d e f same few less by_x by_y =
    let moved = difference_same a x a y n (record { sectors = c; first = d }) (λ i low. refl) same
    (omega (arith, few)) by_x in
    let counts : c ≡ e = moved.sectors ∙ sym by_y.sectors in
    let first : d ≡ f =
    elim (cases_order d f) [
      | inl e ↦ e
      | inr ne ↦ elim ne [
        | inl low ↦ absurd (moved.first few (by_y.equal d low))
        | inr low ↦ absurd (by_y.first less (moved.equal f low))
      ]
    ] in
    cc

-- ---- entries

module _ (s : Records) (state : IsState s) (size : Sizes) (seen : Image) (asked : Option (List ℕ))
    (list : List Unequal) (scrub : IsScrub s size seen asked (map scrubbed list))
    (each : (e : Unequal) → Has list e → e ≡ record (by_itself s (scrubbed e)) { like = e.like })
    (grouped : AreGrouped (λ m. HoldSame size seen (sectors_in s m)) list) where
  -- what a scrub told of the component of an entry
  pub record IsBeside (m : Mirror) (k : Component) (e : Unequal) : Type 0 where
    pub source : Component
    pub sectors : ℕ
    pub first : ℕ
    pub source_is : IsSourceOfMirror s m source
    pub flaw_is : e.flaw ≡ Differs sectors first
    pub by : DiffersBy size seen m k source sectors first
    pub mirror_is : e.mirror ≡ m.name
    pub sectors_are : sectors_in s e.mirror ≡ m.data_sectors

  flaw_by : (m : Mirror) (k a : Component) (flaw : Flaw) → differs flaw ≡ true
      → HasFlaw size seen m k a flaw → (c : ℕ) × (d : ℕ) × (flaw ≡ Differs c d)
      × DiffersBy size seen m k a c d
  flaw_by m k a Uncompared e has = absurd (let no : ⊥ = cc in no)
  flaw_by m k a (Differs c d) e has = (c, d, refl, has)

  -- a component is found by its provider
  component_is : (m : Mirror) (k : Component) → IsOf s m k → component_of s k.provider ≡ Some k
  component_is m k of =
      find_one provider s.components state.components_in_order k (member s m.name k of.component).0

  beside : (m : Mirror) (k : Component) (e : Unequal) → IsToldOf s list m k e → IsBeside m k e
  beside m k e told =
      let amiss = scrub.amiss (scrubbed e) (map-Has scrubbed list e told.listed) in
      let n = amiss.0 in
      let j = amiss.1 in
      let found_k = component_is m k told.active.of in
      let found_j : component_of s k.provider ≡ Some j =
      subst (λ p. component_of s p ≡ Some j) (amiss.4 ∙ told.provider)
      (component_is n j amiss.2.of) in
      let same : j ≡ k = some_other (component_of s k.provider) j k found_j found_k in
      let of_k : IsOf s n k = subst (λ (c : Component). IsOf s n c) same amiss.2.of in
      let home : n ≡ m = one_home s state n m k of_k told.active.of in
      let flaw = subst (λ (c : Component). HasFlaw size seen n c amiss.5.0 e.flaw) same amiss.5.2 in
      let flaw_m = subst (λ (x : Mirror). HasFlaw size seen x k amiss.5.0 e.flaw) home flaw in
      let by = flaw_by m k amiss.5.0 e.flaw told.differs flaw_m in
      let mirror : e.mirror ≡ m.name =
      ap (λ (x : Unequal). x.mirror) (each e told.listed)
      ∙ (rw (told.provider, found_k) (member s m.name k told.active.of.component).1) in
      record {
        source = amiss.5.0;
        sectors = by.0;
        first = by.1;
        source_is = subst (λ (x : Mirror). IsSourceOfMirror s x amiss.5.0) home amiss.5.1;
        flaw_is = by.2;
        by = by.3;
        mirror_is = mirror;
        sectors_are = rw (
          mirror,
          find_one name s.mirrors state.mirrors_in_order m
              told.active.of.mirror,
        ) refl;
      }

  source_told : (m : Mirror) (k a : Component) (e : Unequal) → IsToldOf s list m k e
      → IsSourceOfMirror s m a → e.source ≡ a.provider
  source_told m k a e told source =
      let is = beside m k e told in
      let one = one_best (IsActiveOf s m) is.source a is.source_is source in
      let by = is.by in
      let apart : is.source.provider ≢ k.provider = λ same.
      by.by.first by.within (ap (λ p. seen p is.first) same) in
      let named : unwrap_or (source_of s e.provider) e.provider ≡ is.source.provider =
      subst (λ p. unwrap_or (source_of s p) p ≡ is.source.provider) (sym told.provider)
      (source_named s state m k is.source told.active is.source_is apart) in
      ap (λ (x : Unequal). x.source) (each e told.listed) ∙ named
      ∙ ap (λ (c : Component). c.provider) one

  -- the image of a component that differs has the mirror's data sectors
  has_sectors : (m : Mirror) (k : Component) (e : Unequal) → IsToldOf s list m k e
      → m.data_sectors ≤ count_of size e.provider
  has_sectors m k e told =
      let is = beside m k e told in
      let there = is.by.comparable.component in
      let room = (state.each m told.active.of.mirror).sizes k told.active.of.component in
      rw (told.provider, there) (omega (arith, room))

  -- an entry holds the same as the first that it names
  first_holds : (m : Mirror) (k : Component) (e l : Unequal) → IsToldOf s list m k e
      → Has list l → l.provider ≡ e.like → (i : ℕ) → i < m.data_sectors
      → seen e.like i ≡ seen k.provider i
  first_holds m k e l told has named i few =
      let is = beside m k e told in
      let first = grouped.first e told.listed in
      subst (λ p. seen e.like i ≡ seen p i) told.provider
      (subst (λ p. seen p i ≡ seen e.provider i) first.2.named
      (⊎_elim
      (λ (one : first.0 ≡ e). ap (λ (x : Unequal). seen x.provider i) one)
      (λ (holds : HoldSame size seen (sectors_in s e.mirror) first.0.provider e.provider).
      holds.same i (subst (λ n. i < n) (sym is.sectors_are) few))
      first.2.holds))

  equal_told : (m : Mirror) (j k : Component) (e f : Unequal) → IsToldOf s list m j e
      → IsToldOf s list m k f → (e.like ≡ f.like) ↔ HoldEqualData seen m j k
  equal_told m j k e f told_e told_f = (
    λ same i few.
        let first_e = grouped.first e told_e.listed in
        let first_f = grouped.first f told_f.listed in
        sym (first_holds m j e first_e.0 told_e first_e.1 first_e.2.named i few)
        ∙ ap (λ p. seen p i) same
        ∙ first_holds m k f first_f.0 told_f first_f.1 first_f.2.named i few,
    λ equal.
        let of_e = beside m j e told_e in
        let of_f = beside m k f told_f in
        let one = one_best (IsActiveOf s m) of_f.source of_e.source of_f.source_is
        of_e.source_is in
        let by_e = of_e.by in
        let by_f = of_f.by in
        let flaws = one_difference (seen of_e.source.provider) (seen j.provider)
        (seen k.provider) m.data_sectors of_e.sectors of_e.first of_f.sectors of_f.first equal
        by_e.within by_f.within by_e.by
        (subst (λ (c : Component). IsDifference (seen c.provider) (seen k.provider) m.data_sectors
        (record { sectors = of_f.sectors; first = of_f.first })) one by_f.by) in
        grouped.equal e f told_e.listed told_f.listed (of_e.mirror_is ∙ sym of_f.mirror_is)
        (of_e.flaw_is ∙ flaws ∙ sym of_f.flaw_is) told_e.differs
        (record {
          one = rw of_e.sectors_are (has_sectors m j e told_e);
          other = rw of_e.sectors_are (has_sectors m k f told_f);
          same = λ i few. ap (λ p. seen p i) told_e.provider
              ∙ equal i (subst (λ n. i < n) of_e.sectors_are few)
              ∙ ap (λ p. seen p i) (sym told_f.provider);
        }),
  )

  told_beside : AreUnequal s seen list
  told_beside = record {
    source = source_told;
    equal = equal_told;
    first = λ e has. let l = grouped.first e has in
        (l.0, l.1, l.2.named, l.2.itself, l.2.mirror);
  }

-- of no entry nothing is told
pub all_told : (s : Records) (size : Sizes) (seen : Image) (asked : Option (List ℕ))
    (list : List Unequal) → ((e : Unequal) → Has list e → IsState s)
    → IsScrub s size seen asked (map scrubbed list)
    → ((e : Unequal) → Has list e → e ≡ record (by_itself s (scrubbed e)) { like = e.like })
    → AreGrouped (λ m. HoldSame size seen (sectors_in s m)) list → AreUnequal s seen list
all_told s size seen asked [] state scrub each grouped = record {
  source = λ m k a e told. absurd told.listed;
  equal = λ m j k e f told. absurd told.listed;
  first = λ e has. absurd has;
}
all_told s size seen asked (e ∷ es) state scrub each grouped =
    told_beside s (state e (inl refl)) size seen asked (e ∷ es) scrub each grouped
