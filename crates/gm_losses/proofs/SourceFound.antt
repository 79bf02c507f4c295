-- Which of the images that are named is the source of their mirror.
use Rattle.gm_losses.proofs.Common.{◌≡◌, ◌==◌, inl, inr, ℕ, ◌&&◌, not, nat_lt, Bool, true, false, refl, sym, subst, arith, List, list_all, and_from, and_parts, or_parts, cases_Bool, cases_lt, lt-ltb, eq-eqb, not_both, bytes_eq, same_is, label_lt, Image, Sizes, Has, Has-filter, filter-Has, active_of, is_active_of, is_first_of, sources_of, is_in_use, is_newer, Says, IsActiveAmong, IsSourceAmong, goes_first}
use Rattle.gm_metadata.specs.declared.metadata.Metadata.{Metadata}
use Rattle.gm_lists.proofs.Order.{lt_other}
use Rattle.gm_lists.proofs.Sorting.{all_has, has_all}
use Rattle.gm_taste.specs.declared.tasted.Member.{Member}

off : (b : Bool) → not b ≡ true → b ≡ false
off false e = refl
off true e = (let never : true ≡ false = cc in never)

on : (b : Bool) → b ≡ false → not b ≡ true
on false e = refl
on true e = (let never : false ≡ true = cc in never)

-- of two of which none goes before the other both are on one provider
even : (a b : ℕ) → nat_lt a b ≡ false → nat_lt b a ≡ false → a ≡ b
even a b e f = elim (cases_lt a b) [
  | inl low ↦ absurd (not_both (nat_lt a b) (lt-ltb a b low) e)
  | inr high ↦ elim (cases_lt b a) [
    | inl low ↦ absurd (not_both (nat_lt b a) (lt-ltb b a low) f)
    | inr few ↦ omega (arith, high, few)
  ]
]

and_out : (b c : Bool) → b ≡ true → b && c ≡ false → c ≡ false
and_out true c e f = f
and_out false c e f = (let never : false ≡ true = e in cc)

one_first : (p q : List ℕ) (d e : Metadata) → goes_first q e p d ≡ false
    → goes_first p d q e ≡ false → p ≡ q
one_first p q d e first second =
    let a = or_parts (nat_lt d.priority e.priority)
    (e.priority == d.priority && label_lt q p) first in
    let b = or_parts (nat_lt e.priority d.priority)
    (d.priority == e.priority && label_lt p q) second in
    let same : d.priority ≡ e.priority = even d.priority e.priority a.0 b.0 in
    let after : label_lt q p ≡ false = and_out (e.priority == d.priority) (label_lt q p)
    (eq-eqb e.priority d.priority (sym same)) a.1 in
    let before : label_lt p q ≡ false = and_out (d.priority == e.priority) (label_lt p q)
    (eq-eqb d.priority e.priority same) b.1 in
    elim (cases_Bool (bytes_eq p q)) [
      | inl e ↦ same_is p q e
      | inr n ↦ absurd (not_both (label_lt q p) (lt_other p q n before) after)
    ]

-- so there is one source
pub one_source : (size : Sizes) (seen : Image) (ps : List (List ℕ)) (p q : List ℕ)
    (d e : Metadata) → IsSourceAmong size seen ps p d → IsSourceAmong size seen ps q e → p ≡ q
one_source size seen ps p q d e a b =
    one_first p q d e (a.first q e b.active) (b.first p d a.active)

-- these members are those of the named images
module _ (size : Sizes) (seen : Image) (ps : List (List ℕ)) (ys : List Member)
    (there : (x : Member) → Has ys x → Has ps x.provider × Says size seen x.provider x.metadata)
    (all : (q : List ℕ) (d : Metadata) → Has ps q → Says size seen q d
    → (x : Member) × Has ys x × (x.provider ≡ q) × (x.metadata ≡ d)) where
  pub active_tells : (x : Member) → Has (active_of ys) x
      → IsActiveAmong size seen ps x.provider x.metadata
  active_tells x h =
      let from = Has-filter (is_active_of ys) ys x h in
      let parts = and_parts (is_in_use x.metadata)
      (list_all (λ (y : Member). not (is_newer y.metadata x.metadata)) ys) from.1 in
      record {
        named = (there x from.0).0;
        says = (there x from.0).1;
        in_use = parts.0;
        newest = λ q e k says.
            let y = all q e k says in
            off (is_newer e x.metadata)
            (subst (λ (m : Metadata). not (is_newer m x.metadata) ≡ true) y.3
            (all_has (λ (z : Member). not (is_newer z.metadata x.metadata)) ys parts.1 y.0 y.1));
      }

  pub tells_active : (q : List ℕ) (d : Metadata) → IsActiveAmong size seen ps q d
      → (x : Member) × Has (active_of ys) x × (x.provider ≡ q) × (x.metadata ≡ d)
  tells_active q d is =
      let y = all q d is.named is.says in
      let newest : (z : Member) → Has ys z → not (is_newer z.metadata d) ≡ true = λ z k.
      on (is_newer z.metadata d)
      (is.newest z.provider z.metadata (there z k).0 (there z k).1) in
      let passes : (m : Metadata) → m ≡ d → is_in_use m && list_all
      (λ (z : Member). not (is_newer z.metadata m)) ys ≡ true = λ m e.
      rw e (and_from (is_in_use d) (list_all (λ (z : Member). not (is_newer z.metadata d)) ys)
      is.in_use (has_all (λ (z : Member). not (is_newer z.metadata d)) ys newest)) in
      (y.0, filter-Has (is_active_of ys) ys y.0 y.1 (passes y.0.metadata y.3), y.2, y.3)

  pub source_tells : (x : Member) → Has (sources_of ys) x
      → IsSourceAmong size seen ps x.provider x.metadata
  source_tells x h =
      let from = Has-filter (is_first_of (active_of ys)) (active_of ys) x h in
      record {
        active = active_tells x from.0;
        first = λ q e a.
            let y = tells_active q e a in
            off (goes_first q e x.provider x.metadata)
            (subst (λ (m : Metadata). not (goes_first q m x.provider x.metadata) ≡ true) y.3
            (subst (λ (p : List ℕ). not (goes_first p y.0.metadata x.provider x.metadata) ≡ true)
            y.2
            (all_has (λ (z : Member). not (goes_first z.provider z.metadata x.provider x.metadata))
            (active_of ys) from.1 y.0 y.1)));
      }

  pub tells_source : (q : List ℕ) (d : Metadata) → IsSourceAmong size seen ps q d
      → (x : Member) × Has (sources_of ys) x × (x.metadata ≡ d)
  tells_source q d is =
      let y = tells_active q d is.active in
      let first : (p : List ℕ) (m : Metadata) → p ≡ q → m ≡ d
      → list_all (λ (z : Member). not (goes_first z.provider z.metadata p m)) (active_of ys)
      ≡ true = λ p m a b.
      rw (a, b) (has_all (λ (z : Member). not (goes_first z.provider z.metadata q d))
      (active_of ys) (λ z k. on (goes_first z.provider z.metadata q d)
      (is.first z.provider z.metadata (active_tells z k)))) in (
        y.0,
        filter-Has (is_first_of (active_of ys)) (active_of ys) y.0 y.1
            (first y.0.provider y.0.metadata y.2 y.3),
        y.3,
      )
