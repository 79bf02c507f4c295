-- What follows if a check finds nothing amiss.
use Rattle.std.proofs.Common.{◌≡◌, ◌∙◌, inl, inr, ⊎_elim, ℕ, ◌<◌, ◌==◌, Bool, true, refl, sym, ap, arith, List, [], ◌∷◌, filter, length, Some, None, true≢false}
use Rattle.std.specs.List.{count_by, list_all}
use Rattle.std.proofs.lemmas.Bool.{cases_Bool, eqb-true}
use Rattle.std.proofs.lemmas.List.Sums.{length-filter, count_by-le-length}
use Rattle.gm_metadata.specs.Images.{Image, Sizes}
use Rattle.gm_lists.specs.Ordered.{Has}
use Rattle.gm_lists.proofs.Sorting.{all_has}
use Rattle.gm_state.specs.declared.records.Mirror.{Mirror}
use Rattle.gm_state.specs.declared.records.Component.{Component}
use Rattle.gm_state.specs.Intents.{IsOf}
use Rattle.gm_state.specs.Lookups.{is_active}
use Rattle.gm_state.specs.Records.{Records, IsState, members}
use Rattle.gm_looks.specs.Audits.{IsAsRegistered}
use Rattle.gm_looks.specs.Scrubs.{IsActiveOf, IsScrub}
use Rattle.gm_looks.specs.Unlikes.{IsUnlike, is_meant}
use Rattle.gm_looks.specs.declared.unlike.Meant.TheVariants.{All}
use Rattle.gm_unlike.proofs.ToldBeside.{one_best}
use Rattle.gm_unlike.specs.Checkups.{is_complete_in}

-- ---- lists

pub empty : {X : Type 0} (xs : List X) → (length xs == 0) ≡ true → xs ≡ []
empty [] e = refl
empty (x ∷ xs) e = let none = eqb-true (length (x ∷ xs)) 0 e in absurd (omega arith)

-- each passes if as many pass as there are
pub each_passes : {X : Type 0} (p : X → Bool) (xs : List X) → length (filter p xs) ≡ length xs
    → (x : X) → Has xs x → p x ≡ true
each_passes p [] e x h = absurd h
each_passes p (y ∷ ys) e x h =
    elim (cases_Bool (p y)) [
      | inl t ↦
          let more : length (y ∷ filter p ys) ≡ length (y ∷ ys) = rw t at e in
          ⊎_elim (λ (s : y ≡ x). sym (ap p s) ∙ t)
          (λ (k : Has ys x). each_passes p ys (omega arith) x k) h
      | inr f ↦
          let more : length (filter p ys) ≡ length (y ∷ ys) = rw f at e in
          let most = count_by-le-length p ys in
          let are = length-filter p ys in
          absurd (omega arith)
    ]

-- ---- a mirror that is COMPLETE

pub all_there : (s : Records) → IsState s → list_all (is_complete_in s) s.mirrors ≡ true
    → (m : Mirror) → Has s.mirrors m
    → (length (members s.components m.name) ≡ m.all)
    × ((k : Component) → Has (members s.components m.name) k → is_active k.disk ≡ true)
all_there s state complete m has =
    let ks = members s.components m.name in
    let p = λ (k : Component). is_active k.disk in
    let whole = all_has (is_complete_in s) s.mirrors complete m has in
    let same : (count_by p ks == m.all) ≡ true =
    elim (cases_Bool (count_by p ks == m.all)) [
      | inl t ↦ t
      | inr f ↦ absurd (let no = rw f at whole in true≢false (sym no))
    ] in
    let counted = eqb-true (count_by p ks) m.all same in
    let room = (state.each m has).room in
    let most = count_by-le-length p ks in
    let are = length-filter p ks in
    (omega arith, each_passes p ks (omega arith))

-- ---- the images

pub as_registered : (s : Records) (size : Sizes) (seen : Image)
    → IsUnlike (is_meant All) s size seen [] → (m : Mirror) (k : Component) → IsOf s m k
    → IsAsRegistered size seen m k
as_registered s size seen unlike m k of =
    elim (unlike.others m k of refl) [ inl is ↦ is | inr told ↦ absurd told.1 ]

-- ---- the data

pub equal_data : (s : Records) (size : Sizes) (seen : Image) → IsScrub s size seen None []
    → (m : Mirror) (j k : Component) → IsActiveOf s m j → IsActiveOf s m k
    → (i : ℕ) → i < m.data_sectors → seen j.provider i ≡ seen k.provider i
equal_data s size seen scrub m j k of_j of_k i within =
    elim (scrub.others m j of_j tt) [
      | inr told ↦ absurd told.1
      | inl by_j ↦ elim (scrub.others m k of_k tt) [
        | inr told ↦ absurd told.1
        | inl by_k ↦
            let one = one_best (IsActiveOf s m) by_j.0 by_k.0 by_j.1 by_k.1 in
            by_j.2.same i within ∙ (ap (λ (c : Component). seen c.provider i) one
            ∙ sym (by_k.2.same i within))
      ]
    ]
