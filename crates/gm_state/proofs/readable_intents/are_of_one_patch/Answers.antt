use Rattle.gm_state.proofs.Common.{◌≡◌, ◌∙◌, ◌==◌, ℕ, List, [], ◌∷◌, length, true, sym, refl, ap, arith, eqb-true, not_both}
use Rattle.gm_state.proofs.PatchFound.{from_first, no_copy, of_range, without_patch, none_found}
use Rattle.gm_state.proofs.readable_intents.are_of_one_patch.Goals as goal

empty_is : (bytes : List (List ℕ)) → (length bytes == 0) ≡ true → bytes ≡ []
empty_is [] e = refl
empty_is (x ∷ xs) e =
    let h : length (x ∷ xs) ≡ 0 = eqb-true (length (x ∷ xs)) 0 e in
    absurd (let z : ⊥ = omega (arith, h) in z)

pub returns-in_default : goal.returns-in_default
returns-in_default c =
    let none = none_found c.args.bytes.now c.args.intents.now
    (sym c.first_patch.ensures ∙ c.in_default.is) in (
      λ e. without_patch c.args.bytes.now c.args.intents.now none
          (empty_is c.args.bytes.now (sym c.is_empty.ensures ∙ e)),
      λ one. c.is_empty.ensures ∙ ap (λ (l : List (List ℕ)). length l == 0) (one.needed none),
    )

pub returns-then-not-has_copy : goal.returns-then-not-has_copy
returns-then-not-has_copy c =
    let is = sym c.first_patch.ensures ∙ c.in-Some.is in (
      λ e. from_first c.args.bytes.now c.args.intents.now c.in-Some.patch is c.start_of.result
          c.start_of.ensures (sym c.has_copy.ensures ∙ c.if-not-has_copy.true)
          (c.are_of_range.ensures.0 e),
      λ one. c.are_of_range.ensures.1 (of_range c.args.bytes.now c.args.intents.now c.in-Some.patch
          is c.start_of.result c.start_of.ensures one),
    )

pub returns-else-not-has_copy : goal.returns-else-not-has_copy
returns-else-not-has_copy c =
    let is = sym c.first_patch.ensures ∙ c.in-Some.is in (
      λ e. not_both c.has_copy.result c.if-not-has_copy.false (let f : _ = e in cc),
      λ one. not_both c.has_copy.result c.if-not-has_copy.false
          (c.has_copy.ensures ∙ no_copy c.args.bytes.now c.args.intents.now c.in-Some.patch is
          one),
    )
