use Rattle.gm_stopped.proofs.Common.{ℕ, List, [], ◌∷◌, sym, subst, inl, inr, refl, Has, Has-append_left, Has-append_right, Has-push, same_label, same_is, some_any, ◌∙◌}
use Rattle.gm_stopped.proofs.strange.add.Goals as goal

pub returns-in_ok-push-clause-kept : goal.returns-in_ok-push-clause-kept
returns-in_ok-push-clause-kept c p h =
    subst (λ (names : List (List ℕ)). Has names p) (sym c.in_ok-push.ensures.items)
    (Has-append_left c.args.names.now.items (c.args.name ∷ []) p h)

pub returns-in_ok-push-clause-only : goal.returns-in_ok-push-clause-only
returns-in_ok-push-clause-only c p h =
    elim (Has-push c.args.names.now.items c.args.name p
    (subst (λ (names : List (List ℕ)). Has names p) c.in_ok-push.ensures.items h)) [
      | inl was ↦ inl was
      | inr e ↦ inr (sym e)
    ]

pub returns-in_ok-push-clause-added : goal.returns-in_ok-push-clause-added
returns-in_ok-push-clause-added c =
    subst (λ (names : List (List ℕ)). Has names c.args.name) (sym c.in_ok-push.ensures.items)
    (Has-append_right c.args.names.now.items (c.args.name ∷ []) c.args.name (inl refl))

pub returns-else-not-contains-clause-added : goal.returns-else-not-contains-clause-added
returns-else-not-contains-clause-added c =
    let name = c.args.name in
    let found = some_any (λ n. same_label n name) c.deref.result.now
    (sym c.contains.ensures.value ∙ c.if-not-contains.false) in
    subst (λ (names : List (List ℕ)). Has names name) c.deref.ensures.value
    (subst (λ (n : List ℕ). Has c.deref.result.now n) (same_is found.0 name found.2) found.1)
