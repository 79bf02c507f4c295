use Rattle.gm_registry.proofs.Common.{◌++◌, ◌∷◌, [], ℕ, List, Some, IfSome, sym, subst, inl, refl, Has, Has-append_left, Has-append_right}
use Rattle.std.specs.Prelude.{Option}
use Rattle.gm_registry.proofs.named.add.Goals as goal

pub returns-in_ok-push-in-Some-clause-kept : goal.returns-in_ok-push-in-Some-clause-kept
returns-in_ok-push-in-Some-clause-kept c x h =
    subst (λ (names : List (List ℕ)). Has names x) (sym c.in_ok-push-in-Some.ensures.items)
    (Has-append_left c.args.names.now.items (c.in-Some.name ∷ []) x h)

pub returns-in_ok-push-in-Some-clause-added : goal.returns-in_ok-push-in-Some-clause-added
returns-in_ok-push-in-Some-clause-added c =
    subst (λ (name : Option (List ℕ)). IfSome name (Has c.push.new.self.items)) (sym c.in-Some.is)
    (subst (λ (names : List (List ℕ)). Has names c.in-Some.name)
    (sym c.in_ok-push-in-Some.ensures.items)
    (Has-append_right c.args.names.now.items (c.in-Some.name ∷ []) c.in-Some.name (inl refl)))
