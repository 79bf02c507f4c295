-- The components of a mirror that a component leaves.
use Rattle.std.specs.Prelude.{ℕ, Bool, not, ◌&&◌, List, [], ◌∷◌, Option, Some, None, filter, if◌then◌else◌}
use Rattle.std.specs.List.{list_any}
use Rattle.gm_metadata.specs.Images.{same_label}
use Rattle.gm_state.specs.declared.records.Component.{Component}
use Rattle.gm_state.specs.Lookups.{is_active}
use Rattle.gm_refusals.specs.Applies.{is_being_filled}

-- it is ACTIVE, and on this provider, or on another
abbrev pub goes : List ℕ → Component → Bool
goes p k = is_active k.disk && same_label k.provider p

abbrev pub stays : List ℕ → Component → Bool
stays p k = is_active k.disk && not (same_label k.provider p)

-- the provider of the component, if there is just one
abbrev pub one_alone : List Component → Option (List ℕ)
one_alone [] = None
one_alone (k ∷ []) = Some k.provider
one_alone (k ∷ j ∷ ks) = None

-- an ACTIVE component leaves the mirror of these, of which others are STALE or SYNCHRONIZING: the
-- one ACTIVE component that stays, if that is one alone
abbrev pub only_copy : List Component → List ℕ → Option (List ℕ)
only_copy ks p =
    if list_any (goes p) ks && list_any (λ k. is_being_filled k.disk) ks
    then one_alone (filter (stays p) ks) else None
