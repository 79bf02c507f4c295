use Rattle.gm_changes.proofs.Common.{◌≡◌, drop, provider, Ascends, put_all}
use Rattle.gm_changes.proofs.changed_state.with_all.Given as goal

abbrev pub invariant-loop-component : goal.invariant-loop-component
invariant-loop-component l =
    (put_all provider (drop l.component-index l.added) l.components.items
    ≡ put_all provider l.added l.fn.components.items)
    × Ascends provider l.components.items
