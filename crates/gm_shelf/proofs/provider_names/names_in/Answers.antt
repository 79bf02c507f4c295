use Rattle.gm_shelf.proofs.Common.{◌≡◌, List, ℕ, is_some, subst, nat_cmp, eq_by_cmp, slice_cmp, get, is_member}
use Rattle.gm_shelf.proofs.provider_names.names_in.Goals as goal

pub returns-clause-found : goal.returns-clause-found
returns-clause-found g c = λ q.
    subst
    (λ (names : List (List ℕ)). is_some (get (slice_cmp nat_cmp) c.args.entries.now q)
    ≡ is_member (eq_by_cmp (slice_cmp nat_cmp)) names q)
    c.keys.ensures.rest
    (c.keys.ensures.has q)
