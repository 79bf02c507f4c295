use Rattle.gm_taste.proofs.Common.{rules, ◌≡◌, ◌∙◌, ap, subst, List, answers_always, filter_map, IsPermutation, Provider, Taken, taken_by, left_by, Grouped}
use Rattle.gm_taste.proofs.Outcome.{tasted}
use Rattle.gm_taste.proofs.tasting.taste.Goals as goal

pub returns : goal.returns
returns c =
    let os = c.sort_unstable_by_key.new.self.items in
    let perm : IsPermutation c.args.providers.now os =
    subst (λ (xs : List Provider). IsPermutation xs os) c.in_ok-ordered.ensures.items
    c.sort_unstable_by_key.ensures.permutation in
    let taken : c.in_ok-taken.taken.items ≡ filter_map taken_by os =
    c.in_ok-taken.ensures ∙ ap (filter_map taken_by) c.deref.ensures.value in
    tasted c.args.providers.now os _ perm
    (c.sort_unstable_by_key.ensures.sorted (λ (p : Provider). p.name)
    (answers_always _ _ _ (λ f a r g h. search rules)))
    (subst (λ (ts : List Taken). Grouped ts c.in_ok-groups.groups.items) taken
    c.in_ok-groups.ensures)
    (c.in_ok-left.ensures ∙ ap (filter_map left_by) c.deref-2.ensures.value)
