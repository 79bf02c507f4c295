use Rattle.gm_taste.proofs.Common.{rules, arith, subst, List, take, answers_always, Taken, key_in, Made}
use Rattle.gm_taste.proofs.Grouping.{so_begun, so_more, run_some, so_ended}
use Rattle.gm_taste.proofs.groups.groups_of.Goals as goal

pub loop-first-init : goal.loop-first-init
loop-first-init c =
    let always = answers_always _ _ _ (λ f a r g h. search rules) in
    rw (c.as_slice-rest.ensures.value, c.new-groups.ensures.items)
    (so_begun c.args.taken.items c.sort_by_key.new.self.items
    c.in_ok-sort_by_key.ensures.permutation (c.in_ok-sort_by_key.ensures.sorted key_in always)
    (c.in_ok-sort_by_key.ensures.stable key_in always))

pub loop-first-smaller : goal.loop-first-smaller
loop-first-smaller c =
    let some = run_some c.loop-first.rest.now c.in-Some.first.now c.key_in-key.result
    c.run_of.result c.in-Some.ensures.value c.key_in-key.ensures c.run_of.ensures.value in
    omega (arith, c.split_at.ensures.back_len, some)

pub loop-first-preserved : goal.loop-first-preserved
loop-first-preserved c =
    let made : Made (take c.run_of.result c.loop-first.rest.now) c.in_ok-group_of.field-0 =
    subst (λ (own : List Taken). Made own c.in_ok-group_of.field-0) c.split_at.ensures.front
    c.in_ok-group_of.ensures.made in
    rw (c.split_at.ensures.back, c.in_ok-push.ensures.items)
    (so_more c.args.taken.items c.loop-first.rest.now c.loop-first.groups.items
    c.in-Some.first.now c.key_in-key.result c.run_of.result c.in_ok-group_of.field-0
    c.loop-first.invariant c.in-Some.ensures.value c.key_in-key.ensures c.run_of.ensures.value
    c.in_ok-group_of.ensures.key made)

pub returns : goal.returns
returns c = so_ended c.args.taken.items c.loop-first.rest.now c.loop-first.groups.items
    c.loop-first.invariant c.in_default.ensures.value
