use Rattle.gm_shelf.proofs.Common.{◌≡◌, ◌<◌, ◌+◌, ℕ, List, Option, length, min, reverse, rules, arith, sym, subst, ap, ◌∙◌, IsSomeAnd, sector_at, size_after, synced_after, written_after, pick_at, is_unsynced, unsynced_below, picked_after, picked_value}
use Rattle.gm_shelf.proofs.OneMorePick.{pick_at_taken, taken_more, pushed_sectors}
use Rattle.gm_shelf.proofs.crash_image.picked_sectors.Goals as goal

pub loop-place-preserved : goal.loop-place-preserved
loop-place-preserved c =
    record {
      len = search rules;
      taken = λ before start.
          let unsynced : c.picked_sector-is_unsynced.result.1
          ≡ is_unsynced (reverse c.args.log.now.items) c.args.provider c.loop-place.place =
          search rules in
          taken_more (reverse c.args.log.now.items) c.args.provider c.loop-place.place before _ _ _
          unsynced (c.taken_after.ensures _ (c.loop-place.invariant.taken before start));
      sectors = λ before start.
          let inside : IsSomeAnd (size_after (reverse c.args.log.now.items) c.args.provider)
          (λ n. c.loop-place.place < n) =
          subst (λ (size : Option ℕ). IsSomeAnd size (λ n. c.loop-place.place < n))
          (sym c.requires) c.loop-place-test.true in
          let choice : c.choice_at-choice.result ≡ pick_at c.args.pick.now
          (before + unsynced_below (reverse c.args.log.now.items) c.args.provider
          c.loop-place.place) =
          c.choice_at-choice.ensures ∙ ap (pick_at c.args.pick.now)
          (c.loop-place.invariant.taken before start) ∙ pick_at_taken c.args.pick.now _ in
          let told : c.picked_sector-is_unsynced.result.0 ≡ picked_value
          (synced_after (reverse c.args.log.now.items) c.args.provider c.loop-place.place)
          (written_after (reverse c.args.log.now.items) c.args.provider c.loop-place.place)
          c.choice_at-choice.result =
          (rw c.deref.ensures.value at c.picked_sector-is_unsynced.ensures.value) inside in
          subst (λ (items : List (List ℕ)). (j : ℕ) → j < c.loop-place.place + 1
          → sector_at items j ≡ picked_after (reverse c.args.log.now.items) c.args.pick.now
          before c.args.provider j)
          (sym c.in_ok-push.ensures.items)
          (pushed_sectors c.loop-place.sectors.items _ c.loop-place.place
          (picked_after (reverse c.args.log.now.items) c.args.pick.now before c.args.provider)
          (omega (arith, c.loop-place.sectors.ok.0, c.loop-place.invariant.len))
          (c.loop-place.invariant.sectors before start)
          (told ∙ ap (picked_value
          (synced_after (reverse c.args.log.now.items) c.args.provider c.loop-place.place)
          (written_after (reverse c.args.log.now.items) c.args.provider c.loop-place.place))
          choice));
    }

pub returns-clause-taken : goal.returns-clause-taken
returns-clause-taken c = λ before start.
    let there : c.loop-place.place ≡ c.args.count = omega arith in
    subst (λ (n : ℕ). c.loop-place.taken
    ≡ min (before + unsynced_below (reverse c.args.log.now.items) c.args.provider n)
    (length c.args.pick.now)) there (c.loop-place.invariant.taken before start)
