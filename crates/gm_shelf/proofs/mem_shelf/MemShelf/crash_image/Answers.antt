use Rattle.gm_shelf.proofs.Common.{◌≡◌, ◌∙◌, ◌+◌, [], ℕ, List, Option, Some, length, reverse, take, sym, subst, ap, arith, unwrap_or, get_or_default, AreNames, size_after, unsynced_of, Event}
use Rattle.gm_shelf.proofs.CachedContents.{past}
use Rattle.gm_shelf.proofs.Fresh.{fresh_settled}
use Rattle.gm_shelf.proofs.SoFar.{IsSoFar, name_at, known_size, listed_size, new_name, so_far_named, same_sizes, all_picked, all_left}
use Rattle.gm_shelf.proofs.mem_shelf.MemShelf.crash_image.Goals as goal

pub picked_sectors-requires : goal.picked_sectors-requires
picked_sectors-requires c =
    let are : AreNames (size_after (reverse c.args.self.now.log.items))
    c.deref-name-items.result.now = rw c.deref-name-items.ensures.value c.in_ok-names.ensures in
    let is : c.name-item.result ≡ name_at c.deref-name-items.result.now c.loop-name.name-index =
    c.name-item.is ∙ get_or_default _ _ _ [] c.loop-name-test.true in
    let count : c.unwrap_or-count.result ≡ unwrap_or
    (size_after (reverse c.args.self.now.log.items) c.name-item.result) 0 =
    c.unwrap_or-count.ensures ∙ ap (λ (o : Option ℕ). unwrap_or o 0)
    (c.sectors_in.ensures ∙ c.args.self.now.cached.sizes c.name-item.result) in
    known_size (size_after (reverse c.args.self.now.log.items) c.name-item.result)
    (listed_size (reverse c.args.self.now.log.items) c.deref-name-items.result.now
    c.loop-name.name-index c.name-item.result are c.loop-name-test.true is)
    ∙ ap Some (sym count)

pub add-requires : goal.add-requires
add-requires c =
    let are : AreNames (size_after (reverse c.args.self.now.log.items))
    c.deref-name-items.result.now = rw c.deref-name-items.ensures.value c.in_ok-names.ensures in
    let is : c.name-item.result ≡ name_at c.deref-name-items.result.now c.loop-name.name-index =
    c.name-item.is ∙ get_or_default _ _ _ [] c.loop-name-test.true in
    new_name (reverse c.args.self.now.log.items) (reverse c.loop-name.image.log.items)
    c.deref-name-items.result.now c.args.pick.now c.loop-name.name-index c.loop-name.taken
    c.name-item.result are c.loop-name-test.true c.loop-name.invariant is

pub loop-name-preserved : goal.loop-name-preserved
loop-name-preserved c =
    let are : AreNames (size_after (reverse c.args.self.now.log.items))
    c.deref-name-items.result.now = rw c.deref-name-items.ensures.value c.in_ok-names.ensures in
    let is : c.name-item.result ≡ name_at c.deref-name-items.result.now c.loop-name.name-index =
    c.name-item.is ∙ get_or_default _ _ _ [] c.loop-name-test.true in
    let count : c.unwrap_or-count.result ≡ unwrap_or
    (size_after (reverse c.args.self.now.log.items) c.name-item.result) 0 =
    c.unwrap_or-count.ensures ∙ ap (λ (o : Option ℕ). unwrap_or o 0)
    (c.sectors_in.ensures ∙ c.args.self.now.cached.sizes c.name-item.result) in
    let size : size_after (reverse c.args.self.now.log.items) c.name-item.result
    ≡ Some c.unwrap_or-count.result =
    known_size (size_after (reverse c.args.self.now.log.items) c.name-item.result)
    (listed_size (reverse c.args.self.now.log.items) c.deref-name-items.result.now
    c.loop-name.name-index c.name-item.result are c.loop-name-test.true is)
    ∙ ap Some (sym count) in
    let before = unsynced_of (reverse c.args.self.now.log.items)
    (take c.loop-name.name-index c.deref-name-items.result.now) in
    subst (λ (image : List Event). IsSoFar (reverse c.args.self.now.log.items) image
    c.deref-name-items.result.now c.args.pick.now (c.loop-name.name-index + 1)
    c.picked_sectors.new.taken)
    (sym c.in_ok-add.ensures.ok)
    (so_far_named (reverse c.args.self.now.log.items) (reverse c.loop-name.image.log.items)
    c.deref-name-items.result.now c.args.pick.now c.loop-name.name-index c.loop-name.taken
    c.picked_sectors.new.taken
    c.unwrap_or-count.result c.in_ok-sectors.sectors are c.loop-name-test.true c.loop-name.invariant
    (rw is at size) c.in_ok-sectors.ensures.len
    (rw is at (c.in_ok-sectors.ensures.sectors before c.loop-name.invariant.taken_is))
    (λ j out. past c.in_ok-sectors.sectors j (rw c.in_ok-sectors.ensures.len out))
    (rw is at (c.in_ok-sectors.ensures.taken before c.loop-name.invariant.taken_is))
    c.name-item.result is)

pub returns-clause-settled : goal.returns-clause-settled
returns-clause-settled c =
    fresh_settled (reverse c.loop-name.image.log.items) c.loop-name.invariant.fresh

pub returns-clause-sizes : goal.returns-clause-sizes
returns-clause-sizes c =
    let are : AreNames (size_after (reverse c.args.self.now.log.items))
    c.deref-name-items.result.now = rw c.deref-name-items.ensures.value c.in_ok-names.ensures in
    let end : c.loop-name.name-index ≡ length c.deref-name-items.result.now = omega arith in
    let so_far : IsSoFar (reverse c.args.self.now.log.items)
    (reverse c.loop-name.image.log.items) c.deref-name-items.result.now c.args.pick.now
    (length c.deref-name-items.result.now) c.loop-name.taken =
    subst (λ (k : ℕ). IsSoFar (reverse c.args.self.now.log.items)
    (reverse c.loop-name.image.log.items) c.deref-name-items.result.now c.args.pick.now k
    c.loop-name.taken) end c.loop-name.invariant in
    same_sizes (reverse c.args.self.now.log.items) (reverse c.loop-name.image.log.items)
    c.args.self.now.disks c.args.self.now.cached c.deref-name-items.result.now c.args.pick.now
    c.loop-name.taken are so_far

pub returns-clause-picked : goal.returns-clause-picked
returns-clause-picked c =
    let are : AreNames (size_after (reverse c.args.self.now.log.items))
    c.deref-name-items.result.now = rw c.deref-name-items.ensures.value c.in_ok-names.ensures in
    let end : c.loop-name.name-index ≡ length c.deref-name-items.result.now = omega arith in
    let so_far : IsSoFar (reverse c.args.self.now.log.items)
    (reverse c.loop-name.image.log.items) c.deref-name-items.result.now c.args.pick.now
    (length c.deref-name-items.result.now) c.loop-name.taken =
    subst (λ (k : ℕ). IsSoFar (reverse c.args.self.now.log.items)
    (reverse c.loop-name.image.log.items) c.deref-name-items.result.now c.args.pick.now k
    c.loop-name.taken) end c.loop-name.invariant in
    all_picked (reverse c.args.self.now.log.items) (reverse c.loop-name.image.log.items)
    c.args.self.now.disks c.args.self.now.cached c.deref-name-items.result.now c.args.pick.now
    c.loop-name.taken are so_far

pub returns-clause-left : goal.returns-clause-left
returns-clause-left c =
    let are : AreNames (size_after (reverse c.args.self.now.log.items))
    c.deref-name-items.result.now = rw c.deref-name-items.ensures.value c.in_ok-names.ensures in
    let end : c.loop-name.name-index ≡ length c.deref-name-items.result.now = omega arith in
    let so_far : IsSoFar (reverse c.args.self.now.log.items)
    (reverse c.loop-name.image.log.items) c.deref-name-items.result.now c.args.pick.now
    (length c.deref-name-items.result.now) c.loop-name.taken =
    subst (λ (k : ℕ). IsSoFar (reverse c.args.self.now.log.items)
    (reverse c.loop-name.image.log.items) c.deref-name-items.result.now c.args.pick.now k
    c.loop-name.taken) end c.loop-name.invariant in
    all_left (reverse c.args.self.now.log.items) (reverse c.loop-name.image.log.items)
    c.args.self.now.disks c.args.self.now.cached c.deref-name-items.result.now c.args.pick.now
    c.loop-name.taken are so_far
