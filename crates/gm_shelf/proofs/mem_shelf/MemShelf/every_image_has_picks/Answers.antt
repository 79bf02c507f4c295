use Rattle.gm_shelf.proofs.Common.{◌≡◌, ◌∙◌, List, ℕ, ap, sym, subst, length, reverse, is_some, nat_cmp, eq_by_cmp, slice_cmp, keys, get, is_member, Label, AreNames, size_after}
use Rattle.gm_shelf.proofs.EachPicked.{picks_upto, picks_name, small_upto}
use Rattle.gm_shelf.proofs.KeyNames.{names_are, is_some-option_map}
use Rattle.gm_shelf.proofs.mem_shelf.MemShelf.every_image_has_picks.Goals as goal

pub returns : goal.returns
returns c = λ x left few.
    let found : (q : Label) → is_some (get (slice_cmp nat_cmp) c.args.self.now.disks q)
    ≡ is_member (eq_by_cmp (slice_cmp nat_cmp)) (keys c.args.self.now.disks) q = λ q.
    subst
    (λ (names : List (List ℕ)). is_some (get (slice_cmp nat_cmp) c.args.self.now.disks q)
    ≡ is_member (eq_by_cmp (slice_cmp nat_cmp)) names q)
    c.keys.ensures.rest (c.keys.ensures.has q) in
    let are : AreNames (size_after (reverse c.args.self.now.log.items))
    (keys c.args.self.now.disks) =
    names_are _ _ c.keys.ensures.ordered
    (λ q. ap is_some (sym (c.args.self.now.cached.sizes q)) ∙ is_some-option_map _ _ ∙ found q) in (
      picks_upto (reverse c.args.self.now.log.items) x left (keys c.args.self.now.disks)
          (length (keys c.args.self.now.disks)),
      small_upto (reverse c.args.self.now.log.items) x left (keys c.args.self.now.disks) few
          (length (keys c.args.self.now.disks)),
      picks_name (reverse c.args.self.now.log.items) x left
          (keys c.args.self.now.disks) c.args.self.now.disks c.args.self.now.cached are,
    )
