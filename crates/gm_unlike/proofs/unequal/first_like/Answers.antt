use Rattle.std.proofs.Common.{◌≡◌, ◌∙◌, ◌⊎◌, inl, ⊎_elim, ℕ, true, false, refl, sym, subst, List, true≢false}
use Rattle.gm_metadata.specs.Images.{Image, Sizes}
use Rattle.gm_lists.specs.Ordered.{Has}
use Rattle.gm_shelf.proofs.Keeping.{only_then}
use Rattle.gm_looks.proofs.Listed.{has_item}
use Rattle.gm_unlike.proofs.EqualImages.{hold_after, hold_before}
use Rattle.gm_unlike.proofs.Grouped.{one_more}
use Rattle.gm_unlike.specs.Unequals.{HoldSame, MayBeLike}
use Rattle.gm_unlike.specs.declared.unequal.Unequal.{Unequal}
use Rattle.gm_unlike.proofs.unequal.first_like.Goals as goal

pub loop-known-preserved-then-not-may_be_like : goal.loop-known-preserved-then-not-may_be_like
loop-known-preserved-then-not-may_be_like g c =
    let inv = c.loop-known.invariant in
    let new = c.args.new.now in
    let known = c.known-item.result in
    let i = c.loop-known.known-index in
    record {
      only = inv.only;
      none = λ h x has may same. ⊎_elim (λ old. inv.none h x old may same)
          (λ (one : known ≡ x).
          let its : MayBeLike known new = subst (λ (y : Unequal). MayBeLike y new) (sym one) may in
          let yes = c.may_be_like.ensures.1 its in
          true≢false (sym yes ∙ c.if-not-may_be_like.true))
          (one_more c.args.list.now i known c.loop-known-test.true c.known-item.is x has);
    }

pub returns-then-same-clause-like : goal.returns-then-same-clause-like
returns-then-same-clause-like g c h =
    let inv = c.loop-known.invariant in
    let H = g.H.Shelf in
    let new = c.args.new.now in
    let known = c.known-item.result in
    let holds = (c.in_ok-same.ensures.same (inv.only.keeps.honest h)).0 c.if-same.true in
    inl (
      known,
      has_item c.args.list.now c.loop-known.known-index known c.loop-known-test.true
          c.known-item.is,
      c.may_be_like.ensures.0 c.if-not-may_be_like.false,
      hold_before (H.size c.args.shelf.now) (H.size c.loop-known.shelf)
          (H.view c.args.shelf.now).seen (H.view c.loop-known.shelf).seen c.args.sectors
          known.provider new.provider inv.only.keeps.size (inv.only.reads h).quiet.seen holds,
      refl,
    )

pub loop-known-preserved : goal.loop-known-preserved
loop-known-preserved g c =
    let inv = c.loop-known.invariant in
    let H = g.H.Shelf in
    let new = c.args.new.now in
    let known = c.known-item.result in
    let i = c.loop-known.known-index in
    record {
      only = only_then H _ _ _ inv.only c.in_ok-same.ensures.looks.only;
      none = λ h x has may same. ⊎_elim (λ old. inv.none h x old may same)
          (λ (one : known ≡ x).
          let holds : HoldSame (H.size c.args.shelf.now) (H.view c.args.shelf.now).seen
          c.args.sectors known.provider new.provider =
          subst (λ (y : Unequal). HoldSame (H.size c.args.shelf.now)
          (H.view c.args.shelf.now).seen c.args.sectors y.provider new.provider) (sym one) same in
          let later = hold_after (H.size c.args.shelf.now) (H.size c.loop-known.shelf)
          (H.view c.args.shelf.now).seen (H.view c.loop-known.shelf).seen c.args.sectors
          known.provider new.provider inv.only.keeps.size (inv.only.reads h).quiet.seen holds in
          let yes = (c.in_ok-same.ensures.same (inv.only.keeps.honest h)).1 later in
          true≢false (sym yes ∙ c.if-same.false))
          (one_more c.args.list.now i known c.loop-known-test.true c.known-item.is x has);
    }
