use Rattle.gm_looks.proofs.Common.{◌≡◌, ◌∙◌, ◌+◌, ◌<◌, ◌≤◌, true, false, List, refl, get_or, length, take, sym, ap, subst, Component, only_then, TellsUnlike, is_meant, Unlike}
use Rattle.gm_looks.proofs.Listed.{has_item, home_of, listed, passed, some_sectors}
use Rattle.gm_looks.proofs.SeenBefore.{component_before}
use Rattle.gm_looks.proofs.StandingTells.{tells_registered}
use Rattle.gm_looks.proofs.UnlikeSoFar.{Listed, Right, all_unlike, on}
use Rattle.gm_looks.proofs.unlike.unlike_shelf.Goals as goal

pub loop-component-preserved-then-not-has : goal.loop-component-preserved-then-not-has
loop-component-preserved-then-not-has g c =
    let inv = c.loop-component.invariant in
    let s = c.args.state.now in
    let size = g.H.Shelf.size c.args.shelf.now in
    let seen = (g.H.Shelf.view c.args.shelf.now).seen in
    let meant = is_meant c.args.meant in
    let i = c.loop-component.component-index in
    let k = c.component-item.result in
    let all = c.components-component-items.ensures in
    let low : i < length s.components =
    subst (λ (l : List Component). i < length l) all.value c.loop-component-test.true in
    let is : k ≡ get_or s.components i k =
    c.component-item.is ∙ ap (λ (l : List Component). get_or l i k) all.value in
    record {
      only = inv.only;
      listed = λ h.
          passed on (TellsUnlike meant size seen) (Right meant s size seen) s all.state i k low is
          c.loop-component.list.items (inv.listed h)
          (λ m o yes. absurd (let no : true ≡ false = sym yes ∙ (sym c.has.ensures
          ∙ c.if-not-has.true) in cc));
    }

pub loop-component-preserved-then-is_as_registered :
    goal.loop-component-preserved-then-is_as_registered
loop-component-preserved-then-is_as_registered g c =
    let inv = c.loop-component.invariant in
    let s = c.args.state.now in
    let size = g.H.Shelf.size c.args.shelf.now in
    let seen = (g.H.Shelf.view c.args.shelf.now).seen in
    let meant = is_meant c.args.meant in
    let i = c.loop-component.component-index in
    let k = c.component-item.result in
    let all = c.components-component-items.ensures in
    let low : i < length s.components =
    subst (λ (l : List Component). i < length l) all.value c.loop-component-test.true in
    let is : k ≡ get_or s.components i k =
    c.component-item.is ∙ ap (λ (l : List Component). get_or l i k) all.value in
    record {
      only = only_then g.H.Shelf _ _ _ inv.only c.standing_in.ensures.looks.only;
      listed = λ h.
          passed on (TellsUnlike meant size seen) (Right meant s size seen) s all.state i k low is
          c.loop-component.list.items (inv.listed h)
          (λ m o yes. (tells_registered size seen m k (some_sectors s all.state m k o)
          c.in_ok-standing.standing
          (component_before s size (g.H.Shelf.size c.loop-component.shelf) seen
          (g.H.Shelf.view c.loop-component.shelf).seen inv.only.keeps.size
          (inv.only.reads h).quiet.seen m k c.in_ok-standing.standing
          (c.in_ok-standing.ensures.stands (inv.only.keeps.honest h) all.state m o))).0
          (c.is_as_registered.ensures.0 c.if-is_as_registered.true));
    }

pub loop-component-preserved : goal.loop-component-preserved
loop-component-preserved g c =
    let inv = c.loop-component.invariant in
    let s = c.args.state.now in
    let size = g.H.Shelf.size c.args.shelf.now in
    let seen = (g.H.Shelf.view c.args.shelf.now).seen in
    let meant = is_meant c.args.meant in
    let i = c.loop-component.component-index in
    let k = c.component-item.result in
    let all = c.components-component-items.ensures in
    let low : i < length s.components =
    subst (λ (l : List Component). i < length l) all.value c.loop-component-test.true in
    let is : k ≡ get_or s.components i k =
    c.component-item.is ∙ ap (λ (l : List Component). get_or l i k) all.value in
    let home = home_of s all.state k (has_item s.components i k low is) in
    let e : Unlike = record { provider = k.provider; standing = c.in_ok-standing.standing } in
    record {
      only = only_then g.H.Shelf _ _ _ inv.only c.standing_in.ensures.looks.only;
      listed = λ h.
          let tells : TellsUnlike meant size seen home.0 k e = record {
            meant = sym c.has.ensures ∙ c.if-not-has.false;
            stands = component_before s size (g.H.Shelf.size c.loop-component.shelf) seen
                (g.H.Shelf.view c.loop-component.shelf).seen inv.only.keeps.size
                (inv.only.reads h).quiet.seen home.0 k c.in_ok-standing.standing
                (c.in_ok-standing.ensures.stands (inv.only.keeps.honest h) all.state home.0
                home.1);
            other = λ same. (let both : true ≡ false = sym (c.is_as_registered.ensures.1 same)
                ∙ c.if-is_as_registered.false in cc);
          } in
          subst (λ (list : List Unlike). Listed meant s size seen (take (i + 1) s.components) list)
          (sym c.in_ok-push.ensures.items)
          (listed on (TellsUnlike meant size seen) (Right meant s size seen) s all.state i k low is
          c.loop-component.list.items (inv.listed h) home.0 home.1 e refl tells);
    }

pub returns-clause-unlike : goal.returns-clause-unlike
returns-clause-unlike g c h =
    let s = c.args.state.now in
    let high : length s.components ≤ c.loop-component.component-index =
    subst (λ (l : List Component). length l ≤ c.loop-component.component-index)
    c.components-component-items.ensures.value c.loop-component-test.false in
    all_unlike (is_meant c.args.meant) s (g.H.Shelf.size c.args.shelf.now)
    (g.H.Shelf.view c.args.shelf.now).seen c.loop-component.component-index
    c.loop-component.list.items high (c.loop-component.invariant.listed h)
