use Rattle.gm_looks.proofs.Common.{◌≡◌, ◌∙◌, ◌+◌, ◌<◌, ◌≤◌, List, Option, None, Some, refl, get_or, length, take, sym, ap, subst, Component, Mirror, only_then, MayHaveFlaw, Flaw}
use Rattle.gm_looks.proofs.Listed.{has_item, listed, one_home, passed}
use Rattle.gm_looks.proofs.ScrubbedSoFar.{Right, ScrubbedSoFar, Told, all_scrubbed, flaws_before}
use Rattle.gm_looks.proofs.scrub.scrub_shelf.Goals as goal

pub asked_mirror-requires : goal.asked_mirror-requires
asked_mirror-requires g c =
    let s = c.args.state.now in
    let i = c.loop-component.component-index in
    let all = c.components-component-items.ensures in
    has_item s.components i c.component-item.result
    (subst (λ (l : List Component). i < length l) all.value c.loop-component-test.true)
    (c.component-item.is ∙ ap (λ (l : List Component). get_or l i c.component-item.result)
    all.value)

pub loop-component-preserved-in_default : goal.loop-component-preserved-in_default
loop-component-preserved-in_default g c =
    let inv = c.loop-component.invariant in
    let s = c.args.state.now in
    let size = g.H.Shelf.size c.args.shelf.now in
    let seen = (g.H.Shelf.view c.args.shelf.now).seen in
    let asked = c.args.asked.now in
    let i = c.loop-component.component-index in
    let k = c.component-item.result in
    let all = c.components-component-items.ensures in
    let low : i < length s.components =
    subst (λ (l : List Component). i < length l) all.value c.loop-component-test.true in
    let is : k ≡ get_or s.components i k =
    c.component-item.is ∙ ap (λ (l : List Component). get_or l i k) all.value in
    record {
      only = inv.only;
      listed = λ h.
          passed (λ e. e.provider) (Told s size seen asked) (Right s size seen asked) s all.state i
          k low is c.loop-component.list.items (inv.listed h)
          (λ m o active wanted. absurd (c.in_default.ensures.none m active wanted));
    }

pub loop-component-preserved-in_default-2 : goal.loop-component-preserved-in_default-2
loop-component-preserved-in_default-2 g c =
    let inv = c.loop-component.invariant in
    let s = c.args.state.now in
    let size = g.H.Shelf.size c.args.shelf.now in
    let seen = (g.H.Shelf.view c.args.shelf.now).seen in
    let asked = c.args.asked.now in
    let i = c.loop-component.component-index in
    let k = c.component-item.result in
    let all = c.components-component-items.ensures in
    let low : i < length s.components =
    subst (λ (l : List Component). i < length l) all.value c.loop-component-test.true in
    let is : k ≡ get_or s.components i k =
    c.component-item.is ∙ ap (λ (l : List Component). get_or l i k) all.value in
    let mirror = c.in-Some.mirror in
    let wanted = c.in-Some.ensures.some in
    record {
      only = only_then g.H.Shelf _ _ _ inv.only c.flaw_of.ensures.looks.only;
      listed = λ h.
          let told = c.in_ok-flaw.ensures.told (inv.only.keeps.honest h) in
          let right : MayHaveFlaw s size seen mirror k None =
          flaws_before s size (g.H.Shelf.size c.loop-component.shelf) seen
          (g.H.Shelf.view c.loop-component.shelf).seen mirror k None inv.only.keeps.size
          (inv.only.reads h).quiet.seen
          (subst (λ (o : Option Flaw). MayHaveFlaw s (g.H.Shelf.size c.loop-component.shelf)
          (g.H.Shelf.view c.loop-component.shelf).seen mirror k o) c.in_default-2.is told) in
          passed (λ e. e.provider) (Told s size seen asked) (Right s size seen asked) s all.state i
          k low is c.loop-component.list.items (inv.listed h)
          (λ m o active also. subst (λ (a : Mirror). MayHaveFlaw s size seen a k None)
          (one_home s all.state mirror m k wanted.0.of o) right);
    }

pub loop-component-preserved : goal.loop-component-preserved
loop-component-preserved g c =
    let inv = c.loop-component.invariant in
    let s = c.args.state.now in
    let size = g.H.Shelf.size c.args.shelf.now in
    let seen = (g.H.Shelf.view c.args.shelf.now).seen in
    let asked = c.args.asked.now in
    let i = c.loop-component.component-index in
    let k = c.component-item.result in
    let all = c.components-component-items.ensures in
    let low : i < length s.components =
    subst (λ (l : List Component). i < length l) all.value c.loop-component-test.true in
    let is : k ≡ get_or s.components i k =
    c.component-item.is ∙ ap (λ (l : List Component). get_or l i k) all.value in
    let mirror = c.in-Some.mirror in
    let flaw = c.in-Some-2.flaw in
    let wanted = c.in-Some.ensures.some in
    record {
      only = only_then g.H.Shelf _ _ _ inv.only c.flaw_of.ensures.looks.only;
      listed = λ h.
          let told = c.in_ok-flaw.ensures.told (inv.only.keeps.honest h) in
          let amiss : MayHaveFlaw s size seen mirror k (Some flaw) =
          flaws_before s size (g.H.Shelf.size c.loop-component.shelf) seen
          (g.H.Shelf.view c.loop-component.shelf).seen mirror k (Some flaw) inv.only.keeps.size
          (inv.only.reads h).quiet.seen
          (subst (λ (o : Option Flaw). MayHaveFlaw s (g.H.Shelf.size c.loop-component.shelf)
          (g.H.Shelf.view c.loop-component.shelf).seen mirror k o) c.in-Some-2.is told) in
          subst (λ list. ScrubbedSoFar s size seen asked (take (i + 1) s.components) list)
          (sym c.in_ok-push.ensures.items)
          (listed (λ e. e.provider) (Told s size seen asked) (Right s size seen asked) s all.state i
          k low is c.loop-component.list.items (inv.listed h) mirror wanted.0.of
          (record { provider = k.provider; flaw = flaw }) refl (wanted.0, wanted.1, amiss));
    }

pub returns-clause-scrub : goal.returns-clause-scrub
returns-clause-scrub g c h =
    let s = c.args.state.now in
    let high : length s.components ≤ c.loop-component.component-index =
    subst (λ (l : List Component). length l ≤ c.loop-component.component-index)
    c.components-component-items.ensures.value c.loop-component-test.false in
    all_scrubbed s (g.H.Shelf.size c.args.shelf.now) (g.H.Shelf.view c.args.shelf.now).seen
    c.args.asked.now c.loop-component.component-index c.loop-component.list.items high
    (c.loop-component.invariant.listed h)
