use Rattle.gm_losses.proofs.Common.{◌∙◌, true, false, ℕ, List, sym, subst, and_from, and_left, and_right, only_then, is_on_any, AreLosses}
use Rattle.gm_commands.specs.declared.command.Command.TheVariants as command
use Rattle.gm_losses.proofs.IntactFound.{all_told, found, is_intact, passed, told}
use Rattle.gm_losses.proofs.intact.losses_of_lost.Goals as goal

pub loop-component-preserved-then-not-is_on_any : goal.loop-component-preserved-then-not-is_on_any
loop-component-preserved-then-not-is_on_any g c =
    let inv = c.loop-component.invariant in
    let s = c.args.state.now in
    let size = g.H.Shelf.size c.args.shelf.now in
    let seen = (g.H.Shelf.view c.args.shelf.now).seen in
    let named = c.as_slice-named.result.now in
    let k = c.component-item.result in
    record {
      only = inv.only;
      told = λ h. passed s size seen named c.in_ok-members.ensures.state
          c.deref-component-items.result.now c.loop-component.component-index k
          c.loop-component-test.true c.component-item.is c.loop-component.list.items (inv.told h)
          (and_left (is_on_any named k) (is_intact s size seen named k)
          (sym c.is_on_any.ensures ∙ c.if-not-is_on_any.true));
    }

pub loop-component-preserved-then-not-branch : goal.loop-component-preserved-then-not-branch
loop-component-preserved-then-not-branch g c =
    let inv = c.loop-component.invariant in
    let s = c.args.state.now in
    let state = c.in_ok-members.ensures.state in
    let size = g.H.Shelf.size c.args.shelf.now in
    let seen = (g.H.Shelf.view c.args.shelf.now).seen in
    let mid = c.loop-component.shelf in
    let named = c.as_slice-named.result.now in
    let ks = c.deref-component-items.result.now in
    let i = c.loop-component.component-index in
    let k = c.component-item.result in
    record {
      only = only_then g.H.Shelf _ _ _ inv.only c.is_intact.ensures.looks.only;
      told = λ h. passed s size seen named state ks i k c.loop-component-test.true
          c.component-item.is c.loop-component.list.items (inv.told h)
          (and_right (is_on_any named k) (is_intact s size seen named k)
          (found s size seen named state ks i k c.loop-component-test.true c.component-item.is
          c.args.name c.in_ok-members.members.items c.deref-component-items.ensures.value
          c.in_ok-members.ensures.value (g.H.Shelf.size mid) (g.H.Shelf.view mid).seen
          inv.only.keeps.size (inv.only.reads h).quiet.seen c.in_ok-is_intact.field-0
          (c.in_ok-is_intact.ensures.intact (inv.only.keeps.honest h)) false
          c.if-not-branch.true));
    }

pub loop-component-preserved : goal.loop-component-preserved
loop-component-preserved g c =
    let inv = c.loop-component.invariant in
    let s = c.args.state.now in
    let state = c.in_ok-members.ensures.state in
    let size = g.H.Shelf.size c.args.shelf.now in
    let seen = (g.H.Shelf.view c.args.shelf.now).seen in
    let mid = c.loop-component.shelf in
    let named = c.as_slice-named.result.now in
    let ks = c.deref-component-items.result.now in
    let i = c.loop-component.component-index in
    let k = c.component-item.result in
    record {
      only = only_then g.H.Shelf _ _ _ inv.only c.is_intact.ensures.looks.only;
      told = λ h. told s size seen named state ks i k c.loop-component-test.true
          c.component-item.is c.loop-component.list.items c.push.new.self.items (inv.told h)
          (and_from (is_on_any named k) (is_intact s size seen named k)
          (sym c.is_on_any.ensures ∙ c.if-not-is_on_any.false)
          (found s size seen named state ks i k c.loop-component-test.true c.component-item.is
          c.args.name c.in_ok-members.members.items c.deref-component-items.ensures.value
          c.in_ok-members.ensures.value (g.H.Shelf.size mid) (g.H.Shelf.view mid).seen
          inv.only.keeps.size (inv.only.reads h).quiet.seen c.in_ok-is_intact.field-0
          (c.in_ok-is_intact.ensures.intact (inv.only.keeps.honest h)) true
          c.if-not-branch.false)) c.in_ok-push.ensures.items;
    }

pub returns-clause-losses : goal.returns-clause-losses
returns-clause-losses g c h =
    let s = c.args.state.now in
    let size = g.H.Shelf.size c.args.shelf.now in
    let seen = (g.H.Shelf.view c.args.shelf.now).seen in
    let items = c.loop-component.list.items in
    subst (λ (ps : List (List ℕ)). AreLosses s size seen (command.Lost c.args.name ps) items)
    c.as_slice-named.ensures.value
    (all_told s size seen c.as_slice-named.result.now c.in_ok-members.ensures.state c.args.name
    items c.deref-component-items.result.now c.in_ok-members.members.items
    c.loop-component.component-index c.loop-component-test.false
    c.deref-component-items.ensures.value c.in_ok-members.ensures.value
    (c.loop-component.invariant.told h))
