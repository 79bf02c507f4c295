use Rattle.gm_losses.proofs.Common.{◌≡◌, ◌∙◌, List, sym, ap, subst, only_then, adopted_as}
use Rattle.gm_losses.proofs.DifferingFound.{adopted_same}
use Rattle.gm_losses.proofs.Walked.{passed, told}
use Rattle.gm_losses.proofs.left_images.adopted_in.Goals as goal
use Rattle.gm_losses.proofs.left_images.adopted_in.Goals.{in-Some+in_ok-push, in_default}

pub loop-member-preserved : goal.loop-member-preserved
loop-member-preserved g c =
    let H = g.H.Shelf in
    let inv = c.loop-member.invariant in
    let size = H.size c.args.shelf.now in
    let seen = (H.view c.args.shelf.now).seen in
    let mid = c.loop-member.shelf in
    let xs = c.args.members.now in
    let ps = c.args.providers.now in
    let sources = c.in_ok-sources.sources.items in
    let x = c.member-item.result in
    let i = c.loop-member.member-index in
    let list = c.loop-member.list.items in
    let f = adopted_as size seen xs ps sources in
    let is = λ (h : H.honest c.args.shelf.now).
    subst (λ (bs : List _). c.in_ok-told.told
    ≡ adopted_as (H.size mid) (H.view mid).seen xs ps bs x) c.deref.ensures.value
    (c.in_ok-told.ensures.told (inv.only.keeps.honest h))
    ∙ adopted_same size seen (H.size mid) (H.view mid).seen inv.only.keeps.size
    (inv.only.reads h).quiet.seen xs ps sources x in
    record {
      only = only_then H _ _ _ inv.only c.adopted_as.ensures.looks.only;
      told = λ h. elim c.match-told.branch [
        | in-Some+in_ok-push w ↦ ap (λ v. v.items) w.list-is ∙ told f xs i x
            c.loop-member-test.true c.member-item.is list w.push.new.self.items w.in-Some.loss
            (inv.told h) (sym (is h) ∙ w.in-Some.is) w.in_ok-push.ensures.items
        | in_default w ↦ ap (λ v. v.items) w.list-is ∙ passed f xs i x
            c.loop-member-test.true c.member-item.is list (inv.told h)
            (sym (is h) ∙ w.in_default.is)
      ];
    }
