use Rattle.gm_losses.proofs.Common.{◌≡◌, ◌∙◌, ℕ, List, None, find, sym, ap, subst, is_some, mirror_of, Group, is_adopted, adopted_among, AreLosses, Loss}
use Rattle.gm_commands.specs.declared.command.Command.TheVariants as command
use Rattle.gm_losses.proofs.DifferingFound.{among_same}
use Rattle.gm_losses.proofs.LeftFound.{adopted_lost}
use Rattle.gm_losses.proofs.Listed.{first_of, given, is_gone}
use Rattle.gm_losses.proofs.left_images.losses_of_adopt.Goals as goal

pub returns-clause-losses : goal.returns-clause-losses
returns-clause-losses g c h =
    let s = c.args.state.now in
    let H = g.H.Shelf in
    let size = H.size c.args.shelf.now in
    let seen = (H.view c.args.shelf.now).seen in
    let mid = c.taste_shelf.new.shelf in
    let only = c.taste_shelf.ensures.looks.only in
    let name = c.args.name in
    let ps = c.args.providers.now in
    let t = c.in_ok-tasted.tasted in
    let on = c.in_ok-tasted.ensures.tasted h in
    let first = first_of ps c.as_slice.ensures.some in
    let gone : mirror_of s name ≡ None = is_gone (mirror_of s name)
    (ap is_some (sym c.mirror.ensures.value) ∙ (sym c.is_some.ensures ∙ c.if-is_some.false)) in
    let told = c.in_ok-list.ensures.told (only.keeps.honest h) in
    let by_groups : c.in_ok-list.list.items
    ≡ adopted_among (H.size mid) (H.view mid).seen t.groups.items name ps =
    subst (λ (qs : List (List ℕ)). c.in_ok-list.list.items
    ≡ adopted_among (H.size mid) (H.view mid).seen t.groups.items name qs)
    c.as_slice.ensures.value
    (subst (λ (gs : List Group). c.in_ok-list.list.items
    ≡ adopted_among (H.size mid) (H.view mid).seen gs name c.as_slice.result.now)
    c.as_slice-groups.ensures.value told) in
    let listed = by_groups ∙ among_same size seen (H.size mid) (H.view mid).seen only.keeps.size
    (only.reads h).quiet.seen ps (find (is_adopted name ps) t.groups.items) in
    subst (λ (l : List Loss). AreLosses s size seen (command.Adopt name ps) l) (sym listed)
    (given _ _ _ gone (adopted_lost size seen on.0 on.1 t on.2 name ps s first.0 first.1))
