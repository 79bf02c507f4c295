use Rattle.gm_looks.proofs.Common.{sym, subst, string_bytes, Intent, IsTold}
use Rattle.gm_looks.proofs.SeenBefore.{named_before}
use Rattle.gm_looks.proofs.text_on.told_on.Goals as goal

pub returns-in_ok-two_told-in-Copy-clause-told : goal.returns-in_ok-two_told-in-Copy-clause-told
returns-in_ok-two_told-in-Copy-clause-told g c h =
    let s = c.args.state.now in
    let size = g.H.Shelf.size c.args.shelf.now in
    let seen = (g.H.Shelf.view c.args.shelf.now).seen in
    let mid = c.standing_of_named.new.shelf in
    let only = c.standing_of_named.ensures.looks.only in
    subst (λ (t : Intent). IsTold s size seen t (string_bytes c.in_ok-two_told-in-Copy.field-0))
    (sym c.in-Copy.is) (
      c.in_ok-lends-in-Copy.lends,
      c.in_ok-takes-in-Copy.takes,
      c.in_ok-lends-in-Copy.ensures.stands h,
      named_before s size (g.H.Shelf.size mid) seen (g.H.Shelf.view mid).seen only.keeps.size
          (only.reads h).quiet.seen c.in-Copy.target c.in_ok-takes-in-Copy.takes
          (c.in_ok-takes-in-Copy.ensures.stands (only.keeps.honest h)),
      c.in_ok-two_told-in-Copy.ensures,
    )
