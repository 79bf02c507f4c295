use Rattle.gm_looks.proofs.Common.{◌≡◌, ◌∙◌, ◌+◌, ◌++◌, ◌∷◌, [], List, ℕ, take, Some, None, refl, sym, ap, subst, unwrap_or, Sizes, zeros, AreNames, ReadsOnly, last_of, only_then, last_read, IsShown, Provider}
use Rattle.gm_looks.proofs.ShownSoFar.{ShownSoFar, all_shown, not_absent, seen_last, shown_more}
use Rattle.gm_looks.proofs.tasting.providers_on.Goals as goal
use Rattle.gm_looks.proofs.tasting.providers_on.Goals.{in-Some+in_ok-read_last+in_ok-push, in_default}

pub returns-clause-shown : goal.returns-clause-shown
returns-clause-shown g c h =
    let size = g.H.Shelf.size c.args.shelf.now in
    let names = c.deref-name-items.result.now in
    let are : AreNames size names =
    subst (λ (l : List (List ℕ)). AreNames size l) (sym c.deref-name-items.ensures.value)
    c.in_ok-names.ensures in
    all_shown size (g.H.Shelf.view c.args.shelf.now).seen names are c.loop-name.name-index
    c.loop-name.providers.items c.loop-name-test.false (c.loop-name.invariant.shown h)

pub loop-name-preserved : goal.loop-name-preserved
loop-name-preserved g c =
    let inv = c.loop-name.invariant in
    let size = g.H.Shelf.size c.args.shelf.now in
    let mid = g.H.Shelf.size c.loop-name.shelf in
    let seen = (g.H.Shelf.view c.args.shelf.now).seen in
    let was = (g.H.Shelf.view c.loop-name.shelf).seen in
    let names = c.deref-name-items.result.now in
    let i = c.loop-name.name-index in
    let name = c.name-item.result in
    let are : AreNames size names =
    subst (λ (l : List (List ℕ)). AreNames size l) (sym c.deref-name-items.ensures.value)
    c.in_ok-names.ensures in
    elim c.match-sectors.branch [
      | in_default w ↦ record {
        only = subst (λ x. ReadsOnly g.H.Shelf c.args.shelf.now x) (sym w.shelf-is) inv.only;
        shown = λ h.
            let gone : size name ≡ None =
            subst (λ (z : Sizes). z name ≡ None) inv.only.keeps.size
            (sym c.sectors.ensures ∙ w.in_default.is) in
            absurd (not_absent size seen names are i name c.loop-name-test.true c.name-item.is
            gone);
      }
      | in-Some+in_ok-read_last+in_ok-push w ↦
          let n = w.in-Some.sectors in
          let f : Provider = record { name = name; sectors = n; last = w.unwrap_or-last.result } in
          let sized : mid name ≡ Some n = sym c.sectors.ensures ∙ w.in-Some.is in
          let only = only_then g.H.Shelf _ _ _ inv.only w.read_last.ensures.looks.only in
          let more : c.match-sectors.providers.items ≡ c.loop-name.providers.items ++ f ∷ [] =
          ap (λ v. v.items) w.providers-is ∙ w.in_ok-push.ensures.items in
          record {
            only = subst (λ x. ReadsOnly g.H.Shelf c.args.shelf.now x) (sym w.shelf-is) only;
            shown = λ h.
                let last : f.last ≡ last_of n (was name) =
                w.unwrap_or-last.ensures
                ∙ (ap (λ o. unwrap_or o zeros)
                (w.in_ok-read_last.ensures.last (inv.only.keeps.honest h))
                ∙ last_read mid was name n sized) in
                let shown : IsShown size seen f = record {
                  sectors_are = subst (λ (z : Sizes). z name ≡ Some n) inv.only.keeps.size sized;
                  last_is = last ∙ seen_last n (was name) (seen name)
                      (λ j. (inv.only.reads h).quiet.seen name j);
                } in
                subst (λ (l : List Provider). ShownSoFar size seen (take (i + 1) names) l)
                (sym more)
                (shown_more size seen names are i name f c.loop-name.providers.items
                c.loop-name-test.true c.name-item.is shown refl (inv.shown h));
          }
    ]
