use Rattle.gm_losses.proofs.Common.{◌≡◌, ◌+◌, ◌≤◌, ℕ, Option, Some, None, length, take, rules, subst, arith, only_then, sectors_from, TellsFirst}
use Rattle.gm_losses.proofs.FirstData.{blank_then, first_then, tells_same}
use Rattle.gm_losses.proofs.scan.first_data.Goals as goal

pub returns-in-Some-clause-told : goal.returns-in-Some-clause-told
returns-in-Some-clause-told g c h =
    let inv = c.loop-place.invariant in
    let old = (g.H.Shelf.view c.args.shelf.now).seen in
    let mid = (g.H.Shelf.view c.loop-place.shelf).seen in
    let p = c.args.provider in
    let place = c.loop-place.place in
    let sectors : ℕ = c.min-length.result in
    let long : length (take sectors c.loop-place.run) ≡ sectors = search rules in
    let room : place + sectors ≤ c.args.sectors = omega arith in
    first_then (old p) place sectors (inv.blank h) c.args.sectors c.in-Some.found room
    (tells_same (sectors_from mid p place) (λ k. old p (place + k)) sectors
    (Some c.in-Some.found) (λ k low. (inv.only.reads h).quiet.seen p (place + k))
    (subst (λ (o : Option ℕ). TellsFirst (sectors_from mid p place) sectors o) c.in-Some.is
    (subst (λ (n : ℕ). TellsFirst (sectors_from mid p place) n c.in_ok-found.field-0) long
    (c.in_ok-found.ensures.told (inv.only.keeps.honest h)))))

pub loop-place-preserved : goal.loop-place-preserved
loop-place-preserved g c =
    let inv = c.loop-place.invariant in
    let old = (g.H.Shelf.view c.args.shelf.now).seen in
    let mid = (g.H.Shelf.view c.loop-place.shelf).seen in
    let p = c.args.provider in
    let place = c.loop-place.place in
    let sectors : ℕ = c.min-length.result in
    let long : length (take sectors c.loop-place.run) ≡ sectors = search rules in
    record {
      within = omega arith;
      only = only_then g.H.Shelf _ _ _ inv.only c.first_in_run.ensures.looks.only;
      blank = λ h.
          blank_then (old p) place sectors (inv.blank h)
          (tells_same (sectors_from mid p place) (λ k. old p (place + k)) sectors None
          (λ k low. (inv.only.reads h).quiet.seen p (place + k))
          (subst (λ (o : Option ℕ). TellsFirst (sectors_from mid p place) sectors o)
          c.in_default.is
          (subst (λ (n : ℕ). TellsFirst (sectors_from mid p place) n c.in_ok-found.field-0) long
          (c.in_ok-found.ensures.told (inv.only.keeps.honest h)))));
    }
