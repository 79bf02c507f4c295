use Rattle.std.proofs.Common.{◌≡◌, ◌∙◌, ⊎_elim, ℕ, ◌≤◌, ◌++◌, refl, sym, ap, subst, List, [], ◌∷◌, map, take, length}
use Rattle.std.proofs.lemmas.List.{map-append, take_all, take_more}
use Rattle.gm_metadata.specs.Images.{Image, Sizes}
use Rattle.gm_lists.specs.Ordered.{Has}
use Rattle.gm_lists.proofs.Lists.{Has-push}
use Rattle.gm_shelf.proofs.Keeping.{only_then}
use Rattle.gm_looks.specs.Scrubs.{IsScrub}
use Rattle.gm_looks.specs.declared.scrub.Scrubbed.{Scrubbed}
use Rattle.gm_unlike.proofs.EqualImages.{hold_after, hold_before, same_back, same_on}
use Rattle.gm_unlike.proofs.Grouped.{AreGrouped, first_again, grouped_more}
use Rattle.gm_unlike.proofs.ToldBeside.{all_told}
use Rattle.gm_unlike.specs.Unequals.{HoldSame, IsFirstLike, by_itself, scrubbed, sectors_in}
use Rattle.gm_unlike.specs.declared.unequal.Unequal.{Unequal}
use Rattle.gm_unlike.proofs.unequal.unequal_shelf.Goals as goal

pub loop-found-preserved : goal.loop-found-preserved
loop-found-preserved g c =
    let inv = c.loop-found.invariant in
    let H = g.H.Shelf in
    let s = c.args.state.now in
    let size = H.size c.args.shelf.now in
    let seen = (H.view c.args.shelf.now).seen in
    let size' = H.size c.loop-found.shelf in
    let seen' = (H.view c.loop-found.shelf).seen in
    let found = c.found-item.result in
    let i = c.loop-found.found-index in
    let list = c.loop-found.list.items in
    let alone = c.by_itself-alone.result in
    let like = c.in_ok-like.like in
    let e : Unequal = record alone { like = like } in
    let is = c.by_itself-alone.ensures.value in
    let pushed = c.in_ok-push.ensures.items in
    let scr : scrubbed e ≡ found = ap (λ (a : Unequal). scrubbed (record a { like = like })) is in
    let whole : e ≡ record (by_itself s (scrubbed e)) { like = like } =
    ap (λ (a : Unequal). record a { like = like }) is
    ∙ sym (ap (λ (f : Scrubbed). record (by_itself s f) { like = like }) scr) in
    record {
      only = only_then H _ _ _ inv.only c.in_ok-like.ensures.looks.only;
      state = λ x has. c.by_itself-alone.ensures.state;
      flaws =
          ap (map scrubbed) pushed
          ∙ (map-append scrubbed list (e ∷ [])
          ∙ (ap (λ l. l ++ scrubbed e ∷ []) inv.flaws
          ∙ (ap (λ f. take i c.args.flaws.now ++ f ∷ []) (scr ∙ c.found-item.is)
          ∙ sym (take_more c.args.flaws.now i found c.loop-found-test.true))));
      each = λ x has. ⊎_elim (λ (old : Has list x). inv.each x old)
          (λ (one : e ≡ x). subst (λ (y : Unequal). y
          ≡ record (by_itself s (scrubbed y)) { like = y.like }) one whole)
          (Has-push list e x (subst (λ (l : List Unequal). Has l x) pushed has));
      grouped = λ h.
          let first : IsFirstLike (HoldSame size' seen' c.sectors_in-sectors.result) list alone like =
          subst (λ (l : List Unequal). IsFirstLike
          (HoldSame size' seen' c.sectors_in-sectors.result) l alone like) c.deref.ensures.value
          (c.in_ok-like.ensures.like (inv.only.keeps.honest h)) in
          let here : IsFirstLike (HoldSame size seen (sectors_in s alone.mirror)) list alone like =
          subst (λ (n : ℕ). IsFirstLike (HoldSame size seen n) list alone like)
          c.sectors_in-sectors.ensures
          (first_again (HoldSame size' seen' c.sectors_in-sectors.result)
          (HoldSame size seen c.sectors_in-sectors.result)
          (λ p q hold. hold_before size size' seen seen' c.sectors_in-sectors.result p q
          inv.only.keeps.size (inv.only.reads h).quiet.seen hold)
          (λ p q hold. hold_after size size' seen seen' c.sectors_in-sectors.result p q
          inv.only.keeps.size (inv.only.reads h).quiet.seen hold)
          list alone like first) in
          subst (λ (l : List Unequal). AreGrouped (λ m. HoldSame size seen (sectors_in s m)) l)
          (sym pushed)
          (grouped_more (λ m. HoldSame size seen (sectors_in s m))
          (λ m p q hold. same_back size seen (sectors_in s m) p q hold)
          (λ m p q r one other. same_on size seen (sectors_in s m) p q r one other)
          list (inv.grouped h) alone like here);
    }

pub returns-clause-told : goal.returns-clause-told
returns-clause-told g c h asked scrub =
    let inv = c.loop-found.invariant in
    let H = g.H.Shelf in
    let s = c.args.state.now in
    let size = H.size c.args.shelf.now in
    let seen = (H.view c.args.shelf.now).seen in
    let all = take_all c.loop-found.found-index c.args.flaws.now c.loop-found-test.false in
    all_told s size seen asked c.loop-found.list.items inv.state
    (subst (λ (l : List Scrubbed). IsScrub s size seen asked l) (sym (inv.flaws ∙ all)) scrub)
    inv.each (inv.grouped h)
