use Rattle.gm_stopped.proofs.Common.{◌≡◌, ◌∙◌, ⊎_elim, inl, inr, List, take_all, sym, subst, arith, Has, only_then}
use Rattle.gm_state.specs.declared.intents.Intent.{Intent}
use Rattle.gm_stopped.proofs.Listing.{told_more, others_more, to_before, strange_after}
use Rattle.gm_stopped.proofs.Missing.{one_more, seen_before}
use Rattle.gm_stopped.proofs.StrangeTest.{listed_before, listed_more}
use Rattle.gm_stopped.specs.Strange.{HasStrange, IsStrangeTo, strange_names}
use Rattle.gm_stopped.proofs.strange.strange_images.Goals as goal

pub loop-intent-preserved : goal.loop-intent-preserved
loop-intent-preserved g c =
    let H = g.H.Shelf in
    let inv = c.loop-intent.invariant in
    let mid = c.loop-intent.shelf in
    let size = H.size c.args.shelf.now in
    let seen = (H.view c.args.shelf.now).seen in
    let s = c.args.state.now in
    let stopped = c.args.stopped.now in
    let names = c.loop-intent.names.items in
    let more = c.add_strange_of.new.names.items in
    let t = c.intent-item.result in
    let added = c.in_ok-add_strange_of.ensures in
    record {
      only = only_then H _ _ _ inv.only added.looks.only;
      told = λ h. told_more s stopped size seen c.args.intents.now c.loop-intent.intent-index t
          names more c.loop-intent-test.true c.intent-item.is (inv.told h)
          (λ p has. ⊎_elim (λ (was : Has names p). inl was)
          (λ (new : IsStrangeTo s stopped (H.size mid) (H.view mid).seen t p).
          inr (to_before s stopped size seen (H.size mid) (H.view mid).seen inv.only.keeps.size
          (inv.only.reads h).quiet.seen t p new)) (added.told (inv.only.keeps.honest h) p has));
      others = λ h counted.
          let first : (H.view mid).faults ≡ (H.view c.args.shelf.now).faults =
          omega (arith, counted, inv.only.keeps.count, added.looks.only.keeps.count) in
          others_more s stopped size seen c.args.intents.now c.loop-intent.intent-index t
          names more c.loop-intent-test.true c.intent-item.is (inv.others h first) added.kept
          (λ need needs strange. added.others (inv.only.keeps.honest h) (counted ∙ sym first)
          need needs (strange_after s stopped size seen (H.size mid) (H.view mid).seen
          inv.only.keeps.size (inv.only.reads h).quiet.seen need strange));
      listed = λ h counted.
          let first : (H.view mid).faults ≡ (H.view c.args.shelf.now).faults =
          omega (arith, counted, inv.only.keeps.count, added.looks.only.keeps.count) in
          listed_more s stopped size seen c.args.intents.now c.loop-intent.intent-index t
          names more c.loop-intent-test.true c.intent-item.is (inv.listed h first)
          (listed_before s stopped size seen (H.size mid) (H.view mid).seen
          inv.only.keeps.size (inv.only.reads h).quiet.seen names more t
          (added.listed (inv.only.keeps.honest h) (counted ∙ sym first)));
      missed = λ h. one_more s stopped size seen c.args.intents.now c.loop-intent.intent-index t
          names more (H.view c.args.shelf.now).faults (H.view mid).faults
          (H.view c.add_strange_of.new.shelf).faults c.loop-intent-test.true c.intent-item.is
          added.kept (inv.missed h)
          (seen_before s stopped size seen (H.size mid) (H.view mid).seen inv.only.keeps.size
          (inv.only.reads h).quiet.seen more t (H.view mid).faults
          (H.view c.add_strange_of.new.shelf).faults (added.missed (inv.only.keeps.honest h)));
    }

pub returns-clause-others : goal.returns-clause-others
returns-clause-others g c h counted =
    let H = g.H.Shelf in
    let seen = (H.view c.args.shelf.now).seen in
    subst (λ (ts : List Intent). HasStrange c.args.state.now c.args.stopped.now
    (H.size c.args.shelf.now) seen ts c.loop-intent.names.items)
    (take_all c.loop-intent.intent-index c.args.intents.now c.loop-intent-test.false)
    (c.loop-intent.invariant.others h counted)

pub returns-clause-listed : goal.returns-clause-listed
returns-clause-listed g c h counted =
    let H = g.H.Shelf in
    let seen = (H.view c.args.shelf.now).seen in
    subst (λ (ts : List Intent). c.loop-intent.names.items
    ≡ strange_names c.args.state.now c.args.stopped.now (H.size c.args.shelf.now) seen ts)
    (take_all c.loop-intent.intent-index c.args.intents.now c.loop-intent-test.false)
    (c.loop-intent.invariant.listed h counted)
