use Rattle.gm_apply.proofs.Common.{rules, arith, List, subst, take_all, Sizes, keeps_then, Has, Intent, LacksProvider, LacksSector}
use Rattle.gm_apply.proofs.Others.{others_on}
use Rattle.gm_apply.proofs.Lists.{has_index, index_done, index_moments, places_new}
use Rattle.gm_apply.proofs.Steps.{Reaches}
use Rattle.gm_apply.proofs.redo.apply.Goals as goal

pub loop-intent-preserved : goal.loop-intent-preserved
loop-intent-preserved g c =
    let inv = c.loop-intent.invariant in
    let shelf = g.H.Shelf in
    let t = c.intent-item.result in
    let has : Has c.args.intents.now t =
    has_index c.args.intents.now c.loop-intent.intent-index t c.intent-item.is (omega arith) in
    record {
      keeps = keeps_then shelf _ _ _ inv.keeps c.apply_one.ensures.keeps;
      reaches = λ h w redo.
          index_done c.args.state.now c.args.bytes.now (shelf.size c.loop-intent.shelf)
          (shelf.size c.args.shelf.now) inv.keeps.size c.args.intents.now c.loop-intent.intent-index
          t c.intent-item.is w (shelf.view c.args.shelf.now) (shelf.view c.loop-intent.shelf)
          (shelf.view c.apply_one.new.shelf) (omega arith) (inv.reaches h w redo) redo
          (c.in_ok-apply_one.ensures.done (inv.keeps.honest h));
      moments = λ h w redo.
          index_moments c.args.state.now c.args.bytes.now (shelf.size c.loop-intent.shelf)
          (shelf.size c.args.shelf.now) inv.keeps.size c.args.intents.now c.loop-intent.intent-index
          t c.intent-item.is w (shelf.view c.args.shelf.now) (shelf.view c.loop-intent.shelf)
          (shelf.view c.apply_one.new.shelf) (omega arith) (inv.reaches h w redo) redo
          (inv.moments h w redo) (c.apply_one.ensures.moments (inv.keeps.honest h));
      others = λ h.
          others_on c.args.state.now (shelf.size c.loop-intent.shelf)
          (shelf.size c.args.shelf.now) inv.keeps.size c.args.intents.now t has
          (shelf.view c.args.shelf.now) (shelf.view c.loop-intent.shelf)
          (shelf.view c.apply_one.new.shelf) (inv.others h)
          (c.apply_one.ensures.others (inv.keeps.honest h));
    }

pub returns-in_err-apply_one : goal.returns-in_err-apply_one
returns-in_err-apply_one g c =
    let inv = c.loop-intent.invariant in
    let shelf = g.H.Shelf in
    let t = c.intent-item.result in
    let size = shelf.size c.loop-intent.shelf in
    let has : Has c.args.intents.now t =
    has_index c.args.intents.now c.loop-intent.intent-index t c.intent-item.is (omega arith) in
    record {
      done = search rules;
      moments = λ h w redo.
          index_moments c.args.state.now c.args.bytes.now (shelf.size c.loop-intent.shelf)
          (shelf.size c.args.shelf.now) inv.keeps.size c.args.intents.now c.loop-intent.intent-index
          t c.intent-item.is w (shelf.view c.args.shelf.now) (shelf.view c.loop-intent.shelf)
          (shelf.view c.apply_one.new.shelf) (omega arith) (inv.reaches h w redo) redo
          (inv.moments h w redo) (c.apply_one.ensures.moments (inv.keeps.honest h));
      others = λ h.
          others_on c.args.state.now (shelf.size c.loop-intent.shelf)
          (shelf.size c.args.shelf.now) inv.keeps.size c.args.intents.now t has
          (shelf.view c.args.shelf.now) (shelf.view c.loop-intent.shelf)
          (shelf.view c.apply_one.new.shelf) (inv.others h)
          (c.apply_one.ensures.others (inv.keeps.honest h));
      fails = record {
        absent = λ e.
            let here : LacksProvider size t = search rules in
            (t, has, subst (λ (z : Sizes). LacksProvider z t) inv.keeps.size here);
        range = λ e.
            let here : LacksSector size t = search rules in
            (t, has, subst (λ (z : Sizes). LacksSector z t) inv.keeps.size here);
        device = search rules;
      };
      keeps = search rules;
    }

pub returns : goal.returns
returns g c =
    let inv = c.loop-intent.invariant in
    let shelf = g.H.Shelf in
    record {
      done = λ h w redo.
          places_new c.args.state.now (shelf.size c.args.shelf.now) c.args.intents.now w
          (shelf.view c.args.shelf.now) (shelf.view c.loop-intent.shelf) redo.clean
          (subst (λ (l : List Intent). Reaches c.args.state.now (shelf.size c.args.shelf.now) l w
          (shelf.view c.args.shelf.now) (shelf.view c.loop-intent.shelf))
          (take_all c.loop-intent.intent-index c.args.intents.now (omega arith))
          (inv.reaches h w redo));
      moments = inv.moments;
      others = inv.others;
      fails = search rules;
      keeps = inv.keeps;
    }
