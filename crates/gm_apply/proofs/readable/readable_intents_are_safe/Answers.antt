use Rattle.gm_apply.proofs.Common.{[], no_dirt_left, in_order, lent, copies_data}
use Rattle.gm_apply.proofs.readable.readable_intents_are_safe.Goals as goal

pub returns-clause-safe : goal.returns-clause-safe
returns-clause-safe c = λ t may. record {
  order = in_order t.state t.size may.state t.intents may.there t.intents may.readable.each
      (λ r h. h) may.readable.ordered;
  lends = lent t.state t.size may.state t.intents may.there t.bytes t.intents (λ r h. h)
      may.readable;
}

pub returns-clause-clean : goal.returns-clause-clean
returns-clause-clean c = λ t readable. no_dirt_left [] t.intents readable.ordered

pub returns-clause-data : goal.returns-clause-data
returns-clause-data c = λ w bytes size ts sound holds.
    copies_data w bytes size ts sound holds.readable holds.says
