use Rattle.gm_bench.proofs.Common.{◌≡◌, ◌∙◌, ◌∷◌, ◌+◌, Some, None, drop, sym, ap, arith, drop_more, Intent, option_or, absent_among, providers_in, first_absent}
use Rattle.gm_bench.proofs.Present.{first_of}
use Rattle.gm_bench.proofs.presence.first_absent.Goals as goal

pub loop-intent-preserved : goal.loop-intent-preserved
loop-intent-preserved g c =
    let s = c.args.state.now in
    let size = g.H.Shelf.size c.args.shelf.now in
    let t = c.intent-item.result in
    let more : drop c.loop-intent.intent-index c.args.intents.now ≡ t
    ∷ drop (c.loop-intent.intent-index + 1) c.args.intents.now =
    drop_more c.args.intents.now c.loop-intent.intent-index t (omega arith)
    ∙ ap (λ (i : Intent). i ∷ drop (c.loop-intent.intent-index + 1) c.args.intents.now)
    (sym c.intent-item.is) in
    let none : absent_among s size (providers_in t) ≡ None =
    sym c.absent_of.ensures ∙ c.in_default.is in
    c.loop-intent.invariant ∙ ap (first_absent s size) more
    ∙ first_of s size t (drop (c.loop-intent.intent-index + 1) c.args.intents.now)
    ∙ ap (λ o. option_or o
    (first_absent s size (drop (c.loop-intent.intent-index + 1) c.args.intents.now))) none

pub returns-in-Some : goal.returns-in-Some
returns-in-Some g c =
    let s = c.args.state.now in
    let size = g.H.Shelf.size c.args.shelf.now in
    let t = c.intent-item.result in
    let more : drop c.loop-intent.intent-index c.args.intents.now ≡ t
    ∷ drop (c.loop-intent.intent-index + 1) c.args.intents.now =
    drop_more c.args.intents.now c.loop-intent.intent-index t (omega arith)
    ∙ ap (λ (i : Intent). i ∷ drop (c.loop-intent.intent-index + 1) c.args.intents.now)
    (sym c.intent-item.is) in
    let some : absent_among s size (providers_in t) ≡ Some c.in-Some.provider =
    sym c.absent_of.ensures ∙ c.in-Some.is in
    sym (c.loop-intent.invariant ∙ ap (first_absent s size) more
    ∙ first_of s size t (drop (c.loop-intent.intent-index + 1) c.args.intents.now)
    ∙ ap (λ o. option_or o
    (first_absent s size (drop (c.loop-intent.intent-index + 1) c.args.intents.now))) some)
