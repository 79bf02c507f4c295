use Rattle.gm_words.proofs.Several.{all_read, goes_on, stops}
use Rattle.gm_words.proofs.command_words.providers.Goals as goal

pub returns-in_default : goal.returns-in_default
returns-in_default c =
    stops c.args.found.now c.loop-text.text-index _ _ c.loop-text-test.true c.new.ensures
    c.in_default.is

pub loop-text-preserved : goal.loop-text-preserved
loop-text-preserved c =
    let now = goes_on c.args.found.now c.loop-text.text-index _ _ _ _ _ c.loop-text-test.true
    c.new.ensures c.in-Some.is
    c.loop-text.invariant.are c.loop-text.invariant.labels c.in_ok-push.ensures.items in
    record { are = now.0; labels = now.1 }

pub returns : goal.returns
returns c =
    all_read c.args.found.now c.loop-text.text-index _ _ c.loop-text-test.false
    c.loop-text.invariant.are c.loop-text.invariant.labels c.new-2.ensures
