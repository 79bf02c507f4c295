use Rattle.gm_registry.proofs.FittingIntents.{labels_short, text_of_label}
use Rattle.gm_registry.proofs.InsideCalls.{no_call, then_does}
use Rattle.gm_registry.proofs.Common.{AreShort, [], arith}
use Rattle.gm_registry.proofs.intents.put_intent.Goals as goal

pub returns-in-Meta : goal.returns-in-Meta
returns-in-Meta g c =
    let short : AreShort c.as_str.result.now [] =
    labels_short _ [] (text_of_label _ _ c.as_str.ensures.text c.as_str.ensures.label) (omega
    arith) in
    rw (c.in-Meta.is) (then_does g.S.Store c.put_row.result _ _ _
    (no_call g.S.Store c.args.tx.now) c.put_row.ensures
    (λ first t is. rw (c.as_str.ensures.text) at is) (λ t free room. (free, short)) (omega arith))

pub returns-in-Clear : goal.returns-in-Clear
returns-in-Clear g c =
    let short : AreShort c.as_str-in-Clear.result.now [] =
    labels_short _ [] (text_of_label _ _ c.as_str-in-Clear.ensures.text
    c.as_str-in-Clear.ensures.label) (omega arith) in
    rw (c.in-Clear.is) (then_does g.S.Store c.put_row-in-Clear.result _ _ _
    (no_call g.S.Store c.args.tx.now) c.put_row-in-Clear.ensures
    (λ first t is. rw (c.as_str-in-Clear.ensures.text) at is) (λ t free room. (free, short)) (omega
    arith))

pub returns-in-Copy : goal.returns-in-Copy
returns-in-Copy g c =
    let short : AreShort c.as_str-in-Copy.result.now c.as_str-in-Copy-2.result.now =
    labels_short _ _ (text_of_label _ _ c.as_str-in-Copy.ensures.text
    c.as_str-in-Copy.ensures.label)
    (text_of_label _ _ c.as_str-in-Copy-2.ensures.text c.as_str-in-Copy-2.ensures.label) in
    rw (c.in-Copy.is) (then_does g.S.Store c.put_row-in-Copy.result _ _ _
    (no_call g.S.Store c.args.tx.now) c.put_row-in-Copy.ensures
    (λ first t is. rw (c.as_str-in-Copy.ensures.text, c.as_str-in-Copy-2.ensures.text) at is) (λ t
    free room. (free, short)) (omega arith))

pub returns-in-Dirty : goal.returns-in-Dirty
returns-in-Dirty g c =
    let short : AreShort c.as_str-in-Dirty.result.now [] =
    labels_short _ [] (text_of_label _ _ c.as_str-in-Dirty.ensures.text
    c.as_str-in-Dirty.ensures.label) (omega arith) in
    rw (c.in-Dirty.is) (then_does g.S.Store c.put_row-in-Dirty.result _ _ _
    (no_call g.S.Store c.args.tx.now) c.put_row-in-Dirty.ensures
    (λ first t is. rw (c.as_str-in-Dirty.ensures.text) at is) (λ t free room. (free, short)) (omega
    arith))

pub returns-in-Patch : goal.returns-in-Patch
returns-in-Patch g c =
    let short : AreShort c.as_str-in-Patch.result.now [] =
    labels_short _ [] (text_of_label _ _ c.as_str-in-Patch.ensures.text
    c.as_str-in-Patch.ensures.label) (omega arith) in
    rw (c.in-Patch.is) (then_does g.S.Store c.put_row-in-Patch.result _ _ _
    (no_call g.S.Store c.args.tx.now) c.put_row-in-Patch.ensures
    (λ first t is. rw (c.as_str-in-Patch.ensures.text) at is) (λ t free room. (free, short)) (omega
    arith))
