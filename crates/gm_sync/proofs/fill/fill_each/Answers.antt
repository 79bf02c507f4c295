use Rattle.gm_sync.proofs.Common.{◌≡◌, ◌∙◌, true, sym, rules, inl, inr, ap, subst, length, List, None, Some, slice_get, Component, arith, FailsFilling, FillsBy, IsAdvanceIn, IsAdvanceOf, IsAdvanceOn, Refuses, RefusesOneOf, is_next, unfilled_at}
use Rattle.gm_sync.proofs.Ended.{component_too, filled_so, unfilled_so}
use Rattle.gm_sync.proofs.Faults.{told}
use Rattle.gm_sync.proofs.Filled.{by_behind, fills_none, fills_then, refuses_then}
use Rattle.gm_sync.proofs.Next.{by_next, fails_next, fills_next, none_found, one_more, refuses_next}
use Rattle.gm_sync.proofs.Stops.{fails_filling_then}
use Rattle.gm_sync.proofs.fill.fill_each.Goals as goal

pub loop-component-init : goal.loop-component-init
loop-component-init g c = record {
  phase = c.requires;
  fills = fills_none g.S.Store g.H.Shelf (IsAdvanceIn c.args.due.now) _;
  some = inl (λ k x below at. absurd (omega arith));
}

pub returns-in-Some-clause-fills : goal.returns-in-Some-clause-fills
returns-in-Some-clause-fills g c =
    let next : is_next c.args.due.now c.args.state.now c.component-item.result ≡ true =
    sym c.is_next.ensures ∙ c.if-not-is_next.false in
    fills_then g.S.Store g.H.Shelf (IsAdvanceIn c.args.due.now) c.args.bench.now
    c.loop-component.bench c.fill_one.new.bench c.loop-component.invariant.fills
    (fills_next c.args.due.now c.args.state.now c.component-item.result next g.S.Store g.H.Shelf
    c.loop-component.bench c.fill_one.new.bench c.in_ok-end.ensures.fills)

pub returns-in-Some-clause-ends : goal.returns-in-Some-clause-ends
returns-in-Some-clause-ends g c =
    let next : is_next c.args.due.now c.args.state.now c.component-item.result ≡ true =
    sym c.is_next.ensures ∙ c.if-not-is_next.false in
    let due = c.args.due.now in
    let k = c.component-item.result in
    let was = c.loop-component.bench in
    let is = c.fill_one.new.bench in
    let same : unfilled_at c.component-item.result.provider c.in_ok-end.end
    ≡ Some c.in-Some.unfilled = cc in
    unfilled_so (RefusesOneOf g.S.Store g.H.Shelf due c.args.bench.now is)
    (FillsBy g.S.Store g.H.Shelf (IsAdvanceIn due) c.args.bench.now is) k.provider c.in_ok-end.end
    c.in-Some.unfilled same
    (component_too (Refuses g.S.Store g.H.Shelf (IsAdvanceOf k) (IsAdvanceOf k) was is)
    (RefusesOneOf g.S.Store g.H.Shelf due c.args.bench.now is k.provider)
    (FillsBy g.S.Store g.H.Shelf (IsAdvanceOf k) was is)
    (FillsBy g.S.Store g.H.Shelf (IsAdvanceIn due) c.args.bench.now is)
    (λ why so. refuses_then g.S.Store g.H.Shelf (IsAdvanceIn due) (IsAdvanceOn due k.provider)
    c.args.bench.now was is why c.loop-component.invariant.fills c.in_ok-end.ensures.keep
    (refuses_next due c.args.state.now k next g.S.Store g.H.Shelf was is why so))
    (λ n so. by_behind g.S.Store g.H.Shelf (IsAdvanceIn due) c.args.bench.now was is n
    c.loop-component.invariant.fills c.in_ok-end.ensures.keep
    (by_next due c.args.state.now k next g.S.Store g.H.Shelf was is n so))
    c.in_ok-end.end c.in_ok-end.ensures.ends)

pub returns-clause-ends : goal.returns-clause-ends
returns-clause-ends g c = λ some. elim c.loop-component.invariant.some [
  | inl none ↦ absurd (some (none_found (is_next c.args.due.now c.args.state.now)
      c.args.state.now.components
      (λ k x below at.
      none k x (omega (arith, below, ap length c.components-component-items.ensures.value))
      (subst (λ (xs : List Component). slice_get xs k ≡ Some x)
      (sym c.components-component-items.ensures.value) at))))
  | inr by ↦ by
]

pub loop-component-preserved-then-not-is_next : goal.loop-component-preserved-then-not-is_next
loop-component-preserved-then-not-is_next g c = record {
  phase = c.loop-component.invariant.phase;
  fills = c.loop-component.invariant.fills;
  some = one_more (is_next c.args.due.now c.args.state.now)
      c.components-component-items.result.now c.loop-component.component-index
      c.component-item.result (sym c.component-item.is)
      (sym c.is_next.ensures ∙ c.if-not-is_next.true) c.loop-component.invariant.some;
}

pub loop-component-preserved : goal.loop-component-preserved
loop-component-preserved g c =
    let next : is_next c.args.due.now c.args.state.now c.component-item.result ≡ true =
    sym c.is_next.ensures ∙ c.if-not-is_next.false in
    let left : unfilled_at c.component-item.result.provider c.in_ok-end.end ≡ None = cc in
    record {
      phase = c.in_ok-end.ensures.phase;
      fills = fills_then g.S.Store g.H.Shelf (IsAdvanceIn c.args.due.now) c.args.bench.now
          c.loop-component.bench c.fill_one.new.bench c.loop-component.invariant.fills
          (fills_next c.args.due.now c.args.state.now c.component-item.result next g.S.Store
          g.H.Shelf c.loop-component.bench c.fill_one.new.bench c.in_ok-end.ensures.fills);
      some = inr (by_behind g.S.Store g.H.Shelf (IsAdvanceIn c.args.due.now) c.args.bench.now
          c.loop-component.bench c.fill_one.new.bench 1 c.loop-component.invariant.fills
          c.in_ok-end.ensures.keep
          (by_next c.args.due.now c.args.state.now c.component-item.result next g.S.Store
          g.H.Shelf c.loop-component.bench c.fill_one.new.bench 1
          (filled_so (Refuses g.S.Store g.H.Shelf (IsAdvanceOf c.component-item.result)
          (IsAdvanceOf c.component-item.result) c.loop-component.bench c.fill_one.new.bench)
          (FillsBy g.S.Store g.H.Shelf (IsAdvanceOf c.component-item.result)
          c.loop-component.bench c.fill_one.new.bench) c.component-item.result.provider
          c.in_ok-end.end left c.in_ok-end.ensures.ends)));
    }

pub returns-in_err-end-clause-faults : goal.returns-in_err-end-clause-faults
returns-in_err-end-clause-faults g c =
    let next : is_next c.args.due.now c.args.state.now c.component-item.result ≡ true =
    sym c.is_next.ensures ∙ c.if-not-is_next.false in
    told (FailsFilling g.S.Store g.H.Shelf (IsAdvanceIn c.args.due.now) c.args.bench.now
    c.fill_one.new.bench) _ c.in_err-end.field-0.0 (search rules)
    (fails_filling_then g.S.Store g.H.Shelf (IsAdvanceIn c.args.due.now) c.args.bench.now
    c.loop-component.bench c.fill_one.new.bench _ c.loop-component.invariant.fills
    c.in_err-end.ensures.keep
    (fails_next c.args.due.now c.args.state.now c.component-item.result next g.S.Store g.H.Shelf
    c.loop-component.bench c.fill_one.new.bench _ c.in_err-end.ensures.faults))
