use Rattle.gm_sync.proofs.Common.{◌+◌, arith, rules, FailsFillingOn, IsAdvanceOf, most_turns}
use Rattle.gm_sync.proofs.Faults.{told}
use Rattle.gm_sync.proofs.FilledOn.{by_on_fewer, by_on_none, by_on_then, fills_on_none, fills_on_then, numbers_none, numbers_then, refuses_on_then}
use Rattle.gm_sync.proofs.Stops.{fails_filling_on_then}
use Rattle.gm_sync.proofs.fill.fill_stretches.Goals as goal

pub loop-init : goal.loop-init
loop-init g c = record {
  phase = c.requires;
  fills = fills_on_none g.S.Store g.H.Shelf (IsAdvanceOf c.args.component.now) c.args.bench.now;
  many = by_on_none g.S.Store g.H.Shelf (IsAdvanceOf c.args.component.now) c.args.bench.now;
  numbers = numbers_none g.S.Store g.H.Shelf (IsAdvanceOf c.args.component.now) c.args.bench.now
      c.args.number.now;
}

pub returns-then-held-total-clause-fills : goal.returns-then-held-total-clause-fills
returns-then-held-total-clause-fills g c =
    fills_on_then g.S.Store g.H.Shelf (IsAdvanceOf c.args.component.now) c.args.bench.now
    c.loop.bench c.advance.new.bench c.loop.invariant.fills c.in_ok-answered.ensures.fills

pub returns-then-held-total-clause-ends : goal.returns-then-held-total-clause-ends
returns-then-held-total-clause-ends g c =
    let fit = IsAdvanceOf c.args.component.now in
    by_on_fewer g.S.Store g.H.Shelf fit c.args.bench.now c.advance.new.bench 1
    (c.loop.counter + 1) (omega arith)
    (by_on_then g.S.Store g.H.Shelf fit c.loop.number c.args.bench.now c.loop.bench
    c.advance.new.bench c.in_ok-answered.answered c.loop.counter c.loop.invariant.fills.keep
    c.in_ok-answered.ensures.keep c.loop.invariant.many c.in_ok-answered.ensures.answers)

pub returns-then-held-total-clause-numbers : goal.returns-then-held-total-clause-numbers
returns-then-held-total-clause-numbers g c =
    numbers_then g.S.Store g.H.Shelf (IsAdvanceOf c.args.component.now) c.args.bench.now
    c.loop.bench c.advance.new.bench c.in_ok-answered.answered c.args.number.now c.loop.number
    c.used_by.result c.saturating_add.result c.loop.invariant.fills.keep
    c.in_ok-answered.ensures.keep c.loop.invariant.numbers c.in_ok-answered.ensures.answers
    c.used_by.ensures c.saturating_add.ensures

pub returns-clause-ends : goal.returns-clause-ends
returns-clause-ends g c =
    by_on_fewer g.S.Store g.H.Shelf (IsAdvanceOf c.args.component.now) c.args.bench.now
    c.loop.bench most_turns c.loop.counter (omega arith) c.loop.invariant.many

pub returns-in-Refused : goal.returns-in-Refused
returns-in-Refused g c =
    let fit = IsAdvanceOf c.args.component.now in
    let filled = fills_on_then g.S.Store g.H.Shelf fit c.args.bench.now c.loop.bench
    c.advance.new.bench c.loop.invariant.fills c.in_ok-answered.ensures.fills in
    record {
      phase = c.in_ok-answered.ensures.phase;
      keep = filled.keep;
      fills = filled;
      ends = refuses_on_then g.S.Store g.H.Shelf fit c.loop.number c.args.bench.now c.loop.bench
          c.advance.new.bench c.in_ok-answered.answered c.in-Refused.why c.in-Refused.is
          c.loop.invariant.fills c.in_ok-answered.ensures.keep c.in_ok-answered.ensures.answers;
      faults = tt;
      numbers = numbers_then g.S.Store g.H.Shelf fit c.args.bench.now c.loop.bench
          c.advance.new.bench c.in_ok-answered.answered c.args.number.now c.loop.number
          c.used_by.result c.saturating_add.result c.loop.invariant.fills.keep
          c.in_ok-answered.ensures.keep c.loop.invariant.numbers
          c.in_ok-answered.ensures.answers c.used_by.ensures c.saturating_add.ensures;
    }

pub loop-preserved : goal.loop-preserved
loop-preserved g c =
    let fit = IsAdvanceOf c.args.component.now in
    record {
      phase = c.in_ok-answered.ensures.phase;
      fills = fills_on_then g.S.Store g.H.Shelf fit c.args.bench.now c.loop.bench
          c.advance.new.bench c.loop.invariant.fills c.in_ok-answered.ensures.fills;
      many = by_on_then g.S.Store g.H.Shelf fit c.loop.number c.args.bench.now c.loop.bench
          c.advance.new.bench c.in_ok-answered.answered c.loop.counter
          c.loop.invariant.fills.keep c.in_ok-answered.ensures.keep c.loop.invariant.many
          c.in_ok-answered.ensures.answers;
      numbers = numbers_then g.S.Store g.H.Shelf fit c.args.bench.now c.loop.bench
          c.advance.new.bench c.in_ok-answered.answered c.args.number.now c.loop.number
          c.used_by.result c.saturating_add.result c.loop.invariant.fills.keep
          c.in_ok-answered.ensures.keep c.loop.invariant.numbers
          c.in_ok-answered.ensures.answers c.used_by.ensures c.saturating_add.ensures;
    }

pub returns-in_err-answered-clause-faults : goal.returns-in_err-answered-clause-faults
returns-in_err-answered-clause-faults g c =
    told (FailsFillingOn g.S.Store g.H.Shelf (IsAdvanceOf c.args.component.now) c.args.bench.now
    c.advance.new.bench) _ c.in_err-answered.field-0.0 (search rules)
    (fails_filling_on_then g.S.Store g.H.Shelf (IsAdvanceOf c.args.component.now) c.args.bench.now
    c.loop.bench c.advance.new.bench _ c.loop.invariant.fills c.in_err-answered.ensures.keep
    c.in_err-answered.ensures.faults)
