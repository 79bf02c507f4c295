use Rattle.gm_sync.proofs.Common.{inl, inr, arith, rules, registry_of, DiskKept, FailsToSync, FillsBy, IsAdvanceIn, IsAdvanceOn, IsWhole, most_turns, RefusesOneOf, but}
use Rattle.gm_sync.proofs.Ended.{ends_too}
use Rattle.gm_sync.proofs.Faults.{by_audit, told}
use Rattle.gm_sync.proofs.Filled.{by_behind, fills_look, fills_then, refuses_then, whole_behind}
use Rattle.gm_sync.proofs.Still.{still_then}
use Rattle.gm_sync.proofs.Stops.{fails_filling_then}
use Rattle.gm_sync.proofs.audited.sync.Goals as goal

pub returns-clause-syncs : goal.returns-clause-syncs
returns-clause-syncs g c =
    let due = but c.args.scope.now c.in_ok-passed_over.passed_over in
    let looks = c.in_ok-passed_over.ensures.looks in
    let filled = c.in_ok-ending.ensures in
    let looked = fills_look g.S.Store g.H.Shelf (IsAdvanceIn due) c.args.bench.now
    c.amiss.new.bench looks.stays looks.keep looks.does in
    record {
      fills = fills_then g.S.Store g.H.Shelf (IsAdvanceIn due) c.args.bench.now c.amiss.new.bench
          c.fill.new.bench looked filled.fills;
      still = still_then g.S.Store g.H.Shelf due c.args.bench.now c.amiss.new.bench
          c.fill.new.bench looks.keep filled.keep looks.does filled.still;
      ends = ends_too (IsWhole g.S.Store g.H.Shelf c.amiss.new.bench c.fill.new.bench due)
          (IsWhole g.S.Store g.H.Shelf c.args.bench.now c.fill.new.bench due)
          (RefusesOneOf g.S.Store g.H.Shelf due c.amiss.new.bench c.fill.new.bench)
          (RefusesOneOf g.S.Store g.H.Shelf due c.args.bench.now c.fill.new.bench)
          (FillsBy g.S.Store g.H.Shelf (IsAdvanceIn due) c.amiss.new.bench c.fill.new.bench)
          (FillsBy g.S.Store g.H.Shelf (IsAdvanceIn due) c.args.bench.now c.fill.new.bench)
          (λ state whole. whole_behind g.S.Store g.H.Shelf c.args.bench.now c.amiss.new.bench
          c.fill.new.bench due state looks.keep filled.keep looks.does whole)
          (λ p why refuses. refuses_then g.S.Store g.H.Shelf (IsAdvanceIn due)
          (IsAdvanceOn due p) c.args.bench.now c.amiss.new.bench c.fill.new.bench why looked
          filled.keep refuses)
          (λ many. by_behind g.S.Store g.H.Shelf (IsAdvanceIn due) c.args.bench.now
          c.amiss.new.bench c.fill.new.bench most_turns looked filled.keep many)
          c.in_ok-ending.ending filled.ends;
    }

pub returns-clause-audited : goal.returns-clause-audited
returns-clause-audited g c =
    by_audit g.S.Store g.H.Shelf c.args.bench.now c.fill.new.bench c.args.scope.now _ c.args.audits
    (λ asked honest kept.
    let mid : DiskKept g.S.Store (registry_of c.amiss.new.bench) =
    omega (arith, c.in_ok-ending.ensures.keep.clean, kept) in
    c.in_ok-passed_over.ensures.told asked honest mid) c.in_ok-passed_over.ensures.unasked

pub returns-in_err-passed_over-clause-faults : goal.returns-in_err-passed_over-clause-faults
returns-in_err-passed_over-clause-faults g c =
    let fails = c.in_err-passed_over.ensures.faults in
    told (FailsToSync g.S.Store g.H.Shelf c.args.bench.now c.amiss.new.bench c.args.scope.now
    c.args.audits) _ c.in_err-passed_over.field-0.0 (search rules)
    (record { told = fails.told; leaves = inl fails.leaves })

pub returns-in_err-ending-clause-faults : goal.returns-in_err-ending-clause-faults
returns-in_err-ending-clause-faults g c =
    let passed = c.in_ok-passed_over.passed_over in
    let due = but c.args.scope.now passed in
    let by = c.in_ok-passed_over.ensures in
    let keep = c.in_err-ending.ensures.keep in
    let fails = fails_filling_then g.S.Store g.H.Shelf (IsAdvanceIn due) c.args.bench.now
    c.amiss.new.bench c.fill.new.bench c.in_err-ending.field-0.0
    (fills_look g.S.Store g.H.Shelf (IsAdvanceIn due) c.args.bench.now c.amiss.new.bench
    by.looks.stays by.looks.keep by.looks.does) keep c.in_err-ending.ensures.faults in
    let passes = by_audit g.S.Store g.H.Shelf c.args.bench.now c.fill.new.bench c.args.scope.now
    passed c.args.audits
    (λ asked honest kept.
    let mid : DiskKept g.S.Store (registry_of c.amiss.new.bench) =
    omega (arith, keep.clean, kept) in
    by.told asked honest mid) by.unasked in
    told (FailsToSync g.S.Store g.H.Shelf c.args.bench.now c.fill.new.bench c.args.scope.now
    c.args.audits) _ c.in_err-ending.field-0.0 (search rules)
    (record { told = fails.told; leaves = inr (passed, passes, fails.leaves) })
