use Rattle.gm_sync.proofs.Common.{rules, arith, ◌≡◌, refl, length, registry_of, shelf_of, DiskKept, FailsFilling, IsNone}
use Rattle.gm_state.proofs.Suffixes.{none_left}
use Rattle.gm_sync.proofs.Faults.{store_of_records, told}
use Rattle.gm_sync.proofs.Filled.{fills_looked, fills_none, look_keeps, look_none, look_then}
use Rattle.gm_sync.proofs.Passing.{passed_none, passed_told}
use Rattle.gm_sync.proofs.Stops.{fails_filling_then, look_fails_filling, memory_fails_filling}
use Rattle.gm_sync.proofs.audit.amiss.Goals as goal

pub returns-then-not-audits-clause-looks : goal.returns-then-not-audits-clause-looks
returns-then-not-audits-clause-looks g c = record {
  keep = search rules;
  does = λ honest kept. look_none g.S.Store g.H.Shelf c.args.bench.now;
  stays = search rules;
}

pub returns-then-is_empty-clause-told : goal.returns-then-is_empty-clause-told
returns-then-is_empty-clause-told g c = λ asked honest kept t s has are.
    let j = g.H.Shelf in
    let audited = c.in_ok-names.ensures in
    let zero : length c.in_ok-names.names.items ≡ 0 = search rules in
    passed_none c.args.scope.now s (j.size (shelf_of c.args.bench.now))
    (j.view (shelf_of c.args.bench.now)).seen c.in_ok-names.names.items
    c.none-then-is_empty.result (none_left c.in_ok-names.names.items 0 (omega (arith, zero)))
    c.none-then-is_empty.ensures (audited.audits honest kept t s has are)

pub returns-in-Ok-clause-looks : goal.returns-in-Ok-clause-looks
returns-in-Ok-clause-looks g c = record {
  keep = search rules;
  does = λ honest kept.
      let audited = c.in_ok-names.ensures in
      let shown = c.in_ok-state.ensures in
      let mid : DiskKept g.S.Store (registry_of c.audit.new.self) =
      omega (arith, shown.looks.store.clean, kept) in
      look_then g.S.Store g.H.Shelf c.args.bench.now c.audit.new.self c.view.new.self
      (audited.looks.does honest mid)
      (shown.looks.does (audited.looks.only.keeps.honest honest) kept);
  stays = search rules;
}

pub returns-in-Ok-clause-told : goal.returns-in-Ok-clause-told
returns-in-Ok-clause-told g c = λ asked honest kept t s has are.
    let j = g.H.Shelf in
    let audited = c.in_ok-names.ensures in
    let shown = c.in_ok-state.ensures in
    let mid : DiskKept g.S.Store (registry_of c.audit.new.self) =
    omega (arith, shown.looks.store.clean, kept) in
    let looked = audited.looks.does honest mid in
    let given : c.deref.result.now ≡ c.in_ok-names.names.items = search rules in
    passed_told c.args.scope.now s c.in_ok-state.state
    (j.size (shelf_of c.args.bench.now))
    (j.view (shelf_of c.args.bench.now)).seen c.in_ok-names.names.items
    c.deref.result.now c.in-Ok.passed (shown.shows kept t s (looked.tables t has) are) given
    c.in-Ok.ensures.images c.in-Ok.ensures.mirrors are.state
    (audited.audits honest mid t s has are)

pub returns-in_err-names-clause-faults : goal.returns-in_err-names-clause-faults
returns-in_err-names-clause-faults g c =
    told (FailsFilling g.S.Store g.H.Shelf IsNone c.args.bench.now c.audit.new.self) _
    c.in_err-names.field-0.0 (search rules)
    (look_fails_filling g.S.Store g.H.Shelf IsNone c.args.bench.now c.audit.new.self _ _ refl
    c.in_err-names.ensures.looks c.in_err-names.ensures.closes
    (store_of_records g.S.Store g.H.Shelf _ _ c.in_err-names.ensures.records))

pub returns-in_err-state-clause-faults : goal.returns-in_err-state-clause-faults
returns-in_err-state-clause-faults g c =
    told (FailsFilling g.S.Store g.H.Shelf IsNone c.args.bench.now c.view.new.self) _
    c.in_err-state.field-0.0 (search rules)
    (fails_filling_then g.S.Store g.H.Shelf IsNone c.args.bench.now c.audit.new.self
    c.view.new.self _
    (fills_looked g.S.Store g.H.Shelf IsNone c.args.bench.now c.args.bench.now c.audit.new.self
    c.in_ok-names.names (fills_none g.S.Store g.H.Shelf IsNone c.args.bench.now)
    c.in_ok-names.ensures.looks)
    (look_keeps g.S.Store g.H.Shelf c.audit.new.self c.view.new.self c.in_err-state.ensures.looks)
    (look_fails_filling g.S.Store g.H.Shelf IsNone c.audit.new.self c.view.new.self _ _ refl
    c.in_err-state.ensures.looks c.in_err-state.ensures.closes
    (store_of_records g.S.Store g.H.Shelf _ _ c.in_err-state.ensures.records)))

pub returns-clause-faults : goal.returns-clause-faults
returns-clause-faults g c =
    memory_fails_filling g.S.Store g.H.Shelf IsNone c.args.bench.now c.view.new.self
    (fills_looked g.S.Store g.H.Shelf IsNone c.args.bench.now c.audit.new.self c.view.new.self
    c.in_ok-state.state
    (fills_looked g.S.Store g.H.Shelf IsNone c.args.bench.now c.args.bench.now c.audit.new.self
    c.in_ok-names.names (fills_none g.S.Store g.H.Shelf IsNone c.args.bench.now)
    c.in_ok-names.ensures.looks)
    c.in_ok-state.ensures.looks)
