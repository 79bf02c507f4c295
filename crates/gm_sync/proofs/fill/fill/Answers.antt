use Rattle.gm_sync.proofs.Common.{◌≡◌, None, refl, arith, rules, registry_of, DiskKept, FailsFilling, FillsBy, IsAdvanceIn, IsAdvanceOn, RefusesOneOf, most_turns, next_of}
use Rattle.gm_sync.proofs.Ended.{each_none, each_some, refuses_as_too}
use Rattle.gm_sync.proofs.Faults.{store_of_records, told}
use Rattle.gm_sync.proofs.Filled.{by_behind, by_fewer, by_looked, by_none, by_then, fills_looked, fills_none, fills_then, filled_look, look_keeps, refuses_then, tables_at_rest}
use Rattle.gm_sync.proofs.Still.{still_looked, still_none, still_shown}
use Rattle.gm_sync.proofs.Stops.{fails_filling_then, look_fails_filling}
use Rattle.gm_sync.proofs.fill.fill.Goals as goal

pub loop-init : goal.loop-init
loop-init g c = record {
  phase = c.requires;
  fills = fills_none g.S.Store g.H.Shelf (IsAdvanceIn c.args.due.now) _;
  many = by_none g.S.Store g.H.Shelf (IsAdvanceIn c.args.due.now) c.args.bench.now
      c.args.bench.now (fills_none g.S.Store g.H.Shelf (IsAdvanceIn c.args.due.now) _);
  still = still_none g.S.Store g.H.Shelf c.args.due.now c.args.bench.now;
}

pub returns-then-is_none-clause-fills : goal.returns-then-is_none-clause-fills
returns-then-is_none-clause-fills g c =
    fills_looked g.S.Store g.H.Shelf (IsAdvanceIn c.args.due.now) c.args.bench.now
    c.accepted.new.self c.view.new.self c.in_ok-state.state
    (fills_looked g.S.Store g.H.Shelf (IsAdvanceIn c.args.due.now) c.args.bench.now c.loop.bench
    c.accepted.new.self c.in_ok-accepted.accepted c.loop.invariant.fills
    c.in_ok-accepted.ensures.looks)
    c.in_ok-state.ensures.looks

pub returns-then-is_none-clause-ends : goal.returns-then-is_none-clause-ends
returns-then-is_none-clause-ends g c =
    let looks = c.in_ok-state.ensures.looks in
    let fills = fills_looked g.S.Store g.H.Shelf (IsAdvanceIn c.args.due.now) c.args.bench.now
    c.loop.bench c.accepted.new.self c.in_ok-accepted.accepted c.loop.invariant.fills
    c.in_ok-accepted.ensures.looks in
    record {
      last = record {
        seen = c.accepted.new.self.media.registry;
        looked = looks.store;
        has = λ honest kept away u at.
            let mid : DiskKept g.S.Store (registry_of c.accepted.new.self) =
            omega (arith, looks.store.clean, kept) in
            let filled = fills.does honest mid away u at in
            (filled.at.tables, filled.at.has);
        are = λ kept t r has are. c.in_ok-state.ensures.shows kept t r has are;
      };
      none = search rules;
      world = λ honest kept away u at.
          let mid : DiskKept g.S.Store (registry_of c.accepted.new.self) =
          omega (arith, looks.store.clean, kept) in
          let filled = fills.does honest mid away u at in
          let still = fills.keep.shelf.honest honest in (
            filled_look g.S.Store g.H.Shelf (IsAdvanceIn c.args.due.now) c.accepted.new.self
                c.view.new.self away u (looks.does still kept) filled,
            c.in_ok-state.ensures.shows kept filled.at.tables filled.world.state filled.at.has
                (tables_at_rest g.S.Store g.H.Shelf c.accepted.new.self away filled.world
                filled.at (g.met.H.Shelf.lawful _ still)),
          );
    }

pub returns-then-is_none-clause-still : goal.returns-then-is_none-clause-still
returns-then-is_none-clause-still g c =
    let counted = c.in_ok-accepted.ensures.looks in
    let fills = fills_looked g.S.Store g.H.Shelf (IsAdvanceIn c.args.due.now) c.args.bench.now
    c.loop.bench c.accepted.new.self c.in_ok-accepted.accepted c.loop.invariant.fills counted in
    still_looked g.S.Store g.H.Shelf c.args.due.now c.args.bench.now c.accepted.new.self
    c.view.new.self c.in_ok-state.state fills.keep
    (still_looked g.S.Store g.H.Shelf c.args.due.now c.args.bench.now c.loop.bench
    c.accepted.new.self c.in_ok-accepted.accepted c.loop.invariant.fills.keep
    c.loop.invariant.still counted)
    c.in_ok-state.ensures.looks

pub returns-in-Some-clause-still : goal.returns-in-Some-clause-still
returns-in-Some-clause-still g c =
    let some : next_of c.args.due.now c.in_ok-state.state ≡ None → ⊥ = search rules in
    still_shown g.S.Store g.H.Shelf c.args.due.now c.args.bench.now c.accepted.new.self
    c.view.new.self c.fill_each.new.bench c.in_ok-state.state
    (still_looked g.S.Store g.H.Shelf c.args.due.now c.args.bench.now c.loop.bench
    c.accepted.new.self c.in_ok-accepted.accepted c.loop.invariant.fills.keep
    c.loop.invariant.still c.in_ok-accepted.ensures.looks)
    c.in_ok-state.ensures.looks c.in_ok-state.ensures.shows some c.in_ok-unfilled.ensures.keep

pub returns-in-Some-clause-fills : goal.returns-in-Some-clause-fills
returns-in-Some-clause-fills g c =
    fills_then g.S.Store g.H.Shelf (IsAdvanceIn c.args.due.now) c.args.bench.now c.view.new.self
    c.fill_each.new.bench
    (fills_looked g.S.Store g.H.Shelf (IsAdvanceIn c.args.due.now) c.args.bench.now
    c.accepted.new.self c.view.new.self c.in_ok-state.state
    (fills_looked g.S.Store g.H.Shelf (IsAdvanceIn c.args.due.now) c.args.bench.now c.loop.bench
    c.accepted.new.self c.in_ok-accepted.accepted c.loop.invariant.fills
    c.in_ok-accepted.ensures.looks)
    c.in_ok-state.ensures.looks)
    c.in_ok-unfilled.ensures.fills

pub loop-preserved : goal.loop-preserved
loop-preserved g c =
    let some : next_of c.args.due.now c.in_ok-state.state ≡ None → ⊥ = search rules in
    let counted = c.in_ok-accepted.ensures.looks in
    let fills = fills_looked g.S.Store g.H.Shelf (IsAdvanceIn c.args.due.now) c.args.bench.now
    c.loop.bench c.accepted.new.self c.in_ok-accepted.accepted c.loop.invariant.fills counted in
    let still = still_looked g.S.Store g.H.Shelf c.args.due.now c.args.bench.now c.loop.bench
    c.accepted.new.self c.in_ok-accepted.accepted c.loop.invariant.fills.keep
    c.loop.invariant.still counted in
    let looked = fills_looked g.S.Store g.H.Shelf (IsAdvanceIn c.args.due.now) c.args.bench.now
    c.accepted.new.self c.view.new.self c.in_ok-state.state fills c.in_ok-state.ensures.looks in
    record {
      phase = c.in_ok-unfilled.ensures.phase;
      fills = fills_then g.S.Store g.H.Shelf (IsAdvanceIn c.args.due.now) c.args.bench.now
          c.view.new.self c.fill_each.new.bench looked c.in_ok-unfilled.ensures.fills;
      many = by_then g.S.Store g.H.Shelf (IsAdvanceIn c.args.due.now) c.args.bench.now
          c.view.new.self c.fill_each.new.bench c.loop.counter 1 looked.keep
          c.in_ok-unfilled.ensures.keep
          (by_looked g.S.Store g.H.Shelf (IsAdvanceIn c.args.due.now) c.args.bench.now
          c.accepted.new.self c.view.new.self c.in_ok-state.state c.loop.counter fills.keep
          (by_looked g.S.Store g.H.Shelf (IsAdvanceIn c.args.due.now) c.args.bench.now
          c.loop.bench c.accepted.new.self c.in_ok-accepted.accepted c.loop.counter
          c.loop.invariant.fills.keep c.loop.invariant.many counted) c.in_ok-state.ensures.looks)
          (each_none (RefusesOneOf g.S.Store g.H.Shelf c.args.due.now c.view.new.self
          c.fill_each.new.bench) (FillsBy g.S.Store g.H.Shelf (IsAdvanceIn c.args.due.now)
          c.view.new.self c.fill_each.new.bench) c.args.due.now c.in_ok-state.state _
          c.in_default.is c.in_ok-unfilled.ensures.ends some);
      still = still_shown g.S.Store g.H.Shelf c.args.due.now c.args.bench.now
          c.accepted.new.self c.view.new.self c.fill_each.new.bench c.in_ok-state.state still
          c.in_ok-state.ensures.looks c.in_ok-state.ensures.shows some
          c.in_ok-unfilled.ensures.keep;
    }

pub returns-in-Some-clause-ends : goal.returns-in-Some-clause-ends
returns-in-Some-clause-ends g c =
    let due = c.args.due.now in
    let a = c.args.bench.now in
    let b = c.view.new.self in
    let d = c.fill_each.new.bench in
    let fills = fills_looked g.S.Store g.H.Shelf (IsAdvanceIn due) a
    c.accepted.new.self b c.in_ok-state.state
    (fills_looked g.S.Store g.H.Shelf (IsAdvanceIn due) a c.loop.bench
    c.accepted.new.self c.in_ok-accepted.accepted c.loop.invariant.fills
    c.in_ok-accepted.ensures.looks)
    c.in_ok-state.ensures.looks in
    refuses_as_too (RefusesOneOf g.S.Store g.H.Shelf due b d)
    (RefusesOneOf g.S.Store g.H.Shelf due a d)
    (FillsBy g.S.Store g.H.Shelf (IsAdvanceIn due) b d)
    (FillsBy g.S.Store g.H.Shelf (IsAdvanceIn due) a d)
    (λ p why refuses. refuses_then g.S.Store g.H.Shelf (IsAdvanceIn due) (IsAdvanceOn due p) a
    b d why fills c.in_ok-unfilled.ensures.keep refuses)
    (λ many. by_behind g.S.Store g.H.Shelf (IsAdvanceIn due) a b d most_turns fills
    c.in_ok-unfilled.ensures.keep many)
    c.in-Some.unfilled.provider c.in-Some.unfilled.why
    (each_some (RefusesOneOf g.S.Store g.H.Shelf due b d)
    (FillsBy g.S.Store g.H.Shelf (IsAdvanceIn due) b d) due c.in_ok-state.state
    _ c.in-Some.unfilled c.in-Some.is c.in_ok-unfilled.ensures.ends)

pub returns-clause-ends : goal.returns-clause-ends
returns-clause-ends g c = (
  refl,
  by_fewer g.S.Store g.H.Shelf (IsAdvanceIn c.args.due.now) c.args.bench.now
      c.loop.bench most_turns c.loop.counter (omega arith) c.loop.invariant.many,
)

pub returns-in_err-accepted-clause-faults : goal.returns-in_err-accepted-clause-faults
returns-in_err-accepted-clause-faults g c =
    let due = c.args.due.now in
    told (FailsFilling g.S.Store g.H.Shelf (IsAdvanceIn due) c.args.bench.now
    c.accepted.new.self) _ c.in_err-accepted.field-0.0 (search rules)
    (fails_filling_then g.S.Store g.H.Shelf (IsAdvanceIn due) c.args.bench.now c.loop.bench
    c.accepted.new.self _ c.loop.invariant.fills
    (look_keeps g.S.Store g.H.Shelf c.loop.bench c.accepted.new.self
    c.in_err-accepted.ensures.looks)
    (look_fails_filling g.S.Store g.H.Shelf (IsAdvanceIn due) c.loop.bench c.accepted.new.self _ _
    refl c.in_err-accepted.ensures.looks c.in_err-accepted.ensures.closes
    c.in_err-accepted.ensures.store))

pub returns-in_err-state-clause-faults : goal.returns-in_err-state-clause-faults
returns-in_err-state-clause-faults g c =
    let due = c.args.due.now in
    told (FailsFilling g.S.Store g.H.Shelf (IsAdvanceIn due) c.args.bench.now c.view.new.self) _
    c.in_err-state.field-0.0 (search rules)
    (fails_filling_then g.S.Store g.H.Shelf (IsAdvanceIn due) c.args.bench.now
    c.accepted.new.self c.view.new.self _
    (fills_looked g.S.Store g.H.Shelf (IsAdvanceIn due) c.args.bench.now c.loop.bench
    c.accepted.new.self c.in_ok-accepted.accepted c.loop.invariant.fills
    c.in_ok-accepted.ensures.looks)
    (look_keeps g.S.Store g.H.Shelf c.accepted.new.self c.view.new.self
    c.in_err-state.ensures.looks)
    (look_fails_filling g.S.Store g.H.Shelf (IsAdvanceIn due) c.accepted.new.self c.view.new.self
    _ _ refl c.in_err-state.ensures.looks c.in_err-state.ensures.closes
    (store_of_records g.S.Store g.H.Shelf _ _ c.in_err-state.ensures.records)))

pub returns-in_err-unfilled-clause-faults : goal.returns-in_err-unfilled-clause-faults
returns-in_err-unfilled-clause-faults g c =
    let due = c.args.due.now in
    told (FailsFilling g.S.Store g.H.Shelf (IsAdvanceIn due) c.args.bench.now
    c.fill_each.new.bench) _ c.in_err-unfilled.field-0.0 (search rules)
    (fails_filling_then g.S.Store g.H.Shelf (IsAdvanceIn due) c.args.bench.now c.view.new.self
    c.fill_each.new.bench _
    (fills_looked g.S.Store g.H.Shelf (IsAdvanceIn due) c.args.bench.now
    c.accepted.new.self c.view.new.self c.in_ok-state.state
    (fills_looked g.S.Store g.H.Shelf (IsAdvanceIn due) c.args.bench.now c.loop.bench
    c.accepted.new.self c.in_ok-accepted.accepted c.loop.invariant.fills
    c.in_ok-accepted.ensures.looks)
    c.in_ok-state.ensures.looks)
    c.in_err-unfilled.ensures.keep c.in_err-unfilled.ensures.faults)
