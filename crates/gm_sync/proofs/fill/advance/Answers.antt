use Rattle.gm_sync.proofs.Common.{◌≡◌, Ok, Option, SeriesAnswer, keys_after, refl, subst, map, string_bytes, rules, carried_open, Advance, FailsFillingOn, HandsInAdvances, IsAdvanceOf}
use Rattle.gm_sync.proofs.Advances.{answered_so, failed_so, is_some, series_fails, takes_after, takes_failed}
use Rattle.gm_sync.proofs.Faults.{told}
use Rattle.gm_sync.proofs.FilledOn.{fills_on_next, series_answers}
use Rattle.gm_sync.proofs.Stops.{memory_fails_filling_on, next_fails, series_leaves}
use Rattle.gm_sync.proofs.fill.advance.Goals as goal

pub unwrap-requires : goal.unwrap-requires
unwrap-requires g c =
    let texts = c.as_slice.result.now in
    let own : map string_bytes texts ≡ keys_after c.args.number 64 = search rules in
    is_some g.S.Store g.H.Shelf c.args.bench.now c.hand_in_series.new.self
    (map string_bytes texts)
    (Advance c.args.component.now.mirror c.args.component.now.provider) c.args.number own
    c.in_ok-answered-in-Ok.answered c.in_ok-answered-in-Ok.ensures

pub returns-in-Err-clause-faults : goal.returns-in-Err-clause-faults
returns-in-Err-clause-faults g c = memory_fails_filling_on g.S.Store g.H.Shelf
    (IsAdvanceOf c.args.component.now) c.args.bench.now

pub returns-in_ok-answered-in-Ok : goal.returns-in_ok-answered-in-Ok
returns-in_ok-answered-in-Ok g c =
    let fit = IsAdvanceOf c.args.component.now in
    let command = Advance c.args.component.now.mirror c.args.component.now.provider in
    let old = c.args.bench.now in
    let new = c.hand_in_series.new.self in
    let answer = c.unwrap.result in
    let texts = c.as_slice.result.now in
    let own : map string_bytes texts ≡ keys_after c.args.number 64 = search rules in
    let it = answered_so g.S.Store g.H.Shelf old new (map string_bytes texts) command
    c.args.number own answer
    (subst (λ (o : Option SeriesAnswer).
    HandsInAdvances g.S.Store g.H.Shelf old new (Ok o) (map string_bytes texts) command)
    c.unwrap.ensures c.in_ok-answered-in-Ok.ensures) in
    let answers = series_answers g.S.Store g.H.Shelf fit c.args.number old new answer it.key
    it.more command refl it.own it.hands in
    record {
      phase = takes_after old.progress new.progress answer.answer c.requires it.hands.phase;
      keep = it.hands.runs.keep;
      fills = fills_on_next g.S.Store g.H.Shelf fit c.args.number old new answer it.hands.not_failed
          (carried_open old.progress new.progress answer.answer it.hands.not_failed
          it.hands.phase) it.hands.runs.keep answers;
      answers = answers;
      faults = tt;
    }

pub returns-in_err-answered-in-Ok : goal.returns-in_err-answered-in-Ok
returns-in_err-answered-in-Ok g c =
    let fit = IsAdvanceOf c.args.component.now in
    let mirror = c.args.component.now.mirror in
    let provider = c.args.component.now.provider in
    let old = c.args.bench.now in
    let new = c.hand_in_series.new.self in
    let fault = c.in_err-answered-in-Ok.field-0.0 in
    let texts = c.as_slice.result.now in
    let own : map string_bytes texts ≡ keys_after c.args.number 64 = search rules in
    let it = failed_so g.S.Store g.H.Shelf old new (map string_bytes texts)
    (Advance mirror provider) c.args.number own fault c.in_err-answered-in-Ok.ensures in
    record {
      phase = takes_failed new.progress it.hands.closes.failed;
      keep = it.hands.runs.keep;
      fills = search rules;
      answers = search rules;
      faults = told (FailsFillingOn g.S.Store g.H.Shelf fit old new) _ fault (search rules)
          (next_fails g.S.Store g.H.Shelf fit old new fault
          (series_fails g.S.Store g.H.Shelf old new mirror provider fault it.key it.more it.few
          it.hands g.met.H.Shelf.lawful)
          it.hands.closes.failed
          (series_leaves g.S.Store g.H.Shelf fit old new fault it.key it.more
          (Advance mirror provider) refl it.hands));
    }
