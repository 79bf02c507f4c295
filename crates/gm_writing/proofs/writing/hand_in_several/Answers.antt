use Rattle.std.proofs.Common.{rules, arith, ◌≡◌, ◌<◌, ◌-◌, ◌+◌, ◌*◌, min}
use Rattle.gm_process.specs.declared.status.Status.TheVariants.{Done, Refused}
use Rattle.gm_writing.proofs.Batches.{no_text}
use Rattle.gm_writing.proofs.PatchLines.{turn_then}
use Rattle.gm_writing.proofs.writing.hand_in_several.Goals as goal

pub loop-turn-init : goal.loop-turn-init
loop-turn-init g c = record {
  phase = c.requires;
  answers = λ some small.
      let none : min 0 (c.args.part.end - c.args.part.begin) ≡ 0 = omega arith in
      rw none (no_text g.S.Store g.H.Shelf _ _ c.requires);
}

pub loop-turn-preserved : goal.loop-turn-preserved
loop-turn-preserved g c = record {
  phase = c.in_ok-status.ensures.phase;
  answers = λ some small.
      let done : c.in_ok-status.status ≡ Done = search rules in
      let more : 16 * c.loop-turn.turn < c.args.part.end - c.args.part.begin =
      omega (arith, some, small) in
      turn_then g.S.Store g.H.Shelf c.args.patches.now c.args.part.begin c.args.part.end
      c.loop-turn.turn c.saturating_add-from.result c.min-to.result _ _ _ _ _ _ _ more
      (omega (arith, some, small, more)) (omega (arith, some, small, more))
      (c.loop-turn.invariant.answers some small)
      (rw done at c.in_ok-status.ensures.answers (omega (arith, some, small, more))
      (omega (arith, some, small, more)));
}

pub returns-then-ne-clause-answers : goal.returns-then-ne-clause-answers
returns-then-ne-clause-answers g c = λ some small.
    let refused : c.in_ok-status.status ≡ Refused = search rules in
    let more : 16 * c.loop-turn.turn < c.args.part.end - c.args.part.begin =
    omega (arith, some, small) in
    record {
      count = min (16 * (c.loop-turn.turn + 1)) (c.args.part.end - c.args.part.begin);
      within = omega arith;
      answers = turn_then g.S.Store g.H.Shelf c.args.patches.now c.args.part.begin
          c.args.part.end c.loop-turn.turn c.saturating_add-from.result c.min-to.result
          _ _ _ _ _ _ _ more (omega (arith, some, small, more)) (omega (arith, some, small, more))
          (c.loop-turn.invariant.answers some small)
          (rw refused at c.in_ok-status.ensures.answers (omega (arith, some, small, more))
          (omega (arith, some, small, more)));
      all = search rules;
    }

pub returns-clause-answers : goal.returns-clause-answers
returns-clause-answers g c = λ some small.
    let all : min (16 * c.loop-turn.turn) (c.args.part.end - c.args.part.begin)
    ≡ c.args.part.end - c.args.part.begin = omega (arith, some, small) in
    record {
      count = c.args.part.end - c.args.part.begin;
      within = omega arith;
      answers = rw all at c.loop-turn.invariant.answers some small;
      all = search rules;
    }
