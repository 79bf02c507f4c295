use Rattle.std.proofs.Common.{◌≤◌, ◌<◌, ◌-◌, ◌*◌, ◌^◌, min, Ok}
use Rattle.gm_bench.specs.Benches.{progress_of}
use Rattle.gm_bench.specs.Phases.{TakesCommands}
use Rattle.gm_process.specs.declared.status.Status.TheVariants.{Done}
use Rattle.gm_handing_in.specs.Ends.{AnswersText}
use Rattle.gm_writing.specs.Patches.{lines_of}
use Rattle.gm_writing.proofs.writing.hand_in_several.Given as goal

-- the bench may be asked, and the commands of the turns before this one are done
abbrev pub invariant-loop-turn : goal.invariant-loop-turn
invariant-loop-turn g l = record {
  phase : TakesCommands (progress_of l.bench);
  answers : l.fn.part.begin ≤ l.fn.part.end → l.fn.part.end < 2 ^ 32
      → AnswersText g.S.Store g.H.Shelf
      (lines_of l.fn.patches l.fn.part.begin (min (16 * l.turn) (l.fn.part.end - l.fn.part.begin)))
      (g.O.Write.contents l.fn.streams.output.now) (g.O.Write.contents l.output)
      l.fn.bench l.bench (Ok Done);
}
