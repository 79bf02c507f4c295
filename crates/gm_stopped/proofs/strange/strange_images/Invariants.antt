use Rattle.gm_stopped.proofs.Common.{◌≡◌, ◌+◌, ◌≤◌, take, ReadsOnly}
use Rattle.gm_stopped.specs.Strange.{AreStrange, HasStrange, missing_in, strange_names}
use Rattle.gm_stopped.proofs.strange.strange_images.Given as goal

abbrev pub invariant-loop-intent : goal.invariant-loop-intent
invariant-loop-intent g l =
    let H = g.H.Shelf in
    let old = H.view l.fn.shelf in
    let size = H.size l.fn.shelf in
    let done = take l.intent-index l.intents in
    record {
      only : ReadsOnly H l.fn.shelf l.shelf;
      told : H.honest l.fn.shelf
          → AreStrange l.fn.state l.fn.stopped size old.seen done l.names.items;
      others : H.honest l.fn.shelf → (H.view l.shelf).faults ≡ old.faults
          → HasStrange l.fn.state l.fn.stopped size old.seen done l.names.items;
      listed : H.honest l.fn.shelf → (H.view l.shelf).faults ≡ old.faults
          → l.names.items ≡ strange_names l.fn.state l.fn.stopped size old.seen done;
      missed : H.honest l.fn.shelf → missing_in l.fn.state l.fn.stopped size old.seen
          l.names.items done + old.faults ≤ (H.view l.shelf).faults;
    }
