use Rattle.gm_apply.proofs.Common.{take, Image, From, Keeps, IsRedo, IsPartlyDone, CrashLeaves, KeepsOthers, is_written}
use Rattle.gm_apply.proofs.Steps.{Reaches}
use Rattle.gm_apply.proofs.redo.apply.Given as goal

abbrev pub invariant-loop-intent : goal.invariant-loop-intent
invariant-loop-intent g l =
    let H = g.H.Shelf in
    let old = H.view l.fn.shelf in
    let size = H.size l.fn.shelf in
    record {
      keeps : Keeps H l.fn.shelf l.shelf;
      reaches : H.honest l.fn.shelf → (w : Image)
          → IsRedo l.fn.state l.bytes size l.intents old.seen w
          → Reaches l.fn.state size (take l.intent-index l.intents) w old (H.view l.shelf);
      moments : H.honest l.fn.shelf → (w : Image)
          → IsRedo l.fn.state l.bytes size l.intents old.seen w
          → CrashLeaves old (H.view l.shelf)
          (λ x. From old.may_leave (λ d. IsPartlyDone l.fn.state size l.intents w d x));
      others : H.honest l.fn.shelf
          → KeepsOthers (is_written l.fn.state size l.intents) old (H.view l.shelf);
    }
