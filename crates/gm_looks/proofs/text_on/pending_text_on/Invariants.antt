use Rattle.gm_looks.proofs.Common.{take, string_bytes, ReadsOnly, AreTold}
use Rattle.gm_looks.proofs.text_on.pending_text_on.Given as goal

abbrev pub invariant-loop-intent : goal.invariant-loop-intent
invariant-loop-intent g l =
    let H = g.H.Shelf in
    record {
      only : ReadsOnly H l.fn.shelf l.shelf;
      told : H.honest l.fn.shelf
          → AreTold l.fn.state (H.size l.fn.shelf) (H.view l.fn.shelf).seen
          (take l.intent-index l.fn.intents) (string_bytes l.text);
    }
