use Rattle.std.proofs.Common.{◌≡◌, take}
use Rattle.std.specs.String.{string_bytes}
use Rattle.gm_front.specs.TurnedBack.{losing_message}
use Rattle.gm_front.proofs.turned_back.losing_message.Given as goal

abbrev pub invariant-loop-sentence : goal.invariant-loop-sentence
invariant-loop-sentence l =
    string_bytes l.text ≡ losing_message (take l.sentence-index l.sentences)
