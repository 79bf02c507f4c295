use Rattle.std.proofs.Common.{◌≡◌, not, length, take, count_by}
use Rattle.gm_handing_in.specs.LettingGo.{is_of_whole}
use Rattle.gm_handing_in.proofs.loss_sentences.sentences_of.Given as goal

-- each loss so far has its sentence, but for the images that are whole
abbrev pub invariant-loop-loss : goal.invariant-loop-loss
invariant-loop-loss l = length l.sentences.items
    ≡ count_by (λ x. not (is_of_whole x)) (take l.loss-index l.losses)
