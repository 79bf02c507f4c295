use Rattle.gm_json.proofs.Common.{◌≡◌, map, take, string, view}
use Rattle.gm_json.proofs.history.word_values.Given as goal

abbrev pub invariant-loop-word : goal.invariant-loop-word
invariant-loop-word l =
    map view l.values.items ≡ map (λ word. string word.now) (take l.word-index l.fn.words)
