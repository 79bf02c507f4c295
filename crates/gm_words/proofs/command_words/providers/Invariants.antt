use Rattle.gm_words.proofs.Common.{◌≡◌, take, IsTrue, list_all, texts, is_label}
use Rattle.gm_words.proofs.command_words.providers.Given as goal

abbrev pub invariant-loop-text : goal.invariant-loop-text
invariant-loop-text l = record {
  are : l.named.items ≡ texts (take l.text-index l.fn.found);
  labels : IsTrue (list_all is_label l.named.items);
}
