use Rattle.gm_commands.proofs.Common.{take, IsTrue, list_all, is_label}
use Rattle.gm_commands.proofs.canonical_words.labels_fit.Given as goal

abbrev pub invariant-loop-provider : goal.invariant-loop-provider
invariant-loop-provider l = IsTrue (list_all is_label (take l.provider-index l.fn.providers))
