use Rattle.gm_commands.proofs.Common.{take, IsTrue, list_all, is_sector}
use Rattle.gm_commands.proofs.canonical_words.sectors_fit.Given as goal

abbrev pub invariant-loop-sector : goal.invariant-loop-sector
invariant-loop-sector l = IsTrue (list_all is_sector (take l.sector-index l.fn.sectors))
