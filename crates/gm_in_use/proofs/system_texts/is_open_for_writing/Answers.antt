use Rattle.std.proofs.Common.{rules, tests, lit<}
use Rattle.std.proofs.lemmas.Iterator.Search.{any_from_yields_List}
use Rattle.std.proofs.lemmas.Iterator.Splits.{YieldsList-from_str_split}
use Rattle.gm_in_use.specs.SystemTexts.{says_writing}
use Rattle.gm_in_use.proofs.system_texts.is_open_for_writing.Goals as goal

pub returns : goal.returns
returns c = any_from_yields_List says_writing _ _ _ c.any.ensures.ran
    (YieldsList-from_str_split 10 c.args.info.now (lit< tt) c.split.ensures.text
    c.split.ensures.has_more c.split.ensures.pattern) (λ x b q k. search (rules, tests))
