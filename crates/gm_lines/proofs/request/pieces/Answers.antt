use Rattle.gm_lines.proofs.Common.{rules, tests, lit<, ◌∙◌, ◌==◌, ap, not, ℕ, List, length}
use Rattle.std.specs.Str.Iter.{split_text, split_has_more, split_pattern}
use Rattle.std.proofs.lemmas.Iterator.Consumers.{YieldsList-from_filter, map_from_collect}
use Rattle.std.proofs.lemmas.Iterator.Splits.{YieldsList-from_str_split}
use Rattle.gm_lines.proofs.request.pieces.Goals as goal

pub returns : goal.returns
returns c =
    let source = c.filter.ensures.source in
    map_from_collect _ c.collect.ensures.ran
    (YieldsList-from_filter _ (λ (piece : List ℕ). not (length piece == 0))
    (YieldsList-from_str_split 32 c.args.text.now (lit< tt)
    (ap split_text source ∙ c.split.ensures.text)
    (ap split_has_more source ∙ c.split.ensures.has_more)
    (ap split_pattern source ∙ c.split.ensures.pattern))
    c.filter.ensures.closure (λ x r q k. search (rules, tests)))
