use Rattle.gm_commands.proofs.Common.{◌∙◌, ap, sym, refl, take_all, list_all, and_from, is_label}
use Rattle.std.proofs.lemmas.List.Folds.{list_all_more}
use Rattle.gm_commands.proofs.canonical_words.labels_fit.Goals as goal

pub loop-provider-init : goal.loop-provider-init
loop-provider-init c = refl

pub loop-provider-preserved : goal.loop-provider-preserved
loop-provider-preserved c =
    list_all_more is_label c.args.providers.now c.loop-provider.provider-index
    c.provider-item.result c.loop-provider-test.true
    ∙ and_from _ _ c.loop-provider.invariant (ap is_label (sym c.provider-item.is)
    ∙ c.as_bytes.ensures.label)

pub returns : goal.returns
returns c = ap (list_all is_label)
    (sym (take_all c.loop-provider.provider-index c.args.providers.now c.loop-provider-test.false))
    ∙ c.loop-provider.invariant
