use Rattle.gm_words.proofs.Common.{◌∙◌, ap, sym, IfOk-weaker, found_of, raw_values-rows, ◌>>=◌, providers_in}
use Rattle.gm_words.specs.Spelling.{providers_at}
use Rattle.gm_words.proofs.Several.{strs_none, strs_some}
use Rattle.gm_words.proofs.command_words.providers_at.Goals as goal

pub returns-in-Some : goal.returns-in-Some
unfolding providers_at
returns-in-Some c =
    let strs = c.get_strs.ensures ∙ raw_values-rows (found_of c.args.matches.now) c.args.id.now in
    IfOk-weaker c.providers.result _ _
    (λ r e. e ∙ sym (ap (λ o. o >>= providers_in) (strs_some _ _ _ strs c.in-Some.is)))
    c.providers.ensures

pub returns-in-None : goal.returns-in-None
unfolding providers_at
returns-in-None c =
    let strs = c.get_strs.ensures ∙ raw_values-rows (found_of c.args.matches.now) c.args.id.now in
    sym (ap (λ o. o >>= providers_in) (strs_none _ _ strs c.in-None.is))
