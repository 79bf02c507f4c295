use Rattle.gm_taste.proofs.Common.{◌≡◌, ◌∙◌, rules, ap, option_map, None, Member, first_from}
use Rattle.gm_taste.proofs.ChosenSource.{first_of_all}
use Rattle.gm_taste.proofs.sources.source_of.Goals as goal

pub returns-clause-source : goal.returns-clause-source
returns-clause-source c =
    let first : c.first_in.result ≡ first_from None c.args.group.now.members.items =
    search rules in (
      _,
      first_of_all c.args.group.now.members.items,
      c.name_of.ensures ∙ ap (option_map (λ (x : Member). x.provider)) first,
    )
