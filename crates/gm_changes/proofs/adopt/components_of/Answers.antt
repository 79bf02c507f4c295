use Rattle.gm_changes.proofs.Common.{◌≡◌, ◌∙◌, sym, ap, Member, Has, Contains-Has, seen_in, taken_name}
use Rattle.gm_changes.proofs.adopt.components_of.Goals as goal

pub adopted_component-requires-clause-size : goal.adopted_component-requires-clause-size
adopted_component-requires-clause-size c =
    let name : c.member-member.result.provider ≡ c.provider-item.result =
    ap (λ (k : Member). k.provider) c.member-member.ensures
    ∙ taken_name (seen_in c.args.facts.now) c.provider-item.result c.in-Some.taken
    (sym c.taken.ensures ∙ c.in-Some.is) in
    let has : Has c.args.providers.now c.provider-item.result =
    Contains-Has c.args.providers.now c.provider-item.result c.loop-provider.provider-index
    c.loop-provider-test.true (sym c.provider-item.is) in
    rw name (c.requires.sizes c.provider-item.result has)
