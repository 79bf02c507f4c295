use Rattle.gm_http.proofs.Common.{rules, refl, Some, None, true, false, Commands, Metadata, Mirror}
use Rattle.gm_http.specs.declared.routes.Target.TheVariants.{Status}
use Rattle.gm_http.proofs.Asking.{IsByItsMethod, IsTargetAt, asked_duly, asked_nowhere, asked_otherwise, asked_to_do, for_each}
use Rattle.gm_http.proofs.request.read_rest.Goals as goal

pub returns-in_default-clause-asks : goal.returns-in_default-clause-asks
returns-in_default-clause-asks g c =
    let bytes = c.args.bytes.now.items in
    let spans = c.args.spans.now in
    let nowhere : IsTargetAt bytes spans None = search rules in
    for_each _ _ (λ rest. asked_nowhere _ _ _ _ rest nowhere)

pub returns-then-not-has_method-clause-asks : goal.returns-then-not-has_method-clause-asks
returns-then-not-has_method-clause-asks g c =
    let bytes = c.args.bytes.now.items in
    let spans = c.args.spans.now in
    let at : IsTargetAt bytes spans (Some c.in-Some.target) = search rules in
    let other : IsByItsMethod bytes spans c.in-Some.target false = search rules in
    rw c.method-method.ensures (for_each _ _ (λ rest. asked_otherwise _ _ _ _ rest _ at other))

pub returns-in-Status-clause-asks : goal.returns-in-Status-clause-asks
returns-in-Status-clause-asks g c =
    let bytes = c.args.bytes.now.items in
    let spans = c.args.spans.now in
    let at : IsTargetAt bytes spans (Some Status) = search rules in
    let own : IsByItsMethod bytes spans Status true = search rules in
    for_each _ _ (λ rest. asked_duly _ _ _ _ rest _ _ at own (λ h is. refl))

pub returns-in-Mirror-clause-asks : goal.returns-in-Mirror-clause-asks
returns-in-Mirror-clause-asks g c =
    let bytes = c.args.bytes.now.items in
    let spans = c.args.spans.now in
    let at : IsTargetAt bytes spans (Some (Mirror c.in-Mirror.name)) = search rules in
    let own : IsByItsMethod bytes spans (Mirror c.in-Mirror.name) true = search rules in
    for_each _ _ (λ rest. asked_duly _ _ _ _ rest _ _ at own (λ h is. refl))

pub returns-in-Metadata-clause-asks : goal.returns-in-Metadata-clause-asks
returns-in-Metadata-clause-asks g c =
    let bytes = c.args.bytes.now.items in
    let spans = c.args.spans.now in
    let at : IsTargetAt bytes spans (Some (Metadata c.in-Metadata.name)) = search rules in
    let own : IsByItsMethod bytes spans (Metadata c.in-Metadata.name) true = search rules in
    for_each _ _ (λ rest. asked_duly _ _ _ _ rest _ _ at own (λ h is. refl))

pub returns-in-Commands-clause-asks : goal.returns-in-Commands-clause-asks
returns-in-Commands-clause-asks g c =
    let bytes = c.args.bytes.now.items in
    let spans = c.args.spans.now in
    let at : IsTargetAt bytes spans (Some Commands) = search rules in
    let own : IsByItsMethod bytes spans Commands true = search rules in
    asked_to_do _ _ _ _ _ _ at own c.read_call.ensures.asks
