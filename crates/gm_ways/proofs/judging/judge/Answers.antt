use Rattle.std.proofs.Common.{◌≡◌, ◌∙◌, ◌<◌, ◌+◌, ◌∷◌, ◌++◌, [], ℕ, List, Result, get_or, sym, ap, subst, arith}
use Rattle.std.proofs.lemmas.List.{get_or_default}
use Rattle.gm_state.specs.Records.{Records}
use Rattle.gm_refusals.specs.declared.refusals.Refusal.{Refusal}
use Rattle.gm_refusals.specs.Seen.{seen_in}
use Rattle.gm_ways.specs.declared.judging.Passed.{Passed}
use Rattle.gm_ways.specs.declared.step.Act.TheVariants.{Insert}
use Rattle.gm_ways.specs.declared.step.Step.{Step}
use Rattle.gm_ways.specs.declared.step.Step.TheVariants.{HandIn}
use Rattle.gm_ways.specs.Judged.{IsRefused, Lead, PassesOr}
use Rattle.gm_ways.proofs.Leading.{found_so, last_is, lead_more, longer}
use Rattle.gm_ways.proofs.judging.judge.Goals as goal

pub returns-in-Err : goal.returns-in-Err
returns-in-Err c =
    let x = seen_in c.args.facts.now in
    let e = c.args.exchange.now in
    let did = c.args.did in
    let steps = c.args.steps.now in
    let s = c.args.state in
    let inv = c.loop-step.invariant in
    let i = c.loop-step.step-index in
    let v = c.loop-step.state in
    let found = c.loop-step.found.items in
    let more = c.keep-in-Err.new.found.items in
    let step : Step = get_or steps i (HandIn Insert 0) in
    let grows : more ≡ found ++ v ∷ [] = c.in_ok-keep-in-Err.ensures in
    let no : IsRefused x e did step v c.in-Err.refusal =
    subst (λ (r : Result Passed Refusal). PassesOr x e did step v r) c.in-Err.is
    c.in_ok-passed.ensures in
    record {
      found = found_so x e did steps s found more i inv.leads.0 v grows inv.length_is inv.found
          inv.leads.1;
      whole = λ none. absurd (let never : ⊥ = cc in never);
      refused = λ r some.
          (let same : c.in-Err.refusal ≡ r = cc in (
            i,
            inv.leads.0,
            v,
            step,
            c.loop-step-test.true,
            inv.leads.1,
            get_or_default steps i (HandIn Insert 0) step c.loop-step-test.true,
            longer x e did steps s found more i inv.leads.0 v grows inv.length_is,
            last_is x e did steps s found more i inv.leads.0 v grows inv.length_is,
            subst (IsRefused x e did step v) same no,
          ));
      counted = λ r some. (
        i,
        inv.leads.0,
        v,
        inv.leads.1,
        longer x e did steps s found more i inv.leads.0 v grows inv.length_is,
        inv.leads.2,
      );
    }

pub loop-step-preserved : goal.loop-step-preserved
loop-step-preserved c =
    let x = seen_in c.args.facts.now in
    let e = c.args.exchange.now in
    let did = c.args.did in
    let steps = c.args.steps.now in
    let s = c.args.state in
    let inv = c.loop-step.invariant in
    let i = c.loop-step.step-index in
    let n = inv.leads.0 in
    let v = c.loop-step.state in
    let passed = c.in-Ok.passed in
    let found = c.loop-step.found.items in
    let more = c.keep.new.found.items in
    let step : Step = get_or steps i (HandIn Insert 0) in
    let grows : more ≡ found ++ v ∷ [] =
    c.in_ok-keep-in-Ok.ensures
    ∙ ap (λ (u : Records). found ++ u ∷ []) c.replace-before.ensures.value in
    let goes = subst (λ (r : Result Passed Refusal). PassesOr x e did step v r) c.in-Ok.is
    c.in_ok-passed.ensures in
    record {
      length_is = longer x e did steps s found more i n v grows inv.length_is;
      found = found_so x e did steps s found more i n v grows inv.length_is inv.found inv.leads.1;
      leads = (
        n + passed.commands,
        subst (λ (u : Records). Lead x e did steps s (i + 1) (n + passed.commands) u)
            (sym c.replace-before.ensures.after)
            (lead_more x e did steps s i n passed.commands v passed.state step inv.leads.1
            (get_or_default steps i (HandIn Insert 0) step c.loop-step-test.true) goes),
        λ low.
            let same : c.loop-step.commands ≡ n = inv.leads.2 (omega (arith, low)) in
            omega (arith, low, same, c.saturating_add-commands.ensures),
      );
    }
