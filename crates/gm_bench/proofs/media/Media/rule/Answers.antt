use Rattle.gm_bench.proofs.Common.{◌≡◌, ◌∙◌, ◌≤◌, ◌∷◌, [], length, ℕ, List, IfOk, sym, subst, Command, Lost, Has, Records, size_in, seen_in, needed_by, seen_of, Decides, present, CommandFits, words_of, IsFitting}
use Rattle.gm_bench.proofs.DecidesOnly.{ok_then}
use Rattle.gm_bench.proofs.LossRedone.{stays_behind}
use Rattle.gm_bench.proofs.LossRules.{loss_alike, loss_state}
use Rattle.gm_bench.proofs.FittingLosses.{loss_fits}
use Rattle.gm_bench.proofs.media.Media.rule.Goals as goal

pub returns : goal.returns
returns g c =
    record {
      decides =
          ok_then _ _ (λ r by w n p same there is. (
          let facts = c.in_ok-facts.facts in
          let here : Decides w.state (seen_in facts) (Lost n (p ∷ [])) r =
          subst (λ (x : Command). Decides w.state (seen_in facts) x r) is
          (subst (λ (s : Records). Decides s (seen_in facts) c.args.command.now r) same by) in
          let names : c.deref.result.now ≡ needed_by w.state (Lost n (p ∷ [])) =
          c.deref.ensures.value ∙ (c.in_ok-names.ensures.all
          ∙ (λ i. needed_by (same i) (is i))) in
          let sizes : (q : List ℕ) → Has (needed_by w.state (Lost n (p ∷ []))) q
          → size_in facts q ≡ present w q =
          λ q k. c.in_ok-facts.ensures q (subst (λ (l : List (List ℕ)). Has l q) (sym names) k)
          ∙ (λ i. sym there i q) in
          subst (λ (x : Command). Decides w.state (seen_of w) x r) (sym is)
          (loss_alike w.state (seen_in facts) (seen_of w) n p sizes r here)))
          c.decide.result c.decide.ensures.facts;
      state =
          ok_then _ _ (λ r by state fits n p is. loss_state c.args.state.now c.in_ok-facts.facts n p
          r (subst (λ (x : Command). Decides c.args.state.now (seen_in c.in_ok-facts.facts) x r) is
          by) state (subst CommandFits is fits)) c.decide.result c.decide.ensures.facts;
      again =
          ok_then _ _
          (λ r by k p is on fits state. stays_behind c.args.state.now c.in_ok-facts.facts k p r
          (subst (λ (x : Command). Decides c.args.state.now (seen_in c.in_ok-facts.facts) x r) is
          by) state on (subst CommandFits is fits)) c.decide.result c.decide.ensures.facts;
      fits =
          ok_then _ _ (λ r by t n p are fits is. subst (λ (x : Command). IfOk r
          (λ ch. IsFitting ch (words_of x) t × (length ch.intents ≤ 17) × (ch.further ≡ []))) (sym is)
          (loss_fits c.args.state.now c.in_ok-facts.facts n p r t
          (subst (λ (x : Command). Decides c.args.state.now (seen_in c.in_ok-facts.facts) x r) is
          by) are (subst CommandFits is fits))) c.decide.result c.decide.ensures.facts;
    }
