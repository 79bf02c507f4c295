use Rattle.gm_bench.proofs.Common.{rules, ◌≡◌, ◌≤◌, [], Err, IfOk, length, sym, ap, subst, IsState, words_of, Changed, Makes, seen_in, IsFitting}
use Rattle.gm_bench.proofs.Causes.{fault_is}
use Rattle.gm_bench.proofs.FittingPlans.{made_fits, made_of}
use Rattle.gm_bench.proofs.PlannedAlone.{planned_hand, planned_state}
use Rattle.gm_bench.proofs.plan.decide_on.Goals as goal

pub returns-in_err-planned-in-Ok-Ok : goal.returns-in_err-planned-in-Ok-Ok
returns-in_err-planned-in-Ok-Ok c =
    record {
      decides = search rules;
      disk = search rules;
      not_store = search rules;
      fault = search rules;
      fits = search rules;
      once = search rules;
      readable = λ is fits state few most itself.
          let part = c.args.part.now in
          let facts = c.args.facts.now in
          let command = c.args.command.now in
          let alone = subst (λ r. IfOk r (λ ch. IsState part → length part.mirrors ≤ c.args.count
          → c.args.count ≤ 64 → Makes part (seen_in facts) command ch)) c.in-Ok-Ok.field-0-is
          c.in-Ok-Ok.ensures.alone in
          c.in_err-planned-in-Ok-Ok.ensures.readable (ap Err (fault_is c.from_residual.result _ _
          c.from_residual.ensures.1 is))
          (planned_state part facts command c.in-Ok-Ok.change state fits (alone state few most)
          itself);
      at_hand = search rules;
    }

pub returns-in_ok-planned-in-Ok-Ok : goal.returns-in_ok-planned-in-Ok-Ok
returns-in_ok-planned-in-Ok-Ok c =
    record {
      decides = search rules;
      disk = search rules;
      not_store = search rules;
      fault = search rules;
      fits = λ t s are to is fits itself.
          let part = c.args.part.now in
          let facts = c.args.facts.now in
          let command = c.args.command.now in
          let makes = subst (λ r. IfOk r (λ ch. Makes s (seen_in facts) command ch))
          c.in-Ok-Ok.field-0-is
          (made_of s (seen_in facts) command _ (c.in-Ok-Ok.ensures.facts s to is)) in
          subst (λ (ch : Changed). IsFitting ch (words_of command) t)
          (sym c.in_ok-planned-in-Ok-Ok.ensures.planned.0)
          (made_fits s facts command c.in-Ok-Ok.change t are fits makes itself);
      once = λ state few most.
          let part = c.args.part.now in
          let facts = c.args.facts.now in
          let command = c.args.command.now in
          let alone = subst (λ r. IfOk r (λ ch. IsState part → length part.mirrors ≤ c.args.count
          → c.args.count ≤ 64 → Makes part (seen_in facts) command ch)) c.in-Ok-Ok.field-0-is
          c.in-Ok-Ok.ensures.alone in
          subst (λ (ch : Changed). ch.further ≡ [])
          (sym c.in_ok-planned-in-Ok-Ok.ensures.planned.0) (alone state few most).once;
      readable = search rules;
      at_hand = λ fits state few most size tells.
          let part = c.args.part.now in
          let facts = c.args.facts.now in
          let command = c.args.command.now in
          let alone = subst (λ r. IfOk r (λ ch. IsState part → length part.mirrors ≤ c.args.count
          → c.args.count ≤ 64 → Makes part (seen_in facts) command ch)) c.in-Ok-Ok.field-0-is
          c.in-Ok-Ok.ensures.alone in
          planned_hand part facts command c.in-Ok-Ok.change state fits (alone state few most)
          c.in_ok-planned-in-Ok-Ok.planned.work.intents.items size
          c.in_ok-planned-in-Ok-Ok.ensures.planned.2 tells;
    }
