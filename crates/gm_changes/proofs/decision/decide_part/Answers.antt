use Rattle.gm_changes.proofs.Common.{rules, ◌≡◌, ◌∙◌, refl, sym, length, Ok, Err, Records, seen_in, IsLeast, IsGood, IsPartToDecide, IsGoodButCount, IsMade, is_least, whole_to_decide}
use Rattle.gm_changes.proofs.DecidedInWorld.{in_world}
use Rattle.gm_changes.proofs.LeavesPart.{made_leaves}
use Rattle.gm_changes.proofs.MadeOfPart.{found_on, none_on, good_on, good_alone, on_err}
use Rattle.gm_changes.proofs.decision.decide_part.Goals as goal

pub returns-in-Some : goal.returns-in-Some
returns-in-Some c =
    let least : (s : Records)
    → IsPartToDecide c.args.part.now (seen_in c.args.facts.now) c.args.command.now s
    → c.args.count ≡ length s.mirrors
    → IsLeast s (seen_in c.args.facts.now) c.args.command.now c.in-Some.refusal
    = λ s to is. is_least s (seen_in c.args.facts.now) c.args.command.now c.in-Some.refusal
    (sym (found_on c.args.part.now s c.args.count (seen_in c.args.facts.now) c.args.command.now to
    is) ∙ (sym c.least_refusal.ensures ∙ c.in-Some.is)) in
    record {
      facts = least;
      world = λ u to is are. in_world c.args.facts.now u.state c.args.command.now
          (Err c.in-Some.refusal) (least u.state to is) u refl are;
      part = tt;
      alone = tt;
      memory = tt;
    }

pub change_of-requires : goal.change_of-requires
change_of-requires c =
    none_on c.args.part.now c.args.count (seen_in c.args.facts.now) c.args.command.now
    (search rules)

pub returns-in_err-change-clause-memory : goal.returns-in_err-change-clause-memory
returns-in_err-change-clause-memory c =
    on_err c.from_residual.result ((s : Records)
    → IsPartToDecide c.args.part.now (seen_in c.args.facts.now) c.args.command.now s
    → c.args.count ≡ length s.mirrors → IsGood s (seen_in c.args.facts.now) c.args.command.now)
    (good_on c.args.part.now c.args.count (seen_in c.args.facts.now) c.args.command.now
    (search rules))

pub returns : goal.returns
returns c =
    let good : (s : Records)
    → IsPartToDecide c.args.part.now (seen_in c.args.facts.now) c.args.command.now s
    → c.args.count ≡ length s.mirrors → IsGood s (seen_in c.args.facts.now) c.args.command.now
    = good_on c.args.part.now c.args.count (seen_in c.args.facts.now) c.args.command.now
    (search rules) in
    let but : IsGoodButCount c.args.part.now (seen_in c.args.facts.now) c.args.command.now =
    none_on c.args.part.now c.args.count (seen_in c.args.facts.now) c.args.command.now
    (search rules) in
    let made : IsMade c.args.part.now (seen_in c.args.facts.now) c.args.command.now
    c.in_ok-change.change = search rules in
    record {
      facts = λ s to is. made s to (good s to is);
      world = λ u to is are. in_world c.args.facts.now u.state c.args.command.now
          (Ok c.in_ok-change.change) (made u.state to (good u.state to is)) u refl are;
      part = λ s to is. made_leaves c.args.part.now s (seen_in c.args.facts.now) c.args.command.now
          to c.in_ok-change.change made but (good s to is);
      alone = λ state few most. made c.args.part.now
          (whole_to_decide c.args.part.now (seen_in c.args.facts.now) c.args.command.now state)
          (good_alone c.args.part.now c.args.count (seen_in c.args.facts.now) c.args.command.now
          (search rules) few most);
      memory = tt;
    }
