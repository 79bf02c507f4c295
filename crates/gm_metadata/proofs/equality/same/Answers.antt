use Rattle.gm_metadata.proofs.Common.{rules, arith, ◌≡◌, ◌∙◌, ◌++◌, sym, ap₂, take, drop, List, ℕ, take-add}
use Rattle.gm_metadata.proofs.equality.same.Goals as goal

pub loop-at-preserved : goal.loop-at-preserved
loop-at-preserved c =
    let at = c.loop-at.at in
    let a = c.args.a.now in
    let b = c.args.b.now in
    let block : take 64 (drop at a) ≡ take 64 (drop at b) = search rules in
    record {
      within = omega arith;
      whole = omega arith;
      same = take-add at 64 a ∙ ap₂ (λ (x y : List ℕ). x ++ y) c.loop-at.invariant.same block
          ∙ sym (take-add at 64 b);
    }
