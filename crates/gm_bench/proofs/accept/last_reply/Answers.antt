use Rattle.gm_bench.proofs.Common.{◌≡◌, ◌+◌, ◌-◌, ◌∷◌, [], length, map, Some, List, sym, subst, arith, Further, keyed_of, last_reply}
use Rattle.std.specs.List.{slice_get}
use Rattle.gm_bench.proofs.LastReply.{last_is}
use Rattle.gm_bench.proofs.accept.last_reply.Goals as goal

-- a list that has a last one isn't empty
some_last : (fs : List Further) (f : Further) → slice_get fs (length fs - 1) ≡ Some f
    → length fs - 1 + 1 ≡ length fs
some_last [] f is = let no : ⊥ = cc in absurd no
some_last (g ∷ fs) f is = omega arith

pub returns-in-Some : goal.returns-in-Some
returns-in-Some c =
    let fs = c.further.result.now in
    let at : slice_get fs (length fs - 1) ≡ Some c.in-Some.further.now =
    sym c.in-Some.ensures.value in
    subst (λ (l : List Further). c.in-Some.further.now.reply
    ≡ last_reply c.args.change.now.reply (map keyed_of l)) c.further.ensures
    (last_is c.args.change.now.reply fs c.in-Some.further.now (length fs - 1) at
    (some_last fs c.in-Some.further.now at))
