use Rattle.gm_front.proofs.Common.{rules, arith, ◌≡◌, ◌-◌, length, take, drop, take_all, length-drop}
use Rattle.gm_front.proofs.WrittenBytes.{more_appended}
use Rattle.gm_front.proofs.answer_lines.write_whole.Goals as goal

pub loop-at-preserved : goal.loop-at-preserved
loop-at-preserved g c =
    let bytes = c.args.bytes.now in
    let at = c.loop-at.at in
    let whole : take (length bytes - at) (drop at bytes) ≡ drop at bytes =
    take_all _ _ (rw length-drop (omega arith)) in
    let some = rw whole at c.in-Some.ensures.some.2 in
    record { within = search rules; told = more_appended _ _ _ _ _ _ c.loop-at.invariant.told some }
