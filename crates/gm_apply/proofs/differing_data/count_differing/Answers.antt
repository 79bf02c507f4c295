use Rattle.gm_apply.proofs.Common.{sym, arith, sector_of}
use Rattle.gm_apply.proofs.DifferingSectors.{count_equal}
use Rattle.gm_apply.proofs.differing_data.count_differing.Goals as goal

pub loop-index-init : goal.loop-index-init
loop-index-init c = record {
  within = omega arith;
  count = sym (count_equal (sector_of c.args.a.now) (sector_of c.args.b.now) c.args.equal
      c.requires.equal);
}
