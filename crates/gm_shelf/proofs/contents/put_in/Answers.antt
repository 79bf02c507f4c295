use Rattle.gm_shelf.proofs.Common.{◌<◌, length, refl, sym, rules}
use Rattle.std.specs.Vec.{with_item}
use Rattle.gm_shelf.proofs.OneSector.{sizes_stay, one_changes}
use Rattle.gm_shelf.proofs.contents.put_in.Goals as goal

pub returns-in-Some-clause-sizes : goal.returns-in-Some-clause-sizes
returns-in-Some-clause-sizes c =
    let there : c.args.place < length c.in-Some.sectors.now.items = search rules in
    sizes_stay c.args.disks.now
    (c.get_mut.follows.lender (with_item c.in-Some.sectors.now c.args.place c.args.sector.now))
    c.args.provider c.args.place c.args.sector.now c.in-Some.sectors.now _
    (sym c.in-Some.ensures.value)
    ((c.get_mut.follows.holds (with_item c.in-Some.sectors.now c.args.place c.args.sector.now)).3
    (search rules)).0 refl refl there

pub returns-in-Some-clause-sectors : goal.returns-in-Some-clause-sectors
returns-in-Some-clause-sectors c =
    let there : c.args.place < length c.in-Some.sectors.now.items = search rules in
    one_changes c.args.disks.now
    (c.get_mut.follows.lender (with_item c.in-Some.sectors.now c.args.place c.args.sector.now))
    c.args.provider c.args.place c.args.sector.now c.in-Some.sectors.now _
    (sym c.in-Some.ensures.value)
    ((c.get_mut.follows.holds (with_item c.in-Some.sectors.now c.args.place c.args.sector.now)).3
    (search rules)).0 refl refl there
