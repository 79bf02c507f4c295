use Rattle.gm_changes.proofs.Common.{◌<◌, ◌^◌, ◌∙◌, sym, arith, seen_in, source_found, found_among, fitting_source, more_sectors}
use Rattle.gm_changes.proofs.adopt.adopted_on.Goals as goal

pub adopted-requires-clause-data : goal.adopted-requires-clause-data
adopted-requires-clause-data c =
    let x = seen_in c.args.facts.now in
    let ps = c.args.providers.now in
    let b = c.in-Some.source in
    let from = sym c.adopt_source.ensures ∙ c.in-Some.is in
    let among = found_among x ps b (source_found x ps b from) in
    let room = more_sectors x b.metadata b.provider
    ((fitting_source x c.args.name ps c.requires.adoptable b from).room b.provider among) in
    let fits : room.0 < 2 ^ 32 = c.requires.sizes b.provider among room.0 room.1 in
    omega (arith, room.2)
