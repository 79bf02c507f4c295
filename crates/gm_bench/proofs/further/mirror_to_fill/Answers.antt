use Rattle.gm_bench.proofs.Common.{rules, ◌≡◌, ◌∙◌, refl, sym, subst, ap, Component, Some, Mirror, mirror_of, same_is, HaveRoomFor, Intent, List}
use Rattle.gm_state.proofs.FoundRecords.{named}
use Rattle.gm_bench.proofs.further.mirror_to_fill.Goals as goal

pub returns-then-have_room_for : goal.returns-then-have_room_for
returns-then-have_room_for g c m is =
    let size = g.H.Shelf.size c.args.shelf.now in
    let part = c.args.planned.now.work.part in
    let k : Component = c.in_ok-component.component in
    let at : mirror_of part c.args.name ≡ Some m = sym c.in_ok-mirror.ensures.value ∙ is in
    let found = named part c.args.name m at in
    let same : c.in_ok-there.there ≡ k = search rules in
    let mine : c.in_ok-mirror.mirror ≡ m = cc in (
      record {
        state = c.in_ok-mirror.ensures.state;
        component = k;
        unfilled = c.in_ok-component.ensures.some k refl;
        there = sym c.in_ok-there.ensures.value ∙ ap Some same;
        mirror_is = subst (λ n. mirror_of part n ≡ Some m) (sym found.1) at;
        own = same_is k.mirror c.args.name (sym c.eq.ensures ∙ c.if-eq.true) ∙ sym found.1;
        puts = search rules;
        room = subst (λ (x : Mirror). HaveRoomFor size x.data_sectors
            c.args.planned.now.change.intents) mine (subst (λ (ts : List Intent). HaveRoomFor size
            c.in_ok-mirror.mirror.data_sectors ts) c.intents.ensures
            (c.have_room_for.ensures c.if-have_room_for.true));
      },
      found.1,
    )
