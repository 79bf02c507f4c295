use Rattle.gm_front.proofs.Common.{rules, arith, ◌≡◌, ◌∙◌, sym, ap, subst, List, [], Err, length, none_left, Unlike, HasRoom, DiskKept, registry_of, most_rows, looked_at, failed_behind, StoodInTheWay, Call, asked_of}
use Rattle.gm_front.proofs.Found.{records_shown, store_of}
use Rattle.gm_front.proofs.ManyLooks.{looks_nothing, same_call}
use Rattle.gm_front.proofs.StoreTold.{store_told}
use Rattle.gm_front.proofs.guard.ask_guarded.Goals as goal

pub returns-in_default : goal.returns-in_default
returns-in_default g c = record {
  comes = λ honest kept away u at. record {
    mid = c.args.bench.now;
    looked = looks_nothing g.S.Store g.H.Shelf c.args.bench.now;
    comes = c.ask.ensures.comes honest kept away u at;
  };
  guarded = λ honest kept key command is t r has are. absurd (search rules);
  progress = c.ask.ensures.progress;
  closes = c.ask.ensures.closes;
  store = λ honest kept away u at.
      store_told g.S.Store g.H.Shelf _ _ _ _ away u
      (asked_of c.args.request.now) c.ask.result (c.ask.ensures.comes honest kept away u at);
  keep = c.ask.ensures.keep;
}

pub returns-in-Ok-clause-comes : goal.returns-in-Ok-clause-comes
returns-in-Ok-clause-comes g c = λ honest kept away u at.
    let looks = c.in-Ok.ensures.looks in
    let mid : DiskKept g.S.Store (registry_of c.in_the_way.new.bench) =
    omega (arith, c.ask-in-Ok.ensures.keep.clean, kept) in
    record {
      mid = c.in_the_way.new.bench;
      looked = looks.does honest mid;
      comes = c.ask-in-Ok.ensures.comes (looks.only.keeps.honest honest) kept away u
          (looked_at g.S.Store g.H.Shelf _ _ _ _ away [] [] u u (looks.does honest mid) at);
    }

pub returns-in-Ok-clause-guarded : goal.returns-in-Ok-clause-guarded
returns-in-Ok-clause-guarded g c = λ honest kept key command is.
    let mid : DiskKept g.S.Store (registry_of c.in_the_way.new.bench) =
    omega (arith, c.ask-in-Ok.ensures.keep.clean, kept) in
    let zero : length c.in-Ok.list.items ≡ 0 = search rules in
    let none = none_left c.in-Ok.list.items 0 (omega (arith, zero)) in
    let asks : Call c.in-Call.key.now c.in-Call.command ≡ Call key command =
    ap asked_of (sym c.in-Call.is) ∙ is in
    same_call (λ k x. StoodInTheWay g.S.Store g.H.Shelf c.args.bench.now k x [])
    c.in-Call.key.now key c.in-Call.command command asks
    (subst (λ (list : List Unlike). StoodInTheWay g.S.Store g.H.Shelf c.args.bench.now
    c.in-Call.key.now c.in-Call.command list) none (c.in-Ok.ensures.stood honest mid))

pub returns-in-Err-clause-comes : goal.returns-in-Err-clause-comes
returns-in-Err-clause-comes g c = λ honest kept away u at.
    let looks = c.in-Err.ensures.looks in
    record {
      left = looks.leaves honest kept away [] [] u u at;
      disk = λ is. looks.disk (ap Err is);
      readable = λ is found written.
          c.in-Err.ensures.readable honest kept (ap Err is) found.tables u.state found.has
          (records_shown g.S.Store g.H.Shelf _ _ away u found
          (g.met.H.Shelf.lawful _ honest)) written;
    }

pub returns-in-Ok-clause-store : goal.returns-in-Ok-clause-store
returns-in-Ok-clause-store g c = λ honest kept away u at is room.
    let looks = c.in-Ok.ensures.looks in
    let mid : DiskKept g.S.Store (registry_of c.in_the_way.new.bench) =
    omega (arith, c.ask-in-Ok.ensures.keep.clean, kept) in
    let read = looks.read honest mid at.tables at.has in
    failed_behind g.S.Store (registry_of c.args.bench.now) (registry_of c.in_the_way.new.bench)
    read.counts read.limit (registry_of c.ask-in-Ok.new.bench)
    (store_told g.S.Store g.H.Shelf _ _ _ _ away u (asked_of c.args.request.now) c.ask-in-Ok.result
    (c.ask-in-Ok.ensures.comes (looks.only.keeps.honest honest) kept away u
    (looked_at g.S.Store g.H.Shelf _ _ _ _ away [] [] u u
    (looks.does honest mid) at)) is (subst (HasRoom most_rows) (sym read.rows) room))

pub returns-in-Err-clause-store : goal.returns-in-Err-clause-store
returns-in-Err-clause-store g c = λ honest kept away u at is room.
    c.in-Err.ensures.store honest kept (store_of _ is) at.tables at.has
