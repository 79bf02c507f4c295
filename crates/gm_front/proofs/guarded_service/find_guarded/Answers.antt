use Rattle.gm_front.proofs.Common.{rules, arith, ◌≡◌, ◌∙◌, sym, ap, subst, ℕ, List, [], Err, length, none_left, Unlike, HasRoom, DiskKept, registry_of, most_rows, looked_at, failed_behind, Carry, demand_in, StoodInTheWay}
use Rattle.gm_front.proofs.Found.{records_shown, store_of}
use Rattle.gm_front.proofs.ManyLooks.{looks_nothing}
use Rattle.gm_front.proofs.Withholding.{had_nothing, run_of_look, same_carried, unless_withheld}
use Rattle.gm_front.proofs.guarded_service.find_guarded.Goals as goal

pub returns-in_default : goal.returns-in_default
returns-in_default g c = record {
  finds = λ honest kept away u at.
      unless_withheld g.S.Store g.H.Shelf c.args.bench.now c.find.new.bench away u
      (demand_in c.args.demand.now) c.find.result (record {
        mid = c.args.bench.now;
        looked = looks_nothing g.S.Store g.H.Shelf c.args.bench.now;
        comes = c.find.ensures.comes honest kept away u at;
      });
  guarded = λ honest kept.
      had_nothing g.S.Store g.H.Shelf c.args.bench.now c.find.new.bench
      (demand_in c.args.demand.now) c.find.result c.find.ensures.put
      (λ key command is t r has are. absurd (search rules));
  progress = c.find.ensures.progress;
  closes = c.find.ensures.closes;
  store = c.find.ensures.store;
  keep = c.find.ensures.keep;
}

pub returns-in-Ok-clause-finds : goal.returns-in-Ok-clause-finds
returns-in-Ok-clause-finds g c = λ honest kept away u at.
    let looks = c.in-Ok.ensures.looks in
    let mid : DiskKept g.S.Store (registry_of c.in_the_way.new.bench) =
    omega (arith, c.find-in-Ok.ensures.keep.clean, kept) in
    unless_withheld g.S.Store g.H.Shelf c.args.bench.now c.find-in-Ok.new.bench away u
    (demand_in c.args.demand.now) c.find-in-Ok.result (record {
      mid = c.in_the_way.new.bench;
      looked = looks.does honest mid;
      comes = c.find-in-Ok.ensures.comes (looks.only.keeps.honest honest) kept away u
          (looked_at g.S.Store g.H.Shelf _ _ _ _ away [] [] u u (looks.does honest mid) at);
    })

pub returns-in-Ok-clause-guarded : goal.returns-in-Ok-clause-guarded
returns-in-Ok-clause-guarded g c = λ honest kept.
    let mid : DiskKept g.S.Store (registry_of c.in_the_way.new.bench) =
    omega (arith, c.find-in-Ok.ensures.keep.clean, kept) in
    let zero : length c.in-Ok.list.items ≡ 0 = search rules in
    let none = none_left c.in-Ok.list.items 0 (omega (arith, zero)) in
    had_nothing g.S.Store g.H.Shelf c.args.bench.now c.find-in-Ok.new.bench
    (demand_in c.args.demand.now) c.find-in-Ok.result c.find-in-Ok.ensures.put
    (λ key command is.
    let carried = ap (λ (k : List ℕ). Carry k c.in-Carry.command) c.as_str.ensures.value
    ∙ (ap demand_in (sym c.in-Carry.is) ∙ is) in
    same_carried (λ k x. StoodInTheWay g.S.Store g.H.Shelf c.args.bench.now k x [])
    c.as_str.result.now key c.in-Carry.command command carried
    (subst (λ (list : List Unlike). StoodInTheWay g.S.Store g.H.Shelf c.args.bench.now
    c.as_str.result.now c.in-Carry.command list) none (c.in-Ok.ensures.stood honest mid)))

pub returns-in-Ok-2-clause-guarded : goal.returns-in-Ok-2-clause-guarded
returns-in-Ok-2-clause-guarded g c = λ honest kept. record {
  key = c.as_str.result.now;
  command = c.in-Carry.command;
  carry = ap demand_in c.in-Carry.is
      ∙ ap (λ (k : List ℕ). Carry k c.in-Carry.command) (sym c.as_str.ensures.value);
  some = search rules;
  stood = c.in-Ok.ensures.stood honest kept;
  looked = c.in-Ok.ensures.looks.does honest kept;
}

pub returns-in-Err-clause-finds : goal.returns-in-Err-clause-finds
returns-in-Err-clause-finds g c = λ honest kept away u at.
    let looks = c.in-Err.ensures.looks in
    record {
      mid = c.args.bench.now;
      looked = looks_nothing g.S.Store g.H.Shelf c.args.bench.now;
      comes = rw (c.in-Carry.is, ← c.as_str.ensures.value) (record {
        left = run_of_look g.S.Store g.H.Shelf _ _ _ _ away u c.as_str.result.now c.in-Carry.command
            (looks.leaves honest kept away [] [] u u at) looks.only.keeps.size;
        disk = λ is. looks.disk (ap Err is);
        readable = λ is found written.
            c.in-Err.ensures.readable honest kept (ap Err is) found.tables u.state found.has
            (records_shown g.S.Store g.H.Shelf _ _ away u found
            (g.met.H.Shelf.lawful _ honest)) written;
      });
    }

pub returns-in-Ok-clause-store : goal.returns-in-Ok-clause-store
returns-in-Ok-clause-store g c = λ honest kept away u at is room.
    let looks = c.in-Ok.ensures.looks in
    let mid : DiskKept g.S.Store (registry_of c.in_the_way.new.bench) =
    omega (arith, c.find-in-Ok.ensures.keep.clean, kept) in
    let read = looks.read honest mid at.tables at.has in
    failed_behind g.S.Store (registry_of c.args.bench.now) (registry_of c.in_the_way.new.bench)
    read.counts read.limit (registry_of c.find-in-Ok.new.bench)
    (c.find-in-Ok.ensures.store (looks.only.keeps.honest honest) kept away u
    (looked_at g.S.Store g.H.Shelf _ _ _ _ away [] [] u u
    (looks.does honest mid) at) is (subst (HasRoom most_rows) (sym read.rows) room))

pub returns-in-Err-clause-store : goal.returns-in-Err-clause-store
returns-in-Err-clause-store g c = λ honest kept away u at is room.
    c.in-Err.ensures.store honest kept (store_of _ is) at.tables at.has
