use Rattle.gm_bench.proofs.Common.{rules, ◌∙◌, Err, inl, inr, refl, sym, ap, subst, arith, Held, DiskKept, LeavesAlone, StoreFailed, stored, first_is_ours, second_is_ours, MayBeCarriedOver, OpenLeaves}
use Rattle.gm_bench.proofs.Causes.{of_failed, of_unreadable}
use Rattle.gm_bench.proofs.DecidesOnly.{alone_then}
use Rattle.gm_bench.proofs.ReopenedStore.{carried_then, failed_opened, found_at, known_store, not_opened, opens_over}
use Rattle.gm_bench.proofs.bench.Bench.open.Goals as goal

pub returns-in-Err-clause-leaves : goal.returns-in-Err-clause-leaves
returns-in-Err-clause-leaves g c h is_open clean =
    not_opened g.S.Store g.H.Shelf c.args.store c.in-Err.e.store c.args.shelf
    (g.met.H.Shelf.lawful c.args.shelf h)
    (λ db left. g.met.S.Store.settled c.args.store.store db is_open left) clean
    (c.in-Err.ensures.opens is_open).left

pub returns-in-Err-clause-unopened : goal.returns-in-Err-clause-unopened
returns-in-Err-clause-unopened g c =
    record {
      absent = search rules;
      disk = search rules;
      unreadable = λ is_open clean is openable t s ts bytes stands of. (
          absurd ((c.in-Err.ensures.opens is_open).fails.unreadable clean
          (of_unreadable c.in-Err.e.fault (sym c.of_store.ensures.value ∙ is)) openable));
      failed = λ is_open clean is known.
          (c.in-Err.ensures.opens is_open).fails.store clean
          (of_failed c.in-Err.e.fault (sym c.of_store.ensures.value ∙ is))
          (known_store (stored g.S.Store c.args.store) known);
      closed = search rules;
      untouched = search rules;
      alone = λ is_open sound clean before.
          ((c.in-Err.ensures.opens is_open).second sound).alone;
      first_alone = λ is_open sound clean before.
          let over = (c.in-Err.ensures.opens is_open).first sound in
          record { tables = λ kept still. inl (over.stays kept still); crash = over.left };
    }

pub returns-in-Ok-take_up-clause-opened : goal.returns-in-Ok-take_up-clause-opened
returns-in-Ok-take_up-clause-opened g c =
    let mid : DiskKept g.S.Store c.take_up.new.self.registry
    → DiskKept g.S.Store c.in-Ok.registry =
    λ clean. omega (arith, clean, c.take_up.ensures.keep.clean) in
    record {
      ready = search rules;
      does = λ h is_open clean away u w was. (
          let it = c.in-Ok.ensures.opens is_open in
          let at = found_at g.S.Store g.H.Shelf c.args.store c.in-Ok.registry
          c.args.shelf (it.opened (mid clean)) away u w was in
          (c.in-Ok-take_up.ensures.done h clean away was.recovers.intents was.recovers.bytes u w
          at).1);
      redone = λ h is_open clean away u w was. (
          let it = c.in-Ok.ensures.opens is_open in
          let at = found_at g.S.Store g.H.Shelf c.args.store c.in-Ok.registry
          c.args.shelf (it.opened (mid clean)) away u w was in
          (c.in-Ok-take_up.ensures.done h clean away was.recovers.intents was.recovers.bytes u w
          at).0);
      readable = λ is_open clean t stands. (
          let it = c.in-Ok.ensures.opens is_open in
          c.in-Ok-take_up.ensures.tells.readable clean t (it.opened (mid clean) t stands));
      there = λ is_open clean t s ts bytes stands of. (
          let it = c.in-Ok.ensures.opens is_open in
          c.in-Ok-take_up.ensures.tells.there clean t s ts bytes (it.opened (mid clean) t stands)
          of);
    }

pub returns-in-Ok-take_up-clause-leaves : goal.returns-in-Ok-take_up-clause-leaves
returns-in-Ok-take_up-clause-leaves g c h is_open clean =
    let mid : DiskKept g.S.Store c.in-Ok.registry =
    omega (arith, clean, c.take_up.ensures.keep.clean) in
    let it = c.in-Ok.ensures.opens is_open in
    opens_over g.S.Store g.H.Shelf c.args.store c.in-Ok.registry c.args.shelf
    (g.met.H.Shelf.lawful c.args.shelf h)
    (λ db left. g.met.S.Store.settled c.args.store.store db is_open left) mid it.left
    (it.opened mid) c.take_up.new.self.registry c.take_up.new.self.shelf
    (c.take_up.ensures.leaves h clean)

pub returns-in-Err-take_up-clause-leaves : goal.returns-in-Err-take_up-clause-leaves
returns-in-Err-take_up-clause-leaves g c h is_open closed =
    let clean : DiskKept g.S.Store c.take_up.new.self.registry =
    subst (λ (k : Held g.row.S.Denot). DiskKept g.S.Store k) c.close.ensures closed in
    let mid : DiskKept g.S.Store c.in-Ok.registry =
    omega (arith, clean, c.take_up.ensures.keep.clean) in
    let it = c.in-Ok.ensures.opens is_open in
    subst (λ (k : Held g.row.S.Denot). OpenLeaves g.S.Store g.H.Shelf
    c.args.store k c.args.shelf c.take_up.new.self.shelf) (sym c.close.ensures)
    (opens_over g.S.Store g.H.Shelf c.args.store c.in-Ok.registry c.args.shelf
    (g.met.H.Shelf.lawful c.args.shelf h)
    (λ db left. g.met.S.Store.settled c.args.store.store db is_open left) mid it.left
    (it.opened mid) c.take_up.new.self.registry c.take_up.new.self.shelf
    (c.take_up.ensures.leaves h clean))

pub returns-in-Err-take_up-clause-unopened : goal.returns-in-Err-take_up-clause-unopened
returns-in-Err-take_up-clause-unopened g c =
    let mid : DiskKept g.S.Store c.take_up.new.self.registry
    → DiskKept g.S.Store c.in-Ok.registry =
    λ clean. omega (arith, clean, c.take_up.ensures.keep.clean) in
    record {
      absent = λ is_open closed p is t s ts bytes stands of. (
          let clean : DiskKept g.S.Store c.take_up.new.self.registry =
          subst (λ (k : Held g.row.S.Denot). DiskKept g.S.Store k) c.close.ensures closed in
          let it = c.in-Ok.ensures.opens is_open in
          c.in-Err-take_up.ensures.tells.absent clean p (ap Err is) t s ts bytes
          (it.opened (mid clean) t stands) of);
      disk = λ is_open closed is t stands. (
          let clean : DiskKept g.S.Store c.take_up.new.self.registry =
          subst (λ (k : Held g.row.S.Denot). DiskKept g.S.Store k) c.close.ensures closed in
          let it = c.in-Ok.ensures.opens is_open in
          c.in-Err-take_up.ensures.tells.disk clean t (it.opened (mid clean) t stands) (ap Err is));
      unreadable = λ is_open closed is openable t s ts bytes stands of. (
          let clean : DiskKept g.S.Store c.take_up.new.self.registry =
          subst (λ (k : Held g.row.S.Denot). DiskKept g.S.Store k) c.close.ensures closed in
          let it = c.in-Ok.ensures.opens is_open in
          c.in-Err-take_up.ensures.tells.unreadable clean (ap Err is) t s ts bytes
          (it.opened (mid clean) t stands) of);
      failed = λ is_open closed is known. (
          let clean : DiskKept g.S.Store c.take_up.new.self.registry =
          subst (λ (k : Held g.row.S.Denot). DiskKept g.S.Store k) c.close.ensures closed in
          let it = c.in-Ok.ensures.opens is_open in
          elim known [
            | inl stands ↦
                subst (λ (k : Held g.row.S.Denot). StoreFailed g.S.Store c.args.store k)
                (sym c.close.ensures)
                (failed_opened g.S.Store c.args.store c.in-Ok.registry
                c.take_up.new.self.registry stands.0 (it.left stands.0 stands.1)
                (c.in-Err-take_up.ensures.store clean (ap Err is) stands.0
                (it.opened (mid clean) stands.0 stands.1)))
            | inr foreign ↦ absurd ((it.other foreign).refused (mid clean))
          ]);
      closed = search rules;
      untouched = search rules;
      alone = λ is_open sound closed before. (
          let clean : DiskKept g.S.Store c.take_up.new.self.registry =
          subst (λ (k : Held g.row.S.Denot). DiskKept g.S.Store k) c.close.ensures closed in
          let it = c.in-Ok.ensures.opens is_open in
          let is = it.registry (mid clean) (second_is_ours (stored g.S.Store c.args.store) sound) in
          subst (λ (k : Held g.row.S.Denot). LeavesAlone g.S.Store c.args.store k)
          (sym c.close.ensures)
          (alone_then g.S.Store c.args.store c.in-Ok.registry c.take_up.new.self.registry is
          c.take_up.ensures.keep.clean (it.second sound).alone
          (c.in-Err-take_up.ensures.before.registry before is)));
      first_alone = λ is_open sound closed before. (
          let clean : DiskKept g.S.Store c.take_up.new.self.registry =
          subst (λ (k : Held g.row.S.Denot). DiskKept g.S.Store k) c.close.ensures closed in
          let it = c.in-Ok.ensures.opens is_open in
          let is = it.registry (mid clean) (first_is_ours (stored g.S.Store c.args.store) sound) in
          let over = it.first sound in
          subst (λ (k : Held g.row.S.Denot). MayBeCarriedOver g.S.Store c.args.store k)
          (sym c.close.ensures)
          (carried_then g.S.Store c.args.store c.in-Ok.registry c.take_up.new.self.registry
          (over.done (mid clean)) over.left (c.in-Err-take_up.ensures.before.registry before is)));
    }

pub returns-in-Err-clause-foreign : goal.returns-in-Err-clause-foreign
returns-in-Err-clause-foreign g c is_open foreign clean =
    (((c.in-Err.ensures.opens is_open).other foreign).alone, refl)

pub returns-in-Err-take_up-clause-foreign : goal.returns-in-Err-take_up-clause-foreign
returns-in-Err-take_up-clause-foreign g c is_open foreign closed =
    let clean : DiskKept g.S.Store c.take_up.new.self.registry =
    subst (λ (k : Held g.row.S.Denot). DiskKept g.S.Store k) c.close.ensures closed in
    let mid : DiskKept g.S.Store c.in-Ok.registry =
    omega (arith, clean, c.take_up.ensures.keep.clean) in
    let it = c.in-Ok.ensures.opens is_open in
    absurd ((it.other foreign).refused mid)

pub returns-in-Ok-take_up-clause-foreign : goal.returns-in-Ok-take_up-clause-foreign
returns-in-Ok-take_up-clause-foreign g c is_open foreign clean =
    let mid : DiskKept g.S.Store c.in-Ok.registry =
    omega (arith, clean, c.take_up.ensures.keep.clean) in
    let it = c.in-Ok.ensures.opens is_open in
    absurd ((it.other foreign).refused mid)
