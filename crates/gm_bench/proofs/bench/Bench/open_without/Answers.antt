use Rattle.gm_bench.proofs.Common.{rules, ◌≡◌, ◌∙◌, inl, inr, Ok, Err, refl, sym, ap, subst, arith, Held, Trees, CrashLeaves, DiskKept, StoreFailed, stored, Bench, Ready, TakenUp, AreUntouched, GivesUp, IsUnwritten, LacksImage, DoesWithout, KeepsUndone, OpenLeaves}
use Rattle.gm_bench.proofs.Causes.{of_failed, of_unreadable}
use Rattle.gm_bench.proofs.OpenedRoom.{room_opened}
use Rattle.gm_bench.proofs.ReopenedLoss.{answered, are_untouched, given_up, lacking, undone}
use Rattle.gm_bench.proofs.ReopenedStore.{failed_opened, found_at, known_store, not_opened, opens_over}
use Rattle.gm_bench.proofs.bench.Bench.open_without.Goals as goal

pub returns-in-Err-clause-leaves : goal.returns-in-Err-clause-leaves
returns-in-Err-clause-leaves g c h is_open clean =
    inl (not_opened g.S.Store g.H.Shelf c.args.store c.in-Err.e.store
    c.args.shelf (g.met.H.Shelf.lawful c.args.shelf h)
    (λ db left. g.met.S.Store.settled c.args.store.store db is_open left) clean
    (c.in-Err.ensures.opens is_open).left)

pub returns-in-Err-clause-foreign : goal.returns-in-Err-clause-foreign
returns-in-Err-clause-foreign g c is_open foreign clean =
    (((c.in-Err.ensures.opens is_open).other foreign).alone, refl)

pub returns-in-Ok-Carried-clause-leaves : goal.returns-in-Ok-Carried-clause-leaves
returns-in-Ok-Carried-clause-leaves g c h is_open clean =
    let mid : DiskKept g.S.Store c.in-Ok.registry =
    omega (arith, clean, c.take_up_without.ensures.keep.clean) in
    let it = c.in-Ok.ensures.opens is_open in
    let only : (db : Trees) → CrashLeaves g.S.Store c.args.store db
    → db ≡ stored g.S.Store c.args.store =
    λ db left. g.met.S.Store.settled c.args.store.store db is_open left in
    let lawful = g.met.H.Shelf.lawful c.args.shelf h in
    given_up g.S.Store g.H.Shelf c.args.store c.in-Ok.registry c.args.shelf
    (it.opened mid) lawful only mid it.left c.args.key.now c.args.provider
    c.take_up_without.new.self.registry c.take_up_without.new.self.shelf
    (c.take_up_without.ensures.leaves h clean)

pub returns-in-Ok-NotLost-clause-leaves : goal.returns-in-Ok-NotLost-clause-leaves
returns-in-Ok-NotLost-clause-leaves g c h is_open closed =
    let clean : DiskKept g.S.Store c.take_up_without.new.self.registry =
    subst (λ (k : Held g.row.S.Denot). DiskKept g.S.Store k) c.close.ensures closed in
    let mid : DiskKept g.S.Store c.in-Ok.registry =
    omega (arith, clean, c.take_up_without.ensures.keep.clean) in
    let it = c.in-Ok.ensures.opens is_open in
    let only : (db : Trees) → CrashLeaves g.S.Store c.args.store db
    → db ≡ stored g.S.Store c.args.store =
    λ db left. g.met.S.Store.settled c.args.store.store db is_open left in
    let lawful = g.met.H.Shelf.lawful c.args.shelf h in
    subst (λ (k : Held g.row.S.Denot). GivesUp g.S.Store g.H.Shelf c.args.store
    c.args.shelf c.args.key.now c.args.provider k c.take_up_without.new.self.shelf)
    (sym c.close.ensures)
    (given_up g.S.Store g.H.Shelf c.args.store c.in-Ok.registry c.args.shelf
    (it.opened mid) lawful only mid it.left c.args.key.now c.args.provider
    c.take_up_without.new.self.registry c.take_up_without.new.self.shelf
    (c.take_up_without.ensures.leaves h clean))

pub returns-in-Err-take_up_without-clause-leaves : goal.returns-in-Err-take_up_without-clause-leaves
returns-in-Err-take_up_without-clause-leaves g c h is_open closed =
    let clean : DiskKept g.S.Store c.take_up_without.new.self.registry =
    subst (λ (k : Held g.row.S.Denot). DiskKept g.S.Store k)
    c.close-in-Err-take_up_without.ensures closed in
    let mid : DiskKept g.S.Store c.in-Ok.registry =
    omega (arith, clean, c.take_up_without.ensures.keep.clean) in
    let it = c.in-Ok.ensures.opens is_open in
    let only : (db : Trees) → CrashLeaves g.S.Store c.args.store db
    → db ≡ stored g.S.Store c.args.store =
    λ db left. g.met.S.Store.settled c.args.store.store db is_open left in
    let lawful = g.met.H.Shelf.lawful c.args.shelf h in
    subst (λ (k : Held g.row.S.Denot). GivesUp g.S.Store g.H.Shelf c.args.store
    c.args.shelf c.args.key.now c.args.provider k c.take_up_without.new.self.shelf)
    (sym c.close-in-Err-take_up_without.ensures)
    (given_up g.S.Store g.H.Shelf c.args.store c.in-Ok.registry c.args.shelf
    (it.opened mid) lawful only mid it.left c.args.key.now c.args.provider
    c.take_up_without.new.self.registry c.take_up_without.new.self.shelf
    (c.take_up_without.ensures.leaves h clean))

pub returns-in-Err-take_up_without-clause-foreign :
    goal.returns-in-Err-take_up_without-clause-foreign
returns-in-Err-take_up_without-clause-foreign g c is_open foreign closed =
    let clean : DiskKept g.S.Store c.take_up_without.new.self.registry =
    subst (λ (k : Held g.row.S.Denot). DiskKept g.S.Store k)
    c.close-in-Err-take_up_without.ensures closed in
    let mid : DiskKept g.S.Store c.in-Ok.registry =
    omega (arith, clean, c.take_up_without.ensures.keep.clean) in
    let it = c.in-Ok.ensures.opens is_open in
    absurd ((it.other foreign).refused mid)

pub returns-in-Err-clause-unopened : goal.returns-in-Err-clause-unopened
returns-in-Err-clause-unopened g c =
    record {
      lacks = search rules;
      untouched = λ before. record {
        shelf_is = refl;
        alone = λ is_open clean sound.
            ((c.in-Err.ensures.opens is_open).second sound).alone;
        first_alone = λ is_open clean sound.
            let over = (c.in-Err.ensures.opens is_open).first sound in
            record { tables = λ kept still. inl (over.stays kept still); crash = over.left };
      };
      disk = search rules;
      unreadable = λ is_open clean is openable t s ts bytes stands of written. (
          absurd ((c.in-Err.ensures.opens is_open).fails.unreadable clean
          (of_unreadable c.in-Err.e.fault (sym c.of_store.ensures.value ∙ is)) openable));
      failed = λ is_open clean is known.
          (c.in-Err.ensures.opens is_open).fails.store clean
          (of_failed c.in-Err.e.fault (sym c.of_store.ensures.value ∙ is))
          (known_store (stored g.S.Store c.args.store) (elim known [
            | inl takes ↦ inl (takes.tables, takes.stands)
            | inr foreign ↦ inr foreign
          ]));
      closed = search rules;
    }

pub returns-in-Ok-Carried-clause-opened : goal.returns-in-Ok-Carried-clause-opened
returns-in-Ok-Carried-clause-opened g c =
    let mid : DiskKept g.S.Store c.take_up_without.new.self.registry
    → DiskKept g.S.Store c.in-Ok.registry =
    λ clean. omega (arith, clean, c.take_up_without.ensures.keep.clean) in
    record {
      answers = λ h is_open clean. (
          let it = c.in-Ok.ensures.opens is_open in
          let b : Bench g.row.S.Denot g.row.H.Denot = record {
            media = c.take_up_without.new.self;
            progress = Ready;
            redone = c.in-Ok-Carried.redone;
          } in
          answered g.S.Store g.H.Shelf c.args.store c.in-Ok.registry
          c.args.shelf (it.opened (mid clean)) c.args.key.now c.args.provider b
          c.in-Ok-Carried.answer c.in-Ok-Carried.redone refl
          (subst
          (λ (x : TakenUp). DoesWithout g.S.Store g.H.Shelf c.args.key.now
          c.args.provider c.in-Ok.registry c.take_up_without.new.self.registry c.args.shelf
          c.take_up_without.new.self.shelf x) c.in-Ok-Carried.field-0-is
          (c.in-Ok-Carried.ensures.does h clean)));
      undone = λ h is_open clean. (
          let it = c.in-Ok.ensures.opens is_open in
          let only : (db : Trees) → CrashLeaves g.S.Store c.args.store db
          → db ≡ stored g.S.Store c.args.store =
          λ db left. g.met.S.Store.settled c.args.store.store db is_open left in
          let lawful = g.met.H.Shelf.lawful c.args.shelf h in
          let b : Bench g.row.S.Denot g.row.H.Denot = record {
            media = c.take_up_without.new.self;
            progress = Ready;
            redone = c.in-Ok-Carried.redone;
          } in
          undone g.S.Store g.H.Shelf c.args.store c.in-Ok.registry c.args.shelf
          (it.opened (mid clean)) lawful only (mid clean) it.left c.args.key.now c.args.provider b
          c.in-Ok-Carried.answer c.in-Ok-Carried.redone
          (subst
          (λ (x : TakenUp). KeepsUndone g.S.Store g.H.Shelf c.args.key.now
          c.args.provider c.in-Ok.registry c.take_up_without.new.self.registry c.args.shelf
          c.take_up_without.new.self.shelf x) c.in-Ok-Carried.field-0-is
          (c.in-Ok-Carried.ensures.undone h clean)));
      ready = search rules;
      readable = λ is_open clean t stands. (
          let it = c.in-Ok.ensures.opens is_open in
          c.in-Ok-Carried.ensures.tells.readable clean t (it.opened (mid clean) t stands));
      refused = search rules;
    }

pub returns-in-Ok-NotLost-clause-opened : goal.returns-in-Ok-NotLost-clause-opened
returns-in-Ok-NotLost-clause-opened g c =
    let mid : DiskKept g.S.Store c.take_up_without.new.self.registry
    → DiskKept g.S.Store c.in-Ok.registry =
    λ clean. omega (arith, clean, c.take_up_without.ensures.keep.clean) in
    record {
      answers = λ h is_open closed. (
          let clean : DiskKept g.S.Store c.take_up_without.new.self.registry =
          subst (λ (k : Held g.row.S.Denot). DiskKept g.S.Store k) c.close.ensures closed in
          let it = c.in-Ok.ensures.opens is_open in
          let does = subst (λ (x : TakenUp). DoesWithout g.S.Store g.H.Shelf
          c.args.key.now c.args.provider c.in-Ok.registry c.take_up_without.new.self.registry
          c.args.shelf c.take_up_without.new.self.shelf x) c.in-Ok-NotLost.field-0-is
          (c.in-Ok-NotLost.ensures.does h clean) in
          λ away u w left. does away left.recovers.intents left.recovers.bytes u w
          (found_at g.S.Store g.H.Shelf c.args.store c.in-Ok.registry
          c.args.shelf (it.opened (mid clean)) away u w left));
      undone = λ h is_open closed. (
          let clean : DiskKept g.S.Store c.take_up_without.new.self.registry =
          subst (λ (k : Held g.row.S.Denot). DiskKept g.S.Store k) c.close.ensures closed in
          let it = c.in-Ok.ensures.opens is_open in
          let only : (db : Trees) → CrashLeaves g.S.Store c.args.store db
          → db ≡ stored g.S.Store c.args.store =
          λ db left. g.met.S.Store.settled c.args.store.store db is_open left in
          let lawful = g.met.H.Shelf.lawful c.args.shelf h in
          let keeps = subst (λ (x : TakenUp). KeepsUndone g.S.Store g.H.Shelf
          c.args.key.now c.args.provider c.in-Ok.registry c.take_up_without.new.self.registry
          c.args.shelf c.take_up_without.new.self.shelf x) c.in-Ok-NotLost.field-0-is
          (c.in-Ok-NotLost.ensures.undone h clean) in
          subst (λ (k : Held g.row.S.Denot). OpenLeaves g.S.Store g.H.Shelf
          c.args.store k c.args.shelf c.take_up_without.new.self.shelf) (sym c.close.ensures)
          (opens_over g.S.Store g.H.Shelf c.args.store c.in-Ok.registry
          c.args.shelf lawful only (mid clean) it.left (it.opened (mid clean))
          c.take_up_without.new.self.registry c.take_up_without.new.self.shelf keeps));
      ready = search rules;
      readable = λ is_open closed t stands. (
          let clean : DiskKept g.S.Store c.take_up_without.new.self.registry =
          subst (λ (k : Held g.row.S.Denot). DiskKept g.S.Store k) c.close.ensures closed in
          let it = c.in-Ok.ensures.opens is_open in
          c.in-Ok-NotLost.ensures.tells.readable clean t (it.opened (mid clean) t stands));
      refused =
          let unwritten : IsUnwritten (Ok c.in-Ok-NotLost.field-0) =
          subst (λ (x : TakenUp). IsUnwritten (Ok x)) (sym c.in-Ok-NotLost.field-0-is) tt in
          subst (λ (k : Held g.row.S.Denot). AreUntouched g.S.Store c.args.store c.args.shelf k
          c.take_up_without.new.self.shelf) (sym c.close.ensures)
          (are_untouched g.S.Store c.args.store c.in-Ok.registry
          c.take_up_without.new.self.registry c.args.shelf c.take_up_without.new.self.shelf
          (c.in-Ok-NotLost.ensures.before.shelf unwritten) c.take_up_without.ensures.keep.clean
          c.in-Ok.ensures.opens
          (λ clean. c.in-Ok-NotLost.ensures.before.registry clean unwritten));
    }

pub returns-in-Err-take_up_without-clause-unopened :
    goal.returns-in-Err-take_up_without-clause-unopened
returns-in-Err-take_up_without-clause-unopened g c =
    let mid : DiskKept g.S.Store c.take_up_without.new.self.registry
    → DiskKept g.S.Store c.in-Ok.registry =
    λ clean. omega (arith, clean, c.take_up_without.ensures.keep.clean) in
    record {
      lacks = λ h is_open closed q is. (
          let clean : DiskKept g.S.Store c.take_up_without.new.self.registry =
          subst (λ (k : Held g.row.S.Denot). DiskKept g.S.Store k)
          c.close-in-Err-take_up_without.ensures closed in
          let it = c.in-Ok.ensures.opens is_open in
          let only : (db : Trees) → CrashLeaves g.S.Store c.args.store db
          → db ≡ stored g.S.Store c.args.store =
          λ db left. g.met.S.Store.settled c.args.store.store db is_open left in
          let lawful = g.met.H.Shelf.lawful c.args.shelf h in
          subst (λ (k : Held g.row.S.Denot). LacksImage g.S.Store g.H.Shelf
          c.args.store c.args.shelf c.args.key.now c.args.provider k
          c.take_up_without.new.self.shelf q)
          (sym c.close-in-Err-take_up_without.ensures)
          (lacking g.S.Store g.H.Shelf c.args.store c.in-Ok.registry
          c.args.shelf (it.opened (mid clean)) lawful only (mid clean) it.left c.args.key.now
          c.args.provider c.take_up_without.new.self.registry c.take_up_without.new.self.shelf q
          (c.in-Err-take_up_without.ensures.lacks h clean q (ap Err is))));
      untouched = λ before.
          subst (λ (k : Held g.row.S.Denot). AreUntouched g.S.Store c.args.store c.args.shelf k
          c.take_up_without.new.self.shelf) (sym c.close-in-Err-take_up_without.ensures)
          (are_untouched g.S.Store c.args.store c.in-Ok.registry
          c.take_up_without.new.self.registry c.args.shelf c.take_up_without.new.self.shelf
          (c.in-Err-take_up_without.ensures.before.shelf before)
          c.take_up_without.ensures.keep.clean c.in-Ok.ensures.opens
          (λ clean. c.in-Err-take_up_without.ensures.before.registry clean before));
      disk = λ is_open closed is t stands. (
          let clean : DiskKept g.S.Store c.take_up_without.new.self.registry =
          subst (λ (k : Held g.row.S.Denot). DiskKept g.S.Store k)
          c.close-in-Err-take_up_without.ensures closed in
          let it = c.in-Ok.ensures.opens is_open in
          c.in-Err-take_up_without.ensures.tells.disk clean t (it.opened (mid clean) t stands)
          (ap Err is));
      unreadable = λ is_open closed is openable t s ts bytes stands of written. (
          let clean : DiskKept g.S.Store c.take_up_without.new.self.registry =
          subst (λ (k : Held g.row.S.Denot). DiskKept g.S.Store k)
          c.close-in-Err-take_up_without.ensures closed in
          let it = c.in-Ok.ensures.opens is_open in
          c.in-Err-take_up_without.ensures.tells.unreadable clean (ap Err is) t s ts bytes
          (it.opened (mid clean) t stands) of written);
      failed = λ is_open closed is known. (
          let clean : DiskKept g.S.Store c.take_up_without.new.self.registry =
          subst (λ (k : Held g.row.S.Denot). DiskKept g.S.Store k)
          c.close-in-Err-take_up_without.ensures closed in
          let it = c.in-Ok.ensures.opens is_open in
          elim known [
            | inl takes ↦
                let has = it.opened (mid clean) takes.tables takes.stands in
                subst (λ (k : Held g.row.S.Denot). StoreFailed g.S.Store c.args.store k)
                (sym c.close-in-Err-take_up_without.ensures)
                (failed_opened g.S.Store c.args.store c.in-Ok.registry
                c.take_up_without.new.self.registry takes.tables
                (it.left takes.tables takes.stands)
                (c.in-Err-take_up_without.ensures.tells.store clean (ap Err is) takes.tables
                takes.records takes.intents takes.bytes has takes.are takes.few
                (room_opened g.S.Store c.args.store c.in-Ok.registry it (mid clean) takes.tables
                takes.stands has takes.room)))
            | inr foreign ↦ absurd ((it.other foreign).refused (mid clean))
          ]);
      closed = search rules;
    }
