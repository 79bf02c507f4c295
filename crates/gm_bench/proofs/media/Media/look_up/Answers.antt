use Rattle.gm_bench.proofs.Common.{rules, ◌∙◌, refl, sym, subst, arith, string_bytes, true≢false, MatchOption, DiskKept, IsExpected, IsFree, IsKept}
use Rattle.gm_bench.proofs.DecidesOnly.{alone_none, looks_then, ok_then, reads_none}
use Rattle.gm_bench.proofs.JudgedByKey.{told_room}
use Rattle.gm_bench.proofs.StoreFails.{failed_later}
use Rattle.gm_bench.proofs.media.Media.look_up.Goals as goal

pub returns-then-not-is_key : goal.returns-then-not-is_key
returns-then-not-is_key g c =
    record {
      told = λ clean t has. (sym c.is_key.ensures ∙ c.if-not-is_key.true, has);
      store = search rules;
      readable = search rules;
      looks = record {
        shelf = search rules;
        clean = search rules;
        reads = λ clean.
            reads_none g.S.Store g.met.S.Store.settled c.args.self.now.registry;
        untouched = λ clean is. alone_none g.S.Store c.args.self.now.registry;
        still = λ clean is. is;
        fault = search rules;
      };
    }

pub returns-then-are_kept : goal.returns-then-are_kept
returns-then-are_kept g c =
    record {
      told = λ clean t has.
          let found = c.in-Ok-Some.ensures.found clean t has in
          let kept : IsKept t c.args.key.now c.in-Ok-Some.number (string_bytes c.in-Ok-Some.kept)
          c.in-Ok-Some.reply =
          subst (λ o. MatchOption o (IsFree t c.args.key.now)
          (λ it. IsKept t c.args.key.now it.0 (string_bytes it.1) it.2)) c.in-Ok-Some.field-0-is
          found.0 in (
            (
              sym c.is_key.ensures ∙ c.if-not-is_key.false,
              (
                string_bytes c.in-Ok-Some.kept,
                kept,
                subst (IsExpected c.args.expected.now) c.deref.ensures
                    (c.if-are_kept.ensures.0 refl),
              ),
            ),
            found.1.tables,
          );
      store = search rules;
      readable = search rules;
      looks = search rules;
    }

pub returns-in-Ok-Some : goal.returns-in-Ok-Some
returns-in-Ok-Some g c =
    record {
      told = λ clean t has.
          let found = c.in-Ok-Some.ensures.found clean t has in
          let kept : IsKept t c.args.key.now c.in-Ok-Some.number (string_bytes c.in-Ok-Some.kept)
          c.in-Ok-Some.reply =
          subst (λ o. MatchOption o (IsFree t c.args.key.now)
          (λ it. IsKept t c.args.key.now it.0 (string_bytes it.1) it.2)) c.in-Ok-Some.field-0-is
          found.0 in (
            (
              sym c.is_key.ensures ∙ c.if-not-is_key.false,
              c.in-Ok-Some.number,
              c.in-Ok-Some.reply,
              (
                string_bytes c.in-Ok-Some.kept,
                kept,
                λ are. true≢false (sym (c.if-are_kept.ensures.1
                    (subst (IsExpected c.args.expected.now) (sym c.deref.ensures) are))),
              ),
            ),
            found.1.tables,
          );
      store = search rules;
      readable = search rules;
      looks = search rules;
    }

pub returns-in-Ok-None : goal.returns-in-Ok-None
returns-in-Ok-None g c =
    let asked : DiskKept g.S.Store c.look_for_room.new.self.registry
    → DiskKept g.S.Store c.reply_of.new.self =
    λ clean. omega (arith, clean, c.look_for_room.ensures.looks.clean) in
    record {
      told = λ clean.
          ok_then _ _ (λ f room t has. (
          let found = c.in-Ok-None.ensures.found (asked clean) t has in
          let free : IsFree t c.args.key.now =
          subst (λ o. MatchOption o (IsFree t c.args.key.now)
          (λ it. IsKept t c.args.key.now it.0 (string_bytes it.1) it.2)) c.in-Ok-None.field-0-is
          found.0 in
          let told = room t found.1.tables in (
            told_room c.args.key.now _ f t (sym c.is_key.ensures ∙ c.if-not-is_key.false) free
                told.0,
            told.1,
          ))) c.look_for_room.result (c.look_for_room.ensures.told clean);
      store = λ clean is t has.
          let then = (c.in-Ok-None.ensures.found (asked clean) t has).1.tables in
          failed_later g.S.Store c.args.self.now.registry c.reply_of.new.self t
          c.reply_of.ensures.reads has then c.look_for_room.new.self.registry
          (c.look_for_room.ensures.store clean is t then);
      readable = λ clean is t has read.
          c.look_for_room.ensures.readable clean is t
          (c.in-Ok-None.ensures.found (asked clean) t has).1.tables read.0;
      looks = looks_then g.S.Store c.args.self.now
          (record { registry = c.reply_of.new.self; shelf = c.args.self.now.shelf })
          c.look_for_room.new.self c.look_for_room.result c.look_for_room.result refl
          c.reply_of.ensures.reads c.look_for_room.ensures.looks
          (λ clean t has. (c.in-Ok-None.ensures.found clean t has).1.tables)
          c.reply_of.ensures.untouched c.in-Ok-None.ensures.still
          c.look_for_room.ensures.looks.still (search rules);
    }
