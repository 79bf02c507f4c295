use Rattle.gm_bench.proofs.Common.{rules, Err, ap, sym, subst, Tables, AreOfLoss, Lost, [], Judged, CanBeCommitted, IsJudged, StaysReadable, TellsKey, AreOfWorld}
use Rattle.gm_bench.specs.declared.found_key.FoundKey.TheVariants as found
use Rattle.gm_bench.proofs.Causes.{fault_is}
use Rattle.gm_bench.proofs.DecidesOnly.{ok_then}
use Rattle.gm_bench.proofs.JudgedByKey.{has_room}
use Rattle.gm_bench.proofs.LossJudged.{kept, refused}
use Rattle.gm_bench.proofs.media.Media.judge_loss.Goals as goal

pub returns-in_err-number : goal.returns-in_err-number
returns-in_err-number g c =
    record {
      judged = search rules;
      readable = λ clean is t has few written.
          c.in_err-number.ensures.readable clean (ap Err (fault_is c.from_residual.result _ _
          c.from_residual.ensures.1 is)) t has (few, written);
      again = search rules;
      fits = search rules;
      store = search rules;
      looks = search rules;
    }

pub returns-in-Kept : goal.returns-in-Kept
returns-in-Kept g c =
    record {
      judged = λ clean w t of holds has.
          let told = c.in_ok-number.ensures.told clean t has in (
            kept w t of.sound holds c.args.intents.now c.args.bytes.now c.args.key.now
                c.args.provider c.in-Kept.number c.in-Kept.reply
                (subst (λ f. TellsKey c.args.key.now (AreOfLoss c.args.provider) f t) c.in-Kept.is
                told.0),
            told.1,
          );
      readable = search rules;
      again = λ clean t has. ((c.in_ok-number.ensures.told clean t has).1, tt);
      fits = search rules;
      store = search rules;
      looks = search rules;
    }

pub returns-in-Refused : goal.returns-in-Refused
returns-in-Refused g c =
    record {
      judged = λ clean w t of holds has.
          let told = c.in_ok-number.ensures.told clean t has in (
            subst (λ (j : Judged). IsJudged w c.args.intents.now c.args.bytes.now c.args.key.now
                c.args.provider j) (sym c.refused.ensures)
                (refused w t of.sound holds c.args.intents.now c.args.bytes.now c.args.key.now
                c.args.provider c.in-Refused.why
                (subst (λ f. TellsKey c.args.key.now (AreOfLoss c.args.provider) f t)
                c.in-Refused.is told.0)),
            told.1,
          );
      readable = search rules;
      again = λ clean t has. (
        (c.in_ok-number.ensures.told clean t has).1,
        subst (λ (j : Judged). StaysReadable c.args.state.now c.args.intents.now c.args.bytes.now j)
            (sym c.refused.ensures) tt,
      );
      fits = λ clean t has are.
          subst (λ (j : Judged). CanBeCommitted c.args.key.now c.args.intents.now t j)
          (sym c.refused.ensures) tt;
      store = search rules;
      looks = search rules;
    }

pub returns-in-Free : goal.returns-in-Free
returns-in-Free g c =
    let key = c.args.key.now in
    let free : (t : Tables) → TellsKey key (AreOfLoss c.args.provider) c.in_ok-number.field-0 t
    → TellsKey key (AreOfLoss c.args.provider) found.Free t =
    λ t told. subst (λ f. TellsKey key (AreOfLoss c.args.provider) f t) c.in-Free.is told in
    record {
      judged = λ clean.
          ok_then _ _ (λ jd judged w t of holds has. (
          let told = free t (c.in_ok-number.ensures.told clean t has).0 in
          let room = has_room w t of.sound holds key (Lost [] []) told in (
            judged w key (subst (λ (k : g.row.H.Denot). AreOfWorld c.args.state.now
                (g.H.Shelf.size k) w) (sym c.look_up.ensures.looks.shelf) of) told.0 room.0 room.1,
            (c.in_ok-number.ensures.told clean t has).1,
          ))) c.judge_member.result c.judge_member.ensures.judged;
      readable = search rules;
      again = λ clean.
          ok_then _ _ (λ jd again t has. ((c.in_ok-number.ensures.told clean t has).1, again))
          c.judge_member.result c.judge_member.ensures.again;
      fits = λ clean.
          ok_then _ _ (λ jd fits t has are. (
          let told = free t (c.in_ok-number.ensures.told clean t has).0 in
          fits key t are told.0 told.1 told.2))
          c.judge_member.result c.judge_member.ensures.fits;
      store = search rules;
      looks = search rules;
    }
