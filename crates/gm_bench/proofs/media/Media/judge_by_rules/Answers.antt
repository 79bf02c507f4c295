use Rattle.gm_bench.proofs.Common.{rules, ◌≡◌, [], map, arith, Further, MayBeTaken, IsPlannedOnce, Err, sym, ap, subst, IsLeast, seen_of, left_by, IsFitting, IsPlanned, IsDecided, IsPlanAtHand, IsPlanFitting, AreAtHand, string_bytes, words_of, ℕ, List}
use Rattle.gm_bench.proofs.CallAnswers.{least}
use Rattle.gm_bench.proofs.CarriedOut.{seen_leads}
use Rattle.gm_bench.proofs.Causes.{fault_is}
use Rattle.gm_bench.proofs.JudgedByKey.{can_answer}
use Rattle.gm_bench.proofs.media.Media.judge_by_rules.Goals as goal

pub returns-in-Ok : goal.returns-in-Ok
returns-in-Ok g c key =
    record {
      answers = λ h clean away ts bytes v u at left.
          let d = c.in_ok-planned.ensures.decides h clean away ts bytes v u at in
          let l = seen_leads g.S.Store g.H.Shelf c.args.self.now.registry c.args.self.now.shelf
          away ts bytes v u at (g.met.H.Shelf.lawful c.args.self.now.shelf h) in
          let planned : IsPlanned u c.args.command.now c.in-Ok.planned =
          subst (λ r. IsDecided u c.args.command.now r) c.in-Ok.is d.0 in (
            (
              planned,
              can_answer u at.tables l.sound l.records key c.args.command.now
                  (string_bytes c.args.words) left.words_are left.fits left.told,
              left.words_are,
            ),
            d.1,
          );
      plans = λ clean t r has records left.
          let hand = c.in_ok-planned.ensures.at_hand clean t r has records in
          let handy : AreAtHand (g.H.Shelf.size c.args.self.now.shelf)
          c.in-Ok.planned.work.intents.items =
          subst (λ p. IsPlanAtHand (g.H.Shelf.size c.args.self.now.shelf) p) c.in-Ok.is
          (hand.1 left.fits) in
          let once : c.in-Ok.planned.change.further ≡ [] =
          subst IsPlannedOnce c.in-Ok.is hand.2 in (
            record {
              key_ok = left.told.0;
              free = left.told.1;
              further = subst (λ (fs : List Further). MayBeTaken key
                  (map (λ (f : Further). string_bytes f.key) fs) t) (sym once)
                  (record {
                    fresh = tt;
                    room = let room = left.told.2 in omega (arith, room);
                  });
              at_hand = handy;
            },
            once,
            λ honest waiting.
                let fitting : IsFitting c.in-Ok.planned.change (words_of c.args.command.now)
                (left_by waiting t) =
                subst (λ p. IsPlanFitting c.args.command.now (left_by waiting t) p) c.in-Ok.is
                (c.in_ok-planned.ensures.fits clean t r has records left.fits honest waiting) in
                subst (λ (w : List ℕ). IsFitting c.in-Ok.planned.change w (left_by waiting t))
                (sym left.words_are) fitting,
            hand.0,
          );
      readable = search rules;
      looks = search rules;
    }

pub returns-in-Err : goal.returns-in-Err
returns-in-Err g c key =
    record {
      answers = λ h clean away ts bytes v u at left.
          let d = c.in_ok-planned.ensures.decides h clean away ts bytes v u at in
          let l = seen_leads g.S.Store g.H.Shelf c.args.self.now.registry c.args.self.now.shelf
          away ts bytes v u at (g.met.H.Shelf.lawful c.args.self.now.shelf h) in
          let can = can_answer u at.tables l.sound l.records key c.args.command.now
          (string_bytes c.args.words) left.words_are left.fits left.told in
          let least_is : IsLeast u.state (seen_of u) c.args.command.now c.in-Err.refusal =
          subst (λ r. IsDecided u c.args.command.now r) c.in-Err.is d.0 in (
            least u at.tables l.sound l.records key c.args.command.now can.key_ok can.free can.room
                c.in-Err.refusal least_is,
            d.1,
          );
      plans = λ clean t r has records left.
          (tt, tt, λ honest. tt, (c.in_ok-planned.ensures.at_hand clean t r has records).0);
      readable = search rules;
      looks = search rules;
    }

pub returns-in_err-planned : goal.returns-in_err-planned
returns-in_err-planned g c key =
    record {
      answers = search rules;
      plans = search rules;
      readable = λ clean is t r has records left read honest.
          c.in_err-planned.ensures.readable clean (ap Err (fault_is c.from_residual.result _ _
          c.from_residual.ensures.1 is)) t r has records left.fits honest;
      looks = search rules;
    }
