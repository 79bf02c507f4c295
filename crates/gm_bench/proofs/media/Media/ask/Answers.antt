use Rattle.gm_bench.proofs.Common.{rules, Err, ap, left_by}
use Rattle.gm_bench.proofs.CarriedOut.{left_records}
use Rattle.gm_bench.proofs.Causes.{fault_is}
use Rattle.gm_bench.proofs.DecidesOnly.{ok_and, ok_then}
use Rattle.gm_bench.proofs.media.Media.ask.Goals as goal

pub returns-in_err-known : goal.returns-in_err-known
returns-in_err-known g c =
    record {
      decides = search rules;
      at_hand = search rules;
      fits = search rules;
      readable = λ clean is t s has records fits honest.
          c.in_err-known.ensures.readable clean (ap Err (fault_is c.from_residual.result _ _
          c.from_residual.ensures.1 is)) t s has records;
      looks = search rules;
    }

pub returns : goal.returns
returns g c =
    record {
      decides = λ h clean.
          ok_then _ _ (λ r decides away ts bytes v u at. (
          let known = c.in_ok-known.ensures.known h clean away ts bytes v u at in
          (decides u known.0.part known.0.mirrors known.0.facts, known.1)))
          c.decide_on.result c.decide_on.ensures.decides;
      at_hand = λ clean.
          ok_then _ _ (λ r both t s has records. (
          let known = c.in_ok-known.ensures.serves clean t s has records in (
            known.1,
            λ fits. both.0 fits known.0.state known.0.few known.0.most
                (g.H.Shelf.size c.args.self.now.shelf) known.0.sizes,
            both.1 known.0.state known.0.few known.0.most,
          ))) c.decide_on.result
          (ok_and _ _ c.decide_on.result c.decide_on.ensures.at_hand c.decide_on.ensures.once);
      fits = λ clean.
          ok_then _ _ (λ r fitting t s has records fits honest waiting. (
          let known = c.in_ok-known.ensures.serves clean t s has records in
          let of = known.2 honest in
          fitting (left_by waiting t) s (left_records waiting t s records) of.part of.mirrors fits
          (known.0.itself honest)))
          c.decide_on.result c.decide_on.ensures.fits;
      readable = λ clean is t s has records fits honest.
          let known = c.in_ok-known.ensures.serves clean t s has records in
          c.decide_on.ensures.readable is fits known.0.state known.0.few known.0.most
          (known.0.itself honest);
      looks = search rules;
    }
