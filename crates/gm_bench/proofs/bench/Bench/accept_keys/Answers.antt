use Rattle.gm_bench.proofs.Common.{rules, ◌∙◌, map, string_bytes, Err, refl, sym, ap, subst, Progress, Waiting, HasNothingElse, WaitsFor, AcceptAnswers, progress_after, saved, one_call}
use Rattle.gm_bench.proofs.BegunCalls.{one_begun}
use Rattle.gm_bench.proofs.Causes.{fault_is}
use Rattle.gm_bench.proofs.DecidesOnly.{unstepped_same}
use Rattle.gm_bench.proofs.Phases.{in_fault, never_pending, work_hand}
use Rattle.gm_bench.proofs.bench.Bench.accept_keys.Goals as goal

pub returns-in_default : goal.returns-in_default
returns-in_default g c =
    record {
      told = λ h clean. (
        one_call c.args.key.now c.args.command.now,
        λ away ts bytes v u at. one_begun c.args.command.now c.args.key.now
            (map string_bytes c.args.more.now),
        λ away ts bytes v u at waits. (
            let r = c.args.self.now.media.registry in
            let shelf = c.args.self.now.media.shelf in
            unstepped_same g.S.Store g.H.Shelf r shelf away ts bytes v u at
            (g.met.H.Shelf.lawful shelf h) (one_call c.args.key.now c.args.command.now)
            (saved g.S.Store g.met.S.Store.settled r at.tables at.has).crash),
        search rules,
      );
      not_failed = search rules;
      phase = search rules;
      rows = search rules;
      accepts = search rules;
      closes = search rules;
    }

pub returns-in_err-accepted : goal.returns-in_err-accepted
returns-in_err-accepted g c =
    record {
      told = λ h clean.
          let same = (c.in-Some.ensures.some c.in-Some.waiting refl).0 in
          let it = c.accept.ensures.told h clean in (
            it.0,
            it.1,
            λ away ts bytes v u at waits. it.2 away ts bytes v u at
                (subst (λ (w : Waiting). WaitsFor w ts bytes) (sym same) waits),
            search rules,
          );
      not_failed = search rules;
      phase = search rules;
      rows = let same = (c.in-Some.ensures.some c.in-Some.waiting refl).0 in
          record {
            readable = λ clean is t s has records read honest.
                c.in_err-accepted.ensures.rows.readable clean (ap Err (fault_is
                c.from_residual.result _ _
                c.from_residual.ensures.1 is)) t s has records read honest;
            at_hand = search rules;
            refused = λ clean.
                in_fault c.from_residual.result (c.in_err-accepted.ensures.rows.refused clean);
            store = λ clean is t s has records none room honest.
                c.in_err-accepted.ensures.rows.store clean (ap Err (fault_is c.from_residual.result
                _ _
                c.from_residual.ensures.1 is)) t s has records
                (subst (λ (w : Waiting). HasNothingElse w t) (sym same) none) room honest;
            goes_on = search rules;
          };
      accepts = search rules;
      closes = search rules;
    }

pub returns : goal.returns
returns g c =
    record {
      told = λ h clean. (
          let same = (c.in-Some.ensures.some c.in-Some.waiting refl).0 in
          let it = c.in_ok-accepted.ensures.told h clean in (
            it.0,
            it.1,
            λ away ts bytes v u at waits. it.2 away ts bytes v u at
                (subst (λ (w : Waiting). WaitsFor w ts bytes) (sym same) waits),
            (
              c.in_ok-accepted.accepted,
              c.tell-progress.ensures.0,
              c.tell-progress.ensures.1
                  ∙ ap (λ (p : Progress). progress_after p c.in_ok-accepted.accepted)
                  c.replace-before.ensures.value,
              subst (λ (w : Waiting). AcceptAnswers g.S.Store g.H.Shelf w
                  c.args.self.now.media.registry c.accept.new.self.registry
                  c.args.self.now.media.shelf c.accept.new.self.shelf it.0
                  c.in_ok-accepted.accepted) same it.3,
            ),
          ));
      not_failed = search rules;
      phase = search rules;
      rows = record {
        readable = search rules;
        at_hand = λ clean t s has records work pending.
            work_hand (g.H.Shelf.size c.args.self.now.media.shelf) c.args.self.now.progress
            c.in_ok-accepted.accepted work (never_pending c.args.self.now.progress c.requires)
            (sym (c.tell-progress.ensures.1
            ∙ ap (λ (p : Progress). progress_after p c.in_ok-accepted.accepted)
            c.replace-before.ensures.value) ∙ pending)
            (c.in_ok-accepted.ensures.rows.at_hand clean t s has records);
        refused = search rules;
        store = search rules;
        goes_on = λ clean. c.in_ok-accepted.ensures.rows.goes_on clean;
      };
      accepts = search rules;
      closes = search rules;
    }
