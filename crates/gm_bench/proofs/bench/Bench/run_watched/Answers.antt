use Rattle.gm_bench.proofs.Common.{rules, ◌≡◌, Err, ap, subst, arith, DiskKept, Progress, phase_carried, phase_of, waiting_of}
use Rattle.gm_bench.proofs.Causes.{fault_is}
use Rattle.gm_bench.proofs.Carried.{run_answers, run_leaves}
use Rattle.gm_bench.proofs.CarriedOut.{nothing_else}
use Rattle.gm_bench.proofs.Phases.{takes_ready}
use Rattle.gm_bench.proofs.Standing.{stands_rest}
use Rattle.gm_bench.proofs.StoreFails.{failed_behind}
use Rattle.gm_bench.proofs.bench.Bench.run_watched.Goals as goal

pub returns-in_err-answer : goal.returns-in_err-answer
returns-in_err-answer g c =
    record {
      answers = search rules;
      leaves = λ h clean away u at.
          c.in_err-answer.ensures.leaves h clean away u u
          (stands_rest g.S.Store g.H.Shelf c.args.self.now.progress
          c.args.self.now.media.registry c.args.self.now.media.shelf away u c.requires at);
      ready = search rules;
      readable = λ clean is.
          c.in_err-answer.ensures.rows.readable clean
          (ap Err (fault_is c.from_residual.result _ _ c.from_residual.ensures.1 is));
      store = λ clean is t s has records none.
          c.in_err-answer.ensures.rows.store clean
          (ap Err (fault_is c.from_residual.result _ _ c.from_residual.ensures.1 is)) t s has
          records
          (nothing_else (waiting_of c.args.self.now.progress) t none);
      runs = search rules;
      closes = search rules;
    }

pub returns-in_err-settle_waiting : goal.returns-in_err-settle_waiting
returns-in_err-settle_waiting g c =
    record {
      answers = search rules;
      leaves = λ h clean away u at. (
          let mid : DiskKept g.S.Store c.hand_in_watched.new.self.media.registry =
          omega (arith, clean, c.settle_waiting.ensures.settles.clean) in
          let stands = stands_rest g.S.Store g.H.Shelf c.args.self.now.progress
          c.args.self.now.media.registry c.args.self.now.media.shelf away u c.requires at in
          let ready = takes_ready c.args.self.now.progress c.requires
          c.in_ok-answer.ensures.not_failed in
          run_leaves g.S.Store g.H.Shelf c.args.self.now.media.registry
          c.hand_in_watched.new.self.media.registry c.settle_waiting.new.self.media.registry
          c.args.self.now.media.shelf c.hand_in_watched.new.self.media.shelf
          c.settle_waiting.new.self.media.shelf c.args.key.now c.args.command.now
          c.hand_in_watched.new.self.progress away u c.in_ok-answer.answer
          (c.in_ok-answer.ensures.answers h mid away u u stands)
          (subst (λ (p : Progress). phase_of c.hand_in_watched.new.self.progress
          ≡ phase_carried (phase_of p) c.in_ok-answer.answer) ready c.in_ok-answer.ensures.phase)
          (λ is. (
            ap (λ b. b.media.registry) (c.settle_waiting.ensures.rests is).1,
            c.settle_waiting.ensures.settles.shelf,
          )) c.hand_in_watched.ensures.runs.keep.shelf.size c.settle_waiting.ensures.settles.shelf
          (c.settle_waiting.ensures.leaves (c.hand_in_watched.ensures.runs.keep.shelf.honest h)
          clean away));
      ready = search rules;
      readable = search rules;
      store = λ clean is t s has records none room honest. (
          let mid : DiskKept g.S.Store c.hand_in_watched.new.self.media.registry =
          omega (arith, clean, c.settle_waiting.ensures.settles.clean) in
          let goes = c.in_ok-answer.ensures.rows.goes_on mid t s has records in
          failed_behind g.S.Store c.args.self.now.media.registry
          c.hand_in_watched.new.self.media.registry
          goes.counts goes.limit c.settle_waiting.new.self.media.registry
          (c.in_err-settle_waiting.ensures.settles.store clean (ap Err (fault_is
          c.from_residual-in_err-settle_waiting.result _ _
          c.from_residual-in_err-settle_waiting.ensures.1 is)) goes.tables goes.has));
      runs = search rules;
      closes = search rules;
    }

pub returns : goal.returns
returns g c =
    record {
      answers = λ h clean away u at. (
          let mid : DiskKept g.S.Store c.hand_in_watched.new.self.media.registry =
          omega (arith, clean, c.settle_waiting.ensures.settles.clean) in
          let stands = stands_rest g.S.Store g.H.Shelf c.args.self.now.progress
          c.args.self.now.media.registry c.args.self.now.media.shelf away u c.requires at in
          run_answers g.S.Store g.H.Shelf c.args.self.now.media.registry
          c.hand_in_watched.new.self.media.registry c.settle_waiting.new.self.media.registry
          c.args.self.now.media.shelf c.hand_in_watched.new.self.media.shelf
          c.settle_waiting.new.self.media.shelf c.args.key.now c.args.command.now
          c.hand_in_watched.new.self.progress away u c.in_ok-answer.answer
          (c.in_ok-answer.ensures.answers h mid away u u stands)
          (c.in_ok-settle_waiting.ensures.does (c.hand_in_watched.ensures.runs.keep.shelf.honest h)
          clean away));
      leaves = λ h clean away u at. (
          let mid : DiskKept g.S.Store c.hand_in_watched.new.self.media.registry =
          omega (arith, clean, c.settle_waiting.ensures.settles.clean) in
          let stands = stands_rest g.S.Store g.H.Shelf c.args.self.now.progress
          c.args.self.now.media.registry c.args.self.now.media.shelf away u c.requires at in
          let ready = takes_ready c.args.self.now.progress c.requires
          c.in_ok-answer.ensures.not_failed in
          run_leaves g.S.Store g.H.Shelf c.args.self.now.media.registry
          c.hand_in_watched.new.self.media.registry c.settle_waiting.new.self.media.registry
          c.args.self.now.media.shelf c.hand_in_watched.new.self.media.shelf
          c.settle_waiting.new.self.media.shelf c.args.key.now c.args.command.now
          c.hand_in_watched.new.self.progress away u c.in_ok-answer.answer
          (c.in_ok-answer.ensures.answers h mid away u u stands)
          (subst (λ (p : Progress). phase_of c.hand_in_watched.new.self.progress
          ≡ phase_carried (phase_of p) c.in_ok-answer.answer) ready c.in_ok-answer.ensures.phase)
          (λ is. (
            ap (λ b. b.media.registry) (c.settle_waiting.ensures.rests is).1,
            c.settle_waiting.ensures.settles.shelf,
          )) c.hand_in_watched.ensures.runs.keep.shelf.size c.settle_waiting.ensures.settles.shelf
          (c.settle_waiting.ensures.leaves (c.hand_in_watched.ensures.runs.keep.shelf.honest h)
          clean away));
      ready = search rules;
      readable = search rules;
      store = search rules;
      runs = search rules;
      closes = search rules;
    }
