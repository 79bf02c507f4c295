use Rattle.gm_bench.proofs.Common.{rules, ◌∙◌, inl, sym, ap, on_ok_weaker, saved, phase_of}
use Rattle.gm_bench.proofs.Phases.{not_ok}
use Rattle.gm_bench.proofs.Standing.{carried_so, rest_stands, settles_to, settling_leaves, stands_only}
use Rattle.gm_bench.proofs.bench.Bench.settle_waiting.Goals as goal

pub returns-in-Ready : goal.returns-in-Ready
returns-in-Ready g c =
    record {
      does = λ h clean away v u stands.
          rest_stands g.S.Store g.H.Shelf c.args.self.now.progress
          c.args.self.now.media.registry c.args.self.now.media.shelf away v u
          (inl (sym c.phase.ensures ∙ c.in-Ready.is)) stands;
      leaves = λ h clean away v u stands.
          let r = c.args.self.now.media.registry in
          let shelf = c.args.self.now.media.shelf in
          let was = carried_so g.S.Store g.H.Shelf c.args.self.now.progress r shelf away v u stands
          in
          stands_only g.S.Store g.H.Shelf c.args.self.now.progress r shelf away v u
          stands (saved g.S.Store g.met.S.Store.settled r was.at.tables was.at.has).crash
          (g.met.H.Shelf.lawful shelf h);
      phase = search rules;
      rests = search rules;
      settles = search rules;
      closes = search rules;
    }

pub returns-in_default : goal.returns-in_default
returns-in_default g c =
    record {
      does = λ h clean.
          settles_to g.S.Store g.H.Shelf c.args.self.now.progress
          c.args.self.now.media.registry c.settle.new.self.media.registry
          c.args.self.now.media.shelf c.settle.new.self.media.shelf c.settle.result
          c.settle.ensures.settles.shelf (λ is. c.in_default.not-Ready
          (c.phase.ensures ∙ ap phase_of is)) (λ is. not_ok c.settle.result
          (c.settle.ensures.closes.closed is).0) (λ work is. on_ok_weaker c.settle.result
          (λ done. done.1) (c.settle.ensures.does h clean work is));
      leaves = λ h clean away v u stands.
          let r = c.args.self.now.media.registry in
          let shelf = c.args.self.now.media.shelf in
          let was = carried_so g.S.Store g.H.Shelf c.args.self.now.progress r shelf away v u stands
          in
          settling_leaves g.S.Store g.H.Shelf c.args.self.now.progress
          r c.settle.new.self.media.registry shelf c.settle.new.self.media.shelf away v u stands
          c.settle.ensures.settles.shelf
          (λ is. c.in_default.not-Ready (c.phase.ensures ∙ ap phase_of is))
          (λ is. ap (λ b. b.media.registry) (c.settle.ensures.closes.closed is).1)
          (c.settle.ensures.leaves h clean)
          (stands_only g.S.Store g.H.Shelf c.args.self.now.progress r shelf away v u
          stands (saved g.S.Store g.met.S.Store.settled r was.at.tables was.at.has).crash
          (g.met.H.Shelf.lawful shelf h));
      phase = search rules;
      rests = search rules;
      settles = search rules;
      closes = search rules;
    }
