use Rattle.gm_bench.proofs.Common.{rules, ◌∙◌, sym, on_ok_weaker, saved}
use Rattle.gm_bench.proofs.Found.{ready, covered}
use Rattle.gm_bench.proofs.RegistryLeaves.{still_only}
use Rattle.gm_bench.proofs.media.Media.check_and_finish.Goals as goal
use Rattle.gm_bench.proofs.Present.{at_hand}

pub returns-in-Some : goal.returns-in-Some
returns-in-Some g c =
    record {
      moments = λ h away u w at same.
          λ x l. at.leads x ((g.met.H.Shelf.lawful c.args.self.now.shelf h).only_now x l);
      leaves = λ h clean away u w at same.
          still_only g.S.Store g.H.Shelf c.args.self.now.registry
          c.args.self.now.shelf away at.tables c.args.intents.now c.args.bytes.now u w
          (saved g.S.Store g.met.S.Store.settled c.args.self.now.registry at.tables at.has).crash
          (g.met.H.Shelf.lawful c.args.self.now.shelf h) at.leads;
      done = search rules;
      disk = search rules;
      checks = search rules;
      finishes = search rules;
    }

pub returns-in-None : goal.returns-in-None
returns-in-None g c =
    record {
      moments = λ h away u w at same.
          let lawful = g.met.H.Shelf.lawful c.args.self.now.shelf h in
          c.finish.ensures.moments h away u w
          (ready g.S.Store g.H.Shelf c.args.self.now.registry
          c.args.self.now.shelf away c.args.intents.now c.args.bytes.now u w at lawful
          c.args.state.now same
          (sym c.first_absent.ensures ∙ c.in-None.is))
          (covered g.S.Store g.H.Shelf c.args.self.now.registry c.args.self.now.shelf
          away c.args.intents.now c.args.bytes.now u w at lawful c.args.state.now same);
      leaves = λ h clean away u w at same.
          let lawful = g.met.H.Shelf.lawful c.args.self.now.shelf h in
          let here = ready g.S.Store g.H.Shelf c.args.self.now.registry
          c.args.self.now.shelf away c.args.intents.now c.args.bytes.now u w at lawful
          c.args.state.now same
          (sym c.first_absent.ensures ∙ c.in-None.is) in
          c.finish.ensures.leaves h clean away u w here
          (covered g.S.Store g.H.Shelf c.args.self.now.registry
          c.args.self.now.shelf away c.args.intents.now c.args.bytes.now u w at lawful
          c.args.state.now same);
      done = λ h clean.
          on_ok_weaker c.finish.result (λ done away u w at same. (
          let lawful = g.met.H.Shelf.lawful c.args.self.now.shelf h in
          done away u w (ready g.S.Store g.H.Shelf c.args.self.now.registry
          c.args.self.now.shelf away c.args.intents.now c.args.bytes.now u w at lawful
          c.args.state.now same
          (sym c.first_absent.ensures ∙ c.in-None.is))
          (covered g.S.Store g.H.Shelf c.args.self.now.registry
          c.args.self.now.shelf away c.args.intents.now c.args.bytes.now u w at lawful
          c.args.state.now same)))
          (c.finish.ensures.done h clean);
      disk = λ t of is.
          let size = g.H.Shelf.size c.args.self.now.shelf in
          c.finish.ensures.disk (at_hand c.args.state.now size of.state c.args.intents.now
          of.readable.each (sym c.first_absent.ensures ∙ c.in-None.is)) is;
      checks = search rules;
      finishes = search rules;
    }
