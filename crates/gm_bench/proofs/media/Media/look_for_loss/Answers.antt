use Rattle.gm_bench.proofs.Common.{rules, ◌∙◌, ℕ, List, Err, refl, sym, ap, subst, subst₂, arith, state, DiskKept, Intent, AreOfWorld, CanBeCommitted, IsJudged, StaysReadable, AreRecordsOf, sees_registry}
use Rattle.gm_bench.proofs.Causes.{fault_is}
use Rattle.gm_bench.proofs.Found.{lead}
use Rattle.gm_bench.proofs.TakenUp.{moved}
use Rattle.gm_bench.proofs.DecidesOnly.{looks_then}
use Rattle.gm_bench.proofs.StoreFails.{failed_later}
use Rattle.gm_bench.proofs.media.Media.look_for_loss.Goals as goal

pub returns-in_err-loaded : goal.returns-in_err-loaded
returns-in_err-loaded g c =
    record {
      looked = search rules;
      unreadable = λ clean is t s ts bytes has of written.
          let fault = fault_is c.from_residual.result _ _ c.from_residual.ensures.1 is in
          c.in_err-loaded.ensures.loads.unreadable clean (ap Err fault) t s ts bytes has of;
      loaded = search rules;
      fits = search rules;
      store = λ clean is t has.
          c.in_err-loaded.ensures.loads.store clean (ap Err (fault_is c.from_residual.result _ _
          c.from_residual.ensures.1 is)) (sees_registry (state g.S.Store c.args.self.now.registry) t
          has);
      looks = search rules;
    }

pub returns : goal.returns
returns g c =
    record {
      looked = λ h clean away ts bytes u w at.
          let j = g.H.Shelf in
          let k = c.args.self.now.shelf in
          let clean1 : DiskKept g.S.Store c.load.new.self.registry =
          omega (arith, clean, c.judge_loss.ensures.looks.clean) in
          let said = c.in_ok-loaded.ensures.says h clean1 away ts bytes u w at in
          let l = lead g.S.Store j c.args.self.now.registry k away ts bytes u w at
          (g.met.H.Shelf.lawful k h) in
          let of : AreOfWorld c.in_ok-loaded.loaded.state (j.size c.load.new.self.shelf) w =
          record {
            sound = l.sound;
            records = said.0;
            sizes = at.sizes ∙ sym (ap j.size c.load.ensures.loads.shelf);
          } in
          let judged = c.in_ok-judged.ensures.judged clean w at.tables of l.records said.3 in
          let are = c.deref.ensures.value ∙ said.1 in
          let laid = c.deref-2.ensures.value ∙ said.2 in (
            record {
              found = moved g.S.Store j c.args.self.now.registry c.judge_loss.new.self.registry k
                  c.judge_loss.new.self.shelf away ts bytes u w at (c.judge_loss.ensures.looks.shelf
                  ∙ c.load.ensures.loads.shelf) ts
                  refl bytes refl judged.1;
              state = said.0;
              intents = said.1;
              to_lay = said.2;
              judged = subst₂ (λ (is : List Intent) (b : List (List ℕ)). IsJudged w is b
                  c.args.key.now c.args.provider c.in_ok-judged.judged) are laid judged.0;
            },
            judged.1,
          );
      unreadable = search rules;
      loaded = λ clean t has.
          let clean1 : DiskKept g.S.Store c.load.new.self.registry =
          omega (arith, clean, c.judge_loss.ensures.looks.clean) in
          let loaded = c.in_ok-loaded.ensures.loaded clean1 t has in
          let again = c.in_ok-judged.ensures.again clean t loaded.1 in (
            loaded.0,
            again.0,
            subst₂ (λ (is : List Intent) (b : List (List ℕ)).
                StaysReadable c.in_ok-loaded.loaded.state is b c.in_ok-judged.judged)
                c.deref.ensures.value c.deref-2.ensures.value again.1,
          );
      fits = λ clean t has.
          let clean1 : DiskKept g.S.Store c.load.new.self.registry =
          omega (arith, clean, c.judge_loss.ensures.looks.clean) in
          let loaded = c.in_ok-loaded.ensures.loaded clean1 t has in
          let are : AreRecordsOf t c.in_ok-loaded.loaded.state = record {
            state = loaded.0.state;
            rows = record { mirrors = loaded.0.mirrors; components = loaded.0.components };
          } in
          subst (λ (is : List Intent). CanBeCommitted c.args.key.now is t c.in_ok-judged.judged)
          c.deref.ensures.value (c.in_ok-judged.ensures.fits clean t loaded.1 are);
      store = search rules;
      looks =
          looks_then g.S.Store c.args.self.now c.load.new.self c.judge_loss.new.self
          c.judge_loss.result _ c.load.ensures.loads.shelf c.load.ensures.loads.reads
          c.judge_loss.ensures.looks
          (λ clean t has. (c.in_ok-loaded.ensures.loaded clean t has).1)
          c.load.ensures.loads.untouched c.in_ok-loaded.ensures.loads.still
          c.in_ok-judged.ensures.looks.still (search rules);
    }

pub returns-in_err-judged : goal.returns-in_err-judged
returns-in_err-judged g c =
    record {
      looked = search rules;
      unreadable = search rules;
      loaded = search rules;
      fits = search rules;
      store = λ clean is t has.
          let clean1 : DiskKept g.S.Store c.load.new.self.registry =
          omega (arith, clean, c.judge_loss.ensures.looks.clean) in
          let then = (c.in_ok-loaded.ensures.loaded clean1 t has).1 in
          failed_later g.S.Store c.args.self.now.registry c.load.new.self.registry t
          c.load.ensures.loads.reads has then c.judge_loss.new.self.registry
          (c.in_err-judged.ensures.store clean (ap Err (fault_is
          c.from_residual-in_err-judged.result _ _ c.from_residual-in_err-judged.ensures.1 is)) t
          then);
      looks =
          looks_then g.S.Store c.args.self.now c.load.new.self c.judge_loss.new.self
          c.judge_loss.result _ c.load.ensures.loads.shelf c.load.ensures.loads.reads
          c.judge_loss.ensures.looks
          (λ clean t has. (c.in_ok-loaded.ensures.loaded clean t has).1)
          c.load.ensures.loads.untouched c.in_ok-loaded.ensures.loads.still (search rules)
          (search rules);
    }
