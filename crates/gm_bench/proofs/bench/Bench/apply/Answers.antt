use Rattle.gm_bench.proofs.Common.{rules, ◌≡◌, ◌∙◌, Err, ℕ, List, refl, sym, ap, subst, subst₂, Held, Intent, Work, Applied, ApplyDoes, Cover, IsAt, AreAtHand}
use Rattle.gm_bench.proofs.Causes.{fault_is}
use Rattle.gm_bench.proofs.Phases.{pending_work}
use Rattle.gm_bench.proofs.bench.Bench.apply.Goals as goal

pub returns-in-Pending : goal.returns-in-Pending
returns-in-Pending g c =
    record {
      does = λ h work is.
          let j = g.H.Shelf in
          let r = c.args.self.now.media.registry in
          let shelf = c.args.self.now.media.shelf in
          let after = c.apply.new.self.shelf in
          let hands : c.deref.result.now ≡ c.in-Pending.work.intents.items = c.deref.ensures.value
          in
          let laid : c.deref-in-Pending.result.now ≡ c.in-Pending.work.bytes.items =
          c.deref-in-Pending.ensures.value in
          let does : ApplyDoes g.S.Store j r shelf after c.in-Pending.work = λ away u w at.
          let at1 = subst₂ (λ (ts : List Intent) (bytes : List (List ℕ)).
          IsAt g.S.Store j r shelf away ts bytes u w) (sym hands) (sym laid) at.at in
          let it = c.in_ok-apply-in-Pending.ensures.done h away u w at1
          (subst (λ (ts : List Intent). Cover c.in-Pending.work.part w.state ts)
          (sym hands) at.cover) in
          let at2 = subst (λ (k : Held g.row.S.Denot).
          IsAt g.S.Store j k after away c.deref.result.now c.deref-in-Pending.result.now u w)
          c.apply.ensures.writes.registry
          it.0 in (
            record {
              at = subst₂ (λ (ts : List Intent) (bytes : List (List ℕ)).
                  IsAt g.S.Store j r after away ts bytes u w) hands laid at2;
              cover = at.cover;
            },
            it.1,
          ) in
          let same : c.in-Pending.work ≡ work =
          pending_work c.in-Pending.work work (sym c.in-Pending.is ∙ c.replace.ensures.value ∙ is)
          in
          subst (λ (x : Work). (Applied c.in-Pending.work ≡ Applied x)
          × ApplyDoes g.S.Store j r shelf after x) same (refl, does);
      leaves = search rules;
      phase = search rules;
      carries = search rules;
      closes = search rules;
    }

pub returns-in_err-apply-in-Pending : goal.returns-in_err-apply-in-Pending
returns-in_err-apply-in-Pending g c =
    record {
      does = search rules;
      leaves = search rules;
      phase = search rules;
      carries = record {
        keep = search rules;
        registry = search rules;
        not_store = search rules;
        unreadable = search rules;
        disk = λ work is hand told. (
            let size = g.H.Shelf.size c.args.self.now.media.shelf in
            let hands : c.deref.result.now ≡ c.in-Pending.work.intents.items =
            c.deref.ensures.value in
            let same : c.in-Pending.work ≡ work =
            pending_work c.in-Pending.work work (sym c.in-Pending.is ∙ c.replace.ensures.value ∙ is)
            in
            let here : AreAtHand size c.in-Pending.work.intents.items =
            subst (λ (x : Work). AreAtHand size x.intents.items) (sym same) hand in
            c.in_err-apply-in-Pending.ensures.disk (subst (AreAtHand size) (sym hands) here)
            (ap Err (fault_is c.from_residual.result _ _ c.from_residual.ensures.1 told)));
      };
      closes = search rules;
    }
