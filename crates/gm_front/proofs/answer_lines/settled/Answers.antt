use Rattle.gm_front.proofs.Common.{◌∙◌, Err, sym, subst, Progress, Batches, HandsIn, unsettled_fault}
use Rattle.gm_front.proofs.Settled.{ends_rest, ends_settled, ends_unsettled, has_applied, takes_rest}
use Rattle.gm_front.proofs.answer_lines.settled.Goals as goal

pub returns-in_default-clause-does : goal.returns-in_default-clause-does
returns-in_default-clause-does g c h clean input before now away u it =
    ends_rest g.S.Store g.H.Shelf input before now
    c.args.bench.now.media.registry c.args.bench.now.media.shelf away u
    c.args.bench.now.progress (takes_rest c.args.bench.now.progress c.requires
    (λ is. c.in_default.not-Applied (c.phase.ensures ∙ is))) c.args.end it

pub returns-in_default-clause-phase : goal.returns-in_default-clause-phase
returns-in_default-clause-phase g c =
    takes_rest c.args.bench.now.progress c.requires
    (λ is. c.in_default.not-Applied (c.phase.ensures ∙ is))

pub returns-in-Ok-clause-does : goal.returns-in-Ok-clause-does
returns-in-Ok-clause-does g c h clean input before now away u it =
    let done = has_applied c.args.bench.now.progress (sym c.phase.ensures ∙ c.in-Applied.is) in
    let handed = subst (λ (p : Progress). HandsIn g.S.Store g.H.Shelf p input
    before now c.args.bench.now.media.registry c.args.bench.now.media.shelf away u c.args.end)
    done.1 it in
    let did = c.in-Ok.ensures.does h clean done.0 done.1 in
    subst (λ (k : g.row.H.Denot). Batches g.S.Store g.H.Shelf input before now
    c.settle.new.self.media.registry k away u c.args.end) (sym c.settle.ensures.settles.shelf)
    (ends_settled g.S.Store g.H.Shelf input before now
    c.args.bench.now.media.registry c.args.bench.now.media.shelf away u done.0
    c.settle.new.self.media.registry did.1 c.args.end handed)

pub returns-in-Err-clause-does : goal.returns-in-Err-clause-does
returns-in-Err-clause-does g c h clean input before now away u it =
    let done = has_applied c.args.bench.now.progress (sym c.phase.ensures ∙ c.in-Applied.is) in
    let handed = subst (λ (p : Progress). HandsIn g.S.Store g.H.Shelf p input
    before now c.args.bench.now.media.registry c.args.bench.now.media.shelf away u c.args.end)
    done.1 it in
    subst (λ f. Batches g.S.Store g.H.Shelf input before now
    c.settle.new.self.media.registry c.settle.new.self.media.shelf away u (Err f))
    (sym c.unsettled.ensures)
    (subst (λ (k : g.row.H.Denot). Batches g.S.Store g.H.Shelf input before now
    c.settle.new.self.media.registry k away u (Err (unsettled_fault c.args.end)))
    (sym c.settle.ensures.settles.shelf)
    (ends_unsettled g.S.Store g.H.Shelf input before now
    c.args.bench.now.media.registry c.args.bench.now.media.shelf away u done.0
    c.settle.new.self.media.registry (c.settle.ensures.leaves h clean done.0 done.1) c.args.end
    handed))
