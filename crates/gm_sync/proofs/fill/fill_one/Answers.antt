use Rattle.gm_sync.proofs.Common.{rules, ◌≡◌, ◌∙◌, Err, refl, sym, ap, Failed, Ready, FailsFilling, FillsBy, FillsByOn, IsAdvanceOf, IsRefusedIn, Refuses, RefusesOn, length, ◌≤◌, calls_in}
use Rattle.gm_sync.proofs.Ended.{component_too}
use Rattle.gm_sync.proofs.Faults.{told}
use Rattle.gm_sync.proofs.FilledOn.{fills_settled, settling_fails, so_settled}
use Rattle.gm_sync.proofs.Stops.{fails_filling_settled, unsettled_fails_filling}
use Rattle.gm_sync.proofs.fill.fill_one.Goals as goal

pub returns-clause-fills : goal.returns-clause-fills
returns-clause-fills g c =
    fills_settled g.S.Store g.H.Shelf (IsAdvanceOf c.args.component.now) c.args.bench.now
    c.fill_stretches-filled.new.bench c.settle_waiting-settled.new.self c.requires
    c.in_ok-end.ensures.fills (search rules)
    (λ is. (
    let e : Ready ≡ Failed = sym c.in_ok-settled.ensures.phase
    ∙ (ap (λ b. b.progress) (c.settle_waiting-settled.ensures.closes.closed is).1 ∙ is) in
    let no : ⊥ = cc in no
    ))
    c.in_ok-settled.ensures.phase
    c.in_ok-settled.ensures.does

pub returns-clause-ends : goal.returns-clause-ends
returns-clause-ends g c =
    let fit = IsAdvanceOf c.args.component.now in
    let a = c.args.bench.now in
    let b = c.fill_stretches-filled.new.bench in
    let d = c.settle_waiting-settled.new.self in
    component_too (RefusesOn g.S.Store g.H.Shelf fit a b) (Refuses g.S.Store g.H.Shelf fit fit a d)
    (FillsByOn g.S.Store g.H.Shelf fit a b) (FillsBy g.S.Store g.H.Shelf fit a d)
    (λ why so. so_settled g.S.Store g.H.Shelf fit (λ handed w. IsRefusedIn fit w why) a b d
    c.requires c.in_ok-end.ensures.keep (search rules) c.in_ok-settled.ensures.does so)
    (λ n so. so_settled g.S.Store g.H.Shelf fit (λ handed w. n ≤ length (calls_in handed)) a b d
    c.requires c.in_ok-end.ensures.keep (search rules) c.in_ok-settled.ensures.does so)
    c.in_ok-end.end c.in_ok-end.ensures.ends

pub returns-in_err-end-clause-faults : goal.returns-in_err-end-clause-faults
returns-in_err-end-clause-faults g c =
    let settled = c.settle_waiting-settled.ensures in
    told (FailsFilling g.S.Store g.H.Shelf (IsAdvanceOf c.args.component.now) c.args.bench.now
    c.settle_waiting-settled.new.self) _ c.in_err-end.field-0.0 (search rules)
    (fails_filling_settled g.S.Store g.H.Shelf (IsAdvanceOf c.args.component.now)
    c.args.bench.now c.fill_stretches-filled.new.bench c.settle_waiting-settled.new.self
    c.settle_waiting-settled.result c.requires (search rules) settled.does settled.leaves
    settled.closes _ c.in_err-end.ensures.keep c.in_err-end.ensures.faults)

pub returns-in_err-settled-clause-faults : goal.returns-in_err-settled-clause-faults
returns-in_err-settled-clause-faults g c =
    let settled = c.in_err-settled.ensures in
    let fit = IsAdvanceOf c.args.component.now in
    told (FailsFilling g.S.Store g.H.Shelf fit c.args.bench.now
    c.settle_waiting-settled.new.self) _ c.in_err-settled.field-0.0 (search rules)
    (unsettled_fails_filling g.S.Store g.H.Shelf fit c.args.bench.now
    c.fill_stretches-filled.new.bench c.settle_waiting-settled.new.self _ c.requires
    (search rules) settled.does settled.leaves settled.closes _ refl c.in_ok-end.ensures.fills
    (settling_fails g.S.Store g.H.Shelf fit
    c.args.bench.now c.fill_stretches-filled.new.bench c.settle_waiting-settled.new.self _
    c.in_ok-end.ensures.fills (search rules)
    (λ e. settled.closes.reopen (ap Err e))
    (λ p e. settled.closes.absent p (ap Err e))
    (λ e. settled.settles.disk (ap Err e))
    (λ kept e. settled.settles.store kept (ap Err e))))
