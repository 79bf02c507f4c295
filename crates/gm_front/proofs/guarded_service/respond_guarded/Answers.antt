use Rattle.gm_front.proofs.Common.{rules, refl, inl, subst, Keeps-refl, Demand, FindsUnlessWithheld, HadNothing}
use Rattle.gm_http.specs.Requests.{asked_of}
use Rattle.gm_front.proofs.Withholding.{guarded_served}
use Rattle.gm_front.proofs.guarded_service.respond_guarded.Goals as goal

pub returns-in_default-clause-serves : goal.returns-in_default-clause-serves
returns-in_default-clause-serves g c = λ honest kept input asks away u at.
    rw c.unserved.ensures.response (inl (refl, refl, Keeps-refl _, c.unserved.ensures.none))

pub returns-clause-serves : goal.returns-clause-serves
returns-clause-serves g c = λ honest kept input asks away u at.
    let found = c.find_guarded-finding in
    rw c.fault.ensures
    (guarded_served g.S.Store g.H.Shelf c.args.bench.now found.new.bench away u input _ _
    (asked_of c.args.request) asks found.result c.tell-response.result
    (subst (λ (demand : Demand). FindsUnlessWithheld g.S.Store g.H.Shelf c.args.bench.now
    found.new.bench away u demand found.result) c.in-Ok.ensures
    (found.ensures.finds honest kept away u at))
    (subst (λ (demand : Demand). HadNothing g.S.Store g.H.Shelf c.args.bench.now
    found.new.bench demand found.result) c.in-Ok.ensures
    (found.ensures.guarded honest kept))
    c.tell-response.ensures.ok c.tell-response.ensures.front c.tell-response.ensures.read)

pub returns-clause-leaves : goal.returns-clause-leaves
returns-clause-leaves g c = record {
  progress = search rules;
  phase = search rules;
  closes = search rules;
  store = rw c.fault.ensures c.find_guarded-finding.ensures.store;
  keep = search rules;
}
