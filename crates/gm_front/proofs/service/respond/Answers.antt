use Rattle.gm_front.proofs.Common.{rules, refl, inl, subst, Keeps-refl, Demand, ComesToFinding}
use Rattle.gm_http.specs.Requests.{asked_of}
use Rattle.gm_front.proofs.RequestsServed.{served}
use Rattle.gm_front.proofs.service.respond.Goals as goal

pub returns-in_default-clause-serves : goal.returns-in_default-clause-serves
returns-in_default-clause-serves g c = λ honest kept input asks away u at.
    rw c.unserved.ensures.response (inl (refl, refl, Keeps-refl _, c.unserved.ensures.none))

pub returns-clause-serves : goal.returns-clause-serves
returns-clause-serves g c = λ honest kept input asks away u at.
    rw c.fault.ensures (served g.S.Store g.H.Shelf input _ _ _ _ _ _ away u
    (asked_of c.args.request) asks c.find-finding.result c.tell-response.result
    (subst (λ (demand : Demand). ComesToFinding g.S.Store g.H.Shelf
    c.args.bench.now.media.registry c.find-finding.new.bench.media.registry
    c.args.bench.now.media.shelf c.find-finding.new.bench.media.shelf away u demand
    c.find-finding.result) c.in-Ok.ensures
    (c.find-finding.ensures.comes honest kept away u at))
    c.tell-response.ensures.ok c.tell-response.ensures.front c.tell-response.ensures.read)

pub returns-clause-leaves : goal.returns-clause-leaves
returns-clause-leaves g c = record {
  progress = search rules;
  phase = search rules;
  closes = search rules;
  store = rw c.fault.ensures c.find-finding.ensures.store;
  keep = search rules;
}
