use Rattle.gm_front.proofs.Common.{refl, inl, Keeps-refl}
use Rattle.gm_front.proofs.service.serve_request.Goals as goal

pub returns-in-Ok-clause-serves : goal.returns-in-Ok-clause-serves
returns-in-Ok-clause-serves g c = λ honest kept away u at.
    c.respond.ensures.serves honest kept _ c.in-Ok.ensures.asks away u at

pub returns-in-Err-Memory-clause-serves : goal.returns-in-Err-Memory-clause-serves
returns-in-Err-Memory-clause-serves g c = λ honest kept away u at.
    rw c.unserved.ensures.response (inl (refl, refl, Keeps-refl _, c.unserved.ensures.none))

pub returns-in-Err-Read-clause-serves : goal.returns-in-Err-Read-clause-serves
returns-in-Err-Read-clause-serves g c = λ honest kept away u at.
    rw c.unserved-in-Err-Read.ensures.response
    (refl, refl, Keeps-refl _, c.unserved-in-Err-Read.ensures.none)
