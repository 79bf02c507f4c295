use Rattle.gm_front.proofs.Common.{refl, inl, Keeps-refl}
use Rattle.gm_front.proofs.guarded_service.serve_request_guarded.Goals as goal

pub returns-in-Err-Memory-clause-serves : goal.returns-in-Err-Memory-clause-serves
returns-in-Err-Memory-clause-serves g c = λ honest kept away u at.
    inl (rw c.unserved.ensures.response
    (inl (refl, refl, Keeps-refl _, c.unserved.ensures.none)))

pub returns-in-Err-Read-clause-serves : goal.returns-in-Err-Read-clause-serves
returns-in-Err-Read-clause-serves g c = λ honest kept away u at.
    inl (rw c.unserved-in-Err-Read.ensures.response
    (inl (refl, refl, Keeps-refl _, c.unserved-in-Err-Read.ensures.none)))
