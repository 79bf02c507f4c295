use Rattle.gm_front.proofs.service.serve_one.Goals as goal

pub returns-in-Ok-clause-serves : goal.returns-in-Ok-clause-serves
returns-in-Ok-clause-serves g c = record {
  fault = c.serve_request.result.fault;
  does = λ honest kept away u at.
      let serves = rw c.in-Ok.is at (c.serve_request.ensures.serves honest kept away u at) in
      rw c.code.ensures serves;
  progress = c.serve_request.ensures.leaves.progress;
  closes = c.serve_request.ensures.leaves.closes;
  store = c.serve_request.ensures.leaves.store;
}

pub returns-in-Err-clause-serves : goal.returns-in-Err-clause-serves
returns-in-Err-clause-serves g c = record {
  fault = c.serve_request.result.fault;
  does = λ honest kept away u at.
      rw c.in-Err.is at (c.serve_request.ensures.serves honest kept away u at);
  progress = c.serve_request.ensures.leaves.progress;
  closes = c.serve_request.ensures.leaves.closes;
  store = c.serve_request.ensures.leaves.store;
}
