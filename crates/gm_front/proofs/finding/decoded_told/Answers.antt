use Rattle.gm_front.proofs.Common.{◌≡◌, sym, ap, Ok, Err, decode_of, told_as}
use Rattle.gm_http.specs.declared.status.Status.TheVariants as status
use Rattle.gm_front.proofs.finding.decoded_told.Goals as goal

pub returns-in_ok-body-in-Ok : goal.returns-in_ok-body-in-Ok
returns-in_ok-body-in-Ok c =
    let is : decode_of c.args.sector.now ≡ Ok c.in-Ok.metadata = sym c.in-Ok.ensures.exact in
    rw is (ap (λ body. told_as status.Ok body) c.in_ok-body-in-Ok.ensures)

pub returns-in_ok-body-in-Err : goal.returns-in_ok-body-in-Err
returns-in_ok-body-in-Err c =
    let is : decode_of c.args.sector.now ≡ Err c.in-Err.fault = sym c.in-Err.ensures.exact in
    rw is (ap (λ body. told_as status.NotFound body) c.in_ok-body-in-Err.ensures)
