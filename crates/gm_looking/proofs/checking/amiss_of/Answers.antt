use Rattle.gm_looking.proofs.checking.amiss_of.Goals as goal

pub returns-clause-amiss : goal.returns-clause-amiss
returns-clause-amiss g c honest =
    let found = c.in_ok-amiss.ensures in
    record {
      unlike = found.unlike honest;
      compared = λ asked. found.scrub honest asked;
      beside = λ asked. found.beside honest asked;
      unasked = found.unasked;
      claims_are = found.claims honest;
    }
