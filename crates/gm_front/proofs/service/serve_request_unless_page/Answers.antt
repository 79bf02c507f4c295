use Rattle.gm_front.proofs.Common.{refl, inl, inr, Keeps-refl}
use Rattle.gm_front.proofs.Pages.{nothing_written, sent_anyhow, sent_by_program}
use Rattle.gm_front.proofs.service.serve_request_unless_page.Goals as goal

pub returns-in-Err-Memory-clause-page : goal.returns-in-Err-Memory-clause-page
returns-in-Err-Memory-clause-page g c =
    sent_anyhow _ _ (refl, rw c.unserved.ensures.response (nothing_written _ _ _ (Keeps-refl _)))

pub returns-in-Err-Memory-clause-serves : goal.returns-in-Err-Memory-clause-serves
returns-in-Err-Memory-clause-serves g c = λ honest kept away u at.
    inl (rw c.unserved.ensures.response
    (inl (refl, refl, Keeps-refl _, c.unserved.ensures.none)))

pub returns-in-Err-Read-clause-page : goal.returns-in-Err-Read-clause-page
returns-in-Err-Read-clause-page g c =
    sent_anyhow _ _ (refl, rw c.unserved-in-Err-Read.ensures.response (Keeps-refl _))

pub returns-in-Err-Read-clause-serves : goal.returns-in-Err-Read-clause-serves
returns-in-Err-Read-clause-serves g c = λ honest kept away u at.
    inl (rw c.unserved-in-Err-Read.ensures.response
    (refl, refl, Keeps-refl _, c.unserved-in-Err-Read.ensures.none))

pub returns-in-Page-clause-page : goal.returns-in-Page-clause-page
returns-in-Page-clause-page g c = sent_anyhow _ _ (refl, c.turn_away.ensures.response)

pub returns-in-Page-clause-serves : goal.returns-in-Page-clause-serves
returns-in-Page-clause-serves g c = λ honest kept away u at.
    inr (
      rw c.in-Page.is at c.in-Ok.ensures.sends,
      refl,
      refl,
      c.turn_away.ensures.none,
      c.turn_away.ensures.response,
    )

pub returns-in-Program-clause-page : goal.returns-in-Program-clause-page
returns-in-Program-clause-page g c =
    sent_by_program _ _ (rw c.in-Program.is at c.in-Ok.ensures.sends)

pub returns-in-Program-clause-serves : goal.returns-in-Program-clause-serves
returns-in-Program-clause-serves g c = λ honest kept away u at.
    inl (c.respond.ensures.serves honest kept _ c.in-Ok.ensures.asks away u at)
