use Rattle.gm_opener.proofs.blank.is_blank.Goals as goal

pub returns-in-Ok-clause-blank : goal.returns-in-Ok-clause-blank
returns-in-Ok-clause-blank g c = rw c.page_size.ensures at c.in-Ok.ensures.ok
