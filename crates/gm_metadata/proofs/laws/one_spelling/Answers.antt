use Rattle.gm_metadata.proofs.Laid.{named, spelling_spells, spelled_once}
use Rattle.gm_metadata.proofs.Read.{spelled_by_one, read_once}
use Rattle.gm_metadata.proofs.laws.one_spelling.Goals as goal

pub returns-clause-one_meaning : goal.returns-clause-one_meaning
returns-clause-one_meaning c = spelled_by_one

pub returns-clause-one_sector : goal.returns-clause-one_sector
returns-clause-one_sector c = read_once

pub returns-clause-one_form : goal.returns-clause-one_form
returns-clause-one_form c v m b = spelled_once v m b

pub returns-clause-spelled : goal.returns-clause-spelled
returns-clause-spelled c v m ok = spelling_spells v m (named m ok)
