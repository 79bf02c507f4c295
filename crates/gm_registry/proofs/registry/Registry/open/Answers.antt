use Rattle.gm_registry.proofs.registry.Registry.open.Goals as goal

pub returns-in-Ok-clause-opens : goal.returns-in-Ok-clause-opens
returns-in-Ok-clause-opens g c is_open = c.in-Ok.ensures.opens is_open

pub returns-in-Err-clause-opens : goal.returns-in-Err-clause-opens
returns-in-Err-clause-opens g c is_open = c.in-Err.ensures.opens is_open
