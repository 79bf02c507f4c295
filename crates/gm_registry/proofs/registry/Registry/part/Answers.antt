use Rattle.gm_registry.proofs.registry.Registry.part.Goals as goal

pub returns : goal.returns
returns g c = rw (← c.self.view_is) c.part_on.ensures
