use Rattle.gm_registry.proofs.registry.Registry.load.Goals as goal

pub returns : goal.returns
returns g c = rw (← c.self.view_is) c.load_on.ensures
