use Rattle.gm_registry.proofs.registry.Registry.state.Goals as goal

pub returns : goal.returns
returns g c = rw (← c.self.view_is) c.state_on.ensures
