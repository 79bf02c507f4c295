-- From a world to the one that intents lead to, as far as claims go.
use Rattle.std.specs.Prelude.{List}
use Rattle.gm_state.specs.declared.intents.Intent.{Intent}
use Rattle.gm_state.specs.Records.{IsState}
use Rattle.gm_state.specs.Intents.{AreThere}
use Rattle.gm_state.specs.World.{World, Claims, CopiesData}

-- the records of both are states, and those components of u that an intent reads or writes are
-- there; in w the claims of all are true, and what was copied to them is their mirror's data
pub record Continues (u w : World) (ts : List Intent) : Type 0 where
  pub state : IsState u.state
  pub after : IsState w.state
  pub there : AreThere u.state ts u.size
  pub claims : Claims u w w.shelf
  pub copies : CopiesData u w ts
