use Rattle.gm_state.proofs.SoundClaims.{sound_claims}
use Rattle.gm_state.proofs.laws.sound_claims.Goals as goal

pub returns : goal.returns
returns c = sound_claims
