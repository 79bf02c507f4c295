-- When all is well.
use Rattle.std.specs.Prelude.{◌==◌, ◌&&◌, ℕ, Bool, true, false, List, codes, length, nat_lt, not, if◌then◌else◌}
use Rattle.std.specs.List.{list_all}
use Rattle.gm_state.specs.declared.records.Mirror.{Mirror}
use Rattle.gm_state.specs.declared.states.MirrorState.{MirrorState}
use Rattle.gm_state.specs.declared.states.MirrorState.TheVariants.{Complete, Degraded}
use Rattle.gm_state.specs.Records.{Records, members}
use Rattle.gm_state.specs.States.{state_among}
use Rattle.gm_unlike.specs.declared.checkup.Checkup.{Checkup}
use Rattle.gm_unlike.specs.declared.checkup.Renewal.{Renewal}
use Rattle.gm_unlike.specs.declared.checkup.Renewal.TheVariants.{NotYet, Soon, Now}

abbrev pub is_complete : MirrorState → Bool
is_complete Complete = true
is_complete Degraded = false

-- the mirror is COMPLETE with the components that it has in the state
abbrev pub is_complete_in : Records → Mirror → Bool
is_complete_in s m = is_complete (state_among m (members s.components m.name))

-- when a new registry is due, after so many commands of 100,000
abbrev pub renewal_of : ℕ → Renewal
renewal_of n = if nat_lt n 80000 then NotYet else if nat_lt n 95000 then Soon else Now

-- the same in a word for programs
abbrev pub renewal_word : Renewal → List ℕ
renewal_word NotYet = codes "not yet"
renewal_word Soon = codes "soon"
renewal_word Now = codes "now"

-- each image is as it is registered and has its mirror's data, as far as they were compared, and
-- each that claims to be a component that it isn't was given up
abbrev pub has_its_images : Checkup → Bool
has_its_images c = (length c.unlike.now == 0) && ((length c.flaws.now == 0)
    && list_all (λ x. x.is_given_up) c.claims.now)

-- there is a mirror, and each is COMPLETE
abbrev pub has_its_mirrors : Records → Bool
has_its_mirrors s = not (length s.mirrors == 0) && list_all (is_complete_in s) s.mirrors

-- nothing is pending, images and mirrors are as they are to be, and a new registry isn't urgent
abbrev pub is_well : Checkup → Bool
is_well c = (c.pending == 0) && (has_its_images c && (nat_lt c.commands 95000
    && has_its_mirrors c.state.now))
