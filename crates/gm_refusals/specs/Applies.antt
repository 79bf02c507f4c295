-- When a command is refused: for each refusal one line.
use Rattle.std.specs.Prelude.{◌+◌, ℕ, Bool, true, false, not, ◌==◌, ◌&&◌, ◌||◌, nat_lt, List, [], ◌∷◌, length, Option, Some, None, is_none, is_some, filter, option_and_then, ◌≡◌, ◌≤◌}
use Rattle.std.specs.List.{list_all, list_any}
use Rattle.gm_metadata.specs.Images.{same_label}
use Rattle.gm_state.specs.declared.records.Mirror.{Mirror}
use Rattle.gm_state.specs.declared.records.Component.{Component}
use Rattle.gm_state.specs.declared.records.Disk.{Disk}
use Rattle.gm_state.specs.declared.records.Disk.TheVariants as disks
use Rattle.gm_commands.specs.declared.command.Preference.{Preference}
use Rattle.gm_commands.specs.declared.command.Settings.{Settings}
use Rattle.gm_commands.specs.declared.command.Command.{Command}
use Rattle.gm_commands.specs.declared.command.Command.TheVariants.{Label, Insert, Remove, Deactivate, Activate, Forget, Rebuild, Configure, Clear, Destroy, Lost, Advance, Adopt, Patch}
use Rattle.gm_state.specs.Records.{Records}
use Rattle.gm_state.specs.Lookups.{mirror_of, component_of, is_active, is_inactive}
use Rattle.gm_state.specs.declared.states.ComponentState.{ComponentState}
use Rattle.gm_state.specs.declared.states.ComponentState.TheVariants as states
use Rattle.gm_state.specs.States.{state_by}
use Rattle.gm_refusals.specs.Seen.{Seen, is_bearing, has_size, is_there_and}
use Rattle.gm_refusals.specs.Adoptable.{has_twice, tells_mid, tells_did_twice, is_adoptable}
use Rattle.gm_refusals.specs.declared.refusals.Refusal.{Refusal}
use Rattle.gm_refusals.specs.declared.refusals.Refusal.TheVariants.{NoMirror, NameTaken, MidTaken, Absent, ProviderTaken, CarriesMetadata, TooSmall, NotMember, DidTaken, Full, TooManyMirrors, SomeLost, LastActive, AlreadyInactive, NotInactive, NoneLost, Inactive, NotSynchronizing, LastSyncid, LastGenid, NothingGiven, NotAdoptable, WrongSize, NoMetadata, BeingFilled, BeyondEnd}
use Rattle.gm_refusals.specs.Refusals.{number_of, is_listed}

-- the mirror that a command names
abbrev pub name_of : Command → Option (List ℕ)
name_of (Label new) = Some new.name
name_of (Insert new) = Some new.name
name_of (Remove n p) = Some n
name_of (Deactivate n p) = Some n
name_of (Activate n p) = Some n
name_of (Forget n) = Some n
name_of (Rebuild n p) = Some n
name_of (Configure n settings) = Some n
name_of (Clear p) = None
name_of (Destroy n) = Some n
name_of (Lost n ps) = Some n
name_of (Advance n p) = Some n
name_of (Adopt n ps) = Some n
name_of (Patch n first sectors) = Some n

-- the provider of a preference
abbrev pub preferred : Option Preference → List (List ℕ)
preferred None = []
preferred (Some preference) = preference.provider ∷ []

-- the providers that it names
abbrev pub providers_of : Command → List (List ℕ)
providers_of (Label new) = new.provider ∷ []
providers_of (Insert new) = new.provider ∷ []
providers_of (Remove n p) = p ∷ []
providers_of (Deactivate n p) = p ∷ []
providers_of (Activate n p) = p ∷ []
providers_of (Forget n) = []
providers_of (Rebuild n p) = p ∷ []
providers_of (Configure n settings) = preferred settings.preference
providers_of (Clear p) = p ∷ []
providers_of (Destroy n) = []
providers_of (Lost n ps) = ps
providers_of (Advance n p) = p ∷ []
providers_of (Adopt n ps) = ps
providers_of (Patch n first sectors) = []

-- those whose images it looks at: lost images may be gone or broken
abbrev pub looked_at : Command → List (List ℕ)
looked_at (Lost n ps) = []
looked_at c = providers_of c

-- the mirror has the mid that the command gives
abbrev pub has_mid : Command → Mirror → Bool
has_mid (Label new) m = m.mid == new.mid
has_mid _ m = false

-- the mirror has it, or a mid that is found on images to be adopted
abbrev pub takes_mid : Seen → Command → Mirror → Bool
takes_mid x (Adopt n ps) m = list_any (tells_mid x m.mid) ps
takes_mid x c m = has_mid c m

-- the component has the did that the command gives
abbrev pub has_did : Command → Component → Bool
has_did (Label new) k = k.did == new.did
has_did (Insert new) k = k.did == new.did
has_did _ k = false

-- images to be adopted tell of one did twice
abbrev pub finds_did_twice : Seen → Command → Bool
finds_did_twice x (Adopt n ps) = tells_did_twice x ps
finds_did_twice x _ = false

-- a mirror is to be adopted on more providers than one may have
abbrev pub names_too_many : Command → Bool
names_too_many (Adopt n ps) = nat_lt 16 (length ps)
names_too_many _ = false

-- a mirror is to be adopted that can't be
abbrev pub is_unfit : Seen → Command → Bool
is_unfit x (Adopt n ps) = not (is_adoptable x n ps)
is_unfit x _ = false

-- sectors are to be laid beyond the end of the mirror's data
abbrev pub reaches_beyond : Command → Mirror → Bool
reaches_beyond (Patch n first sectors) m = nat_lt m.data_sectors (first + length sectors)
reaches_beyond _ m = false

-- the mirror that the command names, if it is registered
abbrev pub mirror_named : Records → Command → Option Mirror
mirror_named s c = option_and_then (λ n. mirror_of s n) (name_of c)

-- the component is one of the mirror that the command names
abbrev pub is_member_of : Option (List ℕ) → Component → Bool
is_member_of None k = false
is_member_of (Some n) k = same_label k.mirror n

-- the components of the mirror that the command names, in byte order
abbrev pub members_named : Records → Command → List Component
members_named s c = filter (λ k. is_member_of (name_of c) k) s.components

-- the component is on one of the providers
abbrev pub is_on_any : List (List ℕ) → Component → Bool
is_on_any ps k = list_any (λ p. same_label k.provider p) ps

-- the command waits for the component: it doesn't for lost ones
abbrev pub is_awaited : Command → Component → Bool
is_awaited (Lost n ps) k = not (is_on_any ps k)
is_awaited _ k = true

-- the command is about the component, one of the mirror that it names or on a provider that it
-- names, unless it gives that up
abbrev pub is_about : Command → Component → Bool
is_about c k =
    is_awaited c k && (is_member_of (name_of c) k || is_on_any (providers_of c) k)

-- the components of the mirror that the command names, of those that it waits for
abbrev pub awaited : Records → Command → List Component
awaited s c = filter (λ k. is_awaited c k) (members_named s c)

-- none of the options is given
abbrev pub is_empty : Settings → Bool
is_empty s =
    is_none s.balance && is_none s.slice && is_none s.autosync && is_none s.failsync && is_none
    s.hardcode && is_none s.preference

-- a component of a mirror is SYNCHRONIZING
abbrev pub is_synchronizing : ComponentState → Bool
is_synchronizing states.Synchronizing = true
is_synchronizing _ = false

-- a component is SYNCHRONIZING or STALE
abbrev pub is_being_filled : Disk → Bool
is_being_filled (disks.Copying forced held) = true
is_being_filled _ = false

-- a configure without any option
abbrev pub gives_nothing : Command → Bool
gives_nothing (Configure n settings) = is_empty settings
gives_nothing _ = false

-- a provider has fewer than 2 or more than 1,048,576 sectors
abbrev pub has_wrong_size : ℕ → Bool
has_wrong_size n = nat_lt n 2 || nat_lt 1048576 n

-- the refusal applies to the command, whether the command lists it or not
abbrev pub applies : Records → Seen → Command → Refusal → Bool
applies s x c NoMirror = is_none (mirror_named s c)
applies s x c NameTaken = is_some (mirror_named s c)
applies s x c MidTaken = list_any (takes_mid x c) s.mirrors
applies s x c Absent =
    list_any (λ p. is_none (x.size p)) (looked_at c) || list_any
    (λ k. not (has_size (x.size k.provider) k.sectors)) (awaited s c)
applies s x c ProviderTaken = list_any (λ p. is_some (component_of s p)) (providers_of c)
applies s x c CarriesMetadata = list_any (λ p. is_bearing x p) (looked_at c)
applies s x c TooSmall =
    is_there_and (mirror_named s c)
    (λ m. list_any (λ p. is_there_and (x.size p) (λ n. nat_lt n (m.data_sectors + 1)))
    (looked_at c))
applies s x c NotMember =
    has_twice (providers_of c) || list_any
    (λ p. not (list_any (λ k. same_label k.provider p) (members_named s c))) (providers_of c)
applies s x c DidTaken = list_any (has_did c) (members_named s c) || finds_did_twice x c
applies s x c Full = is_there_and (mirror_named s c) (λ m. m.all == 16) || names_too_many c
applies s x c TooManyMirrors = length s.mirrors == 64
applies s x c SomeLost =
    is_there_and (mirror_named s c) (λ m. nat_lt (length (members_named s c)) m.all)
applies s x c LastActive =
    list_all (is_on_any (providers_of c)) (filter (λ k. is_active k.disk) (members_named s c))
applies s x c AlreadyInactive =
    list_any (λ k. is_on_any (providers_of c) k && is_inactive k.disk) (members_named s c)
applies s x c NotInactive =
    list_any (λ k. is_on_any (providers_of c) k && not (is_inactive k.disk)) (members_named s c)
applies s x c NoneLost = is_there_and (mirror_named s c) (λ m. length (members_named s c) == m.all)
applies s x c Inactive =
    list_any (λ k. is_on_any (providers_of c) k && is_inactive k.disk) (members_named s c)
applies s x c NotSynchronizing =
    is_there_and (mirror_named s c)
    (λ m. list_any (λ k. is_on_any (providers_of c) k && not
    (is_synchronizing (state_by m.flags k.disk))) (members_named s c))
applies s x c LastSyncid = is_there_and (mirror_named s c) (λ m. m.syncid == 4294967295)
applies s x c LastGenid = is_there_and (mirror_named s c) (λ m. m.genid == 4294967295)
applies s x c NothingGiven = gives_nothing c
applies s x c NotAdoptable = is_unfit x c
applies s x c WrongSize = list_any (λ p. is_there_and (x.size p) has_wrong_size) (looked_at c)
applies s x c NoMetadata = list_any (λ p. not (is_bearing x p)) (looked_at c)
applies s x c BeingFilled = list_any (λ k. is_being_filled k.disk) (members_named s c)
applies s x c BeyondEnd = is_there_and (mirror_named s c) (reaches_beyond c)

-- r is the refusal with the least number that applies
pub record IsLeast (s : Records) (x : Seen) (c : Command) (r : Refusal) : Type 0 where
  pub listed : is_listed c r ≡ true
  pub met : applies s x c r ≡ true
  pub least : (q : Refusal) → is_listed c q ≡ true → applies s x c q ≡ true
      → number_of r ≤ number_of q

-- no refusal that the command lists applies
abbrev pub IsGood : Records → Seen → Command → Type 0
IsGood s x c = (r : Refusal) → is_listed c r ≡ true → applies s x c r ≡ false
