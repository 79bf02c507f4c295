-- What a stop can leave in the last sector of an image that a pending write names.
use Rattle.std.specs.Prelude.{ℕ, ◌*◌, ◌+◌, Bool, true, false, not, ◌&&◌, ◌||◌, ◌==◌, nat_le, List, Option, Some, None, Result, Ok, Err}
use Rattle.std.specs.List.{list_any}
use Rattle.std.specs.Str.{bytes_eq}
use Rattle.gm_metadata.specs.Images.{same_label, zeros}
use Rattle.gm_metadata.specs.Reading.{decode_of, encoded}
use Rattle.gm_metadata.specs.Sector.{carries}
use Rattle.gm_metadata.specs.declared.fault.DecodeFault.{DecodeFault}
use Rattle.gm_metadata.specs.declared.metadata.Metadata.{Metadata}
use Rattle.gm_taste.specs.declared.groups.Taken.{Taken}
use Rattle.gm_taste.specs.declared.provider.Provider.{Provider}
use Rattle.gm_taste.specs.Tasting.{taken_by}
use Rattle.gm_commands.specs.declared.command.Command.{Command}
use Rattle.gm_commands.specs.declared.command.Command.TheVariants as commands
use Rattle.gm_state.specs.declared.records.Mirror.{Mirror}
use Rattle.gm_state.specs.declared.records.Component.{Component}
use Rattle.gm_state.specs.declared.records.Disk.TheVariants.{Copying}
use Rattle.gm_state.specs.Lookups.{at_component, metadata, mirror_of}
use Rattle.gm_state.specs.Records.{Records}
use Rattle.gm_stopped.specs.declared.stopped.Role.{Role}
use Rattle.gm_stopped.specs.declared.stopped.Role.TheVariants.{Written, Cleared, Source, Target}
use Rattle.gm_stopped.specs.declared.stopped.Stopped.{Stopped}

-- ---- the command that was stopped

-- it takes the provider into a mirror, which bore nothing before
abbrev pub takes_in : Option Command → List ℕ → Bool
takes_in (Some (commands.Label new)) p = same_label new.provider p
takes_in (Some (commands.Insert new)) p = same_label new.provider p
takes_in _ p = false

-- ---- what the image's own metadata say

-- what the provider's last sector says, if that fits its name and its size
abbrev pub says_with : (Metadata → Bool) → Option Taken → Bool
says_with holds None = false
says_with holds (Some taken) = holds taken.metadata

abbrev pub says : (Metadata → Bool) → Provider → Bool
says holds p = says_with holds (taken_by p)

-- they say the mirror, as old as it is or older
abbrev pub is_of_mirror : Mirror → Metadata → Bool
is_of_mirror m d =
    same_label d.name m.name && (d.mid == m.mid) && (d.mediasize == 512 * m.data_sectors)
    && nat_le d.genid m.genid && nat_le d.syncid m.syncid

-- they say the component of the mirror, as old as it is or older
abbrev pub is_of_component : Mirror → Component → Metadata → Bool
is_of_component m k d = is_of_mirror m d && (d.did == k.did) && nat_le d.syncid k.syncid

-- it is the component of a mirror by this number
abbrev pub is_numbered : List ℕ → ℕ → Component → Bool
is_numbered name did k = same_label k.mirror name && (k.did == did)

-- they say the mirror, and none of its components
abbrev pub is_of_none : Records → Mirror → Metadata → Bool
is_of_none s m d = is_of_mirror m d && not (list_any (is_numbered m.name d.did) s.components)

-- ---- what may be left of an image

-- of a component that is written to: its own metadata, of before or after, or none if it is new
abbrev pub may_be_written : Option Command → Mirror → Component → Provider → Bool
may_be_written c m k p =
    says (is_of_component m k) p || (takes_in c p.name && not (carries p.last))

-- of an image of a mirror that may still be registered, from which it was removed
abbrev pub was_removed : Records → Option Mirror → Provider → Bool
was_removed s None p = false
was_removed s (Some m) p = says (is_of_none s m) p

-- of an image that the command wipes: what the command found there
abbrev pub may_be_before_clear : Records → Option Command → Provider → Bool
may_be_before_clear s (Some (commands.Clear q)) p = same_label q p.name && carries p.last
may_be_before_clear s (Some (commands.Remove name q)) p =
    same_label q p.name && was_removed s (mirror_of s name) p
may_be_before_clear s (Some (commands.Destroy name)) p = says (λ d. same_label d.name name) p
may_be_before_clear s _ p = false

abbrev pub may_be_cleared : Records → Option Command → Provider → Bool
may_be_cleared s c p = bytes_eq p.last zeros || may_be_before_clear s c p

-- the sector is full with these metadata, but for a genid that is less by so much at most
abbrev pub is_at_most_older : Metadata → ℕ → List ℕ → Result Metadata DecodeFault → Bool
is_at_most_older d losses x (Err fault) = false
is_at_most_older d losses x (Ok found) =
    nat_le found.genid d.genid && nat_le d.genid (found.genid + losses)
    && bytes_eq x (encoded (record d { genid = found.genid }))

abbrev pub says_but_losses : Metadata → ℕ → List ℕ → Bool
says_but_losses d losses x = is_at_most_older d losses x (decode_of x)

-- the component's metadata, as far as it was filled
abbrev pub filled_to : Mirror → Component → Bool → ℕ → Metadata
filled_to m k forced first = metadata m (record k { disk = Copying forced first })

-- of one that is filled: what is registered, or what was before this stretch
abbrev pub may_be_target : ℕ → Mirror → Component → ℕ → List ℕ → Bool
may_be_target losses m k first x =
    says_but_losses (metadata m k) losses x || says_but_losses (filled_to m k false first) losses x
    || says_but_losses (filled_to m k true first) losses x

-- of a component, by how a pending write needs it
abbrev pub may_be_component : Stopped → Role → Provider → Mirror → Component → Bool
may_be_component stopped Written p m k = may_be_written stopped.command m k p
may_be_component stopped Cleared p m k = true
may_be_component stopped Source p m k = says_but_losses (metadata m k) stopped.losses p.last
may_be_component stopped (Target first) p m k = may_be_target stopped.losses m k first p.last

-- what no component is isn't judged
abbrev pub or_stranger : Option Bool → Bool
or_stranger None = true
or_stranger (Some holds) = holds

-- the provider's last sector may be what a stop left
abbrev pub may_be_left : Records → Stopped → Role → Provider → Bool
may_be_left s stopped Cleared p = may_be_cleared s stopped.command p
may_be_left s stopped role p =
    or_stranger (at_component s p.name (may_be_component stopped role p))
