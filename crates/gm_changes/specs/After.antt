-- What a command makes of the records, and what it has written.
use Rattle.std.specs.Prelude.{◌+◌, ◌-◌, ◌==◌, ◌&&◌, ℕ, Bool, true, false, not, nat_le, nat_lt, List, [], ◌∷◌, Option, Some, None, map, filter, flat_map, length, slice_index_or, unwrap_or, if◌then◌else◌}
use Rattle.std.specs.List.{list_any}
use Rattle.std.specs.Option.{option_map_or}
use Rattle.gm_metadata.specs.Images.{same_label}
use Rattle.gm_metadata.specs.declared.flags.MirrorFlags.{MirrorFlags}
use Rattle.gm_commands.specs.declared.command.NewComponent.{NewComponent}
use Rattle.gm_commands.specs.declared.command.NewMirror.{NewMirror}
use Rattle.gm_commands.specs.declared.command.Preference.{Preference}
use Rattle.gm_commands.specs.declared.command.Settings.{Settings}
use Rattle.gm_commands.specs.declared.command.Command.{Command}
use Rattle.gm_commands.specs.declared.command.Command.TheVariants as commands
use Rattle.gm_state.specs.declared.intents.Intent.{Intent}
use Rattle.gm_state.specs.declared.intents.Intent.TheVariants.{Meta, Clear, Copy, Dirty, Patch}
use Rattle.gm_state.specs.declared.intents.Reply.{Reply}
use Rattle.gm_state.specs.declared.intents.Reply.TheVariants.{Plain, Copied}
use Rattle.gm_state.specs.declared.records.Mirror.{Mirror}
use Rattle.gm_state.specs.declared.records.Component.{Component}
use Rattle.gm_state.specs.declared.records.Disk.{Disk}
use Rattle.gm_state.specs.declared.records.Disk.TheVariants.{InSync, Inactive, Copying}
use Rattle.gm_commands.specs.Commands.{balance_of_word}
use Rattle.gm_lists.specs.Ordered.{put, put_all, without, without_all}
use Rattle.gm_state.specs.Records.{Records, name, provider, members}
use Rattle.gm_state.specs.Lookups.{mirror_of, component_of, held_of, is_active, is_inactive}
use Rattle.gm_state.specs.Sources.{source_of}
use Rattle.gm_refusals.specs.Seen.{Seen}
use Rattle.gm_refusals.specs.Adoptable.{source_in, adopted_mirror, adopted}

-- the record of a labelled mirror: genid 0, syncid 1, one component, and all sectors of the
-- provider but the last as data
abbrev pub new_mirror : NewMirror → ℕ → Mirror
new_mirror new sectors = record {
  name = new.name;
  mid = new.mid;
  all = 1;
  genid = 0;
  syncid = 1;
  slice = new.slice;
  balance = balance_of_word new.balance;
  data_sectors = sectors - 1;
  flags = new.flags;
}

-- its component: priority 0, in sync
abbrev pub first_component : NewMirror → ℕ → Component
first_component new sectors = record {
  provider = new.provider;
  mirror = new.name;
  did = new.did;
  syncid = 1;
  priority = 0;
  disk = InSync;
  hardcoded = new.hardcoded;
  sectors = sectors;
}

-- an inserted component: it holds nothing yet, and has the mirror's syncid
abbrev pub spare : Mirror → NewComponent → ℕ → Component
spare m new sectors = record {
  provider = new.provider;
  mirror = m.name;
  did = new.did;
  syncid = m.syncid;
  priority = new.priority;
  disk = Copying false 0;
  hardcoded = new.hardcoded;
  sectors = sectors;
}

-- a component of a mirror that has a new syncid: it takes it, unless it is INACTIVE
abbrev pub freshened : ℕ → Component → Component
freshened syncid k = if is_inactive k.disk then k else record k { syncid = syncid }

-- A component of a mirror of which the one on p is taken out of use: that one becomes INACTIVE and
-- keeps its syncid.
abbrev pub deactivated : ℕ → List ℕ → Component → Component
deactivated syncid p k =
    if same_label k.provider p then record k { disk = Inactive } else freshened syncid k

-- a component that is taken into use again: it holds nothing yet, and has the mirror's syncid
abbrev pub activated : Mirror → Component → Component
activated m k = record k { disk = Copying false 0; syncid = m.syncid }

-- a component that is to be filled anew, even if the mirror doesn't fill its components by
-- itself
abbrev pub rebuilt : Component → Component
rebuilt k = record k { disk = Copying true 0 }

-- a mirror that is configured, and its flags: what isn't given stays
abbrev pub configured_flags : Settings → MirrorFlags → MirrorFlags
configured_flags settings flags = record {
  no_autosync = option_map_or not settings.autosync flags.no_autosync;
  no_failsync = option_map_or not settings.failsync flags.no_failsync;
}

abbrev pub configured_mirror : Settings → Mirror → Mirror
configured_mirror settings m = record m {
  slice = unwrap_or settings.slice m.slice;
  balance = option_map_or balance_of_word settings.balance m.balance;
  flags = configured_flags settings m.flags;
}

-- the priority of a component: what is given, if that is for its provider
abbrev pub priority_by : Option Preference → Component → ℕ
priority_by None k = k.priority
priority_by (Some preference) k =
    if same_label k.provider preference.provider then preference.priority else k.priority

-- a component of a mirror that is configured
abbrev pub configured : Settings → Component → Component
configured settings k = record k {
  priority = priority_by settings.preference k;
  hardcoded = unwrap_or settings.hardcode k.hardcoded;
}

-- how many of the mirror's data sectors a component holds after its next stretch, which has at most
-- 256
abbrev pub reach : Mirror → Component → ℕ
reach m k = if nat_lt (held_of k.disk + 256) m.data_sectors then held_of k.disk
    + 256 else m.data_sectors

-- a component that is filled, and holds so many of them by now: in sync if it holds all
abbrev pub holding : Mirror → ℕ → Disk → Disk
holding m held InSync = InSync
holding m held Inactive = Inactive
holding m held (Copying forced was) = if held == m.data_sectors then InSync else Copying forced held

-- a component to which its next stretch was copied
abbrev pub advanced : Mirror → Component → Component
advanced m k = record k { disk = holding m (reach m k) k.disk }

-- what is made by way of a mirror or a component that is registered
abbrev pub on_found : {X Y : Type 0} → Option X → Y → (X → Y) → Y
on_found None y f = y
on_found (Some x) y f = f x

-- the records after the command: those before but for what is named here
abbrev pub after : Seen → Command → Records → Records
after x (commands.Label new) s = record {
  mirrors = put name (new_mirror new (unwrap_or (x.size new.provider) 0)) s.mirrors;
  components = put provider (first_component new (unwrap_or (x.size new.provider) 0)) s.components;
}
after x (commands.Insert new) s = on_found (mirror_of s new.name) s (λ m. record {
  mirrors = put name (record m { all = m.all + 1 }) s.mirrors;
  components = put provider (spare m new (unwrap_or (x.size new.provider) 0)) s.components;
})
after x (commands.Remove n p) s = on_found (mirror_of s n) s (λ m. record {
  mirrors = put name (record m { all = m.all - 1 }) s.mirrors;
  components = without provider p s.components;
})
after x (commands.Deactivate n p) s = on_found (mirror_of s n) s (λ m. record {
  mirrors = put name (record m { syncid = m.syncid + 1 }) s.mirrors;
  components =
      put_all provider (map (deactivated (m.syncid + 1) p) (members s.components n)) s.components;
})
after x (commands.Activate n p) s =
    on_found (mirror_of s n) s (λ m. on_found (component_of s p) s (λ k. record {
      mirrors = s.mirrors;
      components = put provider (activated m k) s.components;
    }))
after x (commands.Forget n) s = on_found (mirror_of s n) s (λ m. record {
  mirrors = put name (record m { all = length (members s.components n) }) s.mirrors;
  components = s.components;
})
after x (commands.Rebuild n p) s = on_found (component_of s p) s (λ k. record {
  mirrors = s.mirrors;
  components = put provider (rebuilt k) s.components;
})
after x (commands.Configure n settings) s = on_found (mirror_of s n) s (λ m. record {
  mirrors = put name (configured_mirror settings m) s.mirrors;
  components = put_all provider (map (configured settings) (members s.components n)) s.components;
})
after x (commands.Clear p) s = s
after x (commands.Destroy n) s = record {
  mirrors = without name n s.mirrors;
  components = filter (λ k. not (same_label k.mirror n)) s.components;
}
after x (commands.Lost n ps) s = on_found (mirror_of s n) s (λ m. record {
  mirrors = put name (record m { genid = m.genid + 1 }) s.mirrors;
  components = without_all provider ps s.components;
})
after x (commands.Advance n p) s =
    on_found (mirror_of s n) s (λ m. on_found (component_of s p) s (λ k. record {
      mirrors = s.mirrors;
      components = put provider (advanced m k) s.components;
    }))
after x (commands.Adopt n ps) s = on_found (source_in x ps) s (λ b. record {
  mirrors = put name (adopted_mirror n b.metadata) s.mirrors;
  components = put_all provider (adopted x n ps b) s.components;
})
after x (commands.Patch n first sectors) s = on_found (mirror_of s n) s (λ m. record {
  mirrors = put name (record m { syncid = m.syncid + 1 }) s.mirrors;
  components =
      put_all provider (map (freshened (m.syncid + 1)) (members s.components n)) s.components;
})

-- the data of the mirror of this name after the command, where the list is those before: a patch
-- lays its sectors over those of its mirror
abbrev pub laid_over : Command → List ℕ → (ℕ → List ℕ) → ℕ → List ℕ
laid_over (commands.Patch n first sectors) name list i =
    if same_label n name && (nat_le first i && nat_lt i (first + length sectors))
    then slice_index_or sectors (i - first) [] else list i
laid_over _ name list i = list i

-- what the command is answered beside its number, where the records before are s
abbrev pub reply_to : Command → Records → Reply
reply_to (commands.Advance n p) s =
    on_found (mirror_of s n) Plain (λ m. on_found (component_of s p) Plain
    (λ k. Copied (reach m k) m.data_sectors))
reply_to _ s = Plain

-- Meta of each of the components, and Clear of each
abbrev pub metas : List Component → List Intent
metas ks = map (λ k. Meta k.provider) ks

abbrev pub clears_of : List Component → List Intent
clears_of ks = map (λ k. Clear k.provider) ks

-- the next stretch of a component is copied to it, and then it says so
abbrev pub filling : Mirror → Component → List ℕ → List Intent
filling m k source = Copy source k.provider (held_of k.disk) (reach m k) ∷ Meta k.provider ∷ []

-- Sectors are laid over those of a component from first to end - 1: while that goes on it says that
-- its data change, and then its metadata.
abbrev pub patching : ℕ → ℕ → Component → List Intent
patching first end k = Dirty k.provider ∷ Patch k.provider first end ∷ Meta k.provider ∷ []

-- those of the components that hold the mirror's data
abbrev pub active_of : List Component → List Component
active_of ks = filter (λ k. is_active k.disk) ks

-- the intents in their order, where the records before are s and those after s'
abbrev pub intents_of : Command → Records → Records → List Intent
intents_of (commands.Label new) s s' = Meta new.provider ∷ []
intents_of (commands.Insert new) s s' = metas (members s'.components new.name)
intents_of (commands.Remove n p) s s' = Clear p ∷ metas (members s'.components n)
intents_of (commands.Deactivate n p) s s' = metas (members s'.components n)
intents_of (commands.Activate n p) s s' = Meta p ∷ []
intents_of (commands.Forget n) s s' = metas (members s'.components n)
intents_of (commands.Rebuild n p) s s' = Meta p ∷ []
intents_of (commands.Configure n settings) s s' = metas (members s'.components n)
intents_of (commands.Clear p) s s' = Clear p ∷ []
intents_of (commands.Destroy n) s s' = clears_of (members s.components n)
intents_of (commands.Lost n ps) s s' = metas (members s'.components n)
intents_of (commands.Advance n p) s s' =
    on_found (mirror_of s n) [] (λ m. on_found (component_of s p) []
    (λ k. on_found (source_of s p) [] (λ source. filling m k source)))
intents_of (commands.Adopt n ps) s s' = metas (members s'.components n)
intents_of (commands.Patch n first sectors) s s' =
    flat_map (patching first (first + length sectors)) (active_of (members s'.components n))

-- the sectors that the intents lay over data
abbrev pub bytes_of : Command → List (List ℕ)
bytes_of (commands.Patch n first sectors) = sectors
bytes_of _ = []

-- whether the last sector of q becomes zero, where the records before are s
abbrev pub clears : Records → Command → List ℕ → Bool
clears s (commands.Label new) q = false
clears s (commands.Insert new) q = false
clears s (commands.Remove n p) q = same_label p q
clears s (commands.Deactivate n p) q = false
clears s (commands.Activate n p) q = false
clears s (commands.Forget n) q = false
clears s (commands.Rebuild n p) q = false
clears s (commands.Configure n settings) q = false
clears s (commands.Clear p) q = same_label p q
clears s (commands.Destroy n) q = list_any (λ k. same_label k.provider q) (members s.components n)
clears s (commands.Lost n ps) q = false
clears s (commands.Advance n p) q = false
clears s (commands.Adopt n ps) q = false
clears s (commands.Patch n first sectors) q = false

-- whether sector j of q is one that the command copies or lays over, where the records before are s
abbrev pub fills : Records → Command → List ℕ → ℕ → Bool
fills s (commands.Advance n p) q j =
    on_found (mirror_of s n) false (λ m. on_found (component_of s p) false
    (λ k. same_label p q && (nat_le (held_of k.disk) j && nat_lt j (reach m k))))
fills s (commands.Patch n first sectors) q j =
    list_any (λ k. same_label k.provider q) (active_of (members s.components n)) &&
    (nat_le first j && nat_lt j (first + length sectors))
fills s _ q j = false
