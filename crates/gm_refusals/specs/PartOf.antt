-- The part of the records that a command asks for, and what is decided on it.
use Rattle.std.specs.Prelude.{◌≡◌, ℕ, Bool, true, false, ◌==◌, ◌||◌, List, filter, if◌then◌else◌}
use Rattle.std.specs.List.{list_any}
use Rattle.std.specs.Option.{option_map_or}
use Rattle.gm_metadata.specs.Images.{same_label}
use Rattle.gm_commands.specs.declared.command.Command.{Command}
use Rattle.gm_state.specs.declared.records.Mirror.{Mirror}
use Rattle.gm_state.specs.declared.records.Component.{Component}
use Rattle.gm_lists.specs.Ordered.{Has}
use Rattle.gm_state.specs.Records.{Records, IsState, members}
use Rattle.gm_refusals.specs.declared.refusals.Refusal.{Refusal}
use Rattle.gm_refusals.specs.declared.refusals.Refusal.TheVariants.{TooManyMirrors}
use Rattle.gm_refusals.specs.Seen.{Seen}
use Rattle.gm_refusals.specs.Applies.{applies, name_of, providers_of, has_mid, takes_mid, is_on_any}
use Rattle.gm_refusals.specs.Refusals.{is_listed}

-- the command names the mirror
abbrev pub is_named : Command → Mirror → Bool
is_named c m = option_map_or (λ n. same_label m.name n) (name_of c) false

-- one of these components is on a provider that the command names
abbrev pub any_named : Command → List Component → Bool
any_named c ks = list_any (is_on_any (providers_of c)) ks

-- the command names the mirror or gives its mid, or that is one of the further mids
abbrev pub is_called : Command → List ℕ → Mirror → Bool
is_called c mids m = (is_named c m || has_mid c m) || list_any (λ mid. m.mid == mid) mids

-- The command asks for the mirror: it names it, or gives its mid, or that is one of the further
-- mids, or a component of the mirror is on a provider that the command names.
abbrev pub is_asked : Records → Command → List ℕ → Mirror → Bool
is_asked s c mids m = is_called c mids m || any_named c (members s.components m.name)

-- these mirrors, each with all its components
abbrev pub with_components : List Mirror → List Component → Records
with_components ms ks = record {
  mirrors = ms;
  components = filter (λ k. list_any (λ m. same_label k.mirror m.name) ms) ks;
}

-- the part of a command: the mirrors that it asks for, each with all its components, in the order
-- in which they stand
abbrev pub part_of : Records → Command → List ℕ → Records
part_of s c mids = with_components (filter (is_asked s c mids) s.mirrors) s.components

-- this is the part of the command, after some further mids, of the whole state s
pub record IsPartOf (part : Records) (c : Command) (s : Records) : Type 0 where
  pub state : IsState s
  pub mids : List ℕ
  pub is : part ≡ part_of s c mids

-- The part serves to decide on the command, when this is seen: it has each mirror whose mid is
-- found on images to be adopted.
pub record IsPartToDecide (part : Records) (x : Seen) (c : Command) (s : Records) : Type 0 where
  pub of : IsPartOf part c s
  pub found : (m : Mirror) → Has s.mirrors m → takes_mid x c m ≡ true → Has part.mirrors m

-- the one refusal that asks how many mirrors there are
abbrev pub asks_count : Refusal → Bool
asks_count TooManyMirrors = true
asks_count _ = false

-- the refusal applies to the command, when a part of the records is known, and how many mirrors
-- there are in all
abbrev pub applies_to_part : Records → ℕ → Seen → Command → Refusal → Bool
applies_to_part part count x c r = if asks_count r then count == 64 else applies part x c r

-- of the refusals that the command lists, those that don't ask for the count don't apply
abbrev pub IsGoodButCount : Records → Seen → Command → Type 0
IsGoodButCount part x c =
    (r : Refusal) → is_listed c r ≡ true → asks_count r ≡ false → applies part x c r ≡ false
