-- What is read of the part of the records that a command asks for.
use Rattle.std.specs.Prelude.{◌≡◌, ◌||◌, ℕ, Bool, List, length, filter, flat_map, map}
use Rattle.std.specs.List.{list_any}
use Rattle.std.specs.List.Sorted.{IsPermutation}
use Rattle.sqlite.specs.Order.{Row}
use Rattle.sqlite.specs.Tree.{Trees}
use Rattle.gm_lists.specs.Ordered.{Has}
use Rattle.gm_metadata.specs.Images.{same_label}
use Rattle.gm_commands.specs.declared.command.Command.{Command}
use Rattle.gm_state.specs.declared.records.Component.{Component}
use Rattle.gm_state.specs.declared.records.Mirror.{Mirror}
use Rattle.gm_state.specs.Records.{Records, IsState, name}
use Rattle.gm_refusals.specs.Applies.{providers_of}
use Rattle.gm_refusals.specs.PartOf.{is_called, part_of}
use Rattle.gm_rows.specs.Queries.{shown_places}
use Rattle.gm_rows.specs.Says.{mirror_shown, component_shown}
use Rattle.gm_rows.specs.Values.{columns_at, IsMirrorValue, IsComponentValue}
use Rattle.gm_rows.specs.declared.fetched.Table.TheVariants.{Mirrors}
use Rattle.gm_registry.specs.Keys.{shown_under}
use Rattle.gm_registry.specs.declared.components_by_key.Key.TheVariants.{Provider, Mirror as OfMirror}
use Rattle.gm_registry.specs.declared.part.Asked.{Asked}
use Rattle.gm_registry.specs.declared.part.Part.{Part}

-- it is the part of the command, after some further mids, of this state, and tells how many mirrors
-- the state has
pub record IsPartFor (s : Records) (c : Command) (mids : List ℕ) (p : Part) : Type 0 where
  pub state : p.state ≡ part_of s c mids
  pub mirrors : p.mirrors ≡ length s.mirrors

-- ---- over whatever rows the tables hold

-- the mirror is called for, or one of these components, which are on named providers, is its own
abbrev pub is_asked_by : Command → List ℕ → List Component → Mirror → Bool
is_asked_by c mids named m = is_called c mids m || list_any (λ k. same_label k.mirror m.name) named

-- The records are what the rows say that are read for the command: of the mirrors, which the whole
-- table says, those that the command calls for, or that own a component on a provider which it
-- names, and all components under their names. So many mirrors are there.
pub record AreSaidFor (db : Trees) (c : Command) (mids : List ℕ) (asked : List Mirror)
    (owned : List Component) (count : ℕ) : Type 0 where
  pub mirrors : List Mirror
  pub named : List Component
  pub mirrors_are : IsPermutation (map (columns_at (shown_places Mirrors)) (db 1))
      (map mirror_shown mirrors)
  pub named_are : IsPermutation (flat_map (shown_under db Provider) (providers_of c))
      (map component_shown named)
  pub asked_are : IsPermutation (filter (is_asked_by c mids named) mirrors) asked
  pub owned_are : IsPermutation (flat_map (shown_under db OfMirror) (map name asked))
      (map component_shown owned)
  pub count_is : count ≡ length (db 1)

-- the part is a state that those rows say
abbrev pub IsSaidFor : Trees → Command → List ℕ → Part → Type 0
IsSaidFor db c mids p =
    IsState p.state × AreSaidFor db c mids p.state.mirrors p.state.components p.mirrors

-- each record that is read is one that the code can be
pub record AreValues {db : Trees} {c : Command} {mids : List ℕ} {asked : List Mirror}
    {owned : List Component} {count : ℕ} (said : AreSaidFor db c mids asked owned count) : Type 0
  where
    pub mirrors : (m : Mirror) → Has said.mirrors m → IsMirrorValue m
    pub named : (k : Component) → Has said.named k → IsComponentValue k

-- the rows say no part that is a state
abbrev pub SaysNoPart : Trees → Command → List ℕ → Type 0
SaysNoPart db c mids = (p : Part) → (said : IsSaidFor db c mids p) → AreValues said.1 → ⊥

-- ---- the form that code goes by

-- the records of the part, in some order
pub record AreAsked (s : Records) (c : Command) (mids : List ℕ) (a : Asked) : Type 0 where
  pub mirrors : IsPermutation (part_of s c mids).mirrors a.mirrors.items
  pub components : IsPermutation (part_of s c mids).components a.components.items
  pub count : a.count ≡ length s.mirrors

-- the rows say no records that the code can be
abbrev pub SayNone : {A : Type 0} → (A → Row) → (A → Type 0) → List Row → Type 0
SayNone {A} shown IsValue rows =
    (list : List A) → ((x : A) → Has list x → IsValue x) → IsPermutation rows (map shown list) → ⊥
