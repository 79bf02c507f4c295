-- How groups are made, as functions: the form by which code and proofs go. The relation is in
-- `Tasted`.
use Rattle.std.specs.Prelude.{◌≡◌, ℕ, Bool, true, ◌&&◌, ◌||◌, ◌==◌, nat_lt, List, [], ◌∷◌, filter, map, Option, Some, None, Result, Ok, Err, if◌then◌else◌}
use Rattle.gm_metadata.specs.Images.{same_label}
use Rattle.gm_metadata.specs.declared.metadata.Metadata.{Metadata}
use Rattle.gm_taste.specs.declared.provider.Provider.{Provider}
use Rattle.gm_taste.specs.declared.tasted.Reason.{Reason}
use Rattle.gm_taste.specs.declared.tasted.LeftOut.{LeftOut}
use Rattle.gm_taste.specs.declared.tasted.Member.{Member}
use Rattle.gm_taste.specs.declared.tasted.Group.{Group}
use Rattle.gm_taste.specs.declared.groups.Taken.{Taken}
use Rattle.gm_taste.specs.declared.groups.Key.{Key}
use Rattle.gm_lists.specs.Ordered.{label_lt, Has, AscendsBy}
use Rattle.gm_taste.specs.Verdicts.{verdict}
use Rattle.gm_taste.specs.States.{state_of}

-- the provider of this name, if it is taken
abbrev pub taken_as : List ℕ → Result Metadata Reason → Option Taken
taken_as name (Ok m) = Some (record { provider = name; metadata = m })
taken_as name (Err reason) = None

abbrev pub taken_by : Provider → Option Taken
taken_by p = taken_as p.name (verdict p)

-- the provider of this name, if it is left out
abbrev pub left_as : List ℕ → Result Metadata Reason → Option LeftOut
left_as name (Ok m) = None
left_as name (Err reason) = Some (record { provider = name; reason = reason })

abbrev pub left_by : Provider → Option LeftOut
left_by p = left_as p.name (verdict p)

-- by name, and then by mid
abbrev pub key_lt : Key → Key → Bool
key_lt a b = label_lt a.name b.name || (same_label a.name b.name && nat_lt a.mid b.mid)

abbrev pub same_key : Key → Key → Bool
same_key a b = same_label a.name b.name && (a.mid == b.mid)

-- what tells the mirror of a taken provider, or of a group
abbrev pub key_in : Taken → Key
key_in t = record { name = t.metadata.name; mid = t.metadata.mid }

abbrev pub key_of : Group → Key
key_of g = record { name = g.name; mid = g.mid }

abbrev pub is_of : Key → Taken → Bool
is_of k t = same_key (key_in t) k

-- the greatest of n and the numbers of those that are meant
abbrev pub raised : (Taken → Bool) → (Taken → ℕ) → ℕ → List Taken → ℕ
raised meant number n [] = n
raised meant number n (t ∷ ts) =
    raised meant number (if meant t && nat_lt n (number t) then number t else n) ts

abbrev pub genid_in : List Taken → ℕ
genid_in own = raised (λ t. true) (λ t. t.metadata.genid) 0 own

abbrev pub syncid_in : ℕ → List Taken → ℕ
syncid_in genid own = raised (λ t. t.metadata.genid == genid) (λ t. t.metadata.syncid) 0 own

abbrev pub member : ℕ → ℕ → Taken → Member
member genid syncid t = record {
  provider = t.provider;
  metadata = t.metadata;
  state = state_of genid syncid t.metadata;
}

-- the numbers and the members of a group, made of its own
pub record Made (own : List Taken) (g : Group) : Type 0 where
  pub genid_is : g.genid ≡ genid_in own
  pub syncid_is : g.syncid ≡ syncid_in g.genid own
  pub members_are : g.members.items ≡ map (member g.genid g.syncid) own

-- a group for each key of the taken, made of all that have it, in the order of keys
pub record Grouped (taken : List Taken) (groups : List Group) : Type 0 where
  pub has_one : (g : Group) → Has groups g → (t : Taken) × Has taken t × (key_in t ≡ key_of g)
  pub made : (g : Group) → Has groups g → Made (filter (is_of (key_of g)) taken) g
  pub all_in_groups : (t : Taken) → Has taken t
      → (g : Group) × Has groups g × (key_of g ≡ key_in t)
  pub ascend : AscendsBy (λ g h. key_lt (key_of g) (key_of h)) groups
