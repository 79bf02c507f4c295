-- What the last sectors of providers tell: the groups of those that are taken, and the reasons of
-- the others.
use Rattle.std.specs.Prelude.{◌≡◌, ◌↔◌, ℕ, ◌≤◌, Bool, ◌||◌, ◌&&◌, nat_lt, List, Ok, Err}
use Rattle.gm_metadata.specs.Images.{same_label}
use Rattle.gm_metadata.specs.declared.metadata.Metadata.{Metadata}
use Rattle.gm_taste.specs.declared.provider.Provider.{Provider}
use Rattle.gm_taste.specs.declared.tasted.LeftOut.{LeftOut}
use Rattle.gm_taste.specs.declared.tasted.Member.{Member}
use Rattle.gm_taste.specs.declared.tasted.Group.{Group}
use Rattle.gm_taste.specs.declared.tasted.Tasted.{Tasted}
use Rattle.gm_lists.specs.Ordered.{label_lt, Has, AscendsBy, Distinct}
use Rattle.gm_taste.specs.Verdicts.{verdict}
use Rattle.gm_taste.specs.States.{state_of}

-- no two of the providers have one name
abbrev pub DistinctNames : List Provider → Type 0
DistinctNames ps = Distinct (λ p. p.name) ps

-- one of the providers has this name, and is taken to say m
abbrev pub SaysOf : List Provider → List ℕ → Metadata → Type 0
SaysOf ps name m = (p : Provider) × Has ps p × (p.name ≡ name) × (verdict p ≡ Ok m)

-- one of the providers is left out so
abbrev pub IsLeftOut : List Provider → LeftOut → Type 0
IsLeftOut ps x = (p : Provider) × Has ps p × (p.name ≡ x.provider) × (verdict p ≡ Err x.reason)

-- one of the providers is taken to say what x says; it carries the group's name and mid, and x has
-- the state of it there
pub record IsMember (ps : List Provider) (g : Group) (x : Member) : Type 0 where
  pub says : SaysOf ps x.provider x.metadata
  pub name_is : x.metadata.name ≡ g.name
  pub mid_is : x.metadata.mid ≡ g.mid
  pub state_is : x.state ≡ state_of g.genid g.syncid x.metadata

-- n is the greatest number of those members that are meant
pub record IsGreatest (members : List Member) (meant : Member → Type 0) (number : Member → ℕ)
    (n : ℕ) : Type 0 where
  pub reached : (x : Member) × Has members x × meant x × (number x ≡ n)
  pub bound : (x : Member) → Has members x → meant x → number x ≤ n

-- the group of its name and mid: just its members, by provider; the genid is the greatest of all,
-- the syncid the greatest of those that have this genid
pub record IsGroup (ps : List Provider) (g : Group) : Type 0 where
  pub members_are : (x : Member) → Has g.members.items x ↔ IsMember ps g x
  pub members_ascend : AscendsBy (λ x y. label_lt x.provider y.provider) g.members.items
  pub genid_is : IsGreatest g.members.items (λ x. Unit {0}) (λ x. x.metadata.genid) g.genid
  pub syncid_is : IsGreatest g.members.items (λ x. x.metadata.genid ≡ g.genid)
      (λ x. x.metadata.syncid) g.syncid

-- by name, and then by mid
abbrev pub group_lt : Group → Group → Bool
group_lt g h = label_lt g.name h.name || (same_label g.name h.name && nat_lt g.mid h.mid)

-- each group is one; what each taken provider says has its group; the others are left out with
-- their reasons
pub record IsTasted (ps : List Provider) (t : Tasted) : Type 0 where
  pub groups_are : (g : Group) → Has t.groups.items g → IsGroup ps g
  pub all_in_groups : (name : List ℕ) (m : Metadata) → SaysOf ps name m
      → (g : Group) × Has t.groups.items g × (g.name ≡ m.name) × (g.mid ≡ m.mid)
  pub groups_ascend : AscendsBy group_lt t.groups.items
  pub left_are : (x : LeftOut) → Has t.left.items x ↔ IsLeftOut ps x
  pub left_ascend : AscendsBy (λ x y. label_lt x.provider y.provider) t.left.items

-- two lists hold the same providers
abbrev pub SameProviders : List Provider → List Provider → Type 0
SameProviders ps qs = (p : Provider) → Has ps p ↔ Has qs p

-- what a group says, with its members as a list
pub record Seen : Type 0 where
  pub name : List ℕ
  pub mid : ℕ
  pub genid : ℕ
  pub syncid : ℕ
  pub members : List Member

abbrev pub seen : Group → Seen
seen g = record {
  name = g.name;
  mid = g.mid;
  genid = g.genid;
  syncid = g.syncid;
  members = g.members.items;
}
