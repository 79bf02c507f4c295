-- Which member a mirror takes its data from when it is taken over from its images.
use Rattle.std.specs.Prelude.{◌≡◌, ◌⊎◌, ◌<◌, ℕ, Bool, true, false, not, ◌||◌, ◌&&◌, ◌==◌, nat_lt, List, [], ◌∷◌, Option, Some, None, option_map, if◌then◌else◌}
use Rattle.std.specs.List.{list_any}
use Rattle.gm_taste.specs.declared.tasted.Member.{Member}
use Rattle.gm_taste.specs.declared.tasted.Group.{Group}
use Rattle.gm_lists.specs.Ordered.{label_lt, Has}
use Rattle.gm_taste.specs.States.{is_active}

-- a has the greater priority, or as great a one and no greater name
abbrev pub GoesFirst : Member → Member → Type 0
GoesFirst a b =
    (b.metadata.priority < a.metadata.priority)
    ⊎ ((b.metadata.priority ≡ a.metadata.priority) × (label_lt b.provider a.provider ≡ false))

-- of those with P the ACTIVE one that goes first; none if none is ACTIVE
abbrev pub IsFirst : (Member → Type 0) → Option Member → Type 0
IsFirst P None = (x : Member) → P x → is_active x.state ≡ true → ⊥
IsFirst P (Some b) = P b × (is_active b.state ≡ true) × ((x : Member) → P x
    → is_active x.state ≡ true → GoesFirst b x)

-- r names the source of the group's data
abbrev pub IsSource : Group → Option (List ℕ) → Type 0
IsSource g r = (o : Option Member) × IsFirst (Has g.members.items) o
    × (r ≡ option_map (λ x. x.provider) o)

-- ---- the same as a function, which texts and code go by

-- by priority, and then by name
abbrev pub goes_before : Member → Member → Bool
goes_before a b =
    nat_lt b.metadata.priority a.metadata.priority
    || (a.metadata.priority == b.metadata.priority && label_lt a.provider b.provider)

-- an ACTIVE one takes the place of the first so far, if that isn't there or it goes before it
abbrev pub takes_place : Option Member → Member → Bool
takes_place None x = is_active x.state
takes_place (Some known) x = is_active x.state && goes_before x known

abbrev pub first_of_two : Option Member → Member → Option Member
first_of_two known x = if takes_place known x then Some x else known

-- the first of the one so far and these
abbrev pub first_from : Option Member → List Member → Option Member
first_from known [] = known
first_from known (x ∷ xs) = first_from (first_of_two known x) xs

abbrev pub source_of : Group → Option (List ℕ)
source_of g = option_map (λ x. x.provider) (first_from None g.members.items)

-- ---- which members have the mirror's data for sure

-- it is ACTIVE, and doesn't say DIRTY
abbrev pub is_sure : Member → Bool
is_sure x = is_active x.state && not x.metadata.dflags.dirty

-- at least one of the group is
abbrev pub has_sure_member : Group → Bool
has_sure_member g = list_any is_sure g.members.items
