-- The images that are left, those that are whole beside a DIRTY source, and those whose data differ
-- from the source's, as a function of what tasting tells and of the data: the form by which code
-- and proofs go. The relations are in `LeftImages`, `WholeImages` and `DifferingImages`.
use Rattle.std.specs.Prelude.{ℕ, zero, suc, Bool, false, true, not, nat_lt, ◌==◌, ◌&&◌, ◌||◌, List, [], ◌∷◌, Option, Some, None, filter, find, if◌then◌else◌}
use Rattle.std.specs.List.{filter_map, list_all, list_any}
use Rattle.std.specs.Option.{option_or}
use Rattle.std.specs.Str.{bytes_eq}
use Rattle.gm_metadata.specs.Images.{Image, Sizes, same_label}
use Rattle.gm_taste.specs.declared.tasted.Group.{Group}
use Rattle.gm_taste.specs.declared.tasted.Member.{Member}
use Rattle.gm_taste.specs.declared.tasted.MemberState.{MemberState}
use Rattle.gm_taste.specs.declared.tasted.MemberState.TheVariants.{Broken}
use Rattle.gm_refusals.specs.Adoptable.{data_of}
use Rattle.gm_apply.specs.DifferingData.{count_differing}
use Rattle.gm_apply.specs.EqualData.{reach_of}
use Rattle.gm_losses.specs.LeftImages.{is_in_use, is_newer, is_whole}
use Rattle.gm_losses.specs.WholeImages.{goes_first}
use Rattle.gm_losses.specs.declared.loss.Loss.{Loss}
use Rattle.gm_losses.specs.declared.loss.Loss.TheVariants.{Differs, Left, Whole}

abbrev pub is_broken : MemberState → Bool
is_broken Broken = true
is_broken _ = false

-- the member is on one of these providers
abbrev pub is_named : List (List ℕ) → Member → Bool
is_named ps x = list_any (λ p. same_label x.provider p) ps

-- a member is on this provider
abbrev pub has_member : List Member → List ℕ → Bool
has_member xs p = list_any (λ x. same_label x.provider p) xs

-- the group has this name, and all of these providers
abbrev pub is_adopted : List ℕ → List (List ℕ) → Group → Bool
is_adopted name ps g = same_label g.name name && list_all (has_member g.members.items) ps

-- it is newer than each member that is on one of these providers
abbrev pub is_newest : List Member → List (List ℕ) → Member → Bool
is_newest xs ps x = list_all (λ y. is_newer x.metadata y.metadata) (filter (is_named ps) xs)

-- ---- the source of members, and who is whole beside it

-- of these members one is ACTIVE
abbrev pub is_active_of : List Member → Member → Bool
is_active_of ys x =
    is_in_use x.metadata && list_all (λ y. not (is_newer y.metadata x.metadata)) ys

abbrev pub active_of : List Member → List Member
active_of ys = filter (is_active_of ys) ys

-- none of these goes before it
abbrev pub is_first_of : List Member → Member → Bool
is_first_of ys x =
    list_all (λ y. not (goes_first y.provider y.metadata x.provider x.metadata)) ys

-- the source of these members, if one is ACTIVE
abbrev pub sources_of : List Member → List Member
sources_of ys = filter (is_first_of (active_of ys)) (active_of ys)

-- that of those on these providers
abbrev pub sources_among : List Member → List (List ℕ) → List Member
sources_among xs ps = sources_of (filter (is_named ps) xs)

-- a source is DIRTY, and has the genid of the member, which is whole
abbrev pub is_dirty_beside : Member → Member → Bool
is_dirty_beside x b = b.metadata.dflags.dirty && (b.metadata.genid == x.metadata.genid)

abbrev pub is_whole_beside : List Member → Member → Bool
is_whole_beside sources x = is_whole x.metadata && list_any (is_dirty_beside x) sources

-- the member is DIRTY, and one of these, with its genid, is whole
abbrev pub is_whole_with : Member → Member → Bool
is_whole_with x y = is_whole y.metadata && (y.metadata.genid == x.metadata.genid)

abbrev pub is_torn : List Member → Member → Bool
is_torn xs x = x.metadata.dflags.dirty && list_any (is_whole_with x) xs

-- ---- what is told of members

-- a member isn't left, though it is of the group
abbrev pub is_no_loss : List Member → List (List ℕ) → Member → Bool
is_no_loss xs ps x = is_named ps x || (is_broken x.state || is_torn xs x)

-- what is said of a member, if it is whole, or left
abbrev pub left_as : List Member → List (List ℕ) → List Member → Member → Option Loss
left_as xs ps sources x =
    if is_whole_beside sources x then Some (Whole x.provider)
    else (if is_no_loss xs ps x then None else Some (Left x.provider (is_newest xs ps x)))

-- ---- what is told of members whose data are read

-- the first of n sectors that differs, or n
abbrev pub first_differing : (ℕ → List ℕ) → (ℕ → List ℕ) → ℕ → ℕ
first_differing a b zero = 0
first_differing a b (suc k) =
    if nat_lt (first_differing a b k) k then first_differing a b k
    else (if bytes_eq (a k) (b k) then suc k else k)

-- what is said of a difference, if there is one
abbrev pub difference_as : List ℕ → ℕ → ℕ → Option Loss
difference_as p sectors first = if sectors == 0 then None else Some (Differs p sectors first)

-- the member is named, and of those that are it is ACTIVE
abbrev pub is_compared : List Member → List (List ℕ) → Member → Bool
is_compared xs ps x = is_named ps x && is_active_of (filter (is_named ps) xs) x

module _ (size : Sizes) (seen : Image) where
  -- what is said of a member beside that source
  abbrev pub beside_source : Member → Member → Option Loss
  beside_source b x =
      let n = reach_of size b.provider x.provider (data_of b.metadata) in
      difference_as x.provider (count_differing (seen b.provider) (seen x.provider) n)
      (first_differing (seen b.provider) (seen x.provider) n)

  abbrev pub beside_first : List Member → Member → Option Loss
  beside_first [] x = None
  beside_first (b ∷ bs) x = beside_source b x

  -- of one that is compared
  abbrev pub differing_as : List Member → List (List ℕ) → List Member → Member → Option Loss
  differing_as xs ps sources x =
      if is_compared xs ps x then beside_first sources x else None

  -- of one that is whole, or left, or else compared
  abbrev pub adopted_as : List Member → List (List ℕ) → List Member → Member → Option Loss
  adopted_as xs ps sources x =
      option_or (left_as xs ps sources x) (differing_as xs ps sources x)

  -- what is said of the group
  abbrev pub adopted_of : List (List ℕ) → Option Group → List Loss
  adopted_of ps None = []
  adopted_of ps (Some g) = filter_map
      (adopted_as g.members.items ps (sources_among g.members.items ps)) g.members.items

  -- of the first group that is adopted
  abbrev pub adopted_among : List Group → List ℕ → List (List ℕ) → List Loss
  adopted_among groups name ps = adopted_of ps (find (is_adopted name ps) groups)
