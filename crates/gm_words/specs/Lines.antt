-- What the lines of texts are made of.
use Rattle.std.specs.Prelude.{ℕ, ◌-◌, Bool, List, [], ◌∷◌, ◌++◌, codes, length, map, replicate, if◌then◌else◌}
use Rattle.std.specs.Borrow.{Bor}
use Rattle.std.specs.Fmt.{decimal}
use Rattle.std.specs.List.{join_by}
use Rattle.gm_metadata.specs.declared.flags.MirrorFlags.{MirrorFlags}
use Rattle.gm_metadata.specs.declared.flags.DiskFlags.{DiskFlags}

-- text that ends with a line feed
abbrev pub line : List ℕ → List ℕ
line text = text ++ 10 ∷ []

-- left in 15 places
abbrev pub left_in_15 : List ℕ → List ℕ
left_in_15 name = name ++ replicate (15 - length name) 32

-- a name and what it stands for
abbrev pub field : List ℕ → List ℕ → List ℕ
field name value = line (name ++ codes ": " ++ value)

abbrev pub number : List ℕ → ℕ → List ℕ
number name value = field name (decimal value)

-- the bytes of each
abbrev pub texts : List (Bor (List ℕ)) → List (List ℕ)
texts names = map (λ name. name.now) names

-- a name if it holds
abbrev pub name_where : Bool → List ℕ → List (List ℕ)
name_where holds name = if holds then name ∷ [] else []

-- the names of the flags that are set
abbrev pub mirror_flag_names : MirrorFlags → List (List ℕ)
mirror_flag_names f = name_where f.no_autosync (codes "NOAUTOSYNC")
    ++ name_where f.no_failsync (codes "NOFAILSYNC")

abbrev pub disk_flag_names : DiskFlags → List (List ℕ)
disk_flag_names f =
    name_where f.dirty (codes "DIRTY") ++ name_where f.synchronizing (codes "SYNCHRONIZING")
    ++ name_where f.force_sync (codes "FORCE_SYNC") ++ name_where f.inactive (codes "INACTIVE")

-- joined by commas, or NONE
abbrev pub joined : List (List ℕ) → List ℕ
joined [] = codes "NONE"
joined (name ∷ names) = join_by (λ x. x) (codes ",") (name ∷ names)
