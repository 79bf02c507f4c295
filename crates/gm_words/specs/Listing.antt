-- The text of a list.
use Rattle.std.specs.Prelude.{ℕ, ◌*◌, Bool, List, [], ◌∷◌, ◌++◌, codes, flat_map, length, if◌then◌else◌}
use Rattle.std.specs.List.{join_by}
use Rattle.gm_metadata.specs.Balance.{balance_name}
use Rattle.gm_state.specs.declared.records.Mirror.{Mirror}
use Rattle.gm_state.specs.declared.records.Component.{Component}
use Rattle.gm_state.specs.Disks.{disk_flags, held_of}
use Rattle.gm_state.specs.Records.{Records, members}
use Rattle.gm_state.specs.States.{component_state_name, mirror_state_name, state_among, state_by}
use Rattle.gm_words.specs.Lines.{line, field, number, mirror_flag_names, disk_flag_names, joined}

abbrev pub yes_where : Bool → List ℕ
yes_where holds = if holds then codes "yes" else codes "no"

-- which mirror it is, and how it stands with these components
abbrev pub standing_lines : Mirror → List Component → List ℕ
standing_lines m ks =
    field (codes "Mirror") m.name
    ++ field (codes "State") (mirror_state_name (state_among m ks))
    ++ number (codes "Mid") m.mid
    ++ number (codes "All") m.all
    ++ number (codes "Genid") m.genid
    ++ number (codes "Syncid") m.syncid

-- how it is set, and how large it is
abbrev pub setting_lines : Mirror → List ℕ
setting_lines m =
    field (codes "Balance") (balance_name m.balance)
    ++ number (codes "Slice") m.slice
    ++ field (codes "Flags") (joined (mirror_flag_names m.flags))
    ++ number (codes "Mediasize") (512 * m.data_sectors)

-- the lines of a mirror with these components
abbrev pub mirror_lines : Mirror → List Component → List ℕ
mirror_lines m ks = standing_lines m ks ++ setting_lines m
    ++ number (codes "Components") (length ks)

-- the lines of a component
abbrev pub component_lines : Mirror → Component → List ℕ
component_lines m k =
    line (codes "- " ++ k.provider)
    ++ field (codes "  State") (component_state_name (state_by m.flags k.disk))
    ++ number (codes "  Did") k.did
    ++ number (codes "  Priority") k.priority
    ++ number (codes "  Syncid") k.syncid
    ++ field (codes "  Flags") (joined (disk_flag_names (disk_flags k.disk)))
    ++ number (codes "  Offset") (512 * held_of k.disk)
    ++ number (codes "  Provsize") (512 * k.sectors)
    ++ field (codes "  Hardcoded") (yes_where k.hardcoded)

-- a mirror, and below it its components
abbrev pub block : Mirror → List Component → List ℕ
block m ks = mirror_lines m ks ++ flat_map (component_lines m) ks

-- a block for each mirror, with an empty line between them, or that there is none
abbrev pub blocks : (Mirror → List ℕ) → List Mirror → List ℕ
blocks f [] = line (codes "no mirrors")
blocks f (m ∷ ms) = join_by f (line []) (m ∷ ms)

abbrev pub list_text : Records → List ℕ
list_text s = blocks (λ m. block m (members s.components m.name)) s.mirrors
