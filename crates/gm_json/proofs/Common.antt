-- The words that this crate's proofs speak in, and its own that the crates above take from here.
-- Declares nothing.
pub use Rattle.serde_json.specs.Data.{Data, string}
pub use Rattle.serde_json.specs.View.{items_of, view}
pub use Rattle.serde_json.specs.Written.{has_float, items_have_float}
pub use Rattle.std.proofs.Common.{◌≡◌, ◌∙◌, ℕ, ◌+◌, ◌<◌, List, [], ◌∷◌, ◌++◌, take, length, get_or, map, sym, ap, Bool, true, false, Option, Some, None, refl, flat_map, IfOk, subst, append-nil}
pub use Rattle.std.proofs.lemmas.List.{map-append, map_more}
pub use Rattle.gm_state.proofs.Common.{Records, members, component_state_name}
pub use Rattle.gm_state.specs.Disks.{disk_flags}
pub use Rattle.gm_state.specs.declared.{records.Mirror.Mirror}
pub use Rattle.gm_json.specs.Audits.{audit_data, difference_data, differing, scrub_data, uncompared, difference_of, uncompared_of}
pub use Rattle.gm_json.specs.Checks.{check_data, unlike_data}
pub use Rattle.gm_json.specs.Fields.{text_of}
pub use Rattle.gm_json.specs.Keyed.{in_the_way_data, withheld_data}
pub use Rattle.gm_json.specs.Mirrors.{component_data, mirror_data, standing_component, standing_mirror, status_data, mirror_json, status_json}
pub use Rattle.gm_json.specs.Renewals.{not_renewed_data}
pub use Rattle.gm_json.specs.Shown.{disk_flag_names, held_component, held_data, held_mirror, name_where, shown_component, shown_data, shown_mirror}
pub use Rattle.gm_json.specs.Tastings.{filled_to, left_data, passed_data, tasted_component, tasted_mirror, tasted_with, tasting_data}
