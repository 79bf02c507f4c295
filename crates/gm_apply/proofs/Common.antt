-- The words that this crate's proofs speak in, and its own that the crates above take from here.
-- Declares nothing.
pub use Rattle.std.proofs.Common.{◌≡◌, ◌≢◌, ◌∙◌, ◌<◌, ◌≤◌, ◌+◌, ◌-◌, ℕ, zero, suc, List, length, if◌then◌else◌, inl, inr, refl, sym, ap, subst, arith, add-suc, add-zero, add_assoc, true, nat_le, leb-true, Some, ◌&&◌, take, le-leb, lt-ltb, ltb-true, nat_lt, ◌⊎◌, ⊎_elim, [], ◌∷◌, false, ◌++◌, Bool, drop, get_or, take-append-drop, Ok, Err, OnOk, IsErrAnd, subst₂, Option, None, ◌||◌, le-ltb, eqb-true, append-nil, append_assoc, ◌==◌, filter, option_map, rules}
pub use Rattle.std.proofs.lemmas.Bool.{cases_lt, cases_Bool, and_parts, ltb-false, or_parts, or_left, or_right}
pub use Rattle.std.proofs.lemmas.Bool.Decides.{Decides-below_and, same_from_decides, leb_tells, nat_tests, eqb_tells}
pub use Rattle.std.proofs.lemmas.List.{get_or-take, length-take-le, take_more, drop_more, get_or-drop, length-drop, take_all}
pub use Rattle.std.proofs.lemmas.Option.{get_or_from_slice_get, slice_get_within, slice_get-get_or}
pub use Rattle.std.proofs.lemmas.Slice.Eq.{bytes_eq-Decides}
pub use Rattle.std.specs.List.{list_any}
pub use Rattle.std.specs.Prelude.{slice_get, IsSome, IsSomeAnd}
pub use Rattle.std.specs.Str.{bytes_eq}
pub use Rattle.gm_metadata.proofs.Common.{Image, Same, agree, same_label, label_refl, Sizes, SameThere, Bears, IsMetadata, label_tells, zeros, encoded, put}
pub use Rattle.gm_metadata.specs.declared.{label.Label.Label, metadata.Metadata.Metadata}
pub use Rattle.gm_lists.proofs.Common.{Has}
pub use Rattle.gm_lists.proofs.Finding.{not_both, some_any, Has-append_right, any_from, Has-append_left, found, option_cases, find_one}
pub use Rattle.gm_lists.proofs.Lists.{Has-push, filter-Has}
pub use Rattle.gm_lists.proofs.Order.{differ, same_from, same_is}
pub use Rattle.gm_shelf.proofs.Common.{IsRun, View, put_run, IsRunWrite, From, Answer, IsDone, WritesLast, IsPut, Torn, OldOrNew, IsPutByRun, TornRun, Elapses, IsQuiet, Keeps, ReadsOnly}
pub use Rattle.gm_shelf.proofs.Keeping.{keeps_then, only_then}
pub use Rattle.gm_shelf.proofs.Runs.{put_upto}
pub use Rattle.gm_shelf.specs.Disk.{sector_of}
pub use Rattle.gm_state.proofs.Common.{patches, Records, IsState, IsOf, touches, is_last, is_dirty_of, names, is_place, any_copies, Agrees, IsRedo, IsDirt, InOrder, World, Claims, NewClaims, Below, claimed, data_at, dirty_metadata, copies, Says, Lends, IsMeta, LeaveNoDirt, dirty_metadata_of, metadata, metadata_of, is_dirty, is_meta_of, claims, fills, any_fills, InOrderFrom, component_of, AreThere, LeadSomewhere, is_copy, is_patch, AreReadable, name, provider, at_component, mirror_of}
pub use Rattle.gm_state.proofs.PatchFound.{no_dirt_left}
pub use Rattle.gm_state.proofs.Places.{last_at, place_from, placed_by, fills_from, named_fills, dirty_names, place_more, last_named, or_true, meta_names, dirty_is_of, dirty_last, Has-append, last_only, copies_from, filled_by, fills_named, last_fills}
pub use Rattle.gm_state.proofs.ReadableIntents.{copies_kept, fills_data, lent, one_of, unpatched, in_order, copies_data}
pub use Rattle.gm_state.specs.declared.{intents.Intent.Intent, intents.Intent.TheVariants.Patch, intents.Intent.TheVariants.Meta, intents.Intent.TheVariants.Clear, intents.Intent.TheVariants.Copy, intents.Intent.TheVariants.Dirty, records.Component.Component, records.Mirror.Mirror}
pub use Rattle.gm_apply.specs.Calls.{CarriesOut, FillsSynced, HasBytes, WritesFound, WritesPlaces, brought}
pub use Rattle.gm_apply.specs.Continues.{Continues}
pub use Rattle.gm_apply.specs.DifferingData.{IsDifference, IsWithin, count_differing, sectors_from}
pub use Rattle.gm_apply.specs.EqualData.{CountsEqual, IsEqualPart, reach_of}
pub use Rattle.gm_apply.specs.Failing.{IsAbsent}
pub use Rattle.gm_apply.specs.Redo.{with_places, IsUnderWay, is_marked, SomePlacesWritten, IsNew, Before, Marked, Behind, IsPartlyDone, CrashLeaves, PlacesAreNew, Moments, Lays, IsLaid, IsFound, KeepsOthers, LacksProvider, LacksSector, Places, last_of, writes, AgreeBut, is_written, Stage, SomePlacesNew}
pub use Rattle.gm_apply.specs.declared.{differing_data.Difference.Difference}
