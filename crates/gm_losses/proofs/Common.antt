-- The words that this crate's proofs speak in, and its own that the crates above take from here.
-- Declares nothing.
pub use Rattle.std.proofs.Common.{zero, suc, ◌≢◌, ◌≡◌, ◌∙◌, inl, inr, ℕ, ◌+◌, ◌-◌, ◌<◌, ◌≤◌, List, Option, Some, None, sym, ap, arith, ◌⊎◌, ⊎_elim, true, false, refl, subst, [], ◌∷◌, ◌↔◌, ◌++◌, ◌&&◌, append-nil, Bool, length, take, get_or, if◌then◌else◌, ◌||◌, not, nat_lt, filter, find, Ok, IsSome, drop, rules, ◌==◌, IfOk}
pub use Rattle.std.proofs.lemmas.Bool.{cases_lt, cases_order, cases_Bool, and_from, and_parts, eq-eqb, eqb-true, lt-ltb, ltb-true, or_parts, and_left, and_right}
pub use Rattle.std.specs.List.{filter_map, list_all, list_any}
pub use Rattle.std.specs.Option.{option_to_list, is_some}
pub use Rattle.gm_metadata.proofs.Common.{Image, Sizes, zeros, Same, same_label, encoded}
pub use Rattle.gm_lists.proofs.Common.{Has, AscendsBy, label_lt}
pub use Rattle.gm_lists.proofs.Finding.{not_both, any_from, option_cases, some_any, found, found_none}
pub use Rattle.gm_lists.proofs.Lists.{AscendsBy-filter_map, Ascends-filter, Has-filter_map, filter_map-Has, Has-filter, filter-Has}
pub use Rattle.gm_lists.proofs.Order.{differ, same_from, same_is}
pub use Rattle.gm_shelf.proofs.Common.{last_of, ReadsOnly}
pub use Rattle.gm_shelf.proofs.Keeping.{only_then}
pub use Rattle.gm_shelf.specs.Disk.{sector_of}
pub use Rattle.gm_taste.proofs.Common.{behind, state_of, IsMember, IsTasted, SaysOf, verdict}
pub use Rattle.gm_taste.specs.declared.{tasted.Group.Group}
pub use Rattle.gm_state.proofs.Common.{Records, IsOf, metadata, mirror_of, IsState, members, provider}
pub use Rattle.gm_state.specs.declared.{records.Mirror.Mirror}
pub use Rattle.gm_refusals.proofs.Common.{is_on_any, has_size, is_there_and}
pub use Rattle.gm_apply.proofs.Common.{sectors_from, count_differing, IsDifference, IsWithin, reach_of}
pub use Rattle.gm_apply.specs.declared.{differing_data.Difference.Difference}
pub use Rattle.gm_apply.proofs.DifferingSectors.{count_equal, count_some}
pub use Rattle.gm_refusals.specs.Adoptable.{data_of}
pub use Rattle.std.specs.Str.{bytes_eq}
pub use Rattle.gm_looks.proofs.Common.{IsAsRegistered, AreShown, IsShown, IsOfComponent}
pub use Rattle.gm_looks.proofs.Listed.{some_other, has_item, home_found, some_sectors}
pub use Rattle.gm_losses.specs.FreeImages.{AreBlank, IsFirstData, TellsFirst, IsFree, IsFreeImage, TellsLost, is_blank, is_database, lost_of, TellsFree}
pub use Rattle.gm_losses.specs.LeftAmong.{has_member, is_adopted, is_broken, is_named, is_newest, left_as, first_differing, difference_as, is_compared, beside_source, beside_first, differing_as, adopted_as, adopted_of, adopted_among, active_of, is_active_of, is_dirty_beside, is_first_of, is_no_loss, is_torn, is_whole_beside, is_whole_with, sources_among, sources_of}
pub use Rattle.gm_losses.specs.LeftImages.{AreOfMirror, IsBroken, IsLeft, IsOfMirror, IsTorn, Says, is_in_use, is_newer, is_whole}
pub use Rattle.gm_losses.specs.WholeImages.{IsActiveAmong, IsSourceAmong, IsWholeBeside, goes_first}
pub use Rattle.gm_losses.specs.DifferingImages.{IsUnlikeSource}
pub use Rattle.gm_losses.specs.ClearedImages.{IsNeeded, is_needed, is_outdated, needed_by}
pub use Rattle.gm_losses.specs.Losses.{LosesDiffering, LosesMember, AreJust, LosesData, LosesDatabase, LosesLastSector, goes_before, LosesIntact, provider_of, LosesAdopted, LosesLeft, LosesWhole, AreLosses}
pub use Rattle.gm_losses.specs.declared.{free_image.FreeImage.FreeImage, loss.Loss.Loss, loss.Loss.TheVariants.LastSector, loss.Loss.TheVariants.Database, loss.Loss.TheVariants.Data, loss.Loss.TheVariants.Intact, loss.Loss.TheVariants.Left, loss.Loss.TheVariants.Whole, loss.Loss.TheVariants.OnlyCopy, loss.Loss.TheVariants.Differs}
