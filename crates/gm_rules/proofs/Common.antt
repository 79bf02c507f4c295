-- The words that this crate's proofs speak in, and its own that the crates above take from here.
-- Declares nothing.
pub use Rattle.std.proofs.Common.{◌≡◌, ◌≢◌, inl, inr, ℕ, zero, suc, ◌<◌, ◌≤◌, ◌/◌, ◌%◌, ◌==◌, ◌&&◌, true, nat_lt, refl, sym, subst, arith, List, eqb-true, ltb-true, ltb-false, ◌∙◌, ⊎_elim, ◌+◌, false, IsTrue, ap, [], ◌∷◌, length, map, Option, Some, None, unwrap_or, eq-eqb, Bool, filter, ◌⊎◌, not, nat_le, ◌++◌, flat_map, ◌-◌, ◌^◌, ap₂, cond, true≢false, append-nil, find, ◌||◌, is_none, is_some, if◌then◌else◌}
pub use Rattle.std.proofs.Math.Bool.{and-false, or-false}
pub use Rattle.std.proofs.lemmas.Bool.{cases_Bool, and_parts, and_from, or_parts, leb-true, or_left, not-false, lt-ltb, eqb-false, leb-false, not-true, ne_eqb, le-leb}
pub use Rattle.std.proofs.lemmas.Bool.Decides.{nat_tests}
pub use Rattle.std.proofs.lemmas.List.{length-map}
pub use Rattle.std.specs.List.{list_all, list_any, filter_map, cons_option}
pub use Rattle.std.specs.Prelude.{IsSomeAnd, slice_index_or, slice_get}
pub use Rattle.std.specs.Str.{bytes_eq}
pub use Rattle.gm_metadata.proofs.Common.{Image, agree, is_label, same_label, encoded, zeros, carries, Sizes, IsMetadata, Bears}
pub use Rattle.gm_metadata.specs.declared.{metadata.Metadata.Metadata}
pub use Rattle.gm_lists.proofs.Common.{Has, Ascends, put, put_all, without, without_all}
pub use Rattle.gm_lists.proofs.Finding.{none_any, not_both, any_from, any_none, Has-append_right, find_one, any-map, any_one, find_none, option_cases, any_agree, found_none, some_any, some_other, Has-append_left}
pub use Rattle.gm_lists.proofs.Lists.{Has-map, map-Has, Has-filter, filter-Has, Ascends-filter, Has-filter_map, filter_map-Has}
pub use Rattle.gm_lists.proofs.Mapped.{map_id, put-map, filter-map}
pub use Rattle.gm_lists.proofs.Order.{same_from, differ, same_is, lt_differ, same_refl, same_tells}
pub use Rattle.gm_lists.proofs.PutInPlace.{Ascends-put_all}
pub use Rattle.gm_lists.proofs.PutTogether.{put_all_or, put_all_there, length-put_all_le, filter-put_all, filter-put_all_out, put_ordered}
pub use Rattle.gm_lists.proofs.Putting.{length-put_le, filter_swap, filter_id, one, length-filter_le, filter-put, filter-put_out, put_stays, put_or, Ascends-put, length-filter_lt, put_there, put_cases, length-put_same}
pub use Rattle.gm_lists.proofs.Sorting.{all_has}
pub use Rattle.gm_taste.proofs.Common.{member, goes_before, takes_place, first_of_two, first_from, behind, state_of}
pub use Rattle.gm_taste.specs.declared.{groups.Taken.Taken, tasted.Member.Member, tasted.MemberState.MemberState, tasted.MemberState.TheVariants.Active}
pub use Rattle.gm_commands.proofs.Common.{CommandFits, AreSectors, PreferenceFits, SliceFits}
pub use Rattle.gm_commands.specs.declared.{command.Command.Command, command.Command.TheVariants.Label, command.Command.TheVariants.Insert, command.Command.TheVariants.Remove, command.Command.TheVariants.Deactivate, command.Command.TheVariants.Activate, command.Command.TheVariants.Forget, command.Command.TheVariants.Rebuild, command.Command.TheVariants.Configure, command.Command.TheVariants.Destroy, command.Command.TheVariants.Lost, command.Command.TheVariants.Advance, command.Command.TheVariants.Adopt}
pub use Rattle.gm_state.proofs.Common.{held_by, IsMirror, ComponentFits, provider, Records, members, name, component_of, World, Sound, Below, ReplyFits, present, is_active, any_copies, is_dirty_of, is_meta_of, AreOrderedFrom, is_copy, is_fill_of, metadata, Answered, AnswerFits, AreAnswers, source_of, IsState, mirror_of, IsOf, copies, AreThere, is_last, names, is_place, IsMeta, Says, IsAtHand, AreReadable, IsReadable, CopiesData, metadata_of, Claims, claimed, data_at, has_syncid, MirrorFits, is_patch, IsCopyWithin, IsPatchWithin, IsOfRange, AreOrdered, AreOfOnePatch}
pub use Rattle.gm_state.proofs.EncodedSectors.{bears_carries, bears_one, bears_not_zeros}
pub use Rattle.gm_state.proofs.FoundRecords.{new_name, is_member, active_is, named}
pub use Rattle.gm_state.proofs.NoMembers.{no_members}
pub use Rattle.gm_state.proofs.PatchFound.{no_dirt_left, without_patch}
pub use Rattle.gm_state.proofs.Places.{copied_at, last_named, place_from}
pub use Rattle.gm_state.proofs.Presence.{some_and, present_size}
pub use Rattle.gm_state.proofs.SoundClaims.{claims_of, same_data, mirror_found}
pub use Rattle.gm_state.specs.Lookups.{is_inactive, disk_flags}
pub use Rattle.gm_state.specs.Records.{held_of}
pub use Rattle.gm_state.specs.declared.{intents.Intent.Intent, intents.Intent.TheVariants.Clear, intents.Intent.TheVariants.Patch, intents.Intent.TheVariants.Meta, intents.Intent.TheVariants.Dirty, intents.Intent.TheVariants.Copy, records.Component.Component, records.Disk.Disk, records.Disk.TheVariants.Inactive, records.Disk.TheVariants.InSync, records.Disk.TheVariants.Copying, records.Mirror.Mirror}
pub use Rattle.gm_refusals.proofs.Common.{Seen, data_of, is_borne_out, kept_offset, adopted_disk, adopted_syncid, is_there_and, told, tells_did, tells_did_twice, taken, all_taken, genid_of, syncid_of, found, adopted_mirror, adopted_component, adopted, name_of, seen_of, IsGood, is_awaited, source_in, is_whole, is_like, has_room, has_twice, is_adoptable, tells_mid, applies, is_member_of, is_being_filled, is_on_any, is_listed, has_size, awaited, has_wrong_size, looked_at, providers_of, last_carries, last_of, fact_of, size_in, last_in, equals_in, seen_in, own, members_named}
pub use Rattle.gm_refusals.proofs.NothingApplies.{fails_there, not_below, not_at, ends_within, one_more_sync, one_more_loss, none_from, on_one, right_size, there_from}
pub use Rattle.gm_refusals.proofs.TakenProviders.{Fits, is_taken, taken_fits, taken_told, passes_there, where_is, taken_name}
pub use Rattle.gm_changes.proofs.Common.{after, bytes_of, clears, fills, intents_of, metas, reply_to, laid_over, patching, freshened, advanced, holding, reach, clears_of, spare, new_mirror, first_component, active_of, activated, configured, configured_mirror, deactivated, priority_by, rebuilt}
pub use Rattle.gm_changes.proofs.KeptComponents.{Keeps, keeps_either, keeps_id, keeps_where, mapped_members, members_put, put-again, put_mapped, where_of, keeps_freshened, keeps_configured, keeps_deactivated}
pub use Rattle.gm_rules.specs.AbstractCalls.{Call, Calls, IsBadCall, Run}
pub use Rattle.gm_rules.specs.Itself.{IsItself}
pub use Rattle.gm_rules.specs.Step.{NewData, WereBare, CanAnswer, HasPlan, answer, IsOwn, Plan, is_changed, NewAreBare, Bad, Step}
