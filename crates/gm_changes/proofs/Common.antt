-- The words that this crate's proofs speak in, and its own that the crates above take from here.
-- Declares nothing.
pub use Rattle.std.proofs.Common.{◌≡◌, ◌∙◌, inl, ℕ, ◌||◌, ◌+◌, ◌≤◌, Bool, true, false, not, nat_lt, refl, sym, ap, ap₂, subst, List, Option, map, Some, None, Result, Ok, Err, is_none, unwrap_or, ◌*◌, inr, arith, [], ◌∷◌, flat_map, length, cond, ◌≢◌, ◌-◌, ◌==◌, filter, ◌<◌, ◌^◌, ◌&&◌, option_map, OnErr, find, if◌then◌else◌, is_some, ⊎_elim, IfSome, drop, get_or, IfNone, ◌++◌, take, rules}
pub use Rattle.std.proofs.lemmas.Bool.{not-false, cases_Bool, ne_eqb, and_parts, not-true, or_parts}
pub use Rattle.std.proofs.lemmas.List.{length-map, drop_more, drop_all}
pub use Rattle.std.specs.List.{list_any, insert, prefix_len}
pub use Rattle.std.specs.Str.{bytes_eq}
pub use Rattle.gm_metadata.proofs.Common.{same_label}
pub use Rattle.gm_lists.proofs.Common.{Has, put, put_all, Ascends, Distinct, without, without_all, label_lt}
pub use Rattle.gm_lists.proofs.Finding.{any_agree, Has-append_left, Has-append_right, option_cases, found, none_any, not_both, found_none, filter_agree, any-map, any_from, any_one, some_any}
pub use Rattle.gm_lists.proofs.Lists.{map-Has, Has-map, filter-Has, Ascends-filter, Has-filter}
pub use Rattle.gm_lists.proofs.Mapped.{map_id, filter-map, put-map, Ascends-map}
pub use Rattle.gm_lists.proofs.Order.{differ, lt_differ, same_from, same_is}
pub use Rattle.gm_lists.proofs.PutInPlace.{Ascends-without_all, Ascends-put_all, left_differs, put_without, placed}
pub use Rattle.gm_lists.proofs.PutTogether.{put_all_there, filter-put_all, put_ordered}
pub use Rattle.gm_lists.proofs.Putting.{length-filter_le, length-filter_lt, one, filter-where, put_all-where, filter-put, filter_swap, filter_id, Ascends-put}
pub use Rattle.gm_lists.proofs.Sorting.{permuted_is, Contains-Has}
pub use Rattle.gm_taste.proofs.Common.{member}
pub use Rattle.gm_taste.specs.declared.{tasted.Member.Member}
pub use Rattle.gm_commands.specs.declared.{command.Command.Command, command.Command.TheVariants.Label, command.Command.TheVariants.Insert, command.Command.TheVariants.Remove, command.Command.TheVariants.Deactivate, command.Command.TheVariants.Activate, command.Command.TheVariants.Forget, command.Command.TheVariants.Rebuild, command.Command.TheVariants.Configure, command.Command.TheVariants.Clear, command.Command.TheVariants.Destroy, command.Command.TheVariants.Lost, command.Command.TheVariants.Advance, command.Command.TheVariants.Adopt, command.Command.TheVariants.Patch, command.NewComponent.NewComponent, command.NewMirror.NewMirror, command.Settings.Settings}
pub use Rattle.gm_state.proofs.Common.{Records, name, provider, mirror_of, World, IsState, members, component_of, is_active, source_of, IsOf, state_by, IsBest, IsSource, IsSourceOf, lends_to, source_among, IsStateOf}
pub use Rattle.gm_state.proofs.FoundRecords.{rules_of, named, provider_at, active_is, home_of, new_name, member_found, few_members, few_all, some_all}
pub use Rattle.gm_state.proofs.NoMembers.{no_members}
pub use Rattle.gm_state.specs.Lookups.{is_inactive, held_of}
pub use Rattle.gm_state.specs.declared.{intents.Intent.TheVariants.Meta, intents.Reply.TheVariants.Copied, records.Component.Component, records.Disk.TheVariants.InSync, records.Disk.TheVariants.Copying, records.Mirror.Mirror}
pub use Rattle.gm_refusals.proofs.Common.{last_carries, Seen, seen_in, has_size, is_there_and, applies, has_wrong_size, looked_at, takes_mid, has_did, finds_did_twice, is_unfit, members_named, awaited, mirror_named, source_in, data_of, is_adoptable, adopted_mirror, adopted, AreFacts, TellEqual, needed_by, seen_of, IsGood, name_of, providers_of, IsPartOf, IsPartToDecide, IsGoodButCount, is_asked, part_of, is_on_any, is_synchronizing, applies_to_part, asks_count, own, size_in, adopted_component, all_taken, IsLeast}
pub use Rattle.gm_refusals.proofs.NothingApplies.{not_at, fails_there, on_one, is_good, none_from, some_from, fits_32, one_more_sync, label_size, is_least, one_more_loss, ends_within, few_data}
pub use Rattle.gm_refusals.proofs.PartAgrees.{find_within, by_names, by_names_state, by_names_of, same_of, chosen, chosen_name, chosen_owner, part_is, is_state, whole_to_decide, same_mirror, same_members, same_component, same_applies}
pub use Rattle.gm_refusals.proofs.TakenProviders.{adopted_on, adopted_mirror_is, fitting, Ascends-adopted, source_found, found_among, fitting_source, more_sectors, taken_name}
pub use Rattle.gm_refusals.specs.declared.{refusals.Refusal.Refusal, refusals.Refusal.TheVariants.NoMirror, refusals.Refusal.TheVariants.NameTaken, refusals.Refusal.TheVariants.MidTaken, refusals.Refusal.TheVariants.Absent, refusals.Refusal.TheVariants.ProviderTaken, refusals.Refusal.TheVariants.CarriesMetadata, refusals.Refusal.TheVariants.TooSmall, refusals.Refusal.TheVariants.NotMember, refusals.Refusal.TheVariants.DidTaken, refusals.Refusal.TheVariants.Full, refusals.Refusal.TheVariants.TooManyMirrors, refusals.Refusal.TheVariants.SomeLost, refusals.Refusal.TheVariants.LastActive, refusals.Refusal.TheVariants.AlreadyInactive, refusals.Refusal.TheVariants.NotInactive, refusals.Refusal.TheVariants.NoneLost, refusals.Refusal.TheVariants.Inactive, refusals.Refusal.TheVariants.NotSynchronizing, refusals.Refusal.TheVariants.LastSyncid, refusals.Refusal.TheVariants.LastGenid, refusals.Refusal.TheVariants.NothingGiven, refusals.Refusal.TheVariants.NotAdoptable, refusals.Refusal.TheVariants.WrongSize, refusals.Refusal.TheVariants.NoMetadata, refusals.Refusal.TheVariants.BeingFilled, refusals.Refusal.TheVariants.BeyondEnd}
pub use Rattle.gm_changes.specs.After.{after, intents_of, new_mirror, first_component, spare, on_found, active_of, metas, patching, activated, advanced, configured, deactivated, freshened, rebuilt, configured_mirror, clears_of, filling, reach, bytes_of, clears, fills, holding, laid_over, priority_by, reply_to}
pub use Rattle.gm_changes.specs.Decides.{Changed, Decides, PutsInPlace, changed_by, Makes, adopting, no_change, put_some, without_some}
pub use Rattle.gm_changes.specs.PartChange.{IsMade, LeavesPart}
