-- The words that this crate's proofs speak in. Declares nothing.
pub use Rattle.std.proofs.Common.{◌≡◌, ◌≢◌, ◌∙◌, ◌⊎◌, inl, inr, ⊎_elim, ℕ, zero, suc, ◌<◌, ◌≤◌, ◌+◌, ◌-◌, ◌*◌, ◌/◌, ◌%◌, ◌^◌, ◌==◌, ◌&&◌, ◌||◌, not, nat_le, nat_lt, Bool, true, false, IsTrue, refl, sym, ap, subst, arith, List, [], ◌∷◌, ◌++◌, length, map, filter, flat_map, take, drop, Option, Some, None, Result, Ok, if◌then◌else◌, eq-eqb, eqb-true, unwrap_or, append_assoc, append-nil, length-append, is_some}
pub use Rattle.std.proofs.lemmas.Bool.{cases_Bool, and_parts, and_from, le-leb, ne_eqb, or_left, or_right, not-false, not-true, le-ltb}
pub use Rattle.std.specs.List.{list_any, list_all}
pub use Rattle.std.specs.Prelude.{IfSome}
pub use Rattle.std.specs.Str.{bytes_eq}
pub use Rattle.gm_metadata.proofs.Common.{same_label, is_label, encoded, carries, IsMetadata}
pub use Rattle.gm_metadata.specs.Reading.{decode_of}
pub use Rattle.gm_metadata.specs.declared.metadata.Metadata.{Metadata}
pub use Rattle.gm_lists.proofs.Finding.{any_from, any_one, not_both, Has-append_left, find_none, find_one, found_none, option_cases, some_any, found}
pub use Rattle.gm_lists.proofs.Lists.{Has-map, map-Has, filter-Has, Has-filter}
pub use Rattle.gm_lists.proofs.PutTogether.{put_all_or}
pub use Rattle.gm_lists.proofs.Putting.{put_there, filter_swap, one, put_or, put_stays}
pub use Rattle.gm_lists.proofs.Order.{same_from, same_is, same_refl, differ, same_tells}
pub use Rattle.gm_lists.specs.Ordered.{Has, put, put_all, without, without_all}
pub use Rattle.gm_taste.specs.Tasting.{taken_by}
pub use Rattle.gm_taste.specs.Verdicts.{judged, names_own, own_size}
pub use Rattle.gm_taste.specs.declared.groups.Taken.{Taken}
pub use Rattle.gm_taste.specs.declared.provider.Provider.{Provider}
pub use Rattle.gm_taste.specs.declared.tasted.MemberState.{MemberState}
pub use Rattle.gm_commands.specs.Sectors.{is_bytes}
pub use Rattle.gm_commands.specs.declared.command.Command.{Command}
pub use Rattle.gm_state.proofs.FoundRecords.{new_name, named}
pub use Rattle.gm_state.proofs.Presence.{present_size}
pub use Rattle.gm_state.proofs.TestsTellRules.{member}
pub use Rattle.gm_state.specs.Intents.{IsOf, is_last, is_dirty_of, names}
pub use Rattle.gm_state.specs.Lookups.{component_of, dirty_metadata, held_of, metadata, mirror_of}
pub use Rattle.gm_state.specs.Records.{IsMirror, IsState, Records, members, name, provider}
pub use Rattle.gm_state.specs.World.{Sound, World, present}
pub use Rattle.gm_state.specs.Readable.{is_copy}
pub use Rattle.gm_state.specs.Sources.{source_of}
pub use Rattle.gm_state.specs.declared.intents.Intent.{Intent}
pub use Rattle.gm_state.specs.declared.intents.Intent.TheVariants.{Meta, Clear, Copy, Dirty, Patch}
pub use Rattle.gm_state.specs.declared.intents.Reply.{Reply}
pub use Rattle.gm_state.specs.declared.records.Component.{Component}
pub use Rattle.gm_state.specs.declared.records.Mirror.{Mirror}
pub use Rattle.gm_refusals.specs.Adoptable.{adopted, adopted_mirror, adopted_syncid, source_in, taken}
pub use Rattle.gm_refusals.specs.Applies.{IsGood, applies}
pub use Rattle.gm_refusals.specs.Facts.{last_carries}
pub use Rattle.gm_refusals.specs.Seen.{Seen, is_bearing}
pub use Rattle.gm_refusals.specs.WorldFacts.{last_of, seen_of}
pub use Rattle.gm_changes.specs.After.{activated, active_of, advanced, after, clears, clears_of, filling, intents_of, metas, patching, configured, deactivated, first_component, freshened, holding, on_found, reach, rebuilt, spare}
pub use Rattle.gm_changes.specs.Stretches.{copied_to, to_end}
pub use Rattle.gm_rules.specs.Series.{InTurn, IsSeries, Keyed}
pub use Rattle.gm_rules.specs.Step.{Step}
pub use Rattle.gm_stopped.specs.Leavings.{is_at_most_older, is_of_component, is_of_mirror, says, says_but_losses, says_with, may_be_before_clear, may_be_written, takes_in, is_of_none, is_numbered, was_removed}
pub use Rattle.std.proofs.Math.Seq.{drop-append_seam, take-append_seam}
pub use Rattle.std.proofs.lemmas.List.{length-map}
pub use Rattle.gm_lists.proofs.Common.{Ascends}
pub use Rattle.gm_lists.proofs.Sorting.{has_all}
pub use Rattle.gm_commands.specs.declared.{command.Command.TheVariants.Lost}
pub use Rattle.gm_state.proofs.Common.{Answered}
pub use Rattle.gm_state.proofs.Places.{Has-append, place_from}
pub use Rattle.gm_refusals.specs.declared.{refusals.Refusal.TheVariants.NoMirror}
pub use Rattle.gm_stopped.specs.Losses.{before_loss, before_own, is_member, is_own, passes, stopped_after, stopped_by}
pub use Rattle.gm_stopped.proofs.Walking.{ends_on, passes_on}
pub use Rattle.gm_bench.specs.Between.{IsOfLoss, PendingSince, of_genid, ComesOf, IsBetween, SaysSince}
pub use Rattle.gm_bench.specs.Losing.{redirected, remaining, writes_to}
pub use Rattle.gm_metadata.specs.Images.{Image, Sizes, zeros}
pub use Rattle.gm_state.specs.Rows.{Tables}
pub use Rattle.gm_bench.specs.Leading.{KeepsClaims, Leads, whole}
pub use Rattle.gm_stopped.specs.declared.stopped.Stopped.{Stopped}
pub use Rattle.gm_state.specs.declared.records.Disk.{Disk}
pub use Rattle.gm_state.specs.declared.records.Disk.TheVariants.{Copying}
pub use Rattle.sqlite_trees.specs.declared.store.Store.{Ghosts}
pub use Rattle.sqlite.specs.Held.{Held}
