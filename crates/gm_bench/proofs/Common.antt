-- The words that this crate's proofs speak in, and its own that the crates above take from here.
-- Declares nothing.
pub use Rattle.sqlite.proofs.StateLemmas.{survives_then}
pub use Rattle.sqlite.specs.Effect.{Database}
pub use Rattle.sqlite.specs.Held.{Held, state}
pub use Rattle.sqlite.specs.Tree.{Trees}
pub use Rattle.std.proofs.Common.{◌≡◌, ◌∙◌, ◌⊎◌, inl, inr, ⊎_elim, ℕ, true, ◌||◌, ◌==◌, refl, sym, subst, List, [], ◌∷◌, Option, Some, None, eqb-true, eq-eqb, ◌≢◌, suc, ◌+◌, ◌<◌, ◌≤◌, false, map, filter, length, ap, arith, true≢false, subst₂, Result, Ok, Err, ◌-◌, ◌++◌, append-nil, if◌then◌else◌, Bool, nat_le, IfOk, ◌&&◌, zero, min, ap₂, unwrap_or, option_map, find, take, get_or, MatchOption, ◌*◌, IsTrue, length-append, ◌^◌, string_bytes, not, append_assoc, nat_lt, ◌/◌, ltb-true, codes, ltb-false, rules, drop}
pub use Rattle.std.proofs.Math.Nat.{min-zero, le-min}
pub use Rattle.std.proofs.lemmas.Bool.{or_cases, or_left, or_right, ne_eqb, cases_Bool, and_parts, or_parts, not-false}
pub use Rattle.std.proofs.lemmas.Bool.Decides.{nat_tests}
pub use Rattle.std.proofs.lemmas.List.{length-map, take_more, append_cancel_left, append_cancel_right, nil_from_length, take_all, drop_more}
pub use Rattle.std.proofs.lemmas.List.Sorted.{IsPermutation-sym, length_permutation, IsPermutation-refl, IsPermutation-cons}
pub use Rattle.std.proofs.lemmas.Result.{on_ok_weaker, on_err_weaker}
pub use Rattle.std.specs.List.{cons_option, list_any, list_all, AllByRecursion, flat_map, join_with_byte}
pub use Rattle.std.specs.List.Sorted.{IsPermutation}
pub use Rattle.std.specs.Option.{option_or}
pub use Rattle.std.specs.Prelude.{IsSomeAnd, IsErrOf, IsSome, IfErr, IfSome, OnOk, IfNone, slice_get, is_some, OnErr}
pub use Rattle.sqlite_trees.specs.declared.{store.Store.Ghosts}
pub use Rattle.gm_metadata.proofs.Common.{Image, Sizes, SameThere, same_label, Bears, Same, agree, zeros, is_label, encoded, IsMetadata, balance_name, is_label_byte}
pub use Rattle.gm_metadata.specs.declared.{metadata.Metadata.Metadata}
pub use Rattle.gm_lists.proofs.Common.{Has, put, Ascends, Distinct}
pub use Rattle.gm_lists.proofs.Finding.{find_one, found, found_none, not_both, option_cases, Has-append_left, some_any, find_none, any_agree, any_from, Has-append_right, none_any}
pub use Rattle.gm_lists.proofs.Lists.{filter-Has, map-Has, Has-map, Has-push, Has-filter}
pub use Rattle.gm_lists.proofs.Order.{same_from, same_is, differ, same_tells, same_refl}
pub use Rattle.gm_lists.proofs.Putting.{put_there, one, put_or, put_stays, length-filter_le}
pub use Rattle.gm_shelf.proofs.Common.{IsLawful, IsQuiet, last_of, Looks, ReadsOnly, View, From}
pub use Rattle.gm_shelf.proofs.InTurn.{quiet_itself, quiet_moment, reads_itself}
pub use Rattle.gm_shelf.proofs.Keeping.{only_then}
pub use Rattle.gm_shelf.specs.declared.{fault.ShelfFault.ShelfFault}
pub use Rattle.gm_commands.proofs.Common.{CommandFits, words_of, is_key, is_bytes, is_sector, PreferenceFits, SliceFits, balance_of_word, balance_words, given_switch, on_where, preference_words, setting_words, slice_words, words}
pub use Rattle.gm_commands.proofs.OneCommand.{same_command}
pub use Rattle.gm_commands.specs.declared.{command.Command.Command, command.Command.TheVariants.Label, command.Command.TheVariants.Adopt, command.Command.TheVariants.Lost, command.Command.TheVariants.Insert, command.Command.TheVariants.Remove, command.Command.TheVariants.Deactivate, command.Command.TheVariants.Activate, command.Command.TheVariants.Forget, command.Command.TheVariants.Rebuild, command.Command.TheVariants.Configure, command.Command.TheVariants.Destroy, command.Command.TheVariants.Advance}
pub use Rattle.gm_state.proofs.Common.{Records, IsState, members, Tables, CommandRow, HoldRecords, answer_row, copied_of, total_of, World, Answered, Sound, ReplyFits, IsAtHand, intent_rows, patch_rows, mirror_of, name, Claims, data_at, IsRedo, present, provider, is_patch, IsPatchWithin, AreReadable, AreSectors, joined, IntentRow, IsOf, names, is_place, component_of, is_last, is_copy, IsCopyWithin, IsReadable, IsOfRange, AreOfOnePatch, is_dirty_of, is_meta_of, copies, any_copies, is_fill_of, StandsBetween, AreOrdered, AreOrderedFrom, lends_to, goes_first, source_among, source_of, IsMirror, held_by, metadata, AreThere, IsMeta, Says, AllSay, Agrees, Below, CopiesData, claimed, has_syncid, mirror_row, component_row, AreAnswers, AreNumbered, InOrder, dirty_metadata, touches, IsDirt, Lends, LeaveNoDirt}
pub use Rattle.gm_state.proofs.EncodedSectors.{bears_one}
pub use Rattle.gm_state.proofs.FoundRecords.{provider_at}
pub use Rattle.gm_state.proofs.PatchFound.{without_patch, no_dirt_left, meta_of_dirt}
pub use Rattle.gm_state.proofs.Places.{place_from, placed_by, Has-append, copied_by, or_true, last_named, copies_from}
pub use Rattle.gm_state.proofs.ReadableIntents.{copies_data, in_order}
pub use Rattle.gm_state.proofs.SameRows.{same_mirror, same_component}
pub use Rattle.gm_state.proofs.SoundClaims.{same_data, some_there, sound_claims}
pub use Rattle.gm_state.proofs.TestsTellRules.{member}
pub use Rattle.gm_state.specs.Records.{held_of}
pub use Rattle.gm_state.specs.declared.{intents.Intent.Intent, intents.Intent.TheVariants.Meta, intents.Intent.TheVariants.Clear, intents.Intent.TheVariants.Copy, intents.Intent.TheVariants.Dirty, intents.Intent.TheVariants.Patch, intents.Reply.Reply, intents.Reply.TheVariants.Plain, intents.Reply.TheVariants.Copied, records.Component.Component, records.Disk.TheVariants.Inactive, records.Disk.TheVariants.InSync, records.Disk.TheVariants.Copying, records.Mirror.Mirror}
pub use Rattle.gm_refusals.proofs.Common.{found_mids, mid_of, tells_mid, told, has_mid, takes_mid, IsPartToDecide, any_named, is_asked, is_called, is_named, part_of, Seen, is_there_and, number_of, number_of_call, IsLeast, seen_of, equals_in, size_in, data_of, source_in, awaited, looked_at, seen_in, AreFacts, TellEqual, needed_by, IsPartOf, applies, is_listed, has_size, name_of, is_member_of, has_twice, IsGood, members_named, is_about}
pub use Rattle.gm_refusals.proofs.PartAgrees.{is_state, whole_is_part}
pub use Rattle.gm_refusals.proofs.SeenAlike.{same_mid, SeeAlike, same_source}
pub use Rattle.gm_refusals.specs.declared.{facts.Fact.Fact, refusals.CallRefusal.TheVariants.NoKey, refusals.CallRefusal.TheVariants.KeyTaken, refusals.CallRefusal.TheVariants.NoRoom, refusals.CallRefusal.TheVariants.ByRules, refusals.Refusal.Refusal, refusals.Refusal.TheVariants.NoMirror, refusals.Refusal.TheVariants.NameTaken, refusals.Refusal.TheVariants.MidTaken, refusals.Refusal.TheVariants.Absent, refusals.Refusal.TheVariants.ProviderTaken, refusals.Refusal.TheVariants.CarriesMetadata, refusals.Refusal.TheVariants.TooSmall, refusals.Refusal.TheVariants.NotMember, refusals.Refusal.TheVariants.DidTaken, refusals.Refusal.TheVariants.Full, refusals.Refusal.TheVariants.TooManyMirrors, refusals.Refusal.TheVariants.SomeLost, refusals.Refusal.TheVariants.LastActive, refusals.Refusal.TheVariants.AlreadyInactive, refusals.Refusal.TheVariants.NotInactive, refusals.Refusal.TheVariants.NoneLost, refusals.Refusal.TheVariants.NotSynchronizing, refusals.Refusal.TheVariants.LastSyncid, refusals.Refusal.TheVariants.LastGenid, refusals.Refusal.TheVariants.NothingGiven, refusals.Refusal.TheVariants.NotAdoptable, refusals.Refusal.TheVariants.WrongSize, refusals.Refusal.TheVariants.NoMetadata, refusals.Refusal.TheVariants.BeingFilled, refusals.Refusal.TheVariants.BeyondEnd}
pub use Rattle.gm_changes.proofs.Common.{reply_to, Changed, Makes, changed_by, intents_of, bytes_of, after, metas, Decides, LeavesPart}
pub use Rattle.gm_changes.specs.declared.change.Further.{Further}
pub use Rattle.gm_registry.specs.Accepting.{RepliesFit}
pub use Rattle.gm_registry.specs.Changes.{with_command, with_further}
pub use Rattle.gm_registry.specs.FittingChanges.{AreFreeInTurn, IsFreeUnderFurther}
pub use Rattle.gm_changes.proofs.FewWritten.{few_members, few_intents, few_put, names_among}
pub use Rattle.gm_rules.proofs.Common.{Call, IsBadCall, Calls, Step, Bad, Plan, answer, CanAnswer, HasPlan, IsItself, IsOwn}
pub use Rattle.gm_rules.proofs.EveryPlan.{every_plan}
pub use Rattle.gm_rules.specs.Series.{AreIntentsOf, DoneFrom, InTurn, IsFirstAnswered, IsSeries, Keyed, SeriesPlan, Steps, answered_on, answers_after, calls_of, keyed_in, keyed_of, last_reply}
pub use Rattle.gm_rules.proofs.StandIn.{reply_told, key, plan, planned, sound, stand_in, hand_moves, hand_told, state_told}
pub use Rattle.gm_apply.proofs.Common.{LacksProvider, LacksSector, CountsEqual, reach_of, Continues, IsPartlyDone, PlacesAreNew, is_marked, Stage, Before, Marked, Behind}
pub use Rattle.gm_looks.proofs.Common.{IsAudit, IsScrub, IsUnlike}
pub use Rattle.gm_looks.proofs.Pushed.{has_left, has_last}
pub use Rattle.gm_rows.proofs.Common.{AreRecordsOf, HoldState, AreTablesOf, no_tables}
pub use Rattle.gm_registry.proofs.Common.{IsFree, is_under, reply_in, count_of, CrashLeavesOnly, settled, with_accepted, command_row, DiskKept, HasSaved, MayLeave, CrashLeaves, HasTables, IsRegistry, LeavesNothingNew, WasClean, with_pending, FitsTables, stored, HasRoom, IsStored, Opens, seen, IsPartFor, IsOpen, MayCarryOver, StoreFailed, IsCarriedOver, IsKnownStore, IsKept}
pub use Rattle.gm_registry.proofs.CallsLeave.{IsSettling, saved}
pub use Rattle.gm_registry.proofs.EitherSchema.{known_first, known_second, first_is_ours, second_is_ours}
pub use Rattle.gm_registry.proofs.Failures.{failed_since}
pub use Rattle.gm_registry.proofs.OneReading.{one_reading}
pub use Rattle.gm_registry.proofs.ReadsInTurn.{sees_registry}
pub use Rattle.gm_registry.proofs.StepsInTurn.{less_room}
pub use Rattle.gm_registry.proofs.Written.{change_held, change_intents, change_commands, change_patches}
pub use Rattle.gm_registry.specs.Registry.{LeavesAlone, Reads, Writes}
pub use Rattle.gm_bench.specs.Accepting.{AreAnswered, AreDone, HasNothingElse, LeavesSteps, OrSteps, WaitsFor, left_by, one_call}
pub use Rattle.gm_bench.specs.AdoptScope.{adopted_from, compared_with}
pub use Rattle.gm_bench.specs.Benches.{progress_of, registry_of, shelf_of, redone_of}
pub use Rattle.gm_bench.specs.Between.{ComesOf, IsBetween, IsOfLoss, IsOfSteps, PendingSince, SaysSince, of_genid}
pub use Rattle.gm_bench.specs.Calls.{HasNothingPending, LooksOn, OnlyLooks, OnlyLooksUp, TellsUnreadable, TellsDisk, most_rows, GoesOn, ClosesOnFault, Keep, TellsOfRecords, TellsStore, TellsUnreadableUnder, rows_for}
pub use Rattle.gm_bench.specs.Keys.{AreFresh, AreReadUnderAll, IsFreeBeside, MayBeTaken, further_keys}
pub use Rattle.gm_bench.specs.Series.{AcceptBegins, AreBegun, AreJudged, ArePlanned, CanGoOn, GoesOnUnder, HasRoomFor, HaveRoomFor, IsFurtherPlan, IsStretchedBy, IsUnplanned, PutsComponents, calls_in, calls_under, further_in, further_of}
pub use Rattle.gm_bench.specs.Faults.{IsBeforeWrites, IsOfOpening, of_store, of_shelf, IsOfRegistry}
pub use Rattle.gm_bench.specs.FoundKeys.{IsExpected, TellsKey, TellsRoom}
pub use Rattle.gm_bench.specs.GivingUp.{IsUnwritten, StaysUnlost, AnswersLoss, AreUntouched, GivesUp, LacksImage, LeavesUndone}
pub use Rattle.gm_bench.specs.Judgements.{IsJudgedOnce, CanBeAccepted, IsJudgedToFit, IsJudgement}
pub use Rattle.gm_bench.specs.KeptCommands.{TellsKept}
pub use Rattle.gm_bench.specs.Leading.{AllLead, AreAmong, whole, Leads, KeepsClaims, EachNewClaims, ClaimsOf}
pub use Rattle.gm_bench.specs.Losing.{remaining, writes_to, dropped, left_to_lay, pending_after, as_left, next_of, HasNext, redirected}
pub use Rattle.gm_bench.specs.Opened.{HoldsKnown, MayBeCarriedOver}
pub use Rattle.gm_bench.specs.Owed.{AcceptAnswers, AcceptLeaves, ApplyDoes, ApplyLeaves, LeavesRun, IsLeft, LookDoes, LookLeaves, RunAnswers, IsOpening, OpenLeaves, SettleDoes, SettleLeaves}
pub use Rattle.gm_bench.specs.Phases.{IsCountOf, series_answer_of, answer_of, phase_carried, phase_of, progress_after, waiting_of, IsUndone, TakesCommands, TakesNext}
pub use Rattle.gm_bench.specs.Planning.{IsPlannedOnce, IsPlanned, IsFitting, IsWorkAtHand, IsDecided, IsPlanAtHand, IsPlanFitting}
pub use Rattle.gm_bench.specs.Presence.{first_absent, AreAtHand, serves, is_present, absent_among, providers_in}
pub use Rattle.gm_bench.specs.Recovering.{IsAt, LeavesOnly, Cover, IsShelfOf, IsCarriedOut, Recovers, IsFound}
pub use Rattle.gm_bench.specs.Running.{IsRun}
pub use Rattle.gm_bench.specs.Schedule.{Phase, Event, Accept_returned, Accept_stopped, Apply_returned, Apply_stopped, Settle_returned, Settle_stopped, Hand_in_returned, Hand_in_stopped, Settle_waiting_returned, Settle_waiting_stopped, Run_returned, Run_stopped, Look_returned, Look_stopped, Open_returned, Open_stopped, Now, none, skips, keeps, Moved, Without_returned, Without_stopped, Without_carrying, Entry, Handed_in, Without, IsButMoved, IsStepWithout, Reached, ArePending, LeavesCommit, IsMove, HasCount, count_in, IsAlone, AreAlone, AcceptOne, IsLeftIn, IsStop, IsRunStop, IsDoneOver, IsOpenOver, IsSoFar, after_answer, after_hand_in, after_run, with_media, Happens, IsStart, Runs, AtRest, OnTheWay, Stopped, Headline, Within, AreStepsTo, IsLastStep, IsNew, WithoutCarries, WithoutDoes, WithoutLeaves}
pub use Rattle.gm_bench.specs.ShelfFacts.{AreEqual, IsFact, Tell, TellSizes, IsHonestToAdopt}
pub use Rattle.gm_bench.specs.Standing.{AreHandedIn, IsHandedIn, Stands, LeavesNext}
pub use Rattle.gm_bench.specs.Stepping.{TakesCommand}
pub use Rattle.gm_bench.specs.Without.{Carries, CanBeCommitted, CanCommit, IsRedirected, Commits, DoesLoss, HasJudged, IsLost, LeavesLoss, LeavesOpened, loss_call, IsNewLoss, AreOfLoss, IsBadLoss, IsJudged, IsKeptLoss, loss_of, number_of_loss, StaysReadable, StayReadableBehind, DoesWithout, KeepsUndone, LacksFirst, LeavesWithout, AreOfWorld}
pub use Rattle.gm_bench.specs.declared.{adopt_scope.Compared.Compared, answer.Accepted.Accepted, answer.SeriesAnswer.SeriesAnswer, answer.Answer.Answer, answer.Answer.TheVariants.Done, answer.Answer.TheVariants.Repeated, answer.Work.Work, bench.Bench.Bench, fault.BenchFault.BenchFault, fault.BenchFault.TheVariants.Closed, fault.BenchFault.TheVariants.Disk, fault.BenchFault.TheVariants.Memory, fault.BenchFault.TheVariants.Store, fault.BenchFault.TheVariants.Unreadable, found_key.FoundKey.FoundKey, judgement.Judgement.Judgement, loss.Judged.Judged, loss.Judged.TheVariants.Refused, loss.Judged.TheVariants.Kept, loss.Judged.TheVariants.New, loss.Loss.Loss, loss.LossRefusal.LossRefusal, loss.LossRefusal.TheVariants.ByCall, loss.LossRefusal.TheVariants.OnlySource, loss.LossRefusal.TheVariants.OnShelf, media.Media.Media, open_without.Without.TheVariants.Opened, phase.Progress.Progress, phase.Progress.TheVariants.Ready, phase.Progress.TheVariants.Pending, phase.Progress.TheVariants.Applied, phase.Progress.TheVariants.Failed, phase.Waiting.Waiting, phase.Waiting.TheVariants.Nothing, plan.Planned.Planned, take_up_without.TakenUp.TakenUp, take_up_without.TakenUp.TheVariants.Carried}
