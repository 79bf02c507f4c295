-- The words that this crate's proofs speak in, and its own that the crates above take from here.
-- Declares nothing.
pub use Rattle.sqlite.specs.Held.{Held, state}
pub use Rattle.std.proofs.Common.{◌≡◌, ◌∙◌, inl, inr, ℕ, true, sym, ap, subst, subst₂, List, Option, Some, filter, Bool, false, refl, arith, [], Result, Err, ◌⊎◌, ◌∷◌, ◌++◌, Ok, None, rules, length, ◌+◌, ◌≤◌, ◌<◌, find, map, slice_get, get_or, zero, suc, ⊎_elim}
pub use Rattle.std.proofs.lemmas.Bool.{cases_lt}
pub use Rattle.std.proofs.lemmas.List.{append-nil, append_assoc, length-append, length-map, map-append}
pub use Rattle.std.proofs.lemmas.List.Concat.{flat_map-append}
pub use Rattle.std.specs.Prelude.{IsSome, IfErr, IfOk, IfSome, OnErr}
pub use Rattle.std.specs.Result.{OnOk}
pub use Rattle.std.specs.String.{string_bytes}
pub use Rattle.gm_metadata.proofs.Common.{Image, Sizes, same_label}
pub use Rattle.gm_lists.proofs.Common.{Has, label_lt}
pub use Rattle.gm_lists.proofs.Finding.{find_one, any_from, found, not_both, option_cases, some_any}
pub use Rattle.gm_lists.proofs.Lists.{Ascends-filter, Has-filter, filter-Has, AscendsBy-map, Has-map, map-Has}
pub use Rattle.gm_shelf.proofs.Common.{IsLawful}
pub use Rattle.gm_commands.specs.declared.{command.Command.Command, command.Command.TheVariants.Advance}
pub use Rattle.gm_state.proofs.Common.{IsOf, component_of, Records, IsState, provider, World, Tables, name}
pub use Rattle.gm_state.specs.declared.{records.Component.Component, records.Mirror.Mirror}
pub use Rattle.gm_refusals.specs.declared.{refusals.CallRefusal.CallRefusal, refusals.CallRefusal.TheVariants.NoRoom}
pub use Rattle.gm_rules.proofs.Common.{Call}
pub use Rattle.gm_looks.proofs.Common.{IsAudit}
pub use Rattle.gm_rows.proofs.Common.{AreRecordsOf}
pub use Rattle.gm_registry.proofs.Common.{DiskKept, HasTables, StoreFailed}
pub use Rattle.gm_registry.specs.Fitting.{HasRoom}
pub use Rattle.gm_registry.specs.Registry.{seen}
pub use Rattle.gm_bench.proofs.Common.{registry_of, shelf_of, ClosesOnFault, Keep, LooksOn, TellsOfRecords, TellsStore, progress_of, LookDoes, IsAt, TakesCommands, AreHandedIn, Stands, TakesNext, LeavesNext, LeavesOnly}
pub use Rattle.gm_bench.specs.HandedIn.{HandsInAdvances, HandsInSeries, some_answer}
pub use Rattle.gm_bench.specs.Calls.{rows_for}
pub use Rattle.gm_bench.specs.Phases.{IsCountBy, phase_carried, phase_of}
pub use Rattle.gm_bench.specs.Series.{AreBegun, calls_under}
pub use Rattle.gm_bench.proofs.CarriedOut.{done_at_rest}
pub use Rattle.gm_bench.proofs.Phases.{takes_ready, carried_open}
pub use Rattle.gm_bench.proofs.Standing.{carried_so, stands_rest, carried_records, carried_tables, else_none}
pub use Rattle.gm_bench.specs.declared.{answer.Answer.Answer, answer.Answer.TheVariants.Done, answer.Answer.TheVariants.Repeated, answer.Answer.TheVariants.Refused, answer.SeriesAnswer.SeriesAnswer, bench.Bench.Bench, fault.BenchFault.BenchFault, fault.BenchFault.TheVariants.Absent, fault.BenchFault.TheVariants.Closed, fault.BenchFault.TheVariants.Disk, fault.BenchFault.TheVariants.Memory, fault.BenchFault.TheVariants.Store, phase.Progress.Progress, phase.Progress.TheVariants.Ready, phase.Progress.TheVariants.Failed}
pub use Rattle.gm_sync.specs.Ends.{ComponentEnds, EndsAs, FillsEach, RefusesAs, most_turns, unfilled_at}
pub use Rattle.gm_sync.specs.Faults.{AreCarriedOut, FailsFilling, FailsFillingOn, FailsToSync, FaultLeaves, FaultLeavesFrom, FaultLeavesOn, IsNone, StopsBetween, StopsNext}
pub use Rattle.gm_sync.specs.Filling.{AnswersOn, GoesOnTo, FillsBy, FillsByOn, FillsSo, FillsSoOn, IsRefusedIn, IsAdvanceOn, IsAnsweredOn, IsFilledOn, Refuses, RefusesOn, RefusesOneOf, IsAmiss, FailsAsCalls, Fills, PassesByAudit, Syncs, IsFilledFrom, IsWhole, FailsOn, FillsOn, IsClosedBut, IsAdvanceIn, IsAdvanceOf, AreAsRegistered, AreMirrorsOf, IsPassedOver, IsStill}
pub use Rattle.gm_sync.specs.Scopes.{is_beside, is_beside_at, is_named_beside, is_due, is_filling, is_next, PassesNone, but, has_image, is_component_of, is_one_of, is_passed_over, mirrors_of, next_of}
pub use Rattle.gm_sync.specs.Series.{AllFit, AreKeyedAfter, EachFits, InSeries, IsAnswered, IsLast, IsLastDone, calls_in, key_of, keys_after, up_to_last, used_by, used_for}
pub use Rattle.gm_sync.specs.declared.{fill.ComponentEnd.ComponentEnd, fill.Unfilled.Unfilled, due.Due.Due, passed_over.PassedOver.PassedOver, scope.Scope.Scope, synced.Ending.Ending, synced.Ending.TheVariants.Whole, synced.Synced.Synced}
