-- The words that this crate's proofs speak in, and its own that the crates above take from here.
-- Declares nothing.
pub use Rattle.sqlite.specs.Held.{Held}
pub use Rattle.sqlite.specs.Tree.{Trees}
pub use Rattle.std.proofs.Common.{◌≡◌, ◌∙◌, ◌⊎◌, inl, inr, ℕ, Bool, List, [], ◌∷◌, ◌++◌, Option, Result, Ok, Err, refl, sym, ap, subst, subst₂, Some, arith, IsErrAnd, IfErr, append-nil, None, IfSome, IfOk, IsSome, OnSome, ◌≢◌, ◌<◌, ◌≤◌, ◌||◌, ◌+◌, nat_lt, true, false, codes, length, take, replicate, drop, rules, ◌-◌, map, min, Vec, Global}
pub use Rattle.std.proofs.KnownBytes.{Appends-trans, Appends-nil, Keeps-refl}
pub use Rattle.std.proofs.lemmas.List.{append_assoc, length-replicate, length-take, map-append, take-append-drop, take_all, length-drop}
pub use Rattle.std.specs.Io.KnownBytes.{Appends, Keeps}
pub use Rattle.std.specs.Prelude.{OnErr}
pub use Rattle.std.specs.Result.{OnOk}
pub use Rattle.sqlite_trees.specs.declared.{store.Store.Ghosts}
pub use Rattle.gm_metadata.proofs.Common.{Image, Sizes, decode_of}
pub use Rattle.gm_shelf.proofs.Common.{IsLawful, ReadsOnly}
pub use Rattle.gm_commands.specs.declared.{command.Command.Command}
pub use Rattle.gm_state.proofs.Common.{World}
pub use Rattle.gm_state.proofs.Suffixes.{none_left}
pub use Rattle.gm_refusals.proofs.Common.{is_about}
pub use Rattle.gm_rules.proofs.Common.{Step}
pub use Rattle.gm_looks.proofs.Common.{IsUnlike}
pub use Rattle.gm_looks.specs.declared.{unlike.Unlike.Unlike}
pub use Rattle.gm_words.specs.Lines.{texts}
pub use Rattle.gm_lines.proofs.Common.{Asked, Nothing, Wrong, Call, asked, asked_at, IsLine, line_at, asked_of, IsAhead}
pub use Rattle.gm_lines.specs.Asked.{IsAheadIn, IsNext}
pub use Rattle.gm_lines.specs.Input.{BeginsWith}
pub use Rattle.gm_lines.specs.declared.{ahead.Ahead.Ahead}
pub use Rattle.gm_lines.specs.declared.{lines.Line.TheVariants.End, lines.Line.TheVariants.Whole, lines.Line.TheVariants.Long}
pub use Rattle.gm_json.proofs.Common.{mirror_json, status_json}
pub use Rattle.gm_http.proofs.Common.{code_of, IsFromPage, Sends, Asks}
pub use Rattle.gm_rows.proofs.Common.{AreRecordsOf, AreTablesOf}
pub use Rattle.gm_registry.proofs.Common.{DiskKept, HasRoom, StoreFailed, seen, WasClean}
pub use Rattle.gm_registry.proofs.ReadsInTurn.{sees_registry}
pub use Rattle.gm_bench.proofs.Common.{LeavesRun, ArePending, AtRest, Entry, Handed_in, IsButMoved, IsLeftIn, Reached, Stopped, Within, keeps, none, skips, LeavesNext, registry_of, shelf_of, LooksOn, whole, LookDoes, IsAt, LeavesOnly, TakesCommands, IsHandedIn, one_call, Stands, IsStop, SettleDoes, SettleLeaves, TakesNext, phase_of, most_rows, TellsKept}
pub use Rattle.gm_bench.proofs.FactsLookedUp.{honest_to_adopt}
pub use Rattle.gm_bench.proofs.Induction.{accept_stopped, reached_done, run_stopped, settling_stopped, stopped}
pub use Rattle.gm_bench.proofs.Looks.{looked_at}
pub use Rattle.gm_bench.proofs.MovedWorlds.{one_step, stays}
pub use Rattle.gm_bench.proofs.ReadTables.{tables_of, pending_none}
pub use Rattle.gm_bench.proofs.RegistryLeaves.{read_only, then_only}
pub use Rattle.gm_bench.proofs.Standing.{stands_rest, rest_stands, carried_so, carried_records, carried_tables, else_none}
pub use Rattle.gm_bench.proofs.StoreFails.{failed_behind}
pub use Rattle.gm_bench.specs.declared.{answer.Answer.Answer, bench.Bench.Bench, fault.BenchFault.BenchFault, fault.BenchFault.TheVariants.Store, fault.BenchFault.TheVariants.Unreadable, phase.Progress.Progress, phase.Progress.TheVariants.Failed, phase.Progress.TheVariants.Ready, phase.Progress.TheVariants.Pending, phase.Progress.TheVariants.Applied}
pub use Rattle.gm_front.specs.Batch.{Answers, AreAnswered, AreCarriedOut, AreUnsettled, Batches, IsLast, Replies, Stops, AppendsFront, AreFirst, AreLines, AreStanding, HandsIn, IsFarAfterLines, IsFarAtEnd, LeavesLines, progress_at, unsettled_fault, Breaks, Ends}
pub use Rattle.gm_front.specs.BatchRuns.{with_asked, calls_of, StopsAtLine, BatchLeaves}
pub use Rattle.gm_front.specs.Closing.{end_fault, outcome_fault}
pub use Rattle.gm_front.specs.Demands.{Demand, demand_of, TurnedDown, AllMirrors, OneMirror, LastSector, NoCommand, Carry, Told, Responds, told_as, mirror_told}
pub use Rattle.gm_front.specs.Findings.{Fails, LeavesDemand, ComesToFinding, fault_of, told_of, IsPut, withheld_told, demand_in}
pub use Rattle.gm_front.specs.GuardedServices.{FindsUnlessWithheld, FoundBehindLook, HadNothing, HasNothingInTheWay, ServesOrWithholds, TellsOf}
pub use Rattle.gm_front.specs.Guards.{OnlyLooks, StoodInTheWay}
pub use Rattle.gm_front.specs.HandedIn.{AreCarriedBehind, IsAtRestBehind, IsNextStop, IsStoppedAt, IsStoppedSettling, with_calls}
pub use Rattle.gm_front.specs.Heard.{AreHeard, Heard, HearsBatch, Hears, WasTold, answers_heard, handed_at, handed_on}
pub use Rattle.gm_front.specs.Outcomes.{IsAnsweredNext, IsAskedBy, ComesTo, IsFarAfter, IsWaiting, NextComesTo, is_refused, text_of}
pub use Rattle.gm_front.specs.ServedRuns.{calls_in, IsStoppedIn, IsServed, ServedLeaves, ServedUnlessPage}
pub use Rattle.gm_front.specs.Services.{TurnsAway, bytes_of, code_told, page_told, Serves, Tells, ServesUnlessPage}
pub use Rattle.gm_front.specs.Told.{refusal_line}
pub use Rattle.gm_front.specs.declared.{answer_lines.BatchEnd.BatchEnd, answer_lines.FrontFault.FrontFault, answer_lines.FrontFault.TheVariants.Memory, answer_lines.FrontFault.TheVariants.Read, answer_lines.FrontFault.TheVariants.Write, finding.Finding.Finding, outcome.Outcome.Outcome, outcome.Outcome.TheVariants.Answered, service.Response.Response}
