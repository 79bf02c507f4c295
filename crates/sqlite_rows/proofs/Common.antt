-- The words that this crate's proofs speak in, and its own that the crates above take from here.
-- Declares nothing.
pub use Rattle.sqlite.proofs.Callers.{IsPlain, command_of, statement_of, runs_as, one_step, never_commits, unchanged_then, one_permutation}
pub use Rattle.sqlite.proofs.StateLemmas.{survives_then, survives_weaker}
pub use Rattle.sqlite.specs.Cast.{cast_row, cast_all, cast}
pub use Rattle.sqlite.specs.Change.{created, next_tree, KeepsRows}
pub use Rattle.sqlite.specs.Collation.TheVariants.{Binary}
pub use Rattle.sqlite.specs.Command.{Command}
pub use Rattle.sqlite.specs.Command.TheVariants.{CreateTable, Delete, Select, Insert, InsertOr, Update}
pub use Rattle.sqlite.specs.Compile.{table_defined_by}
pub use Rattle.sqlite.specs.Does.{Tally, Does, lacks_sequence, OnRows, due, Concludes, MakesTable}
pub use Rattle.sqlite.specs.Edit.{edit_of}
pub use Rattle.sqlite.specs.Effect.{Database, RefusesToRead, value_rows, IsDatabase, is_query}
pub use Rattle.sqlite.specs.Listing.{understood, reads_listing, listing_schema, IsSourceOf}
pub use Rattle.sqlite.specs.Order.{Row, column}
pub use Rattle.sqlite.specs.Query.{IsAnswer, Query, Output, output, inner, end, matches_as}
pub use Rattle.sqlite.specs.Rowids.TheVariants.{Given, Chosen, Above}
pub use Rattle.sqlite.specs.Rows.{Written, Task, Deletes, stamped, count_of, shown, Judged, Upserts, Meets, Clears, Puts, Updates, nothing, Tries, TriesEach, InsertsOr, rowids_for, Inserts}
pub use Rattle.sqlite.specs.Schema.{Schema}
pub use Rattle.sqlite.specs.Source.TheVariants.{Values}
pub use Rattle.sqlite.specs.State.{State, mode_of, Writes, ExecutesInside, IsNoStatement, Fails, HasCleanDisk, KeepsCommit, Survives, Shown, FailsToQuery, IsUnchanged, IsRolledBack, CommitsShowing, FailsToShow, IsLive, Runs, KeepsCounts, Shows, text_of, shows_rows, is_pragma, Executes, IsMisplaced}
pub use Rattle.sqlite.specs.Table.{Table}
pub use Rattle.sqlite.specs.Term.{Term, col, holds, lit, eval_all, op2}
pub use Rattle.sqlite.specs.Tree.{Trees}
pub use Rattle.sqlite_catalog.specs.Listing.{IsSound, is_fit, is_formed}
pub use Rattle.sqlite_rules.proofs.ActionLemmas.{no_works}
pub use Rattle.sqlite_rules.proofs.ListLemmas.{all_from, test_from, some_has, all_has, some_from, has_filtered, has_kept, test_has}
pub use Rattle.sqlite_rules.proofs.PlaceLemmas.{tied_same, next_is_free}
pub use Rattle.sqlite_rules.proofs.RuleLemmas.{unique_kept, keeps_at}
pub use Rattle.sqlite_rules.proofs.TableLemmas.{put_has, int_is, has_put, put_all_keeps, without_all_has}
pub use Rattle.sqlite_rules.specs.Action.{works, Leads}
pub use Rattle.sqlite_rules.specs.Calls.{ids_of}
pub use Rattle.sqlite_rules.specs.Edit.{is_taken, have_rowids, with_rowid, are_fresh, Applies, numbered, put_all, Edit, left_by, edited, id_in, without_all, next_rowid, IsOversized, is_off, taken_by, IsRefused, is_referred}
pub use Rattle.sqlite_rules.specs.Lists.{Has}
pub use Rattle.sqlite_schema.specs.Rules.{equal, Keeps, agree, differ, guards, clashes, references_fit, Fits, Refers, table_reals, index_reals, passes, Obeys}
pub use Rattle.sqlite_sql.specs.Ops.{is_null, is_true, from_truth, fits_i64}
pub use Rattle.sqlite_sql.specs.Program.{QueryOverflows, ProgramOverflows}
pub use Rattle.sqlite_trees.proofs.ListLemmas.{filter-map, IsPermutation-filter, filter_all, filter_none, all_of, filter_same}
pub use Rattle.sqlite_trees.proofs.TreeLemmas.{IsShaped-filter, IsShaped-put_row}
pub use Rattle.sqlite_trees.specs.Tree.{put_row, rowid, IsAscending, IsTable, with_tree, has_rowid, without_rowid}
pub use Rattle.sqlite_trees.specs.View.{is_int, IsShaped, IsStorable}
pub use Rattle.sqlite_typing.specs.Types.{accepts_program, accepts_terms}
pub use Rattle.sqlite_value.proofs.OrderLemmas.{value_cmp_total, value_cmp-Text, value_cmp-apart, value_cmp-Null}
pub use Rattle.sqlite_value.specs.Keys.{plain}
pub use Rattle.sqlite_value.specs.Order.{value_cmp, exact, number, bytes}
pub use Rattle.std.proofs.Common.{◌≡◌, ℕ, Bool, false, not, List, [], ◌∷◌, map, filter, IsTrue, refl, ap, subst, subst₂, ◌∙◌, IsPermutation, bytes_eq, Option, None, Ok, sym, ◌≢◌, true, ◌⊎◌, inl, inr, ◌&&◌, eqb, length, IsSome, Result, Err, pos, negsuc, cond, ◌++◌, flat_map, ℤ, ◌/◌, drop, MatchBool, ◌||◌, Some, eq-eqb, suc, ◌+◌, ◌<◌, take, get_or, arith, ◌+ℤ◌, ◌^◌, ◌≤◌, fold, nat_lt, IfErr, IfOk, OnOk, OnErr, ap₂, ◌*◌, sum_by, zero, codes, IsUtf8}
pub use Rattle.std.proofs.lemmas.Bool.{true≢false, eqb-true, leb-true, and_parts, false_from_ne_true, ne_eqb, and_from, not-true, cases_Bool}
pub use Rattle.std.proofs.lemmas.List.{append-nil, length-append}
pub use Rattle.std.proofs.lemmas.List.Elements.{filter_agree, All-from_recursion}
pub use Rattle.std.proofs.lemmas.List.Sorted.{IsPermutation-refl, IsPermutation-trans, IsPermutation-cons, IsPermutation-map, IsPermutation-sym, list_any-IsPermutation, IsPermutation-middle}
pub use Rattle.std.specs.List.{AllByRecursion, list_any, list_all}
pub use Rattle.std.specs.Ordering.{is_eq, ordering_reverse, match_ordering, is_ne}
pub use Rattle.std.specs.Prelude.{unwrap_or, nat_le, is_some}
pub use Rattle.sqlite.specs.declared.{error.Error.Error, run.Mode.Mode, types.Value.TheVariants.Text, types.Value.TheVariants.Null, types.Value.TheVariants.Int}
pub use Rattle.sqlite_resolve.specs.declared.{compiled.Compiled.Compiled}
pub use Rattle.sqlite_rules.specs.declared.{error.Refusal.Refusal, error.Refusal.TheVariants.Violates, error.Refusal.TheVariants.Mismatch, error.Refusal.TheVariants.NoRowid, error.Refusal.TheVariants.BadReference, error.Refusal.TheVariants.TooDeep}
pub use Rattle.sqlite_schema.specs.declared.{command.Returning.Returning, program.Program.Program, schema.Among.TheVariants.All, schema.Constraint.TheVariants.Unique, schema.Constraint.TheVariants.Datatype, schema.Constraint.TheVariants.NotNull, schema.Constraint.TheVariants.Check, schema.Constraint.TheVariants.PrimaryKey, schema.Constraint.TheVariants.ForeignKey, schema.Index.Index, schema.Keys.Keys, schema.Keys.TheVariants.Enforced}
pub use Rattle.sqlite_value.specs.declared.{value.Value.Value, value.Value.TheVariants.Real, value.Value.TheVariants.Blob}
pub use Rattle.std.specs.declared.{cmp.Ordering.Ordering, cmp.Ordering.TheVariants.Less, cmp.Ordering.TheVariants.Equal, cmp.Ordering.TheVariants.Greater}
pub use Rattle.sqlite_rows.specs.Calls.{IsInside, Holds, HasRecords}
pub use Rattle.sqlite_rows.specs.Keeps.{columns, whole}
pub use Rattle.sqlite_rows.specs.Numbers.{AreUpTo, TakesMore}
pub use Rattle.sqlite_rows.specs.Reads.{HasReadOver, HasFailedOver, LeavesAlone}
