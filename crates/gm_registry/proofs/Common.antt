-- The words that this crate's proofs speak in, and its own that the crates above take from here.
-- Declares nothing.
pub use Rattle.sqlite.proofs.Callers.{one_permutation, statement_of, runs_as, reads_as, survives_begin, command_of}
pub use Rattle.sqlite.proofs.StateLemmas.{survives_then, survives_weaker}
pub use Rattle.sqlite.specs.Collation.TheVariants.{Binary}
pub use Rattle.sqlite.specs.Command.{Command}
pub use Rattle.sqlite.specs.Command.TheVariants.{Insert, CreateTable, Select, Delete, InsertOr}
pub use Rattle.sqlite.specs.Does.{Does, Tally, lacks_sequence}
pub use Rattle.sqlite.specs.Effect.{Database, is_query, IsDatabase, Reads}
pub use Rattle.sqlite.specs.Given.{IsPlain}
pub use Rattle.sqlite.specs.Held.{Held, state}
pub use Rattle.sqlite.specs.Listing.{understood, reads_listing, if_select, IsSourceOf}
pub use Rattle.sqlite.specs.Order.{Row, column}
pub use Rattle.sqlite.specs.Query.{Output, IsAnswer, output, output_cmp, Query, end, matches_as}
pub use Rattle.sqlite.specs.Rowids.TheVariants.{Chosen}
pub use Rattle.sqlite.specs.Rows.{shown}
pub use Rattle.sqlite.specs.Schema.{Schema}
pub use Rattle.sqlite.specs.Source.TheVariants.{Values}
pub use Rattle.sqlite.specs.State.{CommitsShowing, FailsToQuery, Shown, Survives, State, HasCleanDisk, KeepsCommit, IsUnchanged, IsRolledBack, mode_of, ExecutesInside, KeepsCounts, Shows, Runs, Writes, is_pragma, IsLive}
pub use Rattle.sqlite.specs.Steps.{FailsToCommit}
pub use Rattle.sqlite.specs.Table.{Table}
pub use Rattle.sqlite.specs.Term.{col, op2, lit, Term, holds, Env, op1, eval_all}
pub use Rattle.sqlite.specs.Tree.{Trees}
pub use Rattle.sqlite_catalog.specs.Listing.{IsSound}
pub use Rattle.sqlite_disk.specs.Disk.{MoreFaults}
pub use Rattle.sqlite_rules.proofs.ListLemmas.{all_has, test_has, some_from, contains_had, has_kept, has_filtered, all_from, some_has, has_got}
pub use Rattle.sqlite_rules.proofs.RuleLemmas.{keeps_at}
pub use Rattle.sqlite_rules.proofs.TableLemmas.{put_has, has_put, put_all_keeps}
pub use Rattle.sqlite_rules.specs.Edit.{Edit, is_taken, with_rowid, next_rowid, IsOversized}
pub use Rattle.sqlite_rules.specs.Keys.{conflicts}
pub use Rattle.sqlite_schema.specs.Rules.{are_typed, agree, clashes, differ, equal, guards, references_fit, parent_key, passes, Refers, IsLaidOut, are_present, is_of}
pub use Rattle.sqlite_sql.specs.Catalog.{entry_of}
pub use Rattle.sqlite_sql.specs.Ops.{is_null, is_true}
pub use Rattle.sqlite_sql.specs.Program.{ProgramOverflows, QueryOverflows}
pub use Rattle.sqlite_trees.proofs.ListLemmas.{all_of, map-map, filter-map, IsPermutation-filter, IsPermutation-flat_map}
pub use Rattle.sqlite_trees.specs.Tree.{IsTable, rowid, IsAscending, put_row}
pub use Rattle.sqlite_trees.specs.View.{is_int, IsShaped, IsOrdered}
pub use Rattle.sqlite_typing.specs.Types.{accepts_program}
pub use Rattle.sqlite_value.proofs.OrderLemmas.{value_cmp-Int, value_cmp_total, then-Equal, value_cmp-Null}
pub use Rattle.sqlite_value.specs.Order.{value_cmp}
pub use Rattle.std.proofs.Common.{◌≡◌, Bool, true, false, ◌&&◌, inl, ℕ, pos, List, [], ◌∷◌, map, drop, length, Some, IsPermutation, refl, sym, ap, subst, ◌∙◌, arith, inr, not, IsTrue, Result, Ok, Err, IfOk, IfErr, OnOk, OnErr, IsErrAnd, ◌⊎◌, Option, None, IsSome, ◌≢◌, ◌||◌, ◌==◌, flat_map, filter_map, ⊎_elim, IfSome, find, suc, ◌+◌, ◌≤◌, take, get_or, subst₂, ◌^◌, ◌<◌, ℤ, ◌++◌, zero, filter, nat_lt, eq-eqb, if◌then◌else◌, All, slice_get, min, codes, ltb, bytes_eq, rules, ◌*◌, w64, eqb-true}
pub use Rattle.std.proofs.lemmas.Bool.{true≢false, and_from, false_from_ne_true, and_parts, not-true, cases_Bool, or_right, or_cases, ltb-false, ne_eqb}
pub use Rattle.std.proofs.lemmas.Bool.Decides.{nat_tests}
pub use Rattle.std.proofs.lemmas.Int.{to_z_pos}
pub use Rattle.std.proofs.lemmas.List.{length-take-le, length-map, append_assoc, take_all, map-append}
pub use Rattle.std.proofs.lemmas.List.Elements.{filter_agree}
pub use Rattle.std.proofs.lemmas.List.Sorted.{IsPermutation-sym, IsPermutation-cons, Contains-permutation, sorted_far, length_permutation, IsPermutation-map, IsPermutation-trans, IsPermutation-refl, ranks_by, IsStrictWeakOrder-flip, IsPermutation-middle, IsPermutation-append_right, list_any-IsPermutation, IsPermutation-swap}
pub use Rattle.std.proofs.lemmas.Slice.Eq.{bytes_eq-Decides}
pub use Rattle.std.specs.Cmp.{IsStrictWeakOrder}
pub use Rattle.std.specs.List.{AllByRecursion, Any, list_all, AllZip, list_any}
pub use Rattle.std.specs.List.Sorted.{IsSortedBy}
pub use Rattle.std.specs.Ordering.{is_eq, int_cmp, is_lt}
pub use Rattle.std.specs.Prelude.{⊤, slice_index_or, string_bytes}
pub use Rattle.sqlite.specs.declared.{error.Error.Error, types.Value.Value, types.Value.TheVariants.Null, types.Value.TheVariants.Int, types.Value.TheVariants.Real, types.Value.TheVariants.Text, types.Value.TheVariants.Blob}
pub use Rattle.sqlite_schema.specs.declared.{schema.Constraint.TheVariants.Datatype, schema.Constraint.TheVariants.Unique, schema.Constraint.TheVariants.ForeignKey, schema.Constraint.TheVariants.Check, schema.Constraint.TheVariants.NotNull, schema.Index.Index, schema.Keys.TheVariants.Enforced}
pub use Rattle.sqlite_sql.specs.declared.{ops.BinaryOp.TheVariants.Compare, ops.BinaryOp.TheVariants.Is, ops.CompareOp.TheVariants.Eq}
pub use Rattle.sqlite_trees.specs.declared.{store.Store.Ghosts}
pub use Rattle.gm_metadata.proofs.Common.{same_label, is_label}
pub use Rattle.gm_lists.proofs.Common.{without, Has, put, put_all, without_all, Ascends, label_lt}
pub use Rattle.gm_lists.proofs.Finding.{found_none, option_cases, some_any, Has-append_left, Has-append_right}
pub use Rattle.gm_lists.proofs.Lists.{Has-filter, filter-Has, Has-map, map-Has, Ascends-filter}
pub use Rattle.gm_lists.proofs.Order.{same_from, same_is, lt_irrefl, lt_differ, lt_trans}
pub use Rattle.gm_lists.proofs.Putting.{one, put_there, put_stays, Ascends-put, filter_id}
pub use Rattle.gm_lists.proofs.Sorting.{Has-permutation, permuted_is, Contains-Has}
pub use Rattle.gm_state.proofs.Common.{Tables, MirrorRow, ComponentRow, IntentRow, CommandRow, Records, IsState, name, provider, mirror_row, component_row, intent_rows, intent_row, patch_rows, IsStateOf, joined}
pub use Rattle.gm_state.proofs.SameRows.{same_mirror, same_component}
pub use Rattle.gm_state.proofs.Suffixes.{IsLeft, passed_over}
pub use Rattle.gm_state.specs.declared.{intents.Intent.Intent, intents.Intent.TheVariants.Meta, intents.Intent.TheVariants.Clear, intents.Intent.TheVariants.Copy, intents.Intent.TheVariants.Dirty, intents.Intent.TheVariants.Patch, records.Component.Component, records.Mirror.Mirror}
pub use Rattle.gm_refusals.proofs.Common.{providers_of, is_called, is_asked, part_of}
pub use Rattle.gm_changes.proofs.Common.{Changed, PutsInPlace, changed_by, put_some, without_some}
pub use Rattle.gm_changes.specs.declared.{change.Further.Further}
pub use Rattle.sqlite_rows.proofs.Common.{HasReadOver, columns, whole, TakesMore, LeavesAlone, HasFailedOver}
pub use Rattle.sqlite_rows.proofs.Bags.{keeps_none, keeps_put, keeps_without, key_place, has_key, keeps_same, keeps_filter}
pub use Rattle.sqlite_rows.proofs.Dropping.{clears, none_left, drops}
pub use Rattle.sqlite_rows.proofs.Failing.{is_all_of, IsReadFault, read_fault, store_failed, listing_fault}
pub use Rattle.sqlite_rows.proofs.Finding.{scan, found, overlaid, found_all}
pub use Rattle.sqlite_rows.proofs.Inserting.{gains}
pub use Rattle.sqlite_rows.proofs.KeptUnique.{unique_added}
pub use Rattle.sqlite_rows.proofs.Keyed.{mapped_from, same_value_cmp, has_mapped}
pub use Rattle.sqlite_rows.proofs.Looping.{keeps_on, lasts, SoFar, nothing_yet, goes_as, one_more}
pub use Rattle.sqlite_rows.proofs.NextNumber.{next_fits, number_fits, next_is, fewer_take}
pub use Rattle.sqlite_rows.proofs.Reading.{failed_by, read_at_most, read_by, known_still, read_then_over, failed_then_over, failed_leaves_over, carried_over, known_closer, failed_closer}
pub use Rattle.sqlite_rows.proofs.Refusing.{if_err, on_err, unchanged_has, map_ok, if_ok, under_ok, both_ok, shown_has, alone_ok}
pub use Rattle.sqlite_rows.proofs.Replacing.{not_both, upserts, upsert_stops}
pub use Rattle.sqlite_rows.proofs.SmallRows.{is_no_float, weight, small}
pub use Rattle.sqlite_rows.proofs.Statements.{survives_if, Makes, inside_as, begun, settled_schema, settled_rows, committed, not_committed, rolled, at_inside, keeps_held, kept_itself}
pub use Rattle.sqlite_rows.proofs.Stopping.{inside_fault, IsAllowed, insert_stops, at_once, stays_inside}
pub use Rattle.sqlite_rows.proofs.StoppingCreates.{IsCreatable, create_stops}
pub use Rattle.sqlite_rows.proofs.StoppingDeletes.{clear_stops, delete_stops}
pub use Rattle.sqlite_rows.proofs.ValueLemmas.{ints_differ, ints_equal, cast_null, cast_int, equal_text, texts_equal}
pub use Rattle.sqlite_rows.specs.Keeps.{Keeps}
pub use Rattle.gm_rows.proofs.Common.{about, about_numbered, columns_at, two, IsShown, shown_about, IsAbout, number_of, registry_schema, commands, commands_by_seq, Holds, first_schema, about_values, mirror_values, component_values, intent_values, command_values, patch_values, HoldsFirst, SeesTables, SeesFirst, SeesRegistry, OnOther, patches, drop_about_text, patches_text, mirrors, components, intents, mirrors_by_name, components_by_prov, HasRows, HoldState, HasCounted, IsInside, AreNumbered, numbers_of, about_text, mirrors_text, components_text, intents_text, commands_text, no_schema, with_about, with_mirrors, fault_of, query_text, tree_of, find_command_text, last_command_text, IsFirstBy, settle_text, drop_patches_text, put_command_text, upsert_component_text, drop_mirror_text, drop_component_text, put_intent_text, upsert_mirror_text, put_patch_text, shown_places, AreTablesOf, AreRepliesInRange, IsInRange, mirror_shown, component_shown, TablesSay, RepliesSay, HasRisingRowids, shown_intent, shown_patch, commands_by_key, is_less, is_greater, put_about_text, no_tables, number_text, IsNumberShown, HasFirstCounted, IsEmpty, AreRecordsOf, numbered, nine, IsMirrorValue, IsComponentValue, IsBetween, load_texts_text, SayState, IsInOrder, AreNumbersShown}
pub use Rattle.gm_rows.proofs.CountedNumbers.{AreApart, AreUpTo, all_numbers, counted_up_to, count_from}
pub use Rattle.gm_rows.proofs.ListMembers.{stands_from, has_from, stands_permuted}
pub use Rattle.gm_rows.proofs.ReorderedValues.{same_records, numbered_map, unmapped}
pub use Rattle.gm_rows.proofs.RowsSayRecords.{one_blob, one_mirror, one_component, none_said, read_said, passed_on}
pub use Rattle.gm_rows.proofs.RowsSayTables.{again_shown, text_in, number_in, rows_numbered, mirrors_shown, components_shown, said, nine_picked, says_tables, tables_said, any_tables, any_rows}
pub use Rattle.gm_rows.proofs.TypedRecords.{mirror_value, component_value}
pub use Rattle.gm_rows.specs.declared.{command_numbers.CommandNumber.TheVariants.Count, command_numbers.CommandNumber.TheVariants.Least, command_numbers.CommandNumber.TheVariants.Greatest, fault.StoreFault.TheVariants.Memory, fault.StoreFault.TheVariants.Store, fetched.Table.TheVariants.About, fetched.Table.TheVariants.Mirrors, fetched.Table.TheVariants.Components, fetched.Table.TheVariants.Intents, fetched.Table.TheVariants.Patches}
pub use Rattle.gm_registry.specs.Changes.{mirror_key, component_key, without_mirror, with_mirror, without_component, with_component, with_intents, with_command, with_further, with_patch, without_intents, without_bytes, with_some_mirror, without_components, left_of, with_records, with_change, settled, command_row, with_components, with_bytes, with_pending, without_some_mirror, with_accepted, changed_in, with_entry, row_under, row_of_kind}
pub use Rattle.gm_registry.specs.Fitting.{HasFreeNumber, HasNoComponents, IsPlaced, TakesCommand, TakesComponent, HasRoom, IsUncounted, TakesBytes, TakesIntents, TakesNumbers, TakesMirror, IsUnnumbered, AreShort, TakesPatch}
pub use Rattle.gm_registry.specs.FittingChanges.{AreFreeInTurn, ArePlacedInTurn, FitsEntry, FitsRecords, IsFreeUnderFurther, TakesFurther, without_gone, FitsTables, rows_in}
pub use Rattle.gm_registry.specs.Keys.{under, row_is_under, AreUnder, shown_under, key_text, key_column}
pub use Rattle.gm_registry.specs.Listing.{ShowsList, listed, under_number, tables_of, AllStand, Lists}
pub use Rattle.gm_registry.specs.Opening.{schema_of, about_numbers, IsNumbered, IsAsBefore, IsBeingMade, IsCarriedOver, IsFirstInside, IsOfRegistry, SeesFirstRegistry, SeesFirstStore, HasAbout, HasOurTables, IsKnownStore, no_rows, IsBlank, IsBlankInside, IsInsideOver, IsForeign, IsOfEdition}
pub use Rattle.gm_registry.specs.Opens.{IsStored, Opens}
pub use Rattle.gm_registry.specs.Parts.{is_asked_by, AreSaidFor, SayNone, IsPartFor}
pub use Rattle.gm_registry.specs.Reads.{IsOurSchema, IsOurs, HasRead, HasFailed}
pub use Rattle.gm_registry.specs.Registry.{StoreFailed, ChangesInside, DiskKept, HasTables, WritesGiven, seen, HaveRead, IsOpen, MayLeave, CrashLeaves, CrashLeavesOnly, HasSaved, IsRegistry, LeavesNothingNew, MayCarryOver, WasClean, stored}
pub use Rattle.gm_registry.specs.Replies.{count_of, is_under, reply_in, reply_values, IsKept, IsFree, IsLastOf}
pub use Rattle.gm_registry.specs.Tells.{Queries}
pub use Rattle.gm_registry.specs.declared.{accept.Entry.Entry, components_by_key.Key.Key, components_by_key.Key.TheVariants.Provider, edition.Edition.Edition, edition.Edition.TheVariants.First, edition.Edition.TheVariants.Second, intents.Pending.Pending, intents.Pending.TheVariants.Stays, intents.Pending.TheVariants.Goes}
