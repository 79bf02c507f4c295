-- The words that this crate's proofs speak in, and its own that the crates above take from here.
-- Declares nothing.
pub use Rattle.sqlite.specs.Order.{Row, column}
pub use Rattle.sqlite.specs.Tree.{Trees}
pub use Rattle.sqlite_value.proofs.OrderLemmas.{value_cmp-Int, then-Equal}
pub use Rattle.std.proofs.Common.{◌≡◌, ◌∙◌, inl, inr, ℕ, zero, suc, ◌+◌, ◌*◌, ◌/◌, ◌%◌, ◌≤◌, List, [], ◌∷◌, ◌++◌, length, take, drop, refl, sym, ap, arith, length-append, length-drop, append-nil, ℤ, pos, negsuc, ◌<◌, Bool, true, false, ltb, map, min, subst, ◌⊎◌, if◌then◌else◌, get_or, flat_map, All, set, Result, Ok, Err, IfErr, IsErrAnd, subst₂, cond, eqb, ◌≢◌, ◌^◌, IsTrue, Option, Some, None, not, ◌||◌, ◌==◌, eqb-true, IfNone}
pub use Rattle.std.proofs.Math.Nat.{mul-mod_right, mod-add-div', min-eq_left, min-eq_right}
pub use Rattle.std.proofs.Math.Seq.{take-suc}
pub use Rattle.std.proofs.lemmas.Bool.{cases_Bool, cases_lt, ltb-false, true≢false, and_parts}
pub use Rattle.std.proofs.lemmas.List.{take-append-drop, length-take-le, drop-drop, append_assoc, length-map, flat_map_more, map-append, map-set, get_or-map}
pub use Rattle.std.proofs.lemmas.List.Elements.{All-head, All-tail, All-from_recursion}
pub use Rattle.std.proofs.lemmas.List.Sorted.{IsPermutation-sym, length_permutation, IsPermutation-refl, IsPermutation-cons, IsPermutation-swap, IsPermutation-trans, IsPermutation-append, Contains-permutation, IsPermutation-keeps, All-permutation, IsPermutation-map}
pub use Rattle.std.specs.List.{swap, AllByRecursion, list_all}
pub use Rattle.std.specs.List.Sorted.{IsPermutation, IsSortedByKey}
pub use Rattle.std.specs.Ordering.{is_lt, int_cmp, nat_cmp, ordering_then}
pub use Rattle.std.specs.Simd.{first_chunks}
pub use Rattle.sqlite.specs.declared.{types.Value.TheVariants.Int, types.Value.TheVariants.Blob, types.Value.TheVariants.Text, types.Value.TheVariants.Null}
pub use Rattle.sqlite_value.specs.declared.{value.Value.Value}
pub use Rattle.gm_metadata.proofs.Common.{mirror_bits, disk_bits, same_label, is_label}
pub use Rattle.gm_metadata.specs.declared.{flags.MirrorFlags.MirrorFlags}
pub use Rattle.gm_lists.proofs.Common.{Has, Ascends, label_lt}
pub use Rattle.gm_lists.proofs.Sorting.{Has-permutation, sorted_is}
pub use Rattle.gm_state.proofs.Common.{AreSectors, joined, Tables, CommandRow, mirror_row, component_row, patch_rows, Records, MirrorRow, ComponentRow, IntentRow, intent_rows, IsState, members, component_of, IsOf, IsReadable, AreReadable}
pub use Rattle.gm_state.proofs.SameRows.{same_joined}
pub use Rattle.gm_state.specs.declared.{intents.Intent.Intent, intents.Intent.TheVariants.Meta, intents.Intent.TheVariants.Clear, intents.Intent.TheVariants.Copy, intents.Intent.TheVariants.Dirty, intents.Intent.TheVariants.Patch, records.Component.Component, records.Mirror.Mirror}
pub use Rattle.sqlite_rows.proofs.Common.{columns, whole}
pub use Rattle.sqlite_rows.specs.Keeps.{Keeps}
pub use Rattle.gm_rows.specs.Faults.{OnOther, fault_of}
pub use Rattle.gm_rows.specs.Queries.{number_of, is_less, is_greater, IsFirstBy, AreNumbersShown, IsShown, shown_places, AreShown, IsInOrder, IsNumberShown, number_text, query_text, tree_of}
pub use Rattle.gm_rows.specs.ReadableTables.{AreRecordsOf, AreTablesOf, AreRepliesInRange, HoldState, IsInRange}
pub use Rattle.gm_rows.specs.Rows.{command_values, mirror_values, component_values, intent_values, patch_values, about_numbered, about_values}
pub use Rattle.gm_rows.specs.Says.{IsBetween, IsNumber, IsWithin, AreCounted, mirror_shown, component_shown, intent_shown, SayState, RecordsSay, shown_about, IsAbout, ArePatches, Say, TablesSay, RepliesSay}
pub use Rattle.gm_rows.specs.Schema.{about, commands, commands_by_key, commands_by_seq, components, components_by_prov, first_schema, intents, mirrors, mirrors_by_name, no_schema, patches, registry_schema, with_about, with_mirrors}
pub use Rattle.gm_rows.specs.Statements.{drop_about_text, drop_component_text, drop_mirror_text, drop_patches_text, find_command_text, last_command_text, load_texts_text, put_about_text, put_command_text, put_intent_text, put_patch_text, settle_text, upsert_component_text, upsert_mirror_text}
pub use Rattle.gm_rows.specs.Tables.{HasRows, HasCounted, numbers_of, AreNumbered, HasFirstCounted, HasRisingRowids, Holds, HoldsFirst, IsEmpty, IsInside, SeesFirst, SeesRegistry, SeesTables, no_tables}
pub use Rattle.gm_rows.specs.Texts.{about_text, commands_text, components_text, intents_text, mirrors_text, patches_text}
pub use Rattle.gm_rows.specs.Values.{numbered, columns_at, nine, shown_patch, two, six, shown_intent, IsMirrorValue, IsComponentValue, IsIntentValue}
pub use Rattle.gm_rows.specs.declared.{command_numbers.CommandNumbers.CommandNumbers, fetched.Fetched.Fetched, fetched.Table.TheVariants.Mirrors, fetched.Table.TheVariants.Components, fetched.Table.TheVariants.About, fetched.Table.TheVariants.Intents, fetched.Table.TheVariants.Patches}
