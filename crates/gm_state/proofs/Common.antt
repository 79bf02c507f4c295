-- The words that this crate's proofs speak in, and its own that the crates above take from here.
-- Declares nothing.
pub use Rattle.std.proofs.Common.{◌≡◌, ◌≢◌, ◌∙◌, ℕ, ◌≤◌, List, sym, ap, subst, Some, None, ◌&&◌, inl, inr, Bool, cond, [], ◌∷◌, filter, length, refl, true, false, IsTrue, ◌+◌, ◌<◌, ◌^◌, arith, if◌then◌else◌, take, true≢false, lit≤, ◌⊎◌, ⊎_elim, codes, is_some, ◌-◌, ◌==◌, not, IsSome, nat_lt, Option, eq-eqb, ltb-true, ltb-false, option_map, suc, ◌++◌, find, get_or, nat_le, ◌||◌, eqb-true, rules, ◌*◌, ◌/◌, zero, drop, add-one, drop-cons}
pub use Rattle.std.proofs.lemmas.Bool.{cases_Bool, ne_eqb, not-false, cases_order, and_parts, lt-ltb, le-ltb, not-true, leb-true, or_left, or_right, or_parts, le-leb, or_cases}
pub use Rattle.std.proofs.lemmas.List.Sorted.{IsPermutation-refl, length_permutation, IsPermutation-sym, IsPermutation-trans, answers_always}
pub use Rattle.std.specs.List.{count_by, list_any, list_all, insert}
pub use Rattle.std.specs.Prelude.{IfSome, IsSomeAnd}
pub use Rattle.gm_metadata.proofs.Common.{same_label, zeros, is_label, encoded, IsMetadata, Bears, BearsIn, carries, SameThere, label_tells, Sizes, Image}
pub use Rattle.gm_lists.proofs.Common.{Has, Ascends, label_lt, ascending}
pub use Rattle.gm_lists.proofs.Finding.{found, find_one, found_none, any_one, some_any, not_both, option_cases, any_from, any_none, find_none, find_only, none_any, Has-append_left}
pub use Rattle.gm_lists.proofs.Lists.{Has-filter, filter-Has}
pub use Rattle.gm_lists.proofs.Order.{same_from, same_is, lt_asym, lt_irrefl, same_refl}
pub use Rattle.gm_lists.proofs.Putting.{one, put_insert}
pub use Rattle.gm_lists.proofs.Sorting.{sorted_is, permuted_is, all_has, has_all, ascending_tells, ascending_from, neighbours_answer}
pub use Rattle.gm_commands.proofs.OneCommand.{apart, same_command}
pub use Rattle.gm_state.specs.BestSource.{better, best_of}
pub use Rattle.gm_state.specs.Examples.{gm0, a_img, b_img, records, data_of_gm0, sector_of_a, sector_of_b, cleared, example, without_b, shown_without_b, resized, crowded, misnumbered, unmarked, lacking, overclaiming, example_tables, short_tables, pending_tables}
pub use Rattle.gm_state.specs.Intents.{IsOf, IsDirt, is_dirty_of, is_meta_of, LeaveNoDirt, is_last, copies, fills, names, is_dirty, any_copies, any_fills, is_place, AreThere, touches, claims, patches, AllSay, Lends, InOrder, InOrderFrom, Agrees, IsAtHand, IsMeta, IsRedo, LeadSomewhere, Says}
pub use Rattle.gm_state.specs.Lookups.{component_of, mirror_of, metadata, with_dirty, is_active, at_component, dirty_metadata, dirty_metadata_of, metadata_of}
pub use Rattle.gm_state.specs.Readable.{IsCopyWithin, is_copy, is_patch, IsPatchWithin, StandsBetween, AreOrderedFrom, IsOfRange, AreOfOnePatch, AreSectors, is_fill_of, IsReadable, AreOrdered, AreReadable}
pub use Rattle.gm_state.specs.Records.{Records, IsState, name, provider, IsMirror, members, held_by, IsStateOf, MirrorFits, ComponentFits}
pub use Rattle.gm_state.specs.Rows.{AreRows, mirror_row, component_row, answer_row, copied_of, total_of, CommandRow, ComponentRow, HoldRecords, IntentRow, MirrorRow, Tables, intent_row, intent_rows, joined, patch_rows}
pub use Rattle.gm_state.specs.RuleTests.{is_state, mirror_fits, component_fits, is_current, is_component, is_mirror, are_mirrors, has_own_mid, has_own_did, has_home}
pub use Rattle.gm_state.specs.Sources.{lends_to, goes_first, source_among, source_of, GoesFirst, IsBest, IsSource, IsSourceOf}
pub use Rattle.gm_state.specs.States.{component_state, component_state_name, state_by}
pub use Rattle.gm_state.specs.World.{Answered, AnswerFits, Sound, Below, present, World, CopiesData, ReplyFits, Claims, claimed, has_syncid, data_at, AreAnswers, AreNumbered, NewClaims}
pub use Rattle.gm_state.specs.declared.{intents.Intent.Intent, intents.Intent.TheVariants.Meta, intents.Intent.TheVariants.Clear, intents.Intent.TheVariants.Copy, intents.Intent.TheVariants.Dirty, intents.Intent.TheVariants.Patch, intents.Reply.Reply, intents.Reply.TheVariants.Plain, intents.Reply.TheVariants.Copied, records.Component.Component, records.Disk.Disk, records.Disk.TheVariants.InSync, records.Disk.TheVariants.Inactive, records.Disk.TheVariants.Copying, records.Mirror.Mirror}
