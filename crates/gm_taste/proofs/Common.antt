-- The words that this crate's proofs speak in, and its own that the crates above take from here.
-- Declares nothing.
pub use Rattle.std.proofs.Common.{◌≡◌, ◌∙◌, ◌⊎◌, inl, inr, ⊎_elim, ℕ, ◌<◌, Bool, true, false, ◌||◌, ◌&&◌, ◌==◌, nat_lt, refl, sym, ap, subst, arith, List, [], ◌∷◌, Option, Some, None, ◌≤◌, cond, ◌+◌, not, ◌++◌, take, drop, filter, slice_get, IsSortedByKey, ap₂, true≢false, is_lt, is_eq, nat_cmp, Ordering, Less, Equal, Greater, Result, Ok, Err, slice_index, map, suc, length, get_or, rules, option_map}
pub use Rattle.std.proofs.lemmas.Bool.{cases_Bool, and_parts}
pub use Rattle.std.proofs.lemmas.Bool.Decides.{nat_tests}
pub use Rattle.std.proofs.lemmas.List.Sorted.{IsPermutation-sym, ranks_by, sorted_far, answers_always}
pub use Rattle.std.specs.Cmp.{IsStrictWeakOrder, IsTotalOrder}
pub use Rattle.std.specs.Cmp.Lexicographic.{slice_cmp}
pub use Rattle.std.specs.List.{prefix_len, filter_map}
pub use Rattle.std.specs.List.Sorted.{IsPermutation, IsStableByKey, IsSortedBy, IsStableBy, ties}
pub use Rattle.std.specs.Ordering.{ordering_then, ordering_reverse}
pub use Rattle.gm_metadata.proofs.Common.{is_label_field, bytes_at, number_at, carries, version_in, has_hash, is_provider_field, with_settings, with_version, read_as, said, decode_of, mirror_flags_end}
pub use Rattle.gm_metadata.specs.declared.{metadata.Metadata.Metadata}
pub use Rattle.gm_lists.proofs.Common.{label_lt, Has, AscendsBy, Ascends}
pub use Rattle.gm_lists.proofs.Lists.{Has-push, Has-filter, filter-Has, AscendsBy-filter, Has-map, map-Has, AscendsBy-map, Has-filter_map, filter_map-Has, AscendsBy-filter_map}
pub use Rattle.gm_lists.proofs.Order.{lt_trans, lt_irrefl, same_is, same_from}
pub use Rattle.gm_lists.proofs.Sorting.{Has-permutation, sorted_ascends, Has-Contains}
pub use Rattle.gm_taste.specs.Sources.{GoesFirst, IsFirst, goes_before, takes_place, first_of_two, first_from}
pub use Rattle.gm_taste.specs.States.{is_active, state_of, behind}
pub use Rattle.gm_taste.specs.Tasted.{IsMember, IsGroup, IsTasted, SaysOf, SameProviders, Seen, seen, DistinctNames, IsLeftOut, IsGreatest}
pub use Rattle.gm_taste.specs.Tasting.{raised, key_in, key_of, key_lt, same_key, is_of, Made, Grouped, taken_as, taken_by, left_as, left_by, member, genid_in, syncid_in}
pub use Rattle.gm_taste.specs.Verdicts.{is_magic, of_metadata, own_name, own_size, judged, verdict, names_own}
pub use Rattle.gm_taste.specs.declared.{groups.Key.Key, groups.Taken.Taken, provider.Provider.Provider, tasted.Group.Group, tasted.LeftOut.LeftOut, tasted.Member.Member, tasted.Reason.Reason, tasted.Reason.TheVariants.Decode, tasted.Reason.TheVariants.OtherName, tasted.Reason.TheVariants.OtherSize, tasted.Tasted.Tasted}
