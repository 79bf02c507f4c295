-- The words that this crate's proofs speak in, and its own that the crates above take from here.
-- Declares nothing.
pub use Rattle.std.proofs.Common.{◌≡◌, ◌∙◌, ◌==◌, ℕ, Bool, true, refl, sym, ap, subst, List, [], ◌∷◌, find, Some, ◌≢◌, inl, inr, ⊎_elim, ◌+◌, ◌≤◌, ◌<◌, ◌^◌, false, ◌&&◌, nat_lt, arith, length, Option, None, IsSome, is_none, is_some, ltb-true, ltb-false, ◌||◌, ap₂, filter, map, ◌++◌, ◌/◌, ◌%◌, not, unwrap_or, if◌then◌else◌, ◌⊎◌, Result, Ok, Err, slice_index, ◌*◌, drop}
pub use Rattle.std.proofs.lemmas.Bool.{eqb-true, eq-eqb, cases_Bool, and_parts, or_parts, eqb-false, or_left, or_right}
pub use Rattle.std.specs.List.{list_all, list_any, filter_map, cons_option}
pub use Rattle.std.specs.Option.{ForSome, option_map_or}
pub use Rattle.gm_metadata.proofs.Common.{same_label, decode_of, number_at}
pub use Rattle.gm_metadata.specs.declared.{metadata.Metadata.Metadata}
pub use Rattle.gm_lists.proofs.Common.{Has, put_all, Ascends}
pub use Rattle.gm_lists.proofs.Finding.{some_any, any_from, found_none, any_one, any_agree, filter_agree, not_both}
pub use Rattle.gm_lists.proofs.Lists.{Has-filter, filter-Has, Ascends-filter, map-Has, Has-filter_map, Has-map}
pub use Rattle.gm_lists.proofs.Order.{same_from, same_is, same_refl}
pub use Rattle.gm_taste.proofs.Common.{member, genid_in, syncid_in, first_from, verdict, judged, own_name, own_size, taken_as, taken_by, takes_place, first_of_two, raised}
pub use Rattle.gm_taste.specs.declared.{tasted.Member.Member}
pub use Rattle.gm_commands.proofs.Common.{is_bytes}
pub use Rattle.gm_commands.proofs.JoinedSectors.{bytes_are, are_bytes}
pub use Rattle.gm_commands.specs.declared.{command.Command.Command}
pub use Rattle.gm_state.proofs.Common.{Records, IsState, mirror_of, members, name, provider, IsOf, component_of}
pub use Rattle.gm_state.specs.declared.{records.Component.Component, records.Mirror.Mirror}
pub use Rattle.gm_refusals.specs.Adoptable.{found, told, tells_mid, tells_did, tells_did_twice, taken, taken_with, all_taken, is_beside, first_where, source_in, data_of, is_whole, is_like, has_room, has_twice, is_adoptable, is_borne_out, kept_offset, adopted_disk, adopted_syncid, adopted_component, adopted, genid_of, syncid_of, adopted_mirror, found_mids, mid_of}
pub use Rattle.gm_refusals.specs.Applies.{applies, has_wrong_size, is_on_any, reaches_beyond, IsLeast, IsGood, name_of, providers_of, has_mid, takes_mid, is_member_of, members_named, mirror_named, looked_at, is_awaited, awaited, finds_did_twice, has_did, is_about, is_being_filled, is_synchronizing, is_unfit}
pub use Rattle.gm_refusals.specs.Facts.{equals_in, fact_of, last_carries, last_in, size_in}
pub use Rattle.gm_refusals.specs.PartOf.{IsGoodButCount, is_named, is_asked, with_components, part_of, IsPartOf, IsPartToDecide, applies_to_part, any_named, asks_count, is_called}
pub use Rattle.gm_refusals.specs.Refusals.{number_of, own, is_listed, number_of_call}
pub use Rattle.gm_refusals.specs.Seen.{Seen, is_there_and, seen_in, has_size}
pub use Rattle.gm_refusals.specs.WorldFacts.{needed_by, AreFacts, TellEqual, last_of, seen_of}
pub use Rattle.gm_refusals.specs.declared.{refusals.Refusal.Refusal, refusals.Refusal.TheVariants.NoMirror, refusals.Refusal.TheVariants.NameTaken, refusals.Refusal.TheVariants.MidTaken, refusals.Refusal.TheVariants.Absent, refusals.Refusal.TheVariants.ProviderTaken, refusals.Refusal.TheVariants.CarriesMetadata, refusals.Refusal.TheVariants.TooSmall, refusals.Refusal.TheVariants.NotMember, refusals.Refusal.TheVariants.DidTaken, refusals.Refusal.TheVariants.Full, refusals.Refusal.TheVariants.TooManyMirrors, refusals.Refusal.TheVariants.SomeLost, refusals.Refusal.TheVariants.LastActive, refusals.Refusal.TheVariants.AlreadyInactive, refusals.Refusal.TheVariants.NotInactive, refusals.Refusal.TheVariants.NoneLost, refusals.Refusal.TheVariants.Inactive, refusals.Refusal.TheVariants.NotSynchronizing, refusals.Refusal.TheVariants.LastSyncid, refusals.Refusal.TheVariants.LastGenid, refusals.Refusal.TheVariants.NothingGiven, refusals.Refusal.TheVariants.NotAdoptable, refusals.Refusal.TheVariants.WrongSize, refusals.Refusal.TheVariants.NoMetadata, refusals.Refusal.TheVariants.BeingFilled, refusals.Refusal.TheVariants.BeyondEnd}
