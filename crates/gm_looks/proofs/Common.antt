-- The words that this crate's proofs speak in, and its own that the crates above take from here.
-- Declares nothing.
pub use Rattle.std.proofs.Common.{◌≡◌, ◌≢◌, ◌∙◌, inl, inr, ⊎_elim, ℕ, ◌*◌, ◌<◌, ◌-◌, ◌≤◌, ◌==◌, ◌||◌, ◌&&◌, not, nat_lt, Bool, true, false, if◌then◌else◌, refl, sym, ap, subst, arith, List, [], Some, None, Result, Ok, Err, Option, ◌++◌, append_assoc, ◌⊎◌, zero, suc, ◌+◌, ◌∷◌, length, take, get_or, eq-eqb, option_map, Contains, IsSome, ◌↔◌, append-nil, map, rules, IfNone, IfSome, flat_map}
pub use Rattle.std.proofs.lemmas.Bool.{cases_Bool, and_parts, cases_order, lt-ltb, le-ltb, ne_eqb, not-true}
pub use Rattle.std.proofs.lemmas.List.{take_more, take_all}
pub use Rattle.std.specs.Fmt.{decimal}
pub use Rattle.std.specs.Option.{option_and_then, unwrap_or}
pub use Rattle.std.specs.Prelude.{OnOk, codes}
pub use Rattle.std.specs.String.{string_bytes}
pub use Rattle.gm_metadata.proofs.Common.{Image, Sizes, decode_of, encoded, IsMetadata, same_label, label_tells, Same, zeros}
pub use Rattle.gm_metadata.specs.declared.{metadata.Metadata.Metadata}
pub use Rattle.gm_lists.proofs.Common.{Has, Ascends, label_lt, Distinct}
pub use Rattle.gm_lists.proofs.Finding.{find_one, found, option_cases}
pub use Rattle.gm_lists.proofs.Lists.{Has-push, filter-Has, AscendsBy-map, Has-map, map-Has}
pub use Rattle.gm_lists.proofs.Order.{same_from, same_is, lt_other, lt_trans, lt_differ}
pub use Rattle.gm_shelf.proofs.Common.{last_of, last_sector, AreNames, ReadsOnly}
pub use Rattle.gm_shelf.proofs.Keeping.{only_then}
pub use Rattle.gm_shelf.proofs.LastRead.{last_there, last_read}
pub use Rattle.gm_taste.proofs.Common.{state_of, IsMember, IsTasted, judged, names_own, own_name, own_size, verdict, DistinctNames}
pub use Rattle.gm_taste.specs.declared.{provider.Provider.Provider}
pub use Rattle.gm_state.proofs.Common.{IsOf, at_component, component_of, metadata, mirror_of, IsMirror, IsState, Records, members, name, provider, component_state, state_by, is_active, GoesFirst, IsBest, IsSource, IsSourceOf, goes_first, lends_to}
pub use Rattle.gm_state.proofs.TestsTellRules.{member}
pub use Rattle.gm_state.specs.Disks.{disk_flags}
pub use Rattle.gm_state.specs.declared.{intents.Intent.Intent, records.Component.Component, records.Mirror.Mirror}
pub use Rattle.gm_apply.proofs.Common.{IsDifference}
pub use Rattle.gm_apply.proofs.DifferingSectors.{difference_same, count_some}
pub use Rattle.gm_looks.specs.Agreeing.{Agree, AreRegistered, IsRegistered, named}
pub use Rattle.gm_looks.specs.Audits.{IsAsRegistered, IsAudit}
pub use Rattle.gm_looks.specs.Scrubs.{IsActiveOf, IsSourceOfMirror, HasFlaw, IsAskedFor, IsAsSource, IsScrub, MayHaveFlaw}
pub use Rattle.gm_looks.specs.Shown.{IsShown, AreShown}
pub use Rattle.gm_looks.specs.Standings.{IsOfCleared, IsOfComponent, IsOfNamed, ShowsOther, HasAnotherSize, is_newer, is_of_mirror, is_older, said_by, says, unreadable, said_of_mirrors}
pub use Rattle.gm_looks.specs.Texts.{IsTold, AreTold, told_line, intent_line}
pub use Rattle.gm_looks.specs.Unlikes.{IsUnlike, TellsUnlike, is_meant}
pub use Rattle.gm_looks.specs.Words.{without_zero}
pub use Rattle.gm_looks.specs.declared.{scrub.Flaw.Flaw, scrub.Flaw.TheVariants.Uncompared, scrub.Flaw.TheVariants.Differs, scrub.Scrubbed.Scrubbed, standing.Standing.Standing, standing.Standing.TheVariants.AsRegistered, standing.Standing.TheVariants.Absent, standing.Standing.TheVariants.AnotherSize, standing.Standing.TheVariants.Damaged, standing.Standing.TheVariants.AnotherMirror, standing.Standing.TheVariants.AnotherComponent, standing.Standing.TheVariants.Older, standing.Standing.TheVariants.Newer, unlike.Meant.TheVariants.All, unlike.Unlike.Unlike}
