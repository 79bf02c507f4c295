-- The words that this crate's proofs speak in, and its own that the crates above take from here.
-- Declares nothing.
pub use Rattle.std.proofs.Common.{◌≡◌, ◌∙◌, ◌≤◌, inl, inr, ℕ, List, [], ◌∷◌, true, false, cond, Option, Some, refl, ap, arith, Vec, vec_len, length, ◌<◌, ◌+◌, ◌^◌, ◌++◌, ◌⊎◌, ⊎_elim, zero, suc, Bool, None, if◌then◌else◌, min, nat_lt, sym, subst, get_or, take, add-one, true≢false, is_some, ◌==◌, ◌-◌, ◌≢◌, get_or-set_same, get_or-set_other, ◌&&◌, ◌||◌, nat_le, eqb-true, IsSome, reverse, rules, is_ok, map}
pub use Rattle.std.proofs.Math.ListN.{get_or-append, set}
pub use Rattle.std.proofs.Math.Seq.{get_or-append_seam}
pub use Rattle.std.proofs.lemmas.Bool.{cases_lt, cases_Bool, false_from_ne_true}
pub use Rattle.std.proofs.lemmas.Bool.Decides.{nat_tests, eqb_tells, not_from_Decides}
pub use Rattle.std.proofs.lemmas.List.{get_or_past, get_or_default, length-append, get_or-append-add, reverse-append}
pub use Rattle.std.proofs.lemmas.List.Elements.{All-append, All-nil, Contains-get_or, Contains-push_cases}
pub use Rattle.std.proofs.lemmas.List.Sums.{sum_by_more}
pub use Rattle.std.proofs.lemmas.Map.Made.{is_member-Decides, filter_same_pairs}
pub use Rattle.std.proofs.lemmas.Result.{IfOk-weaker}
pub use Rattle.std.specs.BTreeMap.{get, is_at, keys}
pub use Rattle.std.specs.Cmp.Lexicographic.{slice_cmp, texts_ties}
pub use Rattle.std.specs.Option.{option_map}
pub use Rattle.std.specs.Ordering.{nat_cmp, eq_by_cmp}
pub use Rattle.std.specs.Prelude.{IsSomeAnd, Contains, All, unwrap_or, not}
pub use Rattle.std.specs.Set.{is_member}
pub use Rattle.std.specs.declared.{alloc.Global.Global}
pub use Rattle.gm_metadata.proofs.Common.{label_tells, Image, Same, Sizes, zeros, put, label_refl, same_label, is_label}
pub use Rattle.gm_metadata.specs.declared.{label.Label.Label}
pub use Rattle.gm_shelf.specs.Cache.{Disks, IsCache, size_in, held_in, IsOutside}
pub use Rattle.gm_shelf.specs.Disk.{AreNames, View, Elapses, IsQuiet, AreReads, IsLawful, IsAscending, IsPut, Torn, IsWrite, IsFixed, From, IsPutByRun, TornRun, IsRunWrite, Answer, IsRun, put_run}
pub use Rattle.gm_shelf.specs.Entries.{visible}
pub use Rattle.gm_shelf.specs.Folder.{sectors_of, is_one_of}
pub use Rattle.gm_shelf.specs.History.{sector_at, size_after, synced_after, written_after, may_leave_after, seen_after, view_after}
pub use Rattle.gm_shelf.specs.Keeping.{Keeps, ReadsOnly, Looks}
pub use Rattle.gm_shelf.specs.LastSector.{last_of, last_sector, IsDone, WritesLast, OldOrNew}
pub use Rattle.gm_shelf.specs.Lawful.{MayHold, put_tells, holds_seen}
pub use Rattle.gm_shelf.specs.Picks.{picked_value, pick_at, is_unsynced, unsynced_below, unsynced_of, picked_after, IsPicked}
pub use Rattle.gm_shelf.specs.Walks.{IsWalked}
pub use Rattle.gm_shelf.specs.declared.{history.Event.Event, history.Event.TheVariants.Added, history.Event.TheVariants.Wrote, history.Event.TheVariants.Synced, shelf.Shelf.Ghosts}
