-- The words that this crate's proofs speak in, and its own that the crates above take from here.
-- Declares nothing.
pub use Rattle.std.proofs.Common.{◌≡◌, ◌∙◌, ◌⊎◌, Option, inl, inr, ⊎_elim, ℕ, Bool, true, false, ◌||◌, refl, sym, ap, ap₂, List, [], ◌∷◌, ◌++◌, filter, find, map, Some, None, subst, ◌≢◌, not, ◌+◌, ◌≤◌, arith, length, cond, suc, true≢false, zero, ◌<◌, add-one, get_or}
pub use Rattle.std.proofs.lemmas.Bool.{cases_Bool, or_parts, or_left, or_right, not-true, and_parts}
pub use Rattle.std.specs.Cmp.Lexicographic.{slice_cmp}
pub use Rattle.std.specs.List.{list_all, list_any, filter_map, cons_option, insert, prefix_len, IsAllAdjacentAnswer, Contains}
pub use Rattle.std.specs.Ordering.{nat_cmp, is_lt, is_eq, ordering_reverse}
pub use Rattle.std.specs.Str.{bytes_eq}
pub use Rattle.gm_metadata.proofs.Common.{same_label, label_tells}
pub use Rattle.gm_lists.specs.Ordered.{Has, Ascends, label_lt, AscendsBy, put, put_all, without, without_all, Distinct, ascending}
