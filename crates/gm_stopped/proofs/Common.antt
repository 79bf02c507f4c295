-- The words that this crate's proofs speak in. Declares nothing.
pub use Rattle.std.proofs.Common.{◌≡◌, ◌∙◌, ◌⊎◌, ⊎_elim, inl, inr, ℕ, ◌+◌, ◌-◌, ◌<◌, ◌≤◌, ◌==◌, if◌then◌else◌, Bool, true, false, List, [], ◌∷◌, ◌++◌, Option, Some, None, length, take, drop, slice_get, take_all, suc, nat_lt, unwrap_or, sym, ap, subst, refl, arith, rules, get_or}
pub use Rattle.std.proofs.Math.ListN.{drop_of_length-le}
pub use Rattle.std.proofs.Math.Seq.{drop-cons}
pub use Rattle.std.proofs.lemmas.Bool.{le-ltb, lt-ltb}
pub use Rattle.std.proofs.lemmas.List.{take_more}
pub use Rattle.std.proofs.lemmas.Option.{slice_get_past, slice_get_read}
pub use Rattle.gm_metadata.proofs.Common.{Image, Sizes, Same, same_label}
pub use Rattle.gm_lists.proofs.Common.{Has}
pub use Rattle.gm_lists.proofs.Finding.{some_any, Has-append_left, Has-append_right}
pub use Rattle.gm_lists.proofs.Lists.{Has-push}
pub use Rattle.gm_lists.proofs.Order.{same_from, same_is}
pub use Rattle.gm_shelf.proofs.Common.{ReadsOnly}
pub use Rattle.gm_shelf.proofs.Keeping.{only_then}
pub use Rattle.gm_shelf.specs.LastSector.{last_sector}
