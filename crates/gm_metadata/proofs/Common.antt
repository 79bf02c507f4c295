-- The words that this crate's proofs speak in, and its own that the crates above take from here.
-- Declares nothing.
pub use Rattle.md5.specs.Md5.{md5}
pub use Rattle.std.proofs.Common.{◌≡◌, ◌≢◌, ◌∙◌, ◌<◌, ◌≤◌, ◌+◌, ℕ, Bool, true, false, not, nat_lt, ◌==◌, refl, sym, ap, subst, arith, List, length, drop, slice_index, true≢false, inl, inr, lit≤, Option, Some, None, Result, Ok, Err, if◌then◌else◌, ◌*◌, ◌%◌, ap₂, [], ◌∷◌, cond, IsTrue, nat_eq, rules, ◌-◌, ◌&&◌, zero, suc, ◌++◌, replicate, lit<, take, append_assoc, length-append, ◌/◌, ◌^◌, get_or, drop-cons, IfOk, ◌⊎◌}
pub use Rattle.std.proofs.Math.Nat.{div-div-eq-div-mul, div-one, pow-suc, le_refl}
pub use Rattle.std.proofs.Math.Seq.{take-append_seam, drop-append_seam, take-length, take-add}
pub use Rattle.std.proofs.lemmas.Bool.Decides.{nat_tests, eqb_tells, not_from_Decides}
pub use Rattle.std.proofs.lemmas.List.{length-take-le, length-drop, drop-replicate, take-append-drop, drop-drop, length-replicate, append-nil, append_cancel_right, get_or-drop, drop-take}
pub use Rattle.std.proofs.lemmas.Simd.{mask_l-mod, length-zip2, tops_compared}
pub use Rattle.std.proofs.lemmas.Slice.Eq.{bytes_eq-Decides}
pub use Rattle.std.specs.Int.{bytes_low_first, byte_at, w8}
pub use Rattle.std.specs.List.{list_all, prefix_len}
pub use Rattle.std.specs.Prelude.{IfErr, MatchResult, IsOk, IfSome}
pub use Rattle.std.specs.Str.{bytes_eq, IsAscii, IsUtf8}
pub use Rattle.gm_metadata.specs.Balance.{balance_code, balance_in, balance_name}
pub use Rattle.gm_metadata.specs.Faults.{fault_number}
pub use Rattle.gm_metadata.specs.Flags.{mirror_bits, disk_bits, mirror_flags_in, disk_flags_in}
pub use Rattle.gm_metadata.specs.Images.{Image, Same, SameThere, Sizes, agree, label_refl, label_tells, put, same_label, zeros}
pub use Rattle.gm_metadata.specs.Labels.{is_label_field, is_label, is_label_byte, padded, name_in, name_len, IsLabelField}
pub use Rattle.gm_metadata.specs.Reading.{is_provider_field, version_in, has_hash, with_settings, with_version, read_as, said, decode_of, provider_in, metadata_in, version_read, encoded, settings_of, fields, reading_of}
pub use Rattle.gm_metadata.specs.Sector.{bytes_at, number_at, carries, HoldsLabel, IsOf, WrongHash, WrongFlags, Stands, Cause, provider_field, provsize_field, IsMetadata, Spells, Full, u32_field, u64_field, Bears, BearsIn, SaidIn, magic}
pub use Rattle.gm_metadata.specs.Versions.{version_numbered, mirror_flags_end, version_number, fields_end, hash_end, CanSay, kept_size}
pub use Rattle.gm_metadata.specs.declared.{balance.Balance.TheVariants.RoundRobin, balance.Balance.TheVariants.Load, balance.Balance.TheVariants.Split, balance.Balance.TheVariants.Prefer, decoding.Reading.Reading, decoding.Settings.Settings, fault.DecodeFault.DecodeFault, fault.DecodeFault.TheVariants.Magic, fault.DecodeFault.TheVariants.Version, fault.DecodeFault.TheVariants.Hash, fault.DecodeFault.TheVariants.Name, fault.DecodeFault.TheVariants.Provider, fault.DecodeFault.TheVariants.Balance, fault.DecodeFault.TheVariants.Flags, fault.DecodeFault.TheVariants.SectorSize, flags.DiskFlags.DiskFlags, flags.MirrorFlags.MirrorFlags, metadata.Metadata.Metadata, version.Version.TheVariants.Two, version.Version.TheVariants.Three, version.Version.TheVariants.Four}
