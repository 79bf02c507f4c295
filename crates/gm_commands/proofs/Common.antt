-- The words that this crate's proofs speak in, and its own that the crates above take from here.
-- Declares nothing.
pub use Rattle.hex.specs.Hex.{decode_of, encode_lower, lower_digits}
pub use Rattle.std.proofs.Common.{◌≡◌, ◌∙◌, inl, inr, ℕ, ◌<◌, ◌^◌, Bool, true, refl, sym, ap, arith, List, [], ◌∷◌, ◌++◌, append_assoc, Option, Some, None, IfSome, IsTrue, if◌then◌else◌, suc, zero, ◌/◌, ◌%◌, ◌==◌, nat_lt, length, get_or, lit<, slice_index, Ok, eqb-true, ltb-true, not, append-nil, Result, Err, IfOk, ◌≢◌, ◌+◌, false, true≢false, eq-eqb, ◌&&◌, cond, take, take_all}
pub use Rattle.std.proofs.lemmas.Bool.{cases_Bool, and_parts, and_from, lt-ltb}
pub use Rattle.std.proofs.lemmas.Fmt.{digits_decimal, decimal_injective}
pub use Rattle.std.specs.Fmt.{decimal}
pub use Rattle.std.specs.List.{flat_map, list_all, join_by, join_with_byte}
pub use Rattle.std.specs.Prelude.{⊤, codes}
pub use Rattle.std.specs.Str.{bytes_eq, all_ascii_digits}
pub use Rattle.std.specs.String.{string_bytes}
pub use Rattle.gm_metadata.proofs.Common.{balance_name, is_label, is_label_byte}
pub use Rattle.gm_commands.specs.Commands.{SliceFits, PreferenceFits, balance_of_word, on_where, balance_words, given_switch, preference_words, setting_words, slice_words, number_words, switch_words, spaced, words_of, CommandFits, words, is_key}
pub use Rattle.gm_commands.specs.Sectors.{AreSectors, is_bytes, is_sector, joined}
pub use Rattle.gm_commands.specs.declared.{command.BalanceWord.BalanceWord, command.BalanceWord.TheVariants.Load, command.BalanceWord.TheVariants.Prefer, command.BalanceWord.TheVariants.RoundRobin, command.BalanceWord.TheVariants.Split, command.Command.Command, command.Command.TheVariants.Label, command.Command.TheVariants.Insert, command.Command.TheVariants.Remove, command.Command.TheVariants.Deactivate, command.Command.TheVariants.Activate, command.Command.TheVariants.Forget, command.Command.TheVariants.Rebuild, command.Command.TheVariants.Configure, command.Command.TheVariants.Clear, command.Command.TheVariants.Destroy, command.Command.TheVariants.Lost, command.Command.TheVariants.Advance, command.Command.TheVariants.Adopt, command.Command.TheVariants.Patch, command.NewMirror.NewMirror, command.Preference.Preference, command.Settings.Settings}
