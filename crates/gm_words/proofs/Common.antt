-- The words that this crate's proofs speak in, and its own that the crates above take from here.
-- Declares nothing.
pub use Rattle.clap.proofs.WalkLemmas.{both, raw_values-rows, first_value-rows}
pub use Rattle.clap.specs.Faults.{built_fault, check_fault, defaults_fault, entered_fault, level_fault, settle_fault, step_fault, turn_fault, word_fault, repeat_fault}
pub use Rattle.clap.specs.Kinds.{Kinds, or_else}
pub use Rattle.clap.specs.Simple.{App, Shape, built, entered, names_of, built_leaf, inherited, label_of, matches_of}
pub use Rattle.clap.specs.Walk.{Row, Text, Held, Names, Rule, Step, Waiting, idle, option, positional, Walk, value, after_step, finished, nothing_held, plain_word, rows_after, settled, walk, walk_from, walked_from, word_met, first_of, has_row, is_empty, is_pending, pushed, texts, default_rows, reading_by, with_default, with_values, without}
pub use Rattle.clap.specs.Words.{fault_of, subcommand_of, is_simple, is_simple_and_free, FailsBy, HasKind, IsAmong, kind_of, subcommand_rows_of, with_rule, app_of, new_app, with_subcommand, found_of}
pub use Rattle.hex.specs.Hex.{encode_lower}
pub use Rattle.std.proofs.Common.{◌≡◌, ◌∙◌, ◌<◌, ◌^◌, ℕ, Bool, true, false, not, refl, ap, arith, List, [], ◌∷◌, ◌++◌, map, Some, codes, sym, ap₂, Option, None, is_some, append-nil, append_assoc, ◌+◌, get_or, length, take, flat_map, subst, find, ⊎_elim, ◌&&◌, inl, inr, ◌≢◌, Result, Ok, Err, IfOk, IfErr, MatchResult, ◌≤◌, ◌*◌, ◌/◌, ◌%◌, ◌==◌, zero, suc, drop, eq-eqb, lt-ltb, le-leb, eqb-true, length-append, IsTrue, ltb-true, nat_lt, true≢false, take_all, rules, ◌-◌, replicate}
pub use Rattle.std.proofs.Math.Bool.{or-true, or-false}
pub use Rattle.std.proofs.lemmas.Bool.{and_parts, cases_Bool, or_from, or_parts, and_from}
pub use Rattle.std.proofs.lemmas.List.{take_more, flat_map_more, map-append, map_push}
pub use Rattle.std.proofs.lemmas.List.Folds.{flat_map-map, list_any-append, list_all-append, list_all-map, list_all_at}
pub use Rattle.std.proofs.lemmas.Result.{IfOk-weaker}
pub use Rattle.std.specs.Borrow.{Bor}
pub use Rattle.std.specs.Fmt.{decimal}
pub use Rattle.std.specs.List.{list_all, join_by, All}
pub use Rattle.std.specs.Prelude.{⊤, option_map, if◌then◌else◌, fold, IfSome, MatchOption, option_and_then, ◌||◌}
pub use Rattle.std.specs.Result.{result_ok}
pub use Rattle.std.specs.Str.{bytes_eq}
pub use Rattle.std.specs.String.{string_bytes}
pub use Rattle.clap.specs.declared.{builder.command.Command.TheViews.out-Command, builder.value_parser.Reading.TheVariants.AsWritten, parser.matches.ValueSource.TheVariants.CommandLine}
pub use Rattle.gm_metadata.proofs.Common.{balance_name, is_label, reading_of}
pub use Rattle.gm_commands.proofs.Common.{joined, CommandFits, balance_of_word, on_where, words, PreferenceFits, SliceFits, balance_words, given_switch, preference_words, setting_words, slice_words, is_bytes, is_sector}
pub use Rattle.gm_commands.specs.declared.{command.BalanceWord.BalanceWord, command.Command.Command, command.Command.TheVariants.Label, command.Command.TheVariants.Insert, command.Command.TheVariants.Remove, command.Command.TheVariants.Deactivate, command.Command.TheVariants.Activate, command.Command.TheVariants.Forget, command.Command.TheVariants.Rebuild, command.Command.TheVariants.Configure, command.Command.TheVariants.Clear, command.Command.TheVariants.Destroy, command.Command.TheVariants.Lost, command.Command.TheVariants.Advance, command.Command.TheVariants.Adopt, command.Command.TheVariants.Patch, command.Preference.Preference, command.Settings.Settings}
pub use Rattle.gm_state.proofs.Common.{members}
pub use Rattle.gm_state.specs.declared.{records.Mirror.Mirror}
pub use Rattle.gm_words.specs.Alike.{ReadsAlike}
pub use Rattle.gm_words.specs.Digits.{is_count, is_digit, sectors_of}
pub use Rattle.gm_words.specs.Dump.{reading_text, text_of}
pub use Rattle.gm_words.specs.Kinds.{alone, with_word, with_words, with_row, with_rows}
pub use Rattle.gm_words.specs.Lines.{line, name_where, field, mirror_flag_names, number}
pub use Rattle.gm_words.specs.Listing.{blocks, component_lines, mirror_lines, block, yes_where}
pub use Rattle.gm_words.specs.Spelling.{HasNoFlags, IsNoFlag, guarded_words, label_at, of_component, of_mirror, of_provider, spelled, command_of, taken, guarded_preference, guarded_settings, settings_at, ◌>>=◌, if_given, several_of, balance_in, providers_in}
pub use Rattle.gm_words.specs.Status.{component_line, mirror_line}
pub use Rattle.gm_words.specs.Table.{insert, label, on_component, on_mirror, on_provider, patch, table, configure, on_several}
pub use Rattle.gm_words.specs.Tasting.{group_block, group_line, member_line, left_line}
pub use Rattle.gm_words.specs.declared.{clap_table.Kind.Kind, clap_table.Kind.TheVariants.Provider, clap_table.Kind.TheVariants.Component, clap_table.Kind.TheVariants.Several, command_words.ComponentNames.ComponentNames}
