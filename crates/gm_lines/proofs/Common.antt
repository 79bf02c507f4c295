-- The words that this crate's proofs speak in, and its own that the crates above take from here.
-- Declares nothing.
pub use Rattle.std.proofs.Common.{◌≡◌, ◌≤◌, ◌∙◌, ℕ, nat_lt, Bool, true, false, true≢false, refl, sym, ap, arith, List, ◌∷◌, Option, Some, None, codes, length, ◌<◌, ◌==◌, ◌&&◌, not, [], ◌++◌, take, drop, slice_index, min, zero, suc, IfSome, append-nil, append_assoc, take-append-drop, length-append, le_refl, zero-le, subst, le_of_eq, length-drop, take_all, rules, tests, lit<}
pub use Rattle.std.proofs.KnownBytes.{Consumes-trans, Consumes-nil, Consumes-kept}
pub use Rattle.std.proofs.lemmas.Bool.Decides.{nat_tests}
pub use Rattle.std.proofs.lemmas.List.{nil_from_length}
pub use Rattle.std.proofs.lemmas.Option.{IfSome_then}
pub use Rattle.std.specs.Io.BufRead.{drop_through, FillKeeps}
pub use Rattle.gm_words.proofs.Common.{spelled}
pub use Rattle.gm_words.specs.Lines.{texts}
pub use Rattle.gm_lines.specs.Asked.{Asked, Nothing, Wrong, Call, asked_by, called, pieces, IsAheadIn, IsNext, asked, asked_of, IsAhead, asked_at}
pub use Rattle.gm_lines.specs.Input.{line_at, is_one_line, onto, BeginsWith, IsLine, IsCopied, IsTaken, WhereEnded, TakesPiece, Begins}
pub use Rattle.gm_lines.specs.declared.{ahead.Ahead.Ahead, lines.Line.Line, lines.Line.TheVariants.End, lines.Line.TheVariants.Whole, lines.Line.TheVariants.Long, lines.Piece.Piece, lines.Piece.TheVariants.Feed, lines.Piece.TheVariants.Bytes}
