-- The words that this crate's proofs speak in, and its own that the crates above take from here.
-- Declares nothing.
pub use Rattle.httparse.proofs.GrammarLemmas.{request_unique}
pub use Rattle.httparse.specs.Grammar.{RequestHead, HasNoRequest, ReadsRequest}
pub use Rattle.httparse.specs.Spans.{IsRequestAt, header_bytes, span_bytes, RequestOverflows, name_and_value}
pub use Rattle.serde_json.specs.Read.{read}
pub use Rattle.serde_json.specs.View.{members_view, view, items_view}
pub use Rattle.std.proofs.Common.{◌≡◌, ◌∙◌, ◌≤◌, ◌+◌, ℕ, Bool, true, false, sym, ap, refl, arith, inl, inr, List, ◌++◌, length, take, drop, map, Option, Some, None, Result, Ok, Err, IfOk, IfSome, append_assoc, length-append, nat_lt, subst, [], append-nil, take-append-drop, ◌≢◌, ◌<◌, ◌^◌, ◌&&◌, zero, suc, nat_le, ◌∷◌, true≢false, lit<, decimal, codes, add-one, get_or, ◌-◌, IsTrue, nat_eq, MatchOption, Bor, ◌↔◌, All, Any, ◌==◌, cond, rules, string_bytes, vec_len, max, take_all}
pub use Rattle.std.proofs.Math.Seq.{take-append_seam, drop-cons, drop-append_seam, drop-length}
pub use Rattle.std.proofs.lemmas.Bool.{cases_Bool, false≢true}
pub use Rattle.std.proofs.lemmas.Bool.Decides.{nat_tests, Decides-eqb}
pub use Rattle.std.proofs.lemmas.List.{length-drop, take-append-le, drop-append-le, append_cancel_right, map-append}
pub use Rattle.std.proofs.lemmas.List.Elements.{All-get_or, All-map, All-more}
pub use Rattle.std.proofs.lemmas.Slice.Eq.{starts_is, ends_is}
pub use Rattle.std.proofs.lemmas.Str.{IsUtf8-from_is_utf8, is_utf8-from_IsUtf8, IsUtf8-from_ascii}
pub use Rattle.std.specs.Char.{digit_value, is_ascii_digit}
pub use Rattle.std.specs.Io.KnownBytes.{IsAtEnd, Keeps}
pub use Rattle.std.specs.List.{list_all, starts_with, ends_with}
pub use Rattle.std.specs.Net.Grammar.{IsIpv6Text, Parses, IsSocketText, IsIpv4Text}
pub use Rattle.std.specs.Prelude.{slice_range, option_and_then, String, if◌then◌else◌, option_map}
pub use Rattle.std.specs.Result.{result_ok, is_ok}
pub use Rattle.std.specs.Str.{bytes_eq, IsUtf8, is_utf8, IsAscii, str_eq_ignore_ascii_case}
pub use Rattle.std.specs.Str.Parse.{AllDigits, ParsesUnsigned, digits_value, without_leading_plus}
pub use Rattle.httparse.specs.declared.{spans.HeaderSpan.HeaderSpan, spans.RequestSpans.RequestSpans}
pub use Rattle.gm_metadata.proofs.Common.{is_label, is_label_byte}
pub use Rattle.gm_http.specs.Bodies.{call_of, call_in, count, Call, texts_in, texts_of}
pub use Rattle.gm_http.specs.Fields.{length_by, values_of}
pub use Rattle.gm_http.specs.Input.{AsksAtHead, Takes, HasNoHead, IsHead}
pub use Rattle.gm_http.specs.Requests.{Asked, Asks, NotAllowed, NotFound, asked_at, asked_of, called, sent, taken, HasHead}
pub use Rattle.gm_http.specs.Responses.{method_name, allow_line, code_of, phrase_of}
pub use Rattle.gm_http.specs.Routes.{method_of, target_of, before, behind, named_on, routes}
pub use Rattle.gm_http.specs.Senders.{IsBracketed, Sends, SendsFields, TellsPage, IsFromPage}
pub use Rattle.gm_http.specs.declared.{request.Request.Request, routes.Route.Route, routes.Target.Target, routes.Target.TheVariants.Commands, routes.Target.TheVariants.Metadata, routes.Target.TheVariants.Mirror, sender.Sender.Sender, sender.Sender.TheVariants.Page, sender.Sender.TheVariants.Program, status.Status.Status}
