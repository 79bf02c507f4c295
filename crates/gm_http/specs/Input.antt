-- What was read of an input.
use Rattle.std.specs.Prelude.{◌≡◌, ◌≤◌, ℕ, Bool, List, ◌++◌, length, drop, Option}
use Rattle.std.specs.Io.KnownBytes.{Consumes}
use Rattle.httparse.specs.Grammar.{RequestHead, print_request}
use Rattle.httparse.specs.Spans.{IsRequestAt, IsRequestWithin}
use Rattle.httparse.specs.declared.spans.HeaderSpan.{HeaderSpan}
use Rattle.httparse.specs.declared.spans.RequestSpans.{RequestSpans}
use Rattle.gm_http.specs.Requests.{Asked, HasHead, asked_by}

-- bytes were taken from the front of an input, and come after those that were there
pub record Takes (old new : Option (List ℕ)) (was now : List ℕ) : Type 0 where
  pub more : List ℕ
  pub consumed : Consumes old new more
  pub kept : now ≡ was ++ more

-- the bytes begin with a head of at most 8,192 bytes and 64 fields, and these spans are of it
pub record IsHead
    (bytes : List ℕ) (headers : List HeaderSpan) (spans : RequestSpans) : Type 0 where
  pub head : RequestHead
  pub at : IsRequestAt bytes headers spans head
  pub within : IsRequestWithin bytes headers spans
  pub short : length (print_request head) ≤ 8192
  pub few : length head.fields ≤ 64

-- an input that has no head
abbrev pub HasNoHead : List ℕ → Type 0
HasNoHead input = (h : RequestHead) (body : List ℕ) → HasHead input h body → ⊥

-- what a head asks that stands at the front of the bytes, with the rest after them, where `force`
-- is taken or isn't
abbrev pub AsksAtHead : Bool → List ℕ → List HeaderSpan → RequestSpans → List ℕ → Asked → Type 0
AsksAtHead takes bytes headers spans rest asked = (h : RequestHead)
    → IsRequestAt bytes headers spans h
    → asked ≡ asked_by takes h (drop spans.len bytes ++ rest)

-- at most so many bytes were taken from the front of an input
pub record TakesUpTo (most : ℕ) (old new : Option (List ℕ)) : Type 0 where
  pub taken : List ℕ
  pub consumed : Consumes old new taken
  pub within : length taken ≤ most
