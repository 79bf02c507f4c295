-- What the bytes are that an input begins with.
use Rattle.std.specs.Prelude.{ℕ, List}
use Rattle.httparse.specs.Grammar.{HasNoRequest}
use Rattle.httparse.specs.Spans.{IsRequestOf, IsRequestWithin, RequestOverflows}
use Rattle.httparse.specs.declared.spans.HeaderSpan.{HeaderSpan}
use Rattle.gm_http.specs.declared.head.Beginning.{Beginning}
use Rattle.gm_http.specs.declared.head.Beginning.TheVariants.{Head, Open, Never}

-- a head by these spans; none yet; or none of at most 64 fields, whatever follows
abbrev pub Looks : List ℕ → List HeaderSpan → Beginning → Type 0
Looks bytes headers (Head spans) =
    IsRequestOf bytes headers spans × IsRequestWithin bytes headers spans
Looks bytes headers Open = HasNoRequest bytes
Looks bytes headers Never = RequestOverflows 64 bytes
