-- What the bytes of a request ask.
use Rattle.std.specs.Prelude.{◌≡◌, ◌≤◌, ◌⊎◌, ℕ, Bool, false, nat_lt, List, length, map, take, string_bytes, Option, Some, None, if◌then◌else◌}
use Rattle.std.specs.Str.{bytes_eq}
use Rattle.httparse.specs.Grammar.{ReadsRequest, RequestHead, print_request}
use Rattle.httparse.specs.Spans.{name_and_value}
use Rattle.gm_http.specs.declared.status.Allowed.{Allowed}
use Rattle.gm_http.specs.declared.request.Request.{Request}
use Rattle.gm_http.specs.declared.request.Request.TheVariants as request
use Rattle.gm_http.specs.declared.routes.Target.{Target}
use Rattle.gm_http.specs.declared.routes.Target.TheVariants as target
use Rattle.gm_http.specs.Bodies.{Call, call_of}
use Rattle.gm_http.specs.Fields.{length_by}
use Rattle.gm_http.specs.Responses.{method_name}
use Rattle.gm_http.specs.Routes.{method_of, target_of}

-- what a request asks: nothing that is answered but by an error; the mirrors; a mirror, or the last
-- sector of a provider, by its label; or a command, by its key and words, and whether it is forced
pub data Asked : Type 0 where
  BadRequest NotFound TooLarge : Asked
  NotAllowed : Allowed → Asked
  Status : Asked
  Mirror Metadata : List ℕ → Asked
  Command : List ℕ → List (List ℕ) → Bool → Asked

-- a body that holds a call, or none
abbrev pub called : Option Call → Asked
called None = BadRequest
called (Some call) = Command call.key call.words call.forced

-- what is sent with this length, and then these bytes, where `force` is taken or isn't
abbrev pub sent : Bool → Option ℕ → List ℕ → Asked
sent takes None body = BadRequest
sent takes (Some n) body = if nat_lt 131072 n then TooLarge
    else if nat_lt (length body) n then BadRequest else called (call_of takes (take n body))

-- what is asked of a target by its own method
abbrev pub taken : Bool → Target → RequestHead → List ℕ → Asked
taken takes target.Status h body = Status
taken takes (target.Mirror name) h body = Mirror name
taken takes (target.Metadata name) h body = Metadata name
taken takes target.Commands h body = sent takes (length_by (map name_and_value h.fields)) body

-- what is asked of a target that is on a route, or on none
abbrev pub asked_at : Bool → Option Target → RequestHead → List ℕ → Asked
asked_at takes None h body = NotFound
asked_at takes (Some t) h body = if bytes_eq h.method (method_name (method_of t))
    then taken takes t h body else NotAllowed (method_of t)

-- what a head and the bytes after it ask
unfoldable pub asked_by : Bool → RequestHead → List ℕ → Asked
asked_by takes h body = asked_at takes (target_of h.target) h body

-- the input begins with a head of at most 8,192 bytes and 64 fields, and then has body
pub record HasHead (input : List ℕ) (h : RequestHead) (body : List ℕ) : Type 0 where
  pub reads : ReadsRequest input h body
  pub short : length (print_request h) ≤ 8192
  pub few : length h.fields ≤ 64

-- without such a head it is a bad request, and with one that and what follows decide
abbrev pub AsksWith : Bool → List ℕ → Asked → Type 0
AsksWith takes input asked =
    ((asked ≡ BadRequest) × ((h : RequestHead) (body : List ℕ) → HasHead input h body → ⊥))
    ⊎ ((h : RequestHead) × (body : List ℕ) × HasHead input h body
    × (asked ≡ asked_by takes h body))

-- what is asked of a server that takes no `force`
abbrev pub Asks : List ℕ → Asked → Type 0
Asks input asked = AsksWith false input asked

-- what a request that was read asks
abbrev pub asked_of : Request → Asked
asked_of request.BadRequest = BadRequest
asked_of request.NotFound = NotFound
asked_of (request.NotAllowed method) = NotAllowed method
asked_of request.TooLarge = TooLarge
asked_of request.Status = Status
asked_of (request.Mirror name) = Mirror name
asked_of (request.Metadata name) = Metadata name
asked_of (request.Command key words forced) =
    Command (string_bytes key) (map string_bytes words.items) forced
