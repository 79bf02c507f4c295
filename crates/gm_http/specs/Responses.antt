-- The bytes of a response.
use Rattle.std.specs.Prelude.{ℕ, List, [], ◌++◌, codes, decimal, length, unwrap_or}
use Rattle.http.specs.StatusCode.{reason_phrase}
use Rattle.gm_http.specs.declared.status.Allowed.{Allowed}
use Rattle.gm_http.specs.declared.status.Allowed.TheVariants.{Get, Post}
use Rattle.gm_http.specs.declared.status.Status.{Status}
use Rattle.gm_http.specs.declared.status.Status.TheVariants.{Ok, BadRequest, Forbidden, NotFound, NotAllowed, Conflict, TooLarge, Internal, Unavailable}

abbrev pub code_of : Status → ℕ
code_of Ok = 200
code_of BadRequest = 400
code_of Forbidden = 403
code_of NotFound = 404
code_of (NotAllowed method) = 405
code_of Conflict = 409
code_of TooLarge = 413
code_of Internal = 500
code_of Unavailable = 503

-- the standard phrase of its code
unfoldable pub phrase_of : Status → List ℕ
phrase_of status = unwrap_or (reason_phrase (code_of status)) []

abbrev pub method_name : Allowed → List ℕ
method_name Get = codes "GET"
method_name Post = codes "POST"

-- a line, and its end
abbrev pub head_line : List ℕ → List ℕ
head_line text = text ++ codes "\r\n"

-- the line that 405 has beside the others: the method that is allowed
abbrev pub allow_line : Status → List ℕ
allow_line (NotAllowed method) = head_line (codes "Allow: " ++ method_name method)
allow_line Ok = []
allow_line BadRequest = []
allow_line Forbidden = []
allow_line NotFound = []
allow_line Conflict = []
allow_line TooLarge = []
allow_line Internal = []
allow_line Unavailable = []

-- the head, an empty line and the body
unfoldable pub response_bytes : Status → List ℕ → List ℕ
response_bytes status body =
    head_line (codes "HTTP/1.1 " ++ decimal (code_of status) ++ codes " " ++ phrase_of status)
    ++ head_line (codes "Content-Type: application/json")
    ++ head_line (codes "Content-Length: " ++ decimal (length body))
    ++ allow_line status
    ++ head_line (codes "Connection: close")
    ++ head_line []
    ++ body
