-- A response's head, joined from the pieces that are written.
use Rattle.gm_http.proofs.Common.{◌≡◌, ℕ, List, ◌++◌, append_assoc, decimal, length, codes, Status, allow_line, code_of, phrase_of}
use Rattle.gm_http.specs.Responses.{response_bytes}

-- a version and a code, their phrase, a type, a length and its digits, a line of its own, an end
pieces_joined : (ver code sp phrase nl type name digits line end body : List ℕ)
    → ver ++ (code ++ (sp ++ (phrase ++ ((nl ++ (type ++ (nl ++ name))) ++ (digits ++ (nl
    ++ (line ++ ((end ++ (nl ++ nl)) ++ body))))))))
    ≡ (ver ++ code ++ sp ++ phrase) ++ nl ++ (type ++ nl) ++ ((name ++ digits) ++ nl) ++ line
    ++ (end ++ nl) ++ nl ++ body
pieces_joined ver code sp phrase nl type name digits line end body = simp append_assoc

pub pieces_are_response : (status : Status) (code : ℕ) (phrase allow body : List ℕ)
    → code ≡ code_of status → phrase ≡ phrase_of status → allow ≡ allow_line status
    → codes "HTTP/1.1 " ++ (decimal code ++ (codes " " ++ (phrase
    ++ (codes "\r\nContent-Type: application/json\r\nContent-Length: " ++ (decimal (length body)
    ++ (codes "\r\n" ++ (allow ++ (codes "Connection: close\r\n\r\n" ++ body))))))))
    ≡ response_bytes status body
unfolding response_bytes
pieces_are_response status code phrase allow body c p a =
    rw (c, p, a) (pieces_joined (codes "HTTP/1.1 ") (decimal (code_of status)) (codes " ")
    (phrase_of status) (codes "\r\n") (codes "Content-Type: application/json")
    (codes "Content-Length: ") (decimal (length body)) (allow_line status)
    (codes "Connection: close") body)
