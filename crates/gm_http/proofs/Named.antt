-- The values of the fields of a name, by one field more.
use Rattle.gm_http.proofs.Common.{◌≡◌, ◌∙◌, ℕ, ◌+◌, ◌<◌, Bool, true, false, List, [], ◌∷◌, ◌++◌, ap, add-one, append_assoc, drop, get_or, length, map, sym, if◌then◌else◌, str_eq_ignore_ascii_case, drop-cons, header_bytes, HeaderSpan, values_of}

-- those of the fields from a place on
abbrev pub from : List ℕ → List ℕ → List HeaderSpan → ℕ → List (List ℕ)
from name bytes headers i = values_of name (map (header_bytes bytes) (drop i headers))

drop_next : (headers : List HeaderSpan) (i : ℕ) (d : HeaderSpan) → i < length headers
    → drop i headers ≡ get_or headers i d ∷ drop (i + 1) headers
drop_next headers i d low = rw add-one (drop-cons headers i d low)

next : (name bytes : List ℕ) (headers : List HeaderSpan) (i : ℕ) (d : HeaderSpan) (b : Bool)
    → i < length headers
    → str_eq_ignore_ascii_case (header_bytes bytes (get_or headers i d)).0 name ≡ b
    → from name bytes headers i
    ≡ (if b then (header_bytes bytes (get_or headers i d)).1 ∷ from name bytes headers (i + 1)
    else from name bytes headers (i + 1))
next name bytes headers i d b low is =
    ap (λ (hs : List HeaderSpan). values_of name (map (header_bytes bytes) hs))
    (drop_next headers i d low)
    ∙ ap (λ (t : Bool). if t
    then (header_bytes bytes (get_or headers i d)).1 ∷ from name bytes headers (i + 1)
    else from name bytes headers (i + 1)) is

pub named : (name bytes : List ℕ) (headers : List HeaderSpan) (i : ℕ) (d : HeaderSpan)
    (done all : List (List ℕ)) → i < length headers
    → str_eq_ignore_ascii_case (header_bytes bytes (get_or headers i d)).0 name ≡ true
    → done ++ from name bytes headers i ≡ all
    → (done ++ (header_bytes bytes (get_or headers i d)).1 ∷ []) ++ from name bytes headers (i + 1)
    ≡ all
named name bytes headers i d done all low is so =
    append_assoc done _ _
    ∙ (ap (λ t. done ++ t) (sym (next name bytes headers i d true low is)) ∙ so)

pub passed : (name bytes : List ℕ) (headers : List HeaderSpan) (i : ℕ) (d : HeaderSpan)
    (done all : List (List ℕ)) → i < length headers
    → str_eq_ignore_ascii_case (header_bytes bytes (get_or headers i d)).0 name ≡ false
    → done ++ from name bytes headers i ≡ all → done ++ from name bytes headers (i + 1) ≡ all
passed name bytes headers i d done all low is so =
    ap (λ t. done ++ t) (sym (next name bytes headers i d false low is)) ∙ so
