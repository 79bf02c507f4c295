-- Who sent a request, by the fields of its head. A field is a pair of its name and its value.
use Rattle.std.specs.Prelude.{◌≡◌, ◌≢◌, ◌⊎◌, ◌||◌, ◌==◌, ℕ, Bool, false, List, ◌++◌, Any, IsTrue, codes, map}
use Rattle.std.specs.Char.{is_ascii_alphanumeric}
use Rattle.std.specs.List.{list_all, list_any}
use Rattle.std.specs.Str.{str_eq_ignore_ascii_case}
use Rattle.std.specs.Net.Grammar.{IsIpv4Text, IsIpv6Text, IsSocketText}
use Rattle.std.specs.declared.net.ipv4_addr.Ipv4Addr.{Ipv4Addr}
use Rattle.std.specs.declared.net.ipv6_addr.Ipv6Addr.{Ipv6Addr}
use Rattle.std.specs.declared.net.socket_addr.SocketAddr.{SocketAddr}
use Rattle.httparse.specs.Spans.{name_and_value}
use Rattle.gm_http.specs.declared.sender.Sender.{Sender}
use Rattle.gm_http.specs.declared.sender.Sender.TheVariants.{Page, Program}
use Rattle.gm_http.specs.Requests.{HasHead}
use Rattle.httparse.specs.Grammar.{RequestHead}

-- a byte of a name without dots, or of a port after it
abbrev pub is_plain : ℕ → Bool
is_plain b = is_ascii_alphanumeric b || list_any (λ c. c == b) (codes "-_:")

-- an IPv6 address in brackets
abbrev pub IsBracketed : List ℕ → Type 0
IsBracketed host = (inner : List ℕ) × (host ≡ codes "[" ++ inner ++ codes "]")
    × (a : Ipv6Addr) × IsIpv6Text inner a

-- an address: IPv4, or IPv6 in brackets, with a port or without
abbrev pub IsAddress : List ℕ → Type 0
IsAddress host = ((a : Ipv4Addr) × IsIpv4Text host a) ⊎ IsBracketed host
    ⊎ ((a : SocketAddr) × IsSocketText host a)

-- a host that a web page may have made a name of this machine: neither without dots nor an address
abbrev pub IsForeign : List ℕ → Type 0
IsForeign host = (list_all is_plain host ≡ false) × ¬ (IsAddress host)

-- the field has this name, whether in upper or in lower case
abbrev pub IsNamed : List ℕ → List ℕ × List ℕ → Type 0
IsNamed name field = IsTrue (str_eq_ignore_ascii_case field.0 name)

-- a field that a browser adds to what a page sends, or that has a foreign host
abbrev pub TellsPage : List ℕ × List ℕ → Type 0
TellsPage field = IsNamed (codes "origin") field
    ⊎ (IsNamed (codes "sec-fetch-site") field × (field.1 ≢ codes "none"))
    ⊎ (IsNamed (codes "host") field × IsForeign field.1)

-- the input begins with a head that has such a field
abbrev pub IsFromPage : List ℕ → Type 0
IsFromPage input = (h : RequestHead) × (body : List ℕ) × HasHead input h body
    × Any TellsPage (map name_and_value h.fields)

-- who sent an input
abbrev pub Sends : List ℕ → Sender → Type 0
Sends input Page = IsFromPage input
Sends input Program = ¬ (IsFromPage input)

-- who sent a request with these fields
abbrev pub SendsFields : List (List ℕ × List ℕ) → Sender → Type 0
SendsFields fields Page = Any TellsPage fields
SendsFields fields Program = ¬ (Any TellsPage fields)
