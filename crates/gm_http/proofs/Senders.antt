-- Who sent a request, by what was read of its head.
use Rattle.gm_http.proofs.Common.{◌≡◌, ◌∙◌, ◌↔◌, ℕ, Bool, false, sym, ap, subst, refl, List, [], ◌∷◌, ◌++◌, drop, take, append_assoc, map, All, Any, IsTrue, Result, Ok, Err, IfSome, Option, Some, None, is_ok, IsIpv6Text, Parses, false≢true, append_cancel_right, All-get_or, All-map, request_unique, header_bytes, name_and_value, HeaderSpan, RequestSpans, HasNoHead, IsHead, Takes, HasHead, Sender, Page, Program, IsBracketed, Sends, SendsFields, TellsPage}
use Rattle.std.specs.declared.net.ipv6_addr.Ipv6Addr.{Ipv6Addr}
use Rattle.gm_http.proofs.Beginnings.{input_is}

-- what is read is what is spelled
parsed : {A E : Type 0} (Spells : List ℕ → A → Type 0) (text : List ℕ) (r : Result A E)
    → Parses Spells text r → IsTrue (is_ok r) ↔ ((a : A) × Spells text a)
parsed Spells text (Ok a) is = (λ told. (a, is), λ spelled. refl)
parsed Spells text (Err e) none =
    (λ told. absurd (false≢true told), λ spelled. absurd (none spelled.0 spelled.1))

pub is_read : {A E : Type 0} (Spells : List ℕ → A → Type 0) (text : List ℕ) (r : Result A E)
    (answer : Bool) → answer ≡ is_ok r → Parses Spells text r
    → IsTrue answer ↔ ((a : A) × Spells text a)
is_read Spells text r answer is parses = rw is (parsed Spells text r parses)

-- what is between brackets is one thing
pub bracketed : (host rest inner : List ℕ) (answer : Bool) → host ≡ 91 ∷ rest
    → rest ≡ inner ++ (93 ∷ []) → IsTrue answer ↔ ((a : Ipv6Addr) × IsIpv6Text inner a)
    → IsTrue answer ↔ IsBracketed host
bracketed host rest inner answer first last is = (
  λ t.
      let a = is.0 t in
      (inner, first ∙ ap (λ l. 91 ∷ l) last, a.0, a.1),
  λ b.
      let same : inner ≡ b.0 = append_cancel_right inner b.0 (93 ∷ [])
      (sym last ∙ ap (drop 1) (sym first ∙ b.1)) in
      is.1 (b.2, subst (λ l. IsIpv6Text l b.2) (sym same) b.3),
)

-- no field tells of a page
pub none_tell : (bytes : List ℕ) (headers : List HeaderSpan)
    → All (λ s. ¬ (TellsPage (header_bytes bytes s))) headers
    → ¬ (Any TellsPage (map (header_bytes bytes) headers))
none_tell bytes headers none = λ any.
    let all = All-map (λ field. ¬ (TellsPage field)) (header_bytes bytes) headers none in
    let at : ¬ (TellsPage any.1) = subst (λ field. ¬ (TellsPage field)) any.3
    (All-get_or (λ field. ¬ (TellsPage field)) _ any.0 any.1 any.2 all) in
    at any.4

-- a field was asked, and doesn't tell
pub tells_not : (name value : List ℕ) (field : List ℕ × List ℕ) (answer : Bool)
    → name ≡ field.0 → value ≡ field.1 → IsTrue answer ↔ TellsPage (name, value)
    → answer ≡ false → ¬ (TellsPage field)
tells_not name value field answer a b is isnt = λ tells.
    false≢true (sym isnt ∙ is.1 (rw (a, b) tells))

-- bytes without a head were sent by a program
pub sends_nothing : (a : Option (List ℕ)) → IfSome a HasNoHead
    → IfSome a (λ input. Sends input Program)
sends_nothing None none = tt
sends_nothing (Some input) none = λ from. none from.0 from.1 from.2

-- the input begins with the head that was read
has_head : (input rest bytes : List ℕ) (headers : List HeaderSpan) (spans : RequestSpans)
    → Takes (Some input) (Some rest) [] bytes → (is : IsHead bytes headers spans)
    → HasHead input is.head (drop spans.len bytes ++ rest)
has_head input rest bytes headers spans t is = record {
  reads = (
    is.at.reads.0,
    input_is input rest bytes t
        ∙ ap (λ l. l ++ rest) is.at.reads.1
        ∙ append_assoc _ (drop spans.len bytes) rest,
  );
  short = is.short;
  few = is.few;
}

-- a head was read, and the sender is the one that its fields tell
sends : (input rest bytes : List ℕ) (headers : List HeaderSpan) (spans : RequestSpans)
    (sender : Sender) → Takes (Some input) (Some rest) [] bytes → IsHead bytes headers spans
    → SendsFields (map (header_bytes bytes) (take spans.headers headers)) sender
    → Sends input sender
sends input rest bytes headers spans Page t is tells = (
  is.head,
  drop spans.len bytes ++ rest,
  has_head input rest bytes headers spans t is,
  subst (Any TellsPage) is.at.fields tells,
)
sends input rest bytes headers spans Program t is none = λ from.
    let has = has_head input rest bytes headers spans t is in
    let same = request_unique input from.0 is.head from.1 _ from.2.reads has.reads in
    none (subst (Any TellsPage) (ap (λ h. map name_and_value h.fields) same.0 ∙ sym is.at.fields)
    from.3)

pub sends_head : (a b : Option (List ℕ)) (bytes : List ℕ) (headers : List HeaderSpan)
    (spans : RequestSpans) (sender : Sender) → Takes a b [] bytes → IsHead bytes headers spans
    → SendsFields (map (header_bytes bytes) (take spans.headers headers)) sender
    → IfSome a (λ input. Sends input sender)
sends_head None b bytes headers spans sender t is told = tt
sends_head (Some input) None bytes headers spans sender t is told = absurd t.consumed
sends_head (Some input) (Some rest) bytes headers spans sender t is told =
    sends input rest bytes headers spans sender t is told

-- what a read of a request with its sender needs
pub ruleset sendings = (sends_nothing, sends_head)
