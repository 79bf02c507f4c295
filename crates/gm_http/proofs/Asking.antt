-- What is asked, by what was read of an input.
use Rattle.gm_http.proofs.Common.{◌≡◌, ◌∙◌, ◌≤◌, ◌+◌, ℕ, Bool, true, false, sym, ap, refl, arith, inl, inr, List, ◌++◌, length, take, drop, map, Option, Some, None, Result, Ok, Err, IfOk, IfSome, append_assoc, length-append, nat_lt, slice_range, bytes_eq, nat_tests, length-drop, take-append-le, drop-append-le, request_unique, RequestHead, IsRequestAt, header_bytes, span_bytes, HeaderSpan, RequestSpans, Request, Target, Commands, call_of, length_by, AsksAtHead, Takes, Asked, NotAllowed, NotFound, asked_at, asked_of, called, sent, taken, method_name, method_of, target_of}
use Rattle.gm_http.specs.Requests.{AsksWith, asked_by}

pub for_each : {A : Type 0} (a : Option A) (P : A → Type 0) → ((x : A) → P x) → IfSome a P
for_each None P all = tt
for_each (Some x) P all = all x

-- the whole body was read
sent_whole : (takes : Bool) (body : List ℕ) (n : ℕ) → n ≤ 131072 → n ≤ length body
    → sent takes (Some n) body ≡ called (call_of takes (take n body))
sent_whole takes body n fits whole =
    let small : nat_lt 131072 n ≡ false = grind (arith, nat_tests) in
    let all : nat_lt (length body) n ≡ false = grind (arith, nat_tests) in
    rw (small, all) refl

pub whole_body : (takes : Bool) (a b : Option (List ℕ)) (was now : List ℕ) (start n : ℕ)
    (field : Option ℕ) (asked : Asked) → Takes a b was now → start ≤ length was → n ≤ 131072
    → start + n ≤ length now
    → field ≡ Some n → asked ≡ called (call_of takes (slice_range now start (start + n)))
    → IfSome a (λ rest. asked ≡ sent takes field (drop start was ++ rest))
whole_body takes None b was now start n field asked t begins fits whole is asks = tt
whole_body takes (Some rest) None was now start n field asked t begins fits whole is asks =
    absurd t.consumed
whole_body takes (Some rest) (Some left) was now start n field asked t begins fits whole is asks =
    let behind : drop start was ++ rest ≡ drop start now ++ left =
    ap (λ l. drop start was ++ l) t.consumed ∙ sym (append_assoc (drop start was) t.more left)
    ∙ ap (λ l. l ++ left)
    (sym (drop-append-le start was t.more begins) ∙ ap (drop start) (sym t.kept)) in
    let there : n ≤ length (drop start now) = rw length-drop (omega arith) in
    let enough : n ≤ length (drop start now ++ left) = rw length-append (omega arith) in
    let front : take n (drop start now ++ left) ≡ slice_range now start (start + n) =
    take-append-le n (drop start now) left there
    ∙ ap (λ k. take k (drop start now)) (omega arith) in
    asks ∙ ap (λ l. called (call_of takes l)) (sym front) ∙ sym (sent_whole takes _ n fits enough)
    ∙ ap (sent takes (Some n)) (sym behind)
    ∙ ap (λ f. sent takes f (drop start was ++ rest)) (sym is)

-- what the target names that these spans are of
abbrev pub IsTargetAt : List ℕ → RequestSpans → Option Target → Type 0
IsTargetAt bytes spans target = target ≡ target_of (span_bytes bytes spans.path)

-- whether the method is the one that a target takes
abbrev pub IsByItsMethod : List ℕ → RequestSpans → Target → Bool → Type 0
IsByItsMethod bytes spans target answer =
    bytes_eq (span_bytes bytes spans.method) (method_name (method_of target)) ≡ answer

-- no target
pub asked_nowhere : (takes : Bool) (bytes : List ℕ) (headers : List HeaderSpan)
    (spans : RequestSpans) (rest : List ℕ) → IsTargetAt bytes spans None
    → AsksAtHead takes bytes headers spans rest NotFound
unfolding asked_by
asked_nowhere takes bytes headers spans rest is = λ h at.
    let found : None ≡ target_of h.target = is ∙ ap target_of at.path in
    ap (λ t. asked_at takes t h (drop spans.len bytes ++ rest)) found

-- a target by another method than its own
pub asked_otherwise : (takes : Bool) (bytes : List ℕ) (headers : List HeaderSpan)
    (spans : RequestSpans) (rest : List ℕ) (target : Target) → IsTargetAt bytes spans (Some target)
    → IsByItsMethod bytes spans target false
    → AsksAtHead takes bytes headers spans rest (NotAllowed (method_of target))
unfolding asked_by
asked_otherwise takes bytes headers spans rest target is other = λ h at.
    let found : Some target ≡ target_of h.target = is ∙ ap target_of at.path in
    let isnt : bytes_eq h.method (method_name (method_of target)) ≡ false = rw at.method at other in
    let now : NotAllowed (method_of target)
    ≡ asked_at takes (Some target) h (drop spans.len bytes ++ rest) = rw isnt refl in
    now ∙ ap (λ t. asked_at takes t h (drop spans.len bytes ++ rest)) found

-- a target by its own method
pub asked_duly : (takes : Bool) (bytes : List ℕ) (headers : List HeaderSpan) (spans : RequestSpans)
    (rest : List ℕ) (target : Target) (asked : Asked)
    → IsTargetAt bytes spans (Some target)
    → IsByItsMethod bytes spans target true
    → ((h : RequestHead) → IsRequestAt bytes headers spans h
    → asked ≡ taken takes target h (drop spans.len bytes ++ rest))
    → AsksAtHead takes bytes headers spans rest asked
unfolding asked_by
asked_duly takes bytes headers spans rest target asked is own asks = λ h at.
    let found : Some target ≡ target_of h.target = is ∙ ap target_of at.path in
    let so : bytes_eq h.method (method_name (method_of target)) ≡ true = rw at.method at own in
    let now : taken takes target h (drop spans.len bytes ++ rest)
    ≡ asked_at takes (Some target) h (drop spans.len bytes ++ rest) = rw so refl in
    asks h at ∙ now ∙ ap (λ t. asked_at takes t h (drop spans.len bytes ++ rest)) found

-- a command, by the fields and what follows the head
pub asked_to_do : {E : Type 0} (takes : Bool) (r : Result Request E) (a : Option (List ℕ))
    (bytes : List ℕ) (headers : List HeaderSpan) (spans : RequestSpans)
    → IsTargetAt bytes spans (Some Commands)
    → IsByItsMethod bytes spans Commands true
    → IfOk r (λ request. IfSome a (λ rest. asked_of request
    ≡ sent takes (length_by (map (header_bytes bytes) (take spans.headers headers)))
    (drop spans.len bytes ++ rest)))
    → IfOk r (λ request. IfSome a (λ rest.
    AsksAtHead takes bytes headers spans rest (asked_of request)))
asked_to_do takes (Err e) a bytes headers spans is own asks = tt
asked_to_do takes (Ok request) None bytes headers spans is own asks = tt
asked_to_do takes (Ok request) (Some rest) bytes headers spans is own asks =
    asked_duly takes bytes headers spans rest Commands (asked_of request) is own (λ h at.
    asks ∙ ap (λ fields. sent takes (length_by fields) (drop spans.len bytes ++ rest)) at.fields)

-- an input asks just one thing, since its head is one
pub asks_one : (takes : Bool) (input : List ℕ) (a b : Asked) → AsksWith takes input a
    → AsksWith takes input b → a ≡ b
asks_one takes input a b (inl x) (inl y) = x.0 ∙ sym y.0
asks_one takes input a b (inl x) (inr y) = absurd (x.1 _ _ y.2)
asks_one takes input a b (inr x) (inl y) = absurd (y.1 _ _ x.2)
asks_one takes input a b (inr (h, body, has, is)) (inr (k, rest, too, so)) =
    let same = request_unique input h k body rest has.reads too.reads in
    is ∙ ap (λ g. asked_by takes g body) same.0 ∙ ap (asked_by takes k) same.1 ∙ sym so
