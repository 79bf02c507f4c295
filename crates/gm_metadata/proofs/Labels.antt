-- A label and zeros are read back as the label, and a field that passes is a label and zeros.
use Rattle.gm_metadata.proofs.Common.{◌≡◌, ◌∙◌, ◌<◌, ◌-◌, ◌==◌, ◌&&◌, ℕ, Bool, true, false, not, zero, suc, nat_lt, refl, sym, ap, ap₂, arith, List, [], ◌∷◌, ◌++◌, length, drop, replicate, true≢false, Result, Ok, Err, lit<, MatchResult, IsOk, IsAscii, IsUtf8, list_all, prefix_len, nat_tests, drop-replicate, length-drop, take-append-drop, take-append_seam, is_label, is_label_byte, padded, name_in, name_len, IsLabelField}
use Rattle.std.proofs.lemmas.Str.{IsUtf8-from_ascii}
use Rattle.std.proofs.lemmas.List.Folds.{length-prefix_len}
use Rattle.gm_metadata.specs.Labels.{is_label_field}

pub both : (a b : Bool) → (a && b) ≡ true → (a ≡ true) × (b ≡ true)
both true true h = (refl, refl)
both true false h = absurd (true≢false (sym h))
both false b h = absurd (true≢false (sym h))

is_zero : (b : ℕ) → (b == 0) ≡ true → b ≡ 0
is_zero b h = grind (arith, nat_tests)

-- bytes that are all zero are so many zeros
pub all_zero : (bytes : List ℕ) → list_all (λ b. b == 0) bytes ≡ true
    → bytes ≡ replicate (length bytes) 0
all_zero [] h = refl
all_zero (b ∷ bytes) h =
    let parts : ((b == 0) ≡ true) × (list_all (λ b. b == 0) bytes ≡ true) = both _ _ h in
    ap₂ (λ x xs. x ∷ xs) (is_zero b parts.0) (all_zero bytes parts.1)

pub not_zero : (b : ℕ) (t : Bool) → (b == 0) ≡ t → is_label_byte b ≡ true → not t ≡ true
not_zero b false e h = refl
not_zero b true e h = let z : b ≡ 0 = is_zero b e in
    absurd (true≢false (sym h ∙ ap is_label_byte z))

-- the bytes of a label hold no zero, so it ends where the zeros begin
pub label_then_zeros : (name : List ℕ) (k : ℕ) → list_all is_label_byte name ≡ true
    → prefix_len (λ b. not (b == 0)) (name ++ replicate k 0) ≡ length name
label_then_zeros [] zero h = refl
label_then_zeros [] (suc k) h = refl
label_then_zeros (b ∷ name) k h =
    let parts : (is_label_byte b ≡ true) × (list_all is_label_byte name ≡ true) = both _ _ h in
    rw (not_zero b _ refl parts.0) (rw (label_then_zeros name k parts.1) (omega arith))

-- a name is read back from its field
pub name_again : (name : List ℕ) (k : ℕ) → list_all is_label_byte name ≡ true
    → name_in (name ++ replicate k 0) ≡ name
name_again name k h = rw (label_then_zeros name k h) (take-append_seam name (replicate k 0))

-- what the tests of a label say
pub label_parts : (name : List ℕ) → is_label name ≡ true
    → (0 < length name) × (length name < 16) × (list_all is_label_byte name ≡ true)
label_parts name h =
    let p : ((nat_lt 0 (length name) && nat_lt (length name) 16) ≡ true)
    × (list_all is_label_byte name ≡ true) = both _ _ h in
    let q : (nat_lt 0 (length name) ≡ true) × (nat_lt (length name) 16 ≡ true) = both _ _ p.0 in
    (grind (arith, nat_tests), grind (arith, nat_tests), p.1)

-- the field that is made of a label
pub field_of_label : (name : List ℕ) → is_label name ≡ true → IsLabelField (padded name)
field_of_label name h =
    let e : name_in (padded name) ≡ name = name_again name _ (label_parts name h).2 in
    record { label = rw e (search (h)); padding = ap padded e }

-- a field that passes is a label and zeros
pub field_that_passes : (field : List ℕ) → length field ≡ 16 → is_label_field field ≡ true
    → IsLabelField field
unfolding is_label_field
field_that_passes field n h =
    let p : (is_label (name_in field) ≡ true)
    × (list_all (λ b. b == 0) (drop (name_len field) field) ≡ true) = both _ _ h in
    let zeros : drop (name_len field) field ≡ replicate (length (drop (name_len field) field)) 0 =
    all_zero _ p.1 in
    let len : length (name_in field) ≡ name_len field = length-prefix_len _ field in
    let rest : 16 - length (name_in field) ≡ length (drop (name_len field) field) =
    rw (len, length-drop) (rw n refl) in
    record {
      label = search p.0;
      padding = rw rest (rw (← zeros) (take-append-drop (name_len field) field));
    }

-- a name copied onto zeros is its field
pub copied_name : (text name self rest : List ℕ) → name ≡ text → self ≡ name
    → rest ≡ drop (length name) (replicate 16 0) → self ++ rest ≡ padded text
copied_name text name self rest e f g = rw (f, e, g) (rw (e, drop-replicate) refl)

-- the bytes of a label are ASCII
label_byte_small : (b : ℕ) → is_label_byte b ≡ true → b < 128
label_byte_small b h = grind (arith, nat_tests)

pub label_is_ascii : (name : List ℕ) → list_all is_label_byte name ≡ true → IsAscii name
label_is_ascii [] h i = lit< tt
label_is_ascii (b ∷ name) h zero = label_byte_small b (both _ _ h).0
label_is_ascii (b ∷ name) h (suc i) = label_is_ascii name (both _ _ h).1 i

-- so they are a text
pub label_is_text : (name : List ℕ) → is_label name ≡ true → IsUtf8 name
label_is_text name h = IsUtf8-from_ascii name (label_is_ascii name (label_parts name h).2)

-- a result that can't be an error is Ok
pub ok_where_no_error : {S E : Type 0} (r : Result S E) (P : S → Type 0) (Q : E → Type 0)
    → ((e : E) → Q e → ⊥) → MatchResult r P Q → IsOk r
ok_where_no_error (Ok s) P Q never told = refl
ok_where_no_error (Err e) P Q never told = absurd (never e told)
