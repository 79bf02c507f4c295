-- What clap's walk makes of an option that may be left out, in front of the rest of a command's own
-- words.
use Rattle.gm_words.proofs.Common.{◌≡◌, ◌∙◌, ◌&&◌, Bool, true, false, not, refl, sym, ap, ap₂, subst, List, [], ◌∷◌, ◌++◌, Option, Some, None, append-nil, append_assoc, inl, inr, map, ⊤, IfSome, codes, fold, if◌then◌else◌, list_all, bytes_eq, cases_Bool, or_from, map-append, list_any-append, Kinds, or_else, Held, Row, Text, Walk, finished, first_of, has_row, is_empty, settled, walk_from, check_fault, defaults_fault, repeat_fault, settle_fault, Shape, both, IsNoFlag}
use Rattle.gm_words.proofs.Rows.{added, added_new, no_defaults, no_defaults_fault, row}
use Rattle.gm_words.proofs.ClapWalk.{ArePlain, Said, exact, leaf_fault, plain, said_fault, said_walked, text_of}

-- ---- options and their words

-- an option, the words that give it a value, and the value, if it is given
pub record Slot : Type 0 where
  pub id : Text
  pub words : Text → List Said
  pub value : Option Text

abbrev pub given_words : (Text → List Said) → Option Text → List Said
given_words words None = []
given_words words (Some value) = words value

abbrev pub given_rows : Text → Option Text → List Row
given_rows id None = []
given_rows id (Some value) = row id value ∷ []

-- the words of those that are given, before the names
abbrev pub said_in : List Slot → List Said → List Said
said_in [] names = names
said_in (slot ∷ rest) names = given_words slot.words slot.value ++ said_in rest names

-- what is found of them
abbrev pub found_in : List Slot → List Row
found_in [] = []
found_in (slot ∷ rest) = given_rows slot.id slot.value ++ found_in rest

-- ---- one option

-- between two options: these rows are found
pub record Stands (s : Shape) (h : Held) (rows : List Row) : Type 0 where
  pub are : (settled s.rules h).rows ≡ rows
  pub passes : settle_fault s.rules s.args_override_self h ≡ []

-- the words that are left pass, and these rows are found at their end
pub record Ends (s : Shape) (w : Walk) (said : List Said) (rows : List Row) : Type 0 where
  pub passes : leaf_fault s (fold (said_walked s.rules) w said) (said_fault s w said) ≡ []
  pub are : finished s.rules (fold (said_walked s.rules) w said).held ≡ rows

-- these words give the option a value, and what is held then
pub record IsOption (s : Shape) (id : Text) (words : Text → List Said) : Type 0 where
  pub after : Text → Held → Held
  pub walks : (value : Text) (h : Held) (rest : List Said)
      → fold (said_walked s.rules) (walk_from h) (words value ++ rest)
      ≡ fold (said_walked s.rules) (walk_from (after value h)) rest
  pub passes : (value : Text) (h : Held) (rest : List Said)
      → settle_fault s.rules s.args_override_self h ≡ []
      → has_row id (settled s.rules h).rows ≡ false
      → said_fault s (walk_from h) (words value ++ rest)
      ≡ said_fault s (walk_from (after value h)) rest
  pub settles : (value : Text) (h : Held) → has_row id (settled s.rules h).rows ≡ false
      → settle_fault s.rules s.args_override_self (after value h) ≡ []
  pub rows : (value : Text) (h : Held)
      → (settled s.rules (after value h)).rows ≡ added id value (settled s.rules h).rows

-- one option with its value, in front of the rest
one_step : (s : Shape) (id : Text) (words : Text → List Said) → IsOption s id words
    → (value : Text) (h : Held) (rows : List Row) → Stands s h rows → has_row id rows ≡ false
    → (rest : List Said) (end : List Row)
    → ((h' : Held) → Stands s h' (rows ++ row id value ∷ []) → Ends s (walk_from h') rest end)
    → Ends s (walk_from h) (words value ++ rest) end
one_step s id words is value h rows stands new rest end next =
    let here : has_row id (settled s.rules h).rows ≡ false = ap (has_row id) stands.are ∙ new in
    let after : Stands s (is.after value h) (rows ++ row id value ∷ []) = record {
      are = is.rows value h ∙ (ap (added id value) stands.are ∙ added_new id value rows new);
      passes = is.settles value h here;
    } in
    let ends = next (is.after value h) after in
    record {
      passes = ap₂ (leaf_fault s) (is.walks value h rest)
          (is.passes value h rest stands.passes here) ∙ ends.passes;
      are = ap (λ (w : Walk). finished s.rules w.held) (is.walks value h rest) ∙ ends.are;
    }

-- ---- several options

-- each is an option of the command
abbrev pub AreOptions : Shape → List Slot → Type 0
AreOptions s [] = ⊤
AreOptions s (slot ∷ rest) = IsOption s slot.id slot.words × AreOptions s rest

-- no two of them are one
abbrev pub are_distinct : List Slot → Bool
are_distinct [] = true
are_distinct (slot ∷ rest) =
    list_all (λ other. not (bytes_eq slot.id other.id)) rest && are_distinct rest

-- none of them was met
abbrev pub AreNew : List Row → List Slot → Type 0
AreNew rows [] = ⊤
AreNew rows (slot ∷ rest) = (has_row slot.id rows ≡ false) × AreNew rows rest

not_so : (b : Bool) → not b ≡ true → b ≡ false
not_so true e = absurd (cc e)
not_so false e = refl

pub all_new : (slots : List Slot) → AreNew [] slots
all_new [] = tt
all_new (slot ∷ rest) = (refl, all_new rest)

still_new : (id value : Text) (rows : List Row) (slots : List Slot)
    → list_all (λ other. not (bytes_eq id other.id)) slots ≡ true
    → AreNew rows slots → AreNew (rows ++ row id value ∷ []) slots
still_new id value rows [] others new = tt
still_new id value rows (slot ∷ rest) others new =
    let parts = both (not (bytes_eq id slot.id)) _ others in
    let there : has_row slot.id (rows ++ row id value ∷ []) ≡ false =
    list_any-append (λ r. bytes_eq r.id slot.id) rows (row id value ∷ [])
    ∙ or_from _ _ new.0 (or_from _ _ (not_so _ parts.0) refl) in
    (there, still_new id value rows rest parts.1 new.1)

-- the options with their values, in front of the rest
pub options_step : (s : Shape) (slots : List Slot) → AreOptions s slots → are_distinct slots ≡ true
    → (h : Held) (rows : List Row) → Stands s h rows → AreNew rows slots
    → (rest : List Said) (end : List Row)
    → ((h' : Held) → Stands s h' (rows ++ found_in slots) → Ends s (walk_from h') rest end)
    → Ends s (walk_from h) (said_in slots rest) end
options_step s [] are distinct h rows stands new rest end next =
    next h (subst (Stands s h) (sym (append-nil rows)) stands)
options_step s (slot ∷ slots) are distinct h rows stands new rest end next =
    by slot.value next (λ h' rows' here unmet more.
    options_step s slots are.1 parts.1 h' rows' here unmet rest end more)
  where
    parts : (list_all (λ other. not (bytes_eq slot.id other.id)) slots ≡ true)
        × (are_distinct slots ≡ true)
    parts = both _ _ distinct

    by : (value : Option Text)
        → ((h' : Held) → Stands s h' (rows ++ (given_rows slot.id value ++ found_in slots))
        → Ends s (walk_from h') rest end)
        → ((h' : Held) (rows' : List Row) → Stands s h' rows' → AreNew rows' slots
        → ((h'' : Held) → Stands s h'' (rows' ++ found_in slots) → Ends s (walk_from h'') rest end)
        → Ends s (walk_from h') (said_in slots rest) end)
        → Ends s (walk_from h) (given_words slot.words value ++ said_in slots rest) end
    by None next others = others h rows stands new.1 next
    by (Some value) next others =
        one_step s slot.id slot.words are.0 value h rows stands new.0 (said_in slots rest) end
        (λ h' here. others h' (rows ++ row slot.id value ∷ []) here
        (still_new slot.id value rows slots parts.0 new.1)
        (λ h'' there. next h'' (simp append_assoc at there)))

-- ---- what is found of an option

abbrev pub first_given : Option Text → Option Text → Option Text
first_given None other = other
first_given (Some value) other = Some value

-- its value, if it is given
abbrev pub value_at : Text → List Slot → Option Text
value_at id [] = None
value_at id (slot ∷ rest) =
    if bytes_eq slot.id id then first_given slot.value (value_at id rest) else value_at id rest

pub first_in : (id : Text) (slots : List Slot) → first_of id (found_in slots) ≡ value_at id slots
first_in id [] = refl
first_in id (slot ∷ rest) = by slot.value (first_in id rest)
  where
    by : (value : Option Text) → first_of id (found_in rest) ≡ value_at id rest
        → first_of id (given_rows slot.id value ++ found_in rest)
        ≡ (if bytes_eq slot.id id then first_given value (value_at id rest) else value_at id
        rest)
    by None e = elim (cases_Bool (bytes_eq slot.id id)) [ inl is ↦ rw is e | inr is ↦ rw is e ]
    by (Some value) e =
        elim (cases_Bool (bytes_eq slot.id id)) [ inl is ↦ rw is refl | inr is ↦ rw is e ]

pub given_or_none : (value : Option Text) → first_given value None ≡ value
given_or_none None = refl
given_or_none (Some value) = refl

-- a name after the options is found as one more of them
pub found_more : (slots : List Slot) (id value : Text) (words : Text → List Said)
    → found_in slots ++ row id value
    ∷ [] ≡ found_in (slots ++ record { id = id; words = words; value = Some value } ∷ [])
found_more [] id value words = refl
found_more (slot ∷ rest) id value words =
    let whole : (given_rows slot.id slot.value ++ found_in rest) ++ row id value
    ∷ [] ≡ given_rows slot.id slot.value ++ (found_in rest ++ row id value ∷ []) =
    simp append_assoc in
    whole ∙ ap (λ (rows : List Row). given_rows slot.id slot.value ++ rows)
    (found_more rest id value words)

-- nothing, if it is none of them
pub none_in : (id : Text) (slots : List Slot)
    → list_all (λ slot. not (bytes_eq slot.id id)) slots ≡ true
    → has_row id (found_in slots) ≡ false
none_in id [] others = refl
none_in id (slot ∷ rest) others =
    let parts = both (not (bytes_eq slot.id id)) _ others in
    by slot.value (not_so _ parts.0) (none_in id rest parts.1)
  where
    by : (value : Option Text) → bytes_eq slot.id id ≡ false → has_row id (found_in rest) ≡ false
        → has_row id (given_rows slot.id value ++ found_in rest) ≡ false
    by None other none = none
    by (Some value) other none = or_from _ _ other none

-- ---- the two ways to write an option

-- its value is a word of its own
abbrev pub apart : Text → Text → List Said
apart id value = exact (codes "--" ++ id) ∷ plain value ∷ []

-- its value stands after `=`
abbrev pub attached : Text → Text → List Said
attached id value = exact (codes "--" ++ id ++ codes "=" ++ value) ∷ []

abbrev pub after_apart : Shape → Text → Text → Held → Held
after_apart s id value h = record (settled s.rules h) { pending = Some (id, value ∷ []) }

abbrev pub after_attached : Shape → Text → Text → Held → Held
after_attached s id value h =
    record (settled s.rules h) { rows = added id value (settled s.rules h).rows }

abbrev pub held_fault : Shape → Held → Kinds
held_fault s h = settle_fault s.rules s.args_override_self h

abbrev use_again : Shape → Text → Held → Kinds
use_again s id h = or_else (repeat_fault false id (settled s.rules h).rows) []

-- what is computed at a command and an option that are written out
pub record IsApart (s : Shape) (id : Text) : Type 0 where
  pub walks : (value : Text) (h : Held) (rest : List Said)
      → fold (said_walked s.rules) (walk_from h) (apart id value ++ rest)
      ≡ fold (said_walked s.rules) (walk_from (after_apart s id value h)) rest
  pub fails : (value : Text) (h : Held) (rest : List Said)
      → said_fault s (walk_from h) (apart id value ++ rest)
      ≡ or_else (or_else (held_fault s h) [])
      (said_fault s (walk_from (after_apart s id value h)) rest)
  pub settles : (value : Text) (h : Held)
      → held_fault s (after_apart s id value h) ≡ use_again s id h
  pub rows : (value : Text) (h : Held)
      → (settled s.rules (after_apart s id value h)).rows ≡ added id value (settled s.rules h).rows

pub record IsAttached (s : Shape) (id : Text) : Type 0 where
  pub walks : (value : Text) (h : Held) (rest : List Said)
      → fold (said_walked s.rules) (walk_from h) (attached id value ++ rest)
      ≡ fold (said_walked s.rules) (walk_from (after_attached s id value h)) rest
  pub fails : (value : Text) (h : Held) (rest : List Said)
      → said_fault s (walk_from h) (attached id value ++ rest)
      ≡ or_else (or_else (or_else (held_fault s h) (use_again s id h)) [])
      (said_fault s (walk_from (after_attached s id value h)) rest)

pub first_use : (s : Shape) (id : Text) (h : Held) → has_row id (settled s.rules h).rows ≡ false
    → use_again s id h ≡ []
first_use s id h new = rw new refl

pub apart_option : (s : Shape) (id : Text) → IsApart s id → IsOption s id (apart id)
apart_option s id is = record {
  after = after_apart s id;
  walks = is.walks;
  passes = λ value h rest settled new. is.fails value h rest ∙ rw settled refl;
  settles = λ value h new. is.settles value h ∙ first_use s id h new;
  rows = is.rows;
}

pub attached_option : (s : Shape) (id : Text) → IsAttached s id → IsOption s id (attached id)
attached_option s id is = record {
  after = after_attached s id;
  walks = is.walks;
  passes = λ value h rest settled new. is.fails value h rest
      ∙ rw (settled, first_use s id h new) refl;
  settles = λ value h new. refl;
  rows = λ value h. refl;
}

-- ---- the end of the words

-- an option that takes one value begins anew with each
pub begins : {A : Type 0} (pending : Bool) (more one : A)
    → (if pending && false then more else one) ≡ one
begins true more one = refl
begins false more one = refl

-- a command without defaults takes its words, if the walk ends so
pub ends_by : (s : Shape) → list_all (λ a. is_empty a.defaults) s.rules ≡ true
    → (w : Walk) (said : List Said) (h : Held) (end : List Row)
    → (fold (said_walked s.rules) w said).held ≡ h → said_fault s w said ≡ [] → held_fault s h ≡ []
    → (settled s.rules h).rows ≡ end → check_fault s end false ≡ []
    → Ends s w said end
ends_by s none w said h end is passes settles rows checked =
    let late : Held
    → Kinds = λ g. or_else (held_fault s g)
    (or_else (defaults_fault (settled s.rules g).rows s.rules)
    (check_fault s (finished s.rules g) false)) in
    let whole : finished s.rules h ≡ end = no_defaults s.rules (settled s.rules h).rows none
    ∙ rows in
    let last : late h ≡ [] =
    ap₂ or_else settles (ap₂ or_else (no_defaults_fault s.rules (settled s.rules h).rows none)
    (ap (λ (r : List Row). check_fault s r false) whole ∙ checked)) in
    record {
      passes = ap₂ or_else passes (ap late is) ∙ last;
      are = ap (finished s.rules) is ∙ whole;
    }

-- ---- the options as words

pub said_told : (said rest : List Said) (words more : List Text) → map text_of said ≡ words
    → map text_of rest ≡ more → map text_of (said ++ rest) ≡ words ++ more
said_told said rest words more first others =
    map-append text_of said rest ∙ ap₂ (λ (a b : List Text). a ++ b) first others

-- no value begins with a hyphen
pub plain_more : (id : Text) (value : Option Text) (rest : List Said) → IfSome value IsNoFlag
    → ArePlain rest → ArePlain (given_words (apart id) value ++ rest)
plain_more id None rest free plain_rest = plain_rest
plain_more id (Some value) rest free plain_rest = (tt, (free, plain_rest))
