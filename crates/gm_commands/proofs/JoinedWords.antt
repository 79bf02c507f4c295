-- Words that are joined by a byte.
use Rattle.gm_commands.proofs.Common.{◌≡◌, ◌∙◌, ℕ, not, refl, sym, ap, List, [], ◌∷◌, ◌++◌, append_assoc, append-nil, Result, Ok, Err, IfOk, length, ◌<◌, arith, codes, join_by, join_with_byte, decimal, balance_name, NewMirror, Label, balance_of_word, on_where, number_words, switch_words, spaced, words_of}

-- two parts of a line
pub join_two : (c : ℕ) (a : List ℕ) (xs : List (List ℕ)) (b : List ℕ) (ys : List (List ℕ))
    → join_with_byte c (a ∷ xs ++ b ∷ ys) ≡ join_with_byte c (a ∷ xs)
    ++ (c ∷ join_with_byte c (b ∷ ys))
join_two c a [] b ys = refl
join_two c a (x ∷ xs) b ys =
    ap (λ (z : List ℕ). a ++ (c ∷ z)) (join_two c x xs b ys)
    ∙ sym (append_assoc a (c ∷ join_with_byte c (x ∷ xs)) (c ∷ join_with_byte c (b ∷ ys)))

-- a line of which two parts were joined before
pub join_parts : (c : ℕ) (w m : List ℕ) (ms : List (List ℕ)) (s : List ℕ) (ss : List (List ℕ))
    (n p : List ℕ)
    → join_with_byte c (w ∷ join_with_byte c (m ∷ ms) ∷ join_with_byte c (s ∷ ss) ∷ n ∷ p ∷ [])
    ≡ join_with_byte c (w ∷ m ∷ ms ++ s ∷ ss ++ n ∷ p ∷ [])
join_parts c w m ms s ss n p =
    sym (join_two c w (m ∷ (ms ++ s ∷ ss)) n (p ∷ [])
    ∙ (ap (λ (x : List ℕ). x ++ (c ∷ join_with_byte c (n ∷ p ∷ [])))
    (join_two c w (m ∷ ms) s ss) ∙ simp append_assoc))

-- the line of a label, whose options were joined before
pub label_line : (new : NewMirror)
    → (numbers switches balance autosync failsync hardcode : List ℕ) (bytes : ℕ)
    → numbers ≡ join_with_byte 32 (number_words new.mid new.did balance bytes)
    → switches ≡ join_with_byte 32 (switch_words autosync failsync hardcode)
    → balance ≡ balance_name (balance_of_word new.balance) → bytes ≡ new.slice
    → autosync ≡ on_where (not new.flags.no_autosync)
    → failsync ≡ on_where (not new.flags.no_failsync) → hardcode ≡ on_where new.hardcoded
    → join_with_byte 32 (codes "label" ∷ numbers ∷ switches ∷ new.name ∷ new.provider ∷ [])
    ≡ words_of (Label new)
label_line new numbers switches balance autosync failsync hardcode bytes e f b s x y z =
    rw (e, f, b, s, x, y, z)
    (join_parts 32 (codes "label") (codes "--mid") (decimal new.mid ∷ codes "--did"
    ∷ decimal new.did ∷ codes "--balance" ∷ balance_name (balance_of_word new.balance)
    ∷ codes "--slice" ∷ decimal new.slice ∷ [])
    (codes "--autosync") (on_where (not new.flags.no_autosync) ∷ codes "--failsync"
    ∷ on_where (not new.flags.no_failsync) ∷ codes "--hardcode" ∷ on_where new.hardcoded
    ∷ []) new.name new.provider)

-- ---- what is given

pub spaced_pair : (o v : List ℕ) → 32 ∷ (o ++ (32 ∷ v)) ≡ spaced (o ∷ v ∷ [])
spaced_pair o v = rw (append-nil v) refl

join_spaced : (w : List ℕ) (ws : List (List ℕ)) → join_with_byte 32 (w ∷ ws) ≡ w ++ spaced ws
join_spaced w [] = sym (append-nil w)
join_spaced w (x ∷ ws) = ap (λ (z : List ℕ). w ++ (32 ∷ z)) (join_spaced x ws)

spaced-append : (xs ys : List (List ℕ)) → spaced (xs ++ ys) ≡ spaced xs ++ spaced ys
spaced-append [] ys = refl
spaced-append (x ∷ xs) ys = ap (λ (z : List ℕ). (32 ∷ x) ++ z) (spaced-append xs ys)
    ∙ sym (append_assoc (32 ∷ x) (spaced xs) (spaced ys))

-- the line of a configure, from its options with a space before each
pub configure_line : (b s a f h p : List (List ℕ)) (n : List ℕ)
    → codes "configure"
    ++ (spaced b
    ++ (spaced s ++ (spaced a ++ (spaced f ++ (spaced h ++ (spaced p ++ (32 ∷ n)))))))
    ≡ join_with_byte 32 (codes "configure" ∷ (b ++ s ++ a ++ f ++ h ++ p) ++ n ∷ [])
configure_line b s a f h p n =
    sym (join_spaced (codes "configure") ((b ++ s ++ a ++ f ++ h ++ p) ++ n ∷ [])
    ∙ simp (spaced-append, append_assoc, append-nil))

-- that of a mirror and a row of providers
pub row_line : (word n : List ℕ) (ps : List (List ℕ)) → 0 < length ps
    → word ++ (32 ∷ (n ++ (32 ∷ join_by (λ (t : List ℕ). t) (32 ∷ []) ps)))
    ≡ join_with_byte 32 (word ∷ n ∷ ps)
row_line word n [] some = absurd (omega arith)
row_line word n (p ∷ ps) some = sym (join_spaced word (n ∷ p ∷ ps))

-- a text that is known if it is there
pub ok_is : {T E : Type 0} (r : Result T E) (f : T → List ℕ) (x y : List ℕ) → x ≡ y
    → IfOk r (λ t. f t ≡ x) → IfOk r (λ t. f t ≡ y)
ok_is (Ok t) f x y e h = h ∙ e
ok_is (Err t) f x y e h = h
