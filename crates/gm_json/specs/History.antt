-- What a registry keeps of the commands that it accepted.
use Rattle.std.specs.Prelude.{ℕ, Bool, true, List, [], ◌∷◌, ◌++◌, codes, map}
use Rattle.std.specs.Borrow.{Bor}
use Rattle.gm_state.specs.declared.intents.Reply.{Reply}
use Rattle.gm_state.specs.declared.intents.Reply.TheVariants.{Plain, Copied}
use Rattle.serde_json.specs.Data.{Data, array}
use Rattle.serde_json.specs.View.{items_of}
use Rattle.serde_json.specs.Written.{comma_if}
use Rattle.gm_json.specs.Fields.{number_at, object_of, text_at, text_of, texts_at, value_at}

-- the bytes of each
abbrev pub texts : List (Bor (List ℕ)) → List (List ℕ)
texts words = map (λ word. word.now) words

-- a command under its key, with its number, its words and its answer
abbrev pub kept_data : List ℕ → ℕ → List (List ℕ) → Reply → Data
kept_data key number words Plain = object_of (
    text_at (codes "answer") (codes "ok")
    ∷ text_at (codes "key") key
    ∷ number_at (codes "number") number
    ∷ texts_at (codes "words") words
    ∷ [])
kept_data key number words (Copied held total) = object_of (
    text_at (codes "answer") (codes "ok")
    ∷ number_at (codes "copied") held
    ∷ text_at (codes "key") key
    ∷ number_at (codes "number") number
    ∷ number_at (codes "of") total
    ∷ texts_at (codes "words") words
    ∷ [])

abbrev pub kept_json : List ℕ → ℕ → List (List ℕ) → Reply → List ℕ
kept_json key number words reply = text_of (kept_data key number words reply)

-- all that are shown
abbrev pub history_data : List Data → Data
history_data ds = object_of (value_at (codes "commands") (array (items_of ds)) ∷ [])

-- what is printed before the first and after the last
abbrev pub opening : List ℕ
opening = codes "{\"commands\":["

abbrev pub closing : List ℕ
closing = codes "]}"

-- each in turn, after a comma if one was printed before
abbrev pub pieces_text : Bool → List Data → List ℕ
pieces_text later [] = []
pieces_text later (d ∷ ds) = comma_if later ++ text_of d ++ pieces_text true ds
