-- What is printed of commands piece by piece.
use Rattle.std.proofs.Common.{◌≡◌, ◌∙◌, ℕ, List, [], ◌∷◌, ◌++◌, Bool, true, false, map, refl, sym, ap, append_assoc}
use Rattle.std.specs.Prelude.{codes}
use Rattle.json.specs.Print.{escape_byte}
use Rattle.serde_json.specs.Data.{Data, string}
use Rattle.serde_json.specs.View.{items_of}
use Rattle.serde_json.specs.Written.{comma_if, compact_text, has_float, items_have_float, items_text}
use Rattle.gm_state.specs.declared.intents.Reply.{Reply}
use Rattle.gm_state.specs.declared.intents.Reply.TheVariants.{Plain, Copied}
use Rattle.gm_json.specs.Fields.{text_of}
use Rattle.gm_json.specs.History.{closing, history_data, kept_data, opening, pieces_text}

-- texts have no float
strings_none : (ws : List (List ℕ)) → items_have_float (items_of (map string ws)) ≡ false
strings_none [] = refl
strings_none (w ∷ ws) = strings_none ws

pub kept_none : (key : List ℕ) (number : ℕ) (words : List (List ℕ)) (reply : Reply)
    → has_float (kept_data key number words reply) ≡ false
kept_none key number words Plain = rw (strings_none words) refl
kept_none key number words (Copied held total) = rw (strings_none words) refl

-- the items of an array, each in turn, and its end
items_pieces : (later : Bool) (ds : List Data)
    → items_text later (items_of ds) ≡ pieces_text later ds ++ 93 ∷ []
unfolding text_of
items_pieces later [] = refl
items_pieces later (d ∷ ds) =
    ap (λ l. comma_if later ++ (compact_text d ++ l)) (items_pieces true ds)
    ∙ (ap (λ l. comma_if later ++ l)
    (sym (append_assoc (compact_text d) (pieces_text true ds) (93 ∷ [])))
    ∙ (sym (append_assoc (comma_if later) (compact_text d ++ pieces_text true ds) (93 ∷ []))
    ∙ ap (λ l. l ++ 93 ∷ [])
    (sym (append_assoc (comma_if later) (compact_text d) (pieces_text true ds)))))

pub pieces_whole : (ds : List Data)
    → opening ++ pieces_text false ds ++ closing ≡ text_of (history_data ds)
unfolding text_of escape_byte
pieces_whole ds =
    append_assoc opening (pieces_text false ds) closing
    ∙ ap (λ l. opening ++ l)
    (sym (append_assoc (pieces_text false ds) (93 ∷ []) (125 ∷ []))
    ∙ ap (λ l. l ++ 125 ∷ []) (sym (items_pieces false ds)))
