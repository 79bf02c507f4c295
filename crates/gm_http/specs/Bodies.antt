-- The call that the body of a request holds, and whether it is forced.
use Rattle.std.specs.Prelude.{◌==◌, ◌&&◌, ◌+◌, ℕ, Bool, false, List, [], ◌∷◌, Option, Some, None, codes, option_map, option_and_then, map, string_bytes, if◌then◌else◌}
use Rattle.std.specs.Option.{option_map_or}
use Rattle.std.specs.Str.{is_utf8}
use Rattle.gm_http.specs.declared.bodies.Call as declared
use Rattle.serde_json.specs.Data.{Data, Items, no_items, item, Members, no_members, member}
use Rattle.serde_json.specs.Find.{get, as_bool, as_str, as_array, as_object}
use Rattle.serde_json.specs.Read.{read}

-- a key and the words of a command, and whether it is forced
pub record Call : Type 0 where
  pub key : List ℕ
  pub words : List (List ℕ)
  pub forced : Bool

-- the texts of a call that was read
abbrev pub texts_in : declared.Call → Call
texts_in call = record {
  key = string_bytes call.key;
  words = map string_bytes call.words.items;
  forced = call.forced;
}

-- the texts of an array of strings
abbrev pub texts_of : Items → Option (List (List ℕ))
texts_of no_items = Some []
texts_of (item d ds) =
    option_and_then (λ text. option_map (λ texts. text ∷ texts) (texts_of ds)) (as_str d)

abbrev pub count : Members → ℕ
count no_members = 0
count (member k d ms) = 1 + count ms

-- an object of so many members
unfoldable pub has_count : ℕ → Data → Bool
has_count n d = option_map_or (λ ms. count ms == n) (as_object d) false

-- the member `key`, a string
unfoldable pub key_in : Data → Option (List ℕ)
key_in d = option_and_then as_str (get (codes "key") d)

-- the member `words`, an array of strings
unfoldable pub words_in : Data → Option (List (List ℕ))
words_in d = option_and_then texts_of (option_and_then as_array (get (codes "words") d))

-- the member `force`, true or false
unfoldable pub force_in : Data → Option Bool
force_in d = option_and_then as_bool (get (codes "force") d)

-- whether an object of just `key` and `words` is forced, which it isn't, or one that has `force`
-- too, if that is taken
unfoldable pub forced_in : Bool → Data → Option Bool
forced_in takes d = if has_count 2 d then Some false
    else if takes && has_count 3 d then force_in d else None

-- the call of the members `key` and `words`
unfoldable pub call_by : Data → Bool → Option Call
call_by d forced = option_and_then (λ k.
    option_map (λ ws. record { key = k; words = ws; forced = forced }) (words_in d)) (key_in d)

-- an object of just the members `key` and `words`, and `force` if that is taken and there
unfoldable pub call_in : Bool → Data → Option Call
call_in takes d = option_and_then (call_by d) (forced_in takes d)

-- the call that a JSON text holds
unfoldable pub call_of : Bool → List ℕ → Option Call
call_of takes bytes = if is_utf8 bytes then option_and_then (call_in takes) (read bytes) else None
