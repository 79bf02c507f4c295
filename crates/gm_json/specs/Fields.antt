-- What the JSON is made of.
use Rattle.std.specs.Prelude.{ℕ, Bool, List, [], ◌∷◌, map}
use Rattle.serde_json.specs.Data.{Data, array, boolean, Members, member, no_members, number, object, string, unsigned}
use Rattle.serde_json.specs.View.{items_of}
use Rattle.serde_json.specs.Written.{compact_text}

-- a member of an object
pub record Field : Type 0 where
  pub key : List ℕ
  pub value : Data

-- one with this value
abbrev pub value_at : List ℕ → Data → Field
value_at key value = record { key = key; value = value }

-- one that is a number
abbrev pub number_at : List ℕ → ℕ → Field
number_at key n = record { key = key; value = number (unsigned n) }

-- one that is a text
abbrev pub text_at : List ℕ → List ℕ → Field
text_at key text = record { key = key; value = string text }

-- one that is true or false
abbrev pub truth_at : List ℕ → Bool → Field
truth_at key holds = record { key = key; value = boolean holds }

-- what is told of each
abbrev pub array_of : {X : Type 0} → (X → Data) → List X → Data
array_of f xs = array (items_of (map f xs))

-- one that is a list of it
abbrev pub each_at : {X : Type 0} → List ℕ → (X → Data) → List X → Field
each_at key f xs = record { key = key; value = array_of f xs }

-- one that is a list of texts
abbrev pub texts_at : List ℕ → List (List ℕ) → Field
texts_at key texts = each_at key string texts

-- the members, in this order
abbrev pub members_of : List Field → Members
members_of [] = no_members
members_of (f ∷ fs) = member f.key f.value (members_of fs)

-- the object of them
abbrev pub object_of : List Field → Data
object_of fs = object (members_of fs)

-- the text of a value, without a space
unfoldable pub text_of : Data → List ℕ
text_of d = compact_text d
