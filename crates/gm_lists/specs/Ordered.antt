-- Words on lists of records that stand in order.
use Rattle.std.specs.Prelude.{◌≡◌, ◌≢◌, ◌⊎◌, ℕ, Bool, true, not, ◌&&◌, List, [], ◌∷◌, filter, if◌then◌else◌}
use Rattle.std.specs.List.{list_all}
use Rattle.std.specs.Ordering.{nat_cmp, is_lt}
use Rattle.std.specs.Cmp.Lexicographic.{slice_cmp}
use Rattle.std.specs.Str.{bytes_eq}

-- byte order
abbrev pub label_lt : List ℕ → List ℕ → Bool
label_lt a b = is_lt (slice_cmp nat_cmp a b)

-- x is one of xs
abbrev pub Has : {X : Type 0} → List X → X → Type 0
Has [] x = ⊥
Has (y ∷ ys) x = (y ≡ x) ⊎ Has ys x

-- each comes before those after it, by a test
abbrev pub AscendsBy : {X : Type 0} → (X → X → Bool) → List X → Type 0
AscendsBy before [] = Unit {0}
AscendsBy {X} before (x ∷ xs) = ((y : X) → Has xs y → before x y ≡ true) × AscendsBy before xs

-- each name is before those after it
abbrev pub Ascends : {X : Type 0} → (X → List ℕ) → List X → Type 0
Ascends key xs = AscendsBy (λ a b. label_lt (key a) (key b)) xs

-- the same as a test
abbrev pub ascending : {X : Type 0} → (X → List ℕ) → List X → Bool
ascending key [] = true
ascending key (x ∷ xs) = list_all (λ y. label_lt (key x) (key y)) xs && ascending key xs

-- no two have one name
abbrev pub Distinct : {X : Type 0} → (X → List ℕ) → List X → Type 0
Distinct key [] = Unit {0}
Distinct {X} key (x ∷ xs) = ((y : X) → Has xs y → key x ≢ key y) × Distinct key xs

-- with x at its place, and nothing else of its name
abbrev pub put : {X : Type 0} → (X → List ℕ) → X → List X → List X
put key x [] = x ∷ []
put key x (y ∷ ys) = if bytes_eq (key x) (key y) then x ∷ ys else if label_lt (key x) (key y) then x
    ∷ y ∷ ys else y ∷ put key x ys

-- with each of these at its place
abbrev pub put_all : {X : Type 0} → (X → List ℕ) → List X → List X → List X
put_all key [] ys = ys
put_all key (x ∷ xs) ys = put_all key xs (put key x ys)

-- without what has this name
abbrev pub without : {X : Type 0} → (X → List ℕ) → List ℕ → List X → List X
without key name xs = filter (λ x. not (bytes_eq (key x) name)) xs

-- without what has one of these names
abbrev pub without_all : {X : Type 0} → (X → List ℕ) → List (List ℕ) → List X → List X
without_all key [] ys = ys
without_all key (name ∷ names) ys = without_all key names (without key name ys)
