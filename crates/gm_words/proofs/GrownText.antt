-- Texts that grow by one piece at a time.
use Rattle.gm_words.proofs.Common.{◌≡◌, ◌∙◌, ℕ, ◌+◌, ◌<◌, List, [], ◌∷◌, ◌++◌, take, length, get_or, flat_map, map, refl, sym, ap, join_by, flat_map-map, flat_map_more, map-append, take_more}
use Rattle.std.proofs.lemmas.List.{append_assoc}

-- the pieces of one element more
pub flat_map_next : {X A : Type 0} (f : X → List A) (all : List X) (i : ℕ) (x : X) → i < length all
    → x ≡ get_or all i x → flat_map f (take (i + 1) all) ≡ flat_map f (take i all) ++ f x
flat_map_next f all i x low is =
    ap (flat_map f) (take_more all i x low ∙ ap (λ y. take i all ++ y ∷ []) (sym is))
    ∙ sym (flat_map_more f [] (take i all) x)

-- a text with the pieces so far, and one more
pub grown : {X A : Type 0} (f : X → List A) (all : List X) (i : ℕ) (x : X) (base text more : List A)
    → i < length all → x ≡ get_or all i x
    → text ≡ base ++ flat_map f (take i all) → more ≡ text ++ f x
    → more ≡ base ++ flat_map f (take (i + 1) all)
grown f all i x base text more low is so next =
    next ∙ (ap (λ t. t ++ f x) so ∙ (append_assoc base (flat_map f (take i all)) (f x)
    ∙ ap (λ t. base ++ t) (sym (flat_map_next f all i x low is))))

-- pieces that are joined, as they stand or by what they hold
pub join_of : {X A : Type 0} (f : X → List A) (separator : List A) (xs : List X)
    → join_by f separator xs ≡ join_by (λ x. x) separator (map f xs)
join_of f separator [] = refl
join_of f separator (x ∷ xs) = ap (λ t. f x ++ t) (sym (flat_map-map (λ y. separator ++ y) f xs))

-- as many values, of one element more
pub mapped_next : {X Y A : Type 0} (f : X → A) (g : Y
    → A) (all : List X) (i : ℕ) (x : X) (made : List Y) (y : Y) → i < length all
    → x ≡ get_or all i x
    → map g made ≡ map f (take i all) → g y ≡ f x
    → map g (made ++ y ∷ []) ≡ map f (take (i + 1) all)
mapped_next f g all i x made y low is so next =
    map-append g made (y ∷ []) ∙ (ap (λ t. t ++ g y ∷ []) so
    ∙ (ap (λ t. map f (take i all) ++ t ∷ []) next
    ∙ (sym (map-append f (take i all) (x ∷ [])) ∙ ap (map f)
    (sym (take_more all i x low ∙ ap (λ z. take i all ++ z ∷ []) (sym is))))))

-- what is joined by what it holds
pub joined_as : {X Y A : Type 0} (f : X → List A) (g : Y
    → List A) (separator : List A) (xs : List X) (ys : List Y) → map g ys ≡ map f xs
    → join_by g separator ys ≡ join_by f separator xs
joined_as f g separator xs ys same =
    join_of g separator ys ∙ (ap (join_by (λ x. x) separator) same ∙ sym (join_of f separator xs))

-- a text that grew by one piece more
pub also : {A : Type 0} (piece : List A) {made text more : List A} → text ≡ made
    → more ≡ text ++ piece → more ≡ made ++ piece
also piece so next = next ∙ ap (λ t. t ++ piece) so
