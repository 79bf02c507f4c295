-- Bytes are cut into sectors, which are joined to them again.
use Rattle.gm_rows.proofs.Common.{◌≡◌, ◌∙◌, inl, inr, ℕ, zero, suc, ◌+◌, ◌*◌, ◌/◌, ◌%◌, ◌≤◌, List, [], ◌∷◌, ◌++◌, length, take, drop, refl, sym, ap, arith, length-append, length-drop, append-nil, take-append-drop, length-take-le, drop-drop, append_assoc, mul-mod_right, mod-add-div', first_chunks, AreSectors, joined}
use Rattle.std.proofs.lemmas.List.Concat.{flat_map-cons}

-- each piece is a sector
pub pieces_whole : (k : ℕ) (xs : List ℕ) → k * 512 ≤ length xs → AreSectors (first_chunks 512 k xs)
pieces_whole zero xs low x h = absurd h
pieces_whole (suc k) xs low x (inl same) =
    sym (ap length same) ∙ length-take-le 512 xs (omega (arith, low))
pieces_whole (suc k) xs low x (inr later) =
    pieces_whole k (drop 512 xs) (omega (arith, low, length-drop 512 xs)) x later

-- with what is left they are the bytes
pieces_joined : (k : ℕ) (xs : List ℕ) → k * 512 ≤ length xs
    → joined (first_chunks 512 k xs) ++ drop (k * 512) xs ≡ xs
pieces_joined zero xs low = refl
pieces_joined (suc k) xs low =
    let pieces = first_chunks 512 k (drop 512 xs) in
    let count : suc k * 512 ≡ 512 + k * 512 = omega arith in
    let left : drop (suc k * 512) xs ≡ drop (k * 512) (drop 512 xs) =
    ap (λ n. drop n xs) count ∙ sym (drop-drop (k * 512) 512 xs) in
    let rest = pieces_joined k (drop 512 xs) (omega (arith, low, length-drop 512 xs)) in
    (λ i. flat_map-cons (λ s. s) (take 512 xs) pieces i ++ left i)
    ∙ (append_assoc (take 512 xs) (joined pieces) _
    ∙ (ap (λ l. take 512 xs ++ l) rest ∙ take-append-drop 512 xs))

pub all_joined : (xs : List ℕ) → drop (length xs / 512 * 512) xs ≡ []
    → joined (first_chunks 512 (length xs / 512) xs) ≡ xs
all_joined xs none =
    let k = length xs / 512 in
    let parts = mod-add-div' (length xs) 512 in
    let low : k * 512 ≤ length xs = omega (arith, parts) in
    sym (append-nil _) ∙ (ap (λ l. joined (first_chunks 512 k xs) ++ l) (sym none)
    ∙ pieces_joined k xs low)

length-joined : (sectors : List (List ℕ)) → AreSectors sectors
    → length (joined sectors) ≡ 512 * length sectors
length-joined [] whole = refl
length-joined (x ∷ xs) whole =
    let e = ap length (flat_map-cons (λ s. s) x xs) ∙ length-append x (joined xs) in
    let first = whole x (inl refl) in
    let rest = length-joined xs (λ s h. whole s (inr h)) in
    omega (arith, e, first, rest)

-- no part of a sector is left of sectors
pub none_left : (sectors : List (List ℕ)) → AreSectors sectors → length (joined sectors) % 512 ≡ 0
none_left sectors whole =
    ap (λ n. n % 512) (length-joined sectors whole) ∙ mul-mod_right 512 (length sectors)
