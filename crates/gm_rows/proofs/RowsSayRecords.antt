-- When rows say records, and when they say none.
use Rattle.gm_rows.proofs.Common.{◌≡◌, ◌∙◌, ℕ, ◌+◌, List, [], ◌∷◌, map, refl, sym, ap, subst, All, Result, Ok, Err, IfErr, IsErrAnd, IsPermutation, IsPermutation-map, IsPermutation-sym, Row, column, Value, Blob, Intent, Meta, Clear, Copy, Dirty, Patch, Mirror, Component, Has, same_joined, AreSectors, mirror_row, component_row, joined, patch_rows, columns_at, numbered, nine, shown_patch, mirror_shown, component_shown, intent_shown}
use Rattle.gm_rows.proofs.ReorderedValues.{unmapped, same_records, all_moved, numbered_map}

-- one mirror has a row, and one component
pub one_mirror : (a b : Mirror) → (mirror_row a ≡ mirror_row b → a ≡ b)
    → mirror_shown a ≡ mirror_shown b → a ≡ b
one_mirror a b one same = one (cc)

pub one_component : (a b : Component) → (component_row a ≡ component_row b → a ≡ b)
    → component_shown a ≡ component_shown b → a ≡ b
one_component a b one same = one (cc)

-- records in another order say the rows that they were read from
pub says_these : {A : Type 0} (f : A → Row) (rows : List Row) (read state : List A)
    → map (columns_at nine) rows ≡ numbered (λ _ x. f x) 1 read → IsPermutation read state
    → IsPermutation (map f state) (map (columns_at nine) rows)
says_these f rows read state is same =
    subst (IsPermutation (map f state)) (sym (is ∙ numbered_map f 1 read))
    (IsPermutation-map f state read (IsPermutation-sym read state same))

-- no list of values is that of the rows, so they say no records
pub none_said : {A : Type 0} (f : A → Row) (P : A → Type 0) (rows : List Row)
    → ((list : List A) → All P list → map (columns_at nine) rows ≡ numbered (λ _ x. f x) 1 list → ⊥)
    → (state : List A) → ((x : A) → Has state x → P x)
    → IsPermutation (map f state) (map (columns_at nine) rows) → ⊥
none_said f P rows none state each same =
    let it = unmapped f state (map (columns_at nine) rows) same in
    none it.0 (all_moved P state it.0 it.1 each) (sym it.2 ∙ sym (numbered_map f 1 it.0))

-- records of the rows are those that were read, in another order
pub read_said : {A : Type 0} (f : A → Row) → ((a b : A) → f a ≡ f b → a ≡ b)
    → (rows : List Row) (read state : List A)
    → map (columns_at nine) rows ≡ numbered (λ _ x. f x) 1 read
    → IsPermutation (map f state) (map (columns_at nine) rows) → IsPermutation read state
read_said f inj rows read state is same =
    IsPermutation-sym state read (same_records f inj state read
    (subst (IsPermutation (map f state)) (is ∙ numbered_map f 1 read) same))

-- what an error that is passed on says
pub passed_on : {T E : Type 0} (r : Result T E) (P Q : E → Type 0) → ((e : E) → P e → Q e)
    → IsErrAnd r P → IfErr r Q
passed_on (Ok t) P Q f h = tt
passed_on (Err e) P Q f h = f e h

-- an intent has one row
one_intent : (n : ℕ) (a b : Intent) → intent_shown n a ≡ intent_shown n b → a ≡ b
one_intent n (Meta p) (Meta q) e = let h : p ≡ q = cc in ap Meta h
one_intent n (Clear p) (Clear q) e = let h : p ≡ q = cc in ap Clear h
one_intent n (Copy from to first end) (Copy from' to' first' end') e =
    let f : from ≡ from' = cc in
    let t : to ≡ to' = cc in
    let l : first ≡ first' = cc in
    let h : end ≡ end' = cc in
    cc
one_intent n (Dirty p) (Dirty q) e = let h : p ≡ q = cc in ap Dirty h
one_intent n (Patch p first end) (Patch q first' end') e =
    let f : p ≡ q = cc in
    let l : first ≡ first' = cc in
    let h : end ≡ end' = cc in
    cc
one_intent n (Meta p) (Clear q) e = cc
one_intent n (Meta p) (Copy from to first end) e = cc
one_intent n (Meta p) (Dirty q) e = cc
one_intent n (Meta p) (Patch q first end) e = cc
one_intent n (Clear p) (Meta q) e = cc
one_intent n (Clear p) (Copy from to first end) e = cc
one_intent n (Clear p) (Dirty q) e = cc
one_intent n (Clear p) (Patch q first end) e = cc
one_intent n (Copy from to first end) (Meta q) e = cc
one_intent n (Copy from to first end) (Clear q) e = cc
one_intent n (Copy from to first end) (Dirty q) e = cc
one_intent n (Copy from to first end) (Patch q first' end') e = cc
one_intent n (Dirty p) (Meta q) e = cc
one_intent n (Dirty p) (Clear q) e = cc
one_intent n (Dirty p) (Copy from to first end) e = cc
one_intent n (Dirty p) (Patch q first end) e = cc
one_intent n (Patch p first end) (Meta q) e = cc
one_intent n (Patch p first end) (Clear q) e = cc
one_intent n (Patch p first end) (Copy from to first' end') e = cc
one_intent n (Patch p first end) (Dirty q) e = cc

pub one_list : (n : ℕ) (xs ys : List Intent)
    → numbered intent_shown n xs ≡ numbered intent_shown n ys → xs ≡ ys
one_list n [] [] e = refl
one_list n [] (y ∷ ys) e = cc
one_list n (x ∷ xs) [] e = cc
one_list n (x ∷ xs) (y ∷ ys) e =
    let heads : intent_shown n x ≡ intent_shown n y = cc in
    let tails : numbered intent_shown (n + 1) xs ≡ numbered intent_shown (n + 1) ys = cc in
    let h = one_intent n x y heads in
    let t = one_list (n + 1) xs ys tails in
    cc

-- the bytes of a value
abbrev pub blob_in : Value → List ℕ
blob_in (Blob b) = b
blob_in _ = []

-- and bytes have one record
pub one_blob : (xs ys : List (List ℕ)) → AreSectors xs → AreSectors ys
    → map shown_patch (patch_rows xs) ≡ map shown_patch (patch_rows ys) → xs ≡ ys
one_blob [] [] first second e = refl
one_blob [] (y ∷ ys) first second e = cc
one_blob (x ∷ xs) [] first second e = cc
one_blob (x ∷ xs) (y ∷ ys) first second e =
    let rows : shown_patch (joined (x ∷ xs)) ≡ shown_patch (joined (y ∷ ys)) = cc in
    same_joined (x ∷ xs) (y ∷ ys) first second (ap (λ (row : Row). blob_in (column row 1)) rows)
