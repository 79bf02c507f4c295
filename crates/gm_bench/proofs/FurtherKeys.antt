-- Which further keys may be taken.
use Rattle.gm_bench.proofs.Common.{◌≡◌, ◌≢◌, inl, inr, ⊎_elim, ℕ, ◌+◌, ◌<◌, ◌≤◌, ◌-◌, min, Bool, true, false, sym, subst, arith, List, [], ◌∷◌, ◌++◌, map, take, length, get_or, map-Has, AreReadUnderAll, length-append, Option, Some, None, MatchOption, is_some, not, list_any, Has, Has-map, none_any, not_both, same_from, is_key, Tables, IsFree, count_of, AreFresh, IsFreeBeside, MayBeTaken}
use Rattle.std.proofs.lemmas.List.{length-take}
use Rattle.gm_lists.proofs.Sorting.{Contains-Has}
use Rattle.gm_registry.specs.Replies.{AreWrittenUnder}
use Rattle.std.specs.Str.{bytes_eq}

-- ---- one key

-- a key that isn't the same as another is another
pub not_same : (key other : List ℕ) → bytes_eq key other ≡ false → key ≢ other
not_same key other e same = not_both (bytes_eq key other) (same_from key other same) e

-- a key that no test finds among others isn't one of them
pub not_among : {X : Type 0} (f : X → List ℕ) (xs : List X) (key : List ℕ)
    → list_any (λ x. bytes_eq (f x) key) xs ≡ false → Has (map f xs) key → ⊥
not_among {X} f xs key e h =
    let r = Has-map f xs key h in
    not_both (bytes_eq (f r.0) key) (same_from (f r.0) key r.2)
    (none_any (λ (x : X). bytes_eq (f x) key) xs e r.0 r.1)

-- a key under which nothing is found is free
pub free_beside : {X : Type 0} (key first : List ℕ) (taken : List (List ℕ)) (t : Tables)
    (o : Option X) (K : X → Type 0) → is_key key ≡ true → key ≢ first → (Has taken key → ⊥)
    → MatchOption o (IsFree t key) K → (b : Bool) → is_some o ≡ not b
    → IsFreeBeside key first taken b t
free_beside key first taken t None K ok other none free true e = (ok, free, other, none)
free_beside key first taken t (Some x) K ok other none it true e = let no : ⊥ = cc in absurd no
free_beside key first taken t o K ok other none it false e = tt

-- ---- several keys in turn

-- one more key that is free beside those before it
pub fresh_then : (t : Tables) (taken keys : List (List ℕ)) (key : List ℕ) → AreFresh t taken keys
    → is_key key ≡ true → IsFree t key → (Has taken key → ⊥) → (Has keys key → ⊥)
    → AreFresh t taken (keys ++ key ∷ [])
fresh_then t taken [] key are ok free none others = (ok, free, none, tt)
fresh_then t taken (k ∷ ks) key are ok free none others = (
  are.0,
  are.1,
  are.2,
  fresh_then t (k ∷ taken) ks key are.3 ok free
      (λ h. ⊎_elim (λ (e : k ≡ key). others (inl e)) (λ (h : Has taken key). none h) h)
      (λ h. others (inr h)),
)

-- the first of the keys may be taken in turn
pub fresh_first : (t : Tables) (taken keys more : List (List ℕ)) → AreFresh t taken (keys ++ more)
    → AreFresh t taken keys
fresh_first t taken [] more are = tt
fresh_first t taken (k ∷ ks) more are =
    (are.0, are.1, are.2, fresh_first t (k ∷ taken) ks more are.3)

-- the first of the keys that may be taken may be taken
pub first_taken : (t : Tables) (first : List ℕ) (keys more : List (List ℕ))
    → MayBeTaken first (keys ++ more) t → MayBeTaken first keys t
first_taken t first keys more may =
    let room : count_of t + length (keys ++ more) < 100000 = may.room in
    let long : length (keys ++ more) ≡ length keys + length more = length-append keys more in
    record { fresh = fresh_first t (first ∷ []) keys more may.fresh; room = omega arith }

-- ---- how many of them

-- so many of the keys are free in turn, where there is room for this many
abbrev pub AreCounted : List ℕ → List (List ℕ) → ℕ → ℕ → Tables → Type 0
AreCounted first keys room n t =
    (room ≡ 99999 - count_of t) × AreFresh t (first ∷ []) (take n keys)

-- if there is room for one command at all, they may be taken
pub counted_free : (first : List ℕ) (keys : List (List ℕ)) (room n : ℕ) (t : Tables)
    → n ≤ room → AreCounted first keys room n t → count_of t < 100000
    → MayBeTaken first (take n keys) t
counted_free first keys room n t few are some =
    let long : length (take n keys) ≡ min n (length keys) = length-take n keys in
    let e : room ≡ 99999 - count_of t = are.0 in
    record { fresh = are.1; room = omega arith }

-- one more of them that is free beside those before it
pub counted_more : (first : List ℕ) (keys : List (List ℕ)) (room n : ℕ) (key : List ℕ)
    (taken : List (List ℕ)) (t : Tables) → taken ≡ take n keys
    → take (n + 1) keys ≡ take n keys ++ key ∷ []
    → AreCounted first keys room n t → IsFreeBeside key first taken true t
    → AreCounted first keys room (n + 1) t
counted_more first keys room n key taken t same more are free = (
  are.0,
  subst (AreFresh t (first ∷ [])) (sym more)
      (fresh_then t (first ∷ []) (take n keys) key are.1 free.0 free.1
      (λ h. ⊎_elim (λ (e : first ≡ key). free.2 (sym e)) (λ (none : ⊥). none) h)
      (subst (λ (l : List (List ℕ)). Has l key → ⊥) same free.3)),
)

-- a command under one of the keys can be read if those under all can
pub key_read : {X : Type 0} (f : X → List ℕ) (xs : List X) (i : ℕ) (x : X) (key : List ℕ)
    (t : Tables) → i < length xs → x ≡ get_or xs i x → key ≡ f x
    → AreReadUnderAll (map f xs) t → AreWrittenUnder key t
key_read f xs i x key t l is e read =
    read.1 key (subst (Has (map f xs)) (sym e) (map-Has f xs x (Contains-Has xs x i l (sym is))))
