-- Names with a suffix after them.
use Rattle.gm_registry_files.proofs.Common.{◌≡◌, ◌≢◌, ◌∙◌, ℕ, Bool, false, ◌||◌, List, [], ◌∷◌, ◌++◌, map, refl, sym, ap, ap₂, list_any, bytes_eq, same_from_decides, bytes_eq-Decides, is_with}
use Rattle.std.proofs.lemmas.Bool.{false_from_ne_true}
use Rattle.std.proofs.lemmas.List.{append_cancel_right}
use Rattle.std.proofs.lemmas.List.Folds.{list_any-append}

-- two are one just if they are with it
same_with : (a b suffix : List ℕ) → bytes_eq a b ≡ bytes_eq (b ++ suffix) (a ++ suffix)
same_with a b suffix =
    let with = bytes_eq-Decides (b ++ suffix) (a ++ suffix) in
    same_from_decides (bytes_eq a b) (bytes_eq (b ++ suffix) (a ++ suffix))
    (bytes_eq-Decides a b) (
      λ t. sym (append_cancel_right b a suffix (with.0 t)),
      λ e. with.1 (ap (λ x. x ++ suffix) (sym e)),
    )

-- a name is one of them if it is with it
pub one_with : (databases : List (List ℕ)) (name suffix : List ℕ)
    → list_any (λ x. bytes_eq x name) databases ≡ is_with databases (name ++ suffix) suffix
one_with [] name suffix = refl
one_with (d ∷ ds) name suffix = ap₂ ◌||◌ (same_with d name suffix) (one_with ds name suffix)

-- none has it that doesn't end in it
pub none_with : (databases : List (List ℕ)) (name suffix : List ℕ)
    → ((front : List ℕ) → name ≢ front ++ suffix) → is_with databases name suffix ≡ false
none_with [] name suffix other = refl
none_with (d ∷ ds) name suffix other =
    rw (false_from_ne_true _ (λ t. other d ((bytes_eq-Decides name (d ++ suffix)).0 t)))
    (none_with ds name suffix other)

-- a test of each, and of what each stands for
any_of_each : {X Y : Type 0} (p : Y → Bool) (f : X → Y) (xs : List X)
    → list_any (λ x. p (f x)) xs ≡ list_any p (map f xs)
any_of_each p f [] = refl
any_of_each p f (x ∷ xs) = ap (λ b. p (f x) || b) (any_of_each p f xs)

-- one of two lists passes it
pub any_of_both : {X Y : Type 0} (p : Y → Bool) (f : X → Y) (ys : List Y) (xs : List X)
    → (list_any p ys || list_any (λ x. p (f x)) xs) ≡ list_any p (ys ++ map f xs)
any_of_both p f ys xs =
    ap (λ b. list_any p ys || b) (any_of_each p f xs) ∙ sym (list_any-append p ys (map f xs))
