-- A step of a loop that folds a list.
use Rattle.gm_words.proofs.Common.{◌≡◌, ◌∙◌, ◌+◌, ◌<◌, ℕ, List, ap, sym, get_or, length, take, fold, take_more}
use Rattle.std.proofs.lemmas.List.Sums.{fold-append}

pub fold_more : {A B : Type 0} (f : B → A → B) (a : B) (xs : List A) (i : ℕ) (d : A) (now : B)
    → i < length xs
    → now ≡ f (fold f a (take i xs)) (get_or xs i d) → now ≡ fold f a (take (i + 1) xs)
fold_more f a xs i d now here step =
    step ∙ sym (ap (fold f a) (take_more xs i d here) ∙ fold-append f a (take i xs) _)

-- the same, over what was folded before
pub fold_next : {A B : Type 0} (f : B → A → B) (a : B) (xs : List A) (i : ℕ) (d : A)
    (before now : B)
    → i < length xs → before ≡ fold f a (take i xs) → now ≡ f before (get_or xs i d)
    → now ≡ fold f a (take (i + 1) xs)
fold_next f a xs i d before now here so step =
    fold_more f a xs i d now here (step ∙ ap (λ b. f b (get_or xs i d)) so)
