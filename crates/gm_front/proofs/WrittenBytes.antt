-- Bytes that are written in several writes.
use Rattle.gm_front.proofs.Common.{◌≡◌, ◌+◌, ◌∙◌, ℕ, sym, ap, subst, List, length, take, drop, Option, Some, None, take-append-drop, Appends-trans, Appends, AppendsFront}
use Rattle.std.proofs.Math.Seq.{take-add, take-length}

pub front_appended : (a b : Option (List ℕ)) (k : ℕ) (bytes : List ℕ) → Appends a b (take k bytes)
    → AppendsFront a b bytes
front_appended None b k bytes h = tt
front_appended (Some xs) None k bytes h = h
front_appended (Some xs) (Some ys) k bytes h =
    (take k bytes, drop k bytes, sym (take-append-drop k bytes), h)

pub more_appended : (a b c : Option (List ℕ)) (k n : ℕ) (bytes : List ℕ)
    → Appends a b (take k bytes) → Appends b c (take n (drop k bytes))
    → Appends a c (take (k + n) bytes)
more_appended a b c k n bytes h g =
    subst (Appends a c) (sym (take-add k n bytes)) (Appends-trans a b c _ _ h g)

pub all_appended : (a b : Option (List ℕ)) (k : ℕ) (bytes : List ℕ) → Appends a b (take k bytes)
    → k ≡ length bytes → Appends a b bytes
all_appended a b k bytes h e = subst (Appends a b) (ap (λ n. take n bytes) e ∙ take-length bytes) h

-- what the goals of writing all of some bytes need
pub ruleset appendings = (front_appended, more_appended, all_appended)
