-- The pieces of the text of a copy or a patch, as they are written and as they are said.
use Rattle.gm_looks.proofs.Common.{◌≡◌, List, ◌++◌, ℕ, Result, Ok, Err, append_assoc, ◌∙◌, OnOk}

-- what is added on success is known by another spelling
pub added_as : {T E : Type 0} (r : Result T E) (x y z : List ℕ) → y ≡ z → OnOk r (x ≡ y)
    → OnOk r (x ≡ z)
added_as (Ok v) x y z e h = h ∙ e
added_as (Err v) x y z e h = h

pub eight_pieces : (old a b c d e f g h : List ℕ)
    → old ++ (a ++ (b ++ (c ++ (d ++ (e ++ (f ++ (g ++ h)))))))
    ≡ old ++ (((((((a ++ b) ++ c) ++ d) ++ e) ++ f) ++ g) ++ h)
eight_pieces old a b c d e f g h = simp append_assoc

pub six_pieces : (old a b c d e f : List ℕ) → old ++ (a ++ (b ++ (c ++ (d ++ (e ++ f)))))
    ≡ old ++ (((((a ++ b) ++ c) ++ d) ++ e) ++ f)
six_pieces old a b c d e f = simp append_assoc
