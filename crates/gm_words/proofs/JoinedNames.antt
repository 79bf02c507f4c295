-- Names that are joined by commas, and blocks by empty lines.
use Rattle.gm_words.proofs.Common.{◌≡◌, ℕ, List, [], ◌∷◌, codes, length, refl, Bor, join_by, Mirror, line, blocks}
use Rattle.gm_words.specs.Lines.{joined, texts}
use Rattle.gm_words.proofs.GrownText.{join_of}

pub joined_some : (names : List (Bor (List ℕ))) → (length names ≡ 0 → ⊥)
    → join_by (λ name. name.now) (codes ",") names ≡ joined (texts names)
joined_some [] some = absurd (some refl)
joined_some (x ∷ xs) some = join_of (λ name. name.now) (codes ",") (x ∷ xs)

pub blocks_some : (f : Mirror → List ℕ) (ms : List Mirror) → (length ms ≡ 0 → ⊥)
    → join_by f (line []) ms ≡ blocks f ms
blocks_some f [] some = absurd (some refl)
blocks_some f (m ∷ ms) some = refl
