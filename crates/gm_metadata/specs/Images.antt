-- What providers hold: the words for sectors that shelves and worlds share.
use Rattle.std.specs.Prelude.{◌≡◌, ◌≢◌, ◌⊎◌, ℕ, zero, suc, List, Bool, true, false, ◌==◌, ◌&&◌, Option, IsSome, replicate, if◌then◌else◌}
use Rattle.std.specs.Str.{bytes_eq}
use Rattle.std.proofs.Common.{inl, inr, refl}
use Rattle.std.proofs.lemmas.Slice.Eq.{bytes_eq-Decides}
use Rattle.std.proofs.lemmas.Bool.Decides.{not_from_Decides}
use Rattle.gm_metadata.specs.declared.label.Label.{Label}

-- what each sector of each provider holds: 512 bytes by the provider's name and the sector's number
abbrev pub Image : Type 0
Image = Label → ℕ → List ℕ

-- how many sectors each provider has, of those that are there
abbrev pub Sizes : Type 0
Sizes = Label → Option ℕ

-- two images hold the same
abbrev pub Same : Image → Image → Type 0
Same x y = (p : Label) (i : ℕ) → x p i ≡ y p i

-- two images hold the same on the providers that are there
abbrev pub SameThere : Sizes → Image → Image → Type 0
SameThere size x y = (p : Label) → IsSome (size p) → (i : ℕ) → x p i ≡ y p i

-- two labels are one: a label is its text
abbrev pub same_label : Label → Label → Bool
same_label a b = bytes_eq a b

-- the image with one sector changed
abbrev pub put : Label → ℕ → List ℕ → Image → Image
put p i s x q j = if same_label q p && (j == i) then s else x q j

-- the first k sectors of two providers hold the same
abbrev pub agree : Image → Label → Label → ℕ → Bool
agree x p q zero = true
agree x p q (suc k) = agree x p q k && bytes_eq (x p k) (x q k)

-- a sector of zeros
abbrev pub zeros : List ℕ
zeros = replicate 512 0

tells : (a b : Label) (r : Bool) → same_label a b ≡ r
    → ((same_label a b ≡ true) × (a ≡ b)) ⊎ ((same_label a b ≡ false) × (a ≢ b))
tells a b true e = inl (e, (bytes_eq-Decides a b).0 e)
tells a b false e = inr (e, not_from_Decides (same_label a b) (bytes_eq-Decides a b) e)

-- the test tells whether two labels are one
pub label_tells : (a b : Label) → ((same_label a b ≡ true) × (a ≡ b))
    ⊎ ((same_label a b ≡ false) × (a ≢ b))
label_tells a b = tells a b (same_label a b) refl

pub label_refl : (a : Label) → same_label a a ≡ true
label_refl a = (bytes_eq-Decides a a).1 refl
