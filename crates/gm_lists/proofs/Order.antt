-- Byte order of labels.
use Rattle.gm_lists.proofs.Common.{◌≡◌, ◌≢◌, ◌∙◌, ◌⊎◌, ⊎_elim, ℕ, true, false, refl, sym, ap, List, nat_cmp, is_lt, is_eq, ordering_reverse, slice_cmp, bytes_eq, cases_Bool, label_tells, label_lt}
use Rattle.std.specs.declared.cmp.Ordering.{Ordering}
use Rattle.std.specs.declared.cmp.Ordering.TheVariants.{Less, Equal, Greater}
use Rattle.std.proofs.lemmas.Cmp.{nat_list_cmp_total, tied_itself}
use Rattle.std.proofs.lemmas.Map.Text.{is_eq-slice_cmp}
use Rattle.std.proofs.lemmas.Slice.Eq.{bytes_eq-Decides}

-- what the test of two labels tells
pub same_tells : (a b : List ℕ) → ((bytes_eq a b ≡ true) × (a ≡ b))
    ⊎ ((bytes_eq a b ≡ false) × (a ≢ b))
same_tells a b = label_tells a b

pub same_refl : (a : List ℕ) → bytes_eq a a ≡ true
same_refl a = (bytes_eq-Decides a a).1 refl

pub same_from : (a b : List ℕ) → a ≡ b → bytes_eq a b ≡ true
same_from a b e = (bytes_eq-Decides a b).1 e

pub same_is : (a b : List ℕ) → bytes_eq a b ≡ true → a ≡ b
same_is a b e = (bytes_eq-Decides a b).0 e

pub differ : (a b : List ℕ) → a ≢ b → bytes_eq a b ≡ false
differ a b n = ⊎_elim (λ (h : (bytes_eq a b ≡ true) × (a ≡ b)). absurd (n h.1))
    (λ (h : (bytes_eq a b ≡ false) × (a ≢ b)). h.0) (same_tells a b)

is_less : (o : Ordering) → is_lt o ≡ true → o ≡ Less
is_less Less e = refl
is_less Equal e = cc
is_less Greater e = cc

neither : (o p : Ordering) → o ≡ ordering_reverse p → is_eq o ≡ false → is_lt o ≡ false
    → is_lt p ≡ true
neither o Less r e l = refl
neither o Equal r e l = cc
neither o Greater r e l = cc

pub lt_trans : (a b c : List ℕ) → label_lt a b ≡ true → label_lt b c ≡ true → label_lt a c ≡ true
lt_trans a b c h k =
    ap is_lt (nat_list_cmp_total.trans a b c (is_less (slice_cmp nat_cmp a b) h)
    (is_less (slice_cmp nat_cmp b c) k))

pub lt_irrefl : (a : List ℕ) → label_lt a a ≡ true → ⊥
lt_irrefl a h = let e : slice_cmp nat_cmp a a ≡ Equal = tied_itself nat_list_cmp_total a in
    let l = is_less (slice_cmp nat_cmp a a) h in let f : Less ≡ Equal = sym l ∙ e in cc

pub lt_other : (a b : List ℕ) → bytes_eq a b ≡ false → label_lt a b ≡ false → label_lt b a ≡ true
lt_other a b n l =
    neither (slice_cmp nat_cmp a b) (slice_cmp nat_cmp b a) (nat_list_cmp_total.antisymm a b)
    (is_eq-slice_cmp a b ∙ n) l

pub lt_differ : (a b : List ℕ) → label_lt a b ≡ true → a ≢ b
lt_differ a b h e = lt_irrefl b (rw e at h)

pub lt_asym : (a b : List ℕ) → label_lt a b ≡ true → label_lt b a ≡ false
lt_asym a b h = ⊎_elim (λ (e : label_lt b a ≡ true). absurd (lt_irrefl a (lt_trans a b a h e)))
    (λ (e : label_lt b a ≡ false). e) (cases_Bool (label_lt b a))
