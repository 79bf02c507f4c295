-- The keys of a map by labels are the names of the providers that it has sizes of.
use Rattle.gm_shelf.proofs.Common.{◌≡◌, ◌∙◌, ℕ, List, Option, Some, None, refl, sym, is_some, option_map, nat_cmp, eq_by_cmp, slice_cmp, texts_ties, is_member, is_member-Decides, Sizes, AreNames, IsAscending}
use Rattle.std.specs.Bool.{Decides}
use Rattle.std.proofs.lemmas.Slice.Eq.{bytes_eq-Decides}

-- labels tie only if they are one
pub same_key : (a b : List ℕ) → Decides (eq_by_cmp (slice_cmp nat_cmp) a b) (a ≡ b)
same_key a b = rw (← texts_ties a b) (bytes_eq-Decides a b)

-- sizes that are known exactly when the list has the name
pub names_are : (sizes : Sizes) (names : List (List ℕ)) → IsAscending names
    → ((q : List ℕ) → is_some (sizes q) ≡ is_member (eq_by_cmp (slice_cmp nat_cmp)) names q)
    → AreNames sizes names
names_are sizes names ascending found = record {
  ascending = ascending;
  there = λ p.
      let told = is_member-Decides same_key names p in
      ((λ listed. found p ∙ told.1 listed), (λ some. told.0 (sym (found p) ∙ some)));
}

pub is_some-option_map : {A B : Type 0} (f : A → B) (o : Option A)
    → is_some (option_map f o) ≡ is_some o
is_some-option_map f None = refl
is_some-option_map f (Some x) = refl
