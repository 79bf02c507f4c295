-- Facts that were gathered say what a shelf shows.
use Rattle.std.proofs.Common.{◌≡◌, ◌∙◌, ◌⊎◌, inl, inr, ℕ, ◌+◌, ◌<◌, option_map, List, [], ◌∷◌, ◌++◌, find, take, length, get_or, Option, Some, None, refl, sym, ap, subst}
use Rattle.std.proofs.lemmas.List.{take_more}
use Rattle.gm_metadata.specs.Images.{Image, Sizes, Same, same_label}
use Rattle.gm_lists.specs.Ordered.{Has}
use Rattle.gm_lists.proofs.Finding.{Has-append_left, found, found_none, not_both, option_cases}
use Rattle.gm_lists.proofs.Lists.{Has-push}
use Rattle.gm_lists.proofs.Order.{same_from, same_is}
use Rattle.gm_shelf.specs.LastSector.{last_of}
use Rattle.gm_refusals.specs.declared.facts.Fact.{Fact}
use Rattle.gm_ways.specs.Shown.{IsFact, Tell}

-- the provider is absent, or there is an entry for it
abbrev pub IsCovered : List Fact → Sizes → List ℕ → Type 0
IsCovered entries size q = (size q ≡ None) ⊎ ((f : Fact) × Has entries f × (f.provider ≡ q))

-- entries that are facts tell of a provider that they cover
pub tell : (entries : List Fact) (size : Sizes) (seen : Image) (q : List ℕ)
    → ((f : Fact) → Has entries f → IsFact size seen f) → IsCovered entries size q
    → Tell entries size seen q
tell entries size seen q facts covered =
    elim (option_cases (find (λ (f : Fact). same_label f.provider q) entries)) [
      | inl none ↦
          let absent : size q ≡ None = elim covered [
            | inl gone ↦ gone
            | inr there ↦ not_both (same_label there.0.provider q)
                (same_from there.0.provider q there.2)
                (found_none (λ (f : Fact). same_label f.provider q) entries none there.0 there.1)
          ] in
          record { size_is = rw none (sym absent); last_is = rw (none, absent) refl }
      | inr some ↦
          let f : Fact = some.0 in
          let is = found (λ (g : Fact). same_label g.provider q) entries f some.1 in
          let at : f.provider ≡ q = same_is f.provider q is.1 in
          let fact : IsFact size seen f = facts f is.0 in
          let size_is : size q ≡ Some f.sectors =
          subst (λ (p : List ℕ). size p ≡ Some f.sectors) at fact.sectors in
          let last_is : f.last ≡ last_of f.sectors (seen q) =
          subst (λ (p : List ℕ). f.last ≡ last_of f.sectors (seen p)) at fact.last in
          record {
            size_is = rw some.1 (sym size_is);
            last_is = rw (some.1, size_is) (ap Some last_is);
          }
    ]

-- a fact of a shelf that was only read since is one of the shelf as it was
pub moved : (size size' : Sizes) (seen seen' : Image) (f : Fact) → size' ≡ size → Same seen' seen
    → IsFact size' seen' f → IsFact size seen f
moved size size' seen seen' f e same fact = record {
  sectors = subst (λ (z : Sizes). z f.provider ≡ Some f.sectors) e fact.sectors;
  last = fact.last ∙ (λ i. last_of f.sectors (λ j. same f.provider j i));
}

-- one name more is covered
pub covered_more : (entries more : List Fact) (size : Sizes) (names : List (List ℕ)) (i : ℕ)
    (name : List ℕ) → i < length names → name ≡ get_or names i name
    → ((f : Fact) → Has entries f → Has more f) → IsCovered more size name
    → ((q : List ℕ) → Has (take i names) q → IsCovered entries size q) → (q : List ℕ)
    → Has (take (i + 1) names) q → IsCovered more size q
covered_more entries more size names i name low is sub here before q h =
    let h' : Has (take i names ++ name ∷ []) q =
    subst (λ l. Has l q) (take_more names i name low
    ∙ ap (λ (n : List ℕ). take i names ++ n ∷ []) (sym is)) h in
    elim (Has-push (take i names) name q h') [
      | inl was ↦ (elim (before q was) [
        | inl gone ↦ inl gone
        | inr there ↦ inr (there.0, sub there.0 there.1, there.2)
      ])
      | inr e ↦ subst (IsCovered more size) e here
    ]

pub has_last : (xs : List Fact) (f : Fact) → Has (xs ++ f ∷ []) f
has_last [] f = inl refl
has_last (y ∷ ys) f = inr (has_last ys f)
