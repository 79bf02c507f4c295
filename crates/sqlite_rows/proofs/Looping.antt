-- Calls inside a transaction, one after another.
use Rattle.sqlite_rows.proofs.Common.{◌≡◌, ℕ, suc, ◌+◌, ◌<◌, List, [], ◌∷◌, ◌++◌, take, length, get_or, sym, ap, subst, ◌∙◌, arith, Schema, Trees, Database, State, HasCleanDisk, KeepsCommit, Survives, survives_then, IsInside}
use Rattle.std.proofs.Math.Seq.{take-suc}
use Rattle.sqlite_rows.proofs.Statements.{kept_itself, kept_then, survives_itself}

module _ {X R : Type 0} (step : X → R → R) (steps : List X → R → R)
    (none : (r : R) → steps [] r ≡ r)
    (more : (x : X) (xs : List X) (r : R) → steps (x ∷ xs) r ≡ steps xs (step x r)) where
  -- the last step comes last
  steps-append : (xs : List X) (x : X) (r : R) → steps (xs ++ x ∷ []) r ≡ step x (steps xs r)
  steps-append [] x r = more x [] r ∙ (none (step x r) ∙ ap (step x) (sym (none r)))
  steps-append (y ∷ xs) x r =
      more y (xs ++ x ∷ []) r ∙ (steps-append xs x (step y r) ∙ ap (step x) (sym (more y xs r)))

  -- one element more is one step more
  pub one_more : (all : List X) (i : ℕ) (x : X) (r : R) → i < length all → x ≡ get_or all i x
      → steps (take (i + 1) all) r ≡ step x (steps (take i all) r)
  one_more all i x r low is =
      let next : i + 1 ≡ suc i = omega arith in
      ap (λ n. steps (take n all) r) next
      ∙ (ap (λ xs. steps xs r) (take-suc all i x low ∙ ap (λ y. take i all ++ y ∷ []) (sym is))
      ∙ steps-append (take i all) x r)

module _ {R : Type 0} (schema : Schema) (Rows : Trees → R → Type 0) where
  -- what the calls so far have made of the records, and that nothing was committed
  pub record SoFar (old now : State) (change : R → R) : Type 0 where
    pub survives : Survives old now (λ _. ⊥)
    pub kept : HasCleanDisk now → KeepsCommit old now
    pub put : HasCleanDisk now → (first : Database) (r : R) → IsInside schema Rows first old r
        → IsInside schema Rows first now (change r)

  pub nothing_yet : (s : State) (change : R → R) → ((r : R) → change r ≡ r) → SoFar s s change
  nothing_yet s change same = record {
    survives = survives_itself s (λ _. ⊥);
    kept = λ _. kept_itself s;
    put = λ _ first r is. subst (IsInside schema Rows first s) (sym (same r)) is;
  }

  pub lasts : (old mid new : State) (change : R → R) → SoFar old mid change
      → Survives mid new (λ _. ⊥) → Survives old new (λ _. ⊥)
  lasts old mid new change so survives =
      survives_then old mid new (λ _. ⊥) (λ _. ⊥) (λ _. ⊥) (λ _ db none. none)
      (λ _ db none. none) so.survives survives

  pub keeps_on : (old mid new : State) (change : R → R) → SoFar old mid change
      → Survives mid new (λ _. ⊥) → (HasCleanDisk new → KeepsCommit mid new) → HasCleanDisk new
      → KeepsCommit old new
  keeps_on old mid new change so survives kept clean =
      let early : HasCleanDisk mid = omega (arith, survives.clean, clean) in
      kept_then old mid new (so.kept early) (kept clean)

  -- if the next records hold whenever those of the step do
  pub goes_as : (old mid new : State) (change step next : R → R) → SoFar old mid change
      → Survives mid new (λ _. ⊥) → (HasCleanDisk new → KeepsCommit mid new)
      → (HasCleanDisk new → (first : Database) (r : R) → IsInside schema Rows first mid r
      → IsInside schema Rows first new (step r))
      → ((first : Database) (r : R) → IsInside schema Rows first new (step (change r))
      → IsInside schema Rows first new (next r)) → SoFar old new next
  goes_as old mid new change step next so survives kept put as_next = record {
    survives = lasts old mid new change so survives;
    kept = keeps_on old mid new change so survives kept;
    put = λ clean first r is. let early : HasCleanDisk mid = omega (arith, survives.clean, clean) in
        as_next first r (put clean first (change r) (so.put early first r is));
  }
