-- The intents that remain, and the words of a loss, as code finds them.
use Rattle.gm_bench.proofs.Common.{◌≡◌, ◌≢◌, ◌∙◌, inl, inr, ℕ, IsTrue, false, not, List, [], ◌∷◌, ◌++◌, Option, Some, None, map, filter, refl, sym, ap, subst, append_assoc, if◌then◌else◌, IfNone, append_cancel_left, append_cancel_right, cases_Bool, Lost, words_of, Intent, not_both, is_label, writes_to, redirected, remaining, AreOfLoss}

-- those that write elsewhere, each redirected
pub remaining_is : (p next : List ℕ) (ts : List Intent)
    → map (redirected p next) (filter (λ t. not (writes_to p t)) ts) ≡ remaining p next ts
remaining_is p next [] = refl
remaining_is p next (t ∷ ts) =
    elim (cases_Bool (writes_to p t)) [
      | inl w ↦ rw w (remaining_is p next ts)
      | inr w ↦ rw w (ap (λ (more : List Intent). redirected p next t ∷ more)
          (remaining_is p next ts))
    ]

abbrev pub front : List ℕ
front = 108 ∷ 111 ∷ 115 ∷ 116 ∷ 32 ∷ []

-- the words, by their pieces
pub loss_words : (n p : List ℕ)
    → words_of (Lost n (p ∷ [])) ≡ front ++ ((n ++ 32 ∷ []) ++ p)
loss_words n p = ap (λ (l : List ℕ). front ++ l) (sym (append_assoc n (32 ∷ []) p))

module _ (words names p : List ℕ) (stands : words ≡ front ++ names) where
  -- what comes after the command's name
  behind_is : (a : AreOfLoss p words) → names ≡ (a.mirror ++ 32 ∷ []) ++ p
  behind_is a = append_cancel_left front names _ (sym stands ∙ (a.are ∙ loss_words a.mirror p))

  pub no_provider : ((rest : List ℕ) → names ≢ rest ++ p) → AreOfLoss p words → ⊥
  no_provider none a = none (a.mirror ++ 32 ∷ []) (behind_is a)

  module _ (before : List ℕ) (parts : names ≡ before ++ p) where
    before_is : (a : AreOfLoss p words) → before ≡ a.mirror ++ 32 ∷ []
    before_is a = append_cancel_right before (a.mirror ++ 32 ∷ []) p (sym parts ∙ behind_is a)

    pub no_space : ((rest : List ℕ) → before ≢ rest ++ 32 ∷ []) → AreOfLoss p words → ⊥
    no_space none a = none a.mirror (before_is a)

    pub no_label : (name : List ℕ) → before ≡ name ++ 32 ∷ [] → is_label name ≡ false
        → AreOfLoss p words → ⊥
    no_label name is none a =
        let same : name ≡ a.mirror =
        append_cancel_right name a.mirror (32 ∷ []) (sym is ∙ before_is a) in
        let label : IsTrue (is_label name) =
        subst (λ (n : List ℕ). IsTrue (is_label n)) (sym same) a.label in
        not_both (is_label name) label none

-- a text that makes no label
pub unless_label : (name : List ℕ) (r : Option (List ℕ)) (P : Type 0)
    → r ≡ (if is_label name then Some name else None) → (is_label name ≡ false → P) → IfNone r P
unless_label name r P is other =
    elim (cases_Bool (is_label name)) [
      | inl y ↦ let some : r ≡ Some name = rw y at is in rw some tt
      | inr n ↦ let none : r ≡ None = rw n at is in rw none (other n)
    ]
