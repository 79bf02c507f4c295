-- What stays of pending intents when losses take out those that write to their providers.
use Rattle.gm_stop_law.proofs.Common.{◌≡◌, ◌∙◌, inl, inr, ℕ, not, refl, ap, List, [], ◌∷◌, ◌++◌, cases_Bool, same_label, without, filter_swap, Intent, Meta, Component, members, provider, metas, redirected, remaining, writes_to}

module _ (p next : List ℕ) where
  -- what stays of two lists
  pub remaining-append : (xs ys : List Intent)
      → remaining p next (xs ++ ys) ≡ remaining p next xs ++ remaining p next ys
  remaining-append [] ys = refl
  remaining-append (x ∷ xs) ys =
      elim (cases_Bool (writes_to p x)) [
        | inl e ↦ rw e (remaining-append xs ys)
        | inr e
            ↦ rw e (ap (λ (l : List Intent). redirected p next x ∷ l) (remaining-append xs ys))
      ]

  -- the metadata that stay are those of the components that stay
  pub remaining-metas : (ks : List Component)
      → remaining p next (metas ks) ≡ metas (without provider p ks)
  remaining-metas [] = refl
  remaining-metas (k ∷ ks) =
      elim (cases_Bool (same_label k.provider p)) [
        | inl e ↦ rw e (remaining-metas ks)
        | inr e ↦ rw e (ap (λ (l : List Intent). Meta k.provider ∷ l) (remaining-metas ks))
      ]

-- what stays of the intents after losses of these providers, each with its next source
abbrev pub thin : List (List ℕ × List ℕ) → List Intent → List Intent
thin [] ts = ts
thin (l ∷ ls) ts = thin ls (remaining l.0 l.1 ts)

-- the components that stay then
abbrev pub left_of : List (List ℕ × List ℕ) → List Component → List Component
left_of [] ks = ks
left_of (l ∷ ls) ks = left_of ls (without provider l.0 ks)

-- what stays of two lists after them all
pub thin-append : (ls : List (List ℕ × List ℕ)) (xs ys : List Intent)
    → thin ls (xs ++ ys) ≡ thin ls xs ++ thin ls ys
thin-append [] xs ys = refl
thin-append (l ∷ ls) xs ys = ap (thin ls) (remaining-append l.0 l.1 xs ys)
    ∙ thin-append ls (remaining l.0 l.1 xs) (remaining l.0 l.1 ys)

-- a mirror's metadata that stay are those of its components that stay
pub thin-metas : (ls : List (List ℕ × List ℕ)) (ks : List Component) (n : List ℕ)
    → thin ls (metas (members ks n)) ≡ metas (members (left_of ls ks) n)
thin-metas [] ks n = refl
thin-metas (l ∷ ls) ks n =
    ap (thin ls) (remaining-metas l.0 l.1 (members ks n)
    ∙ ap metas (filter_swap (λ (k : Component). not (same_label k.provider l.0))
    (λ (k : Component). same_label k.mirror n) ks))
    ∙ thin-metas ls (without provider l.0 ks) n
