-- What the rules say of a loss hangs on the sizes alone of what is seen.
use Rattle.gm_bench.proofs.Common.{◌≡◌, ◌∙◌, inl, inr, ℕ, ◌≤◌, true, not, List, [], ◌∷◌, IfOk, Result, Ok, Err, refl, sym, ap, arith, Has, any_agree, map-Has, Command, Lost, Component, Records, IsState, provider, Refusal, Absent, applies, awaited, number_of, is_listed, Seen, has_size, seen_in, needed_by, Changed, Decides, changed_by, CommandFits, Fact}
use Rattle.gm_refusals.proofs.Listed.{listed}
use Rattle.gm_bench.proofs.PlannedAlone.{planned_state}

-- a loss lists no refusal beyond that of the last genid
pub listed_low : (n : List ℕ) (ps : List (List ℕ)) (r : Refusal)
    → is_listed (Lost n ps) r ≡ true → number_of r ≤ 24
listed_low n ps r h = elim (listed (Lost n ps) r h) [
  | inl a ↦ omega (arith, ap number_of a)
  | inr (inl b) ↦ omega (arith, ap number_of b)
  | inr (inr (inl c)) ↦ omega (arith, ap number_of c)
  | inr (inr (inr (inl d))) ↦ omega (arith, ap number_of d)
  | inr (inr (inr (inr (inl e)))) ↦ omega (arith, ap number_of e)
  | inr (inr (inr (inr (inr none)))) ↦ absurd none
]

module _ (s : Records) (x y : Seen) (n p : List ℕ)
    (sizes : (q : List ℕ) → Has (needed_by s (Lost n (p ∷ []))) q → x.size q ≡ y.size q) where
  abbrev c : Command
  c = Lost n (p ∷ [])

  applies_alike : (r : Refusal) → applies s x c r ≡ applies s y c r
  applies_alike Absent =
      any_agree (λ (k : Component). not (has_size (x.size k.provider) k.sectors))
      (λ k. not (has_size (y.size k.provider) k.sectors)) (awaited s c)
      (λ k h. ap (λ o. not (has_size o k.sectors))
      (sizes k.provider (map-Has provider (awaited s c) k h)))
  applies_alike r = refl

  pub loss_alike : (r : Result Changed Refusal) → Decides s x c r → Decides s y c r
  loss_alike (Ok ch) makes = record {
    good = λ r listed. sym (applies_alike r) ∙ makes.good r listed;
    records = makes.records;
    in_place = makes.in_place;
    intents = makes.intents;
    bytes = makes.bytes;
    reply = makes.reply;
    once = makes.once;
  }
  loss_alike (Err r) least = record {
    listed = least.listed;
    met = sym (applies_alike r) ∙ least.met;
    least = λ q listed met. least.least q listed (applies_alike q ∙ met);
  }

-- what the rules allow leaves a state, whatever the images hold
pub loss_state : (s : Records) (facts : List Fact) (n p : List ℕ) (r : Result Changed Refusal)
    → Decides s (seen_in facts) (Lost n (p ∷ [])) r → IsState s → CommandFits (Lost n (p ∷ []))
    → IfOk r (λ ch. IsState (changed_by ch s))
loss_state s facts n p (Ok ch) makes state fits =
    planned_state s facts (Lost n (p ∷ [])) ch state fits makes tt
loss_state s facts n p (Err r) least state fits = tt
