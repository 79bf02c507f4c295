-- What is planned of a part by itself: it is at hand, and leaves a state.
use Rattle.gm_bench.proofs.Common.{◌≡◌, ◌∙◌, ◌≤◌, ℕ, List, length, sym, subst, arith, Sizes, Command, CommandFits, Intent, Records, IsState, Has, length-filter_le, Fact, size_in, is_asked, part_of, seen_in, is_state, Changed, Makes, changed_by, IsPartFor, IsItself, hand_moves, hand_told, state_told, AreAtHand, TellSizes}
use Rattle.gm_registry.specs.declared.part.Part.{Part}

module _ (part : Records) (facts : List Fact) (c : Command) (ch : Changed) (state : IsState part)
    (fits : CommandFits c) (makes : Makes part (seen_in facts) c ch) where
  pub planned_hand : (ts : List Intent) (size : Sizes) → ts ≡ ch.intents → TellSizes facts size
      → AreAtHand size ts
  planned_hand ts size is tells t h =
      hand_moves (size_in facts) size tells t
      (hand_told part facts c state fits makes.good t
      (subst (λ (l : List Intent). Has l t) (is ∙ makes.intents) h))

  pub planned_state : IsItself (seen_in facts) c → IsState (changed_by ch part)
  planned_state itself =
      subst IsState (sym makes.records) (state_told part facts c state fits makes.good itself)

-- a part that was read of a state is one, of no more mirrors than there are and may be
module _ (s : Records) (c : Command) (mids : List ℕ) (state : IsState s) (p : Part)
    (is : IsPartFor s c mids p) where
  pub read_state : IsState p.state
  read_state = subst IsState (sym is.state) (is_state s c mids state)

  pub read_few : length p.state.mirrors ≤ p.mirrors
  read_few =
      let few : length (part_of s c mids).mirrors ≤ length s.mirrors =
      length-filter_le (is_asked s c mids) s.mirrors in
      let at : length p.state.mirrors ≤ length s.mirrors =
      subst (λ (r : Records). length r.mirrors ≤ length s.mirrors) (sym is.state) few in
      let as_many : p.mirrors ≡ length s.mirrors = is.mirrors in
      omega (arith, at, as_many)

  pub read_most : p.mirrors ≤ 64
  read_most = let most : length s.mirrors ≤ 64 = state.count in
      let as_many : p.mirrors ≡ length s.mirrors = is.mirrors in omega (arith, most, as_many)
