-- What is pending after a loss that the rules allow can be read again, whatever the images hold.
use Rattle.gm_bench.proofs.Common.{◌≡◌, ◌∙◌, [], ◌∷◌, ◌++◌, List, ℕ, IfOk, Result, Ok, Err, Some, sym, ap, subst, subst₂, Sizes, same_label, Command, Lost, CommandFits, find_one, found, Intent, Component, Mirror, IsOf, component_of, mirror_of, AreReadable, Records, IsState, members, name, World, Sound, member, Fact, Refusal, seen_in, intents_of, metas, Changed, Decides, Makes, changed_by, HasPlan, key, plan, planned, sound, stand_in, Judged, Kept, Refused, New, HasNext, left_to_lay, next_of, pending_after, remaining, IsRedirected, StaysReadable, StayReadableBehind}
use Rattle.gm_bench.proofs.LossReadable.{IsLoss, are_readable, home, loss_of}
use Rattle.gm_bench.proofs.LossSources.{has_next, next_told}

-- of a change that the rules allow, in the world that stands in for what is seen
module _ (s : Records) (facts : List Fact) (k : Component) (p : List ℕ) (ch : Changed)
    (state : IsState s) (on : component_of s p ≡ Some k)
    (fits : CommandFits (Lost k.mirror (p ∷ [])))
    (makes : Makes s (seen_in facts) (Lost k.mirror (p ∷ [])) ch) where
  abbrev c : Command
  c = Lost k.mirror (p ∷ [])

  abbrev w : World
  w = stand_in s facts

  w_sound : Sound w
  w_sound = sound s facts state

  abbrev there : HasPlan w (key s facts state c fits makes.good) c
  there = plan s facts state c fits makes.good

  after_is : there.0.state ≡ changed_by ch s
  after_is = planned s facts state c fits makes.good tt ∙ sym makes.records

  at_home : (m : Mirror) × IsOf s m k
  at_home = home s state k
      (found (λ (x : Component). same_label x.provider p) s.components k on).0

  mine : k.mirror ≡ at_home.0.name
  mine = (member s at_home.0.name k at_home.1.component).1

  found_is : mirror_of s k.mirror ≡ Some at_home.0
  found_is = subst (λ (q : List ℕ). mirror_of s q ≡ Some at_home.0) (sym mine)
      (find_one name s.mirrors state.mirrors_in_order at_home.0 at_home.1.mirror)

  loss : IsLoss w there.0 at_home.0 p
  loss = loss_of w there.0 (key s facts state c fits makes.good) k.mirror p
      (intents_of c s there.0.state) at_home.0 w_sound found_is there.1

  module _ (ts : List Intent) (bytes : List (List ℕ)) (next : List ℕ)
      (readable : AreReadable s bytes ts)
      (next_is : next_of (changed_by ch s) p ts ≡ Some next) where
    serves : HasNext there.0.state p next ts
    serves = has_next w there.0 at_home.0 p next loss w_sound ts bytes readable
        (λ t a b stands. next_told there.0.state p next ts readable.one_copy
        (subst (λ (r : Records). next_of r p ts ≡ Some next) (sym after_is) next_is) t a b stands)

    all_is : remaining p next ts ++ ch.intents
        ≡ pending_after p next ts (members there.0.state.components at_home.0.name)
    all_is = ap (λ (is : List Intent). remaining p next ts ++ is) (makes.intents
        ∙ (ap (λ (r : Records). metas (members r.components k.mirror))
        (sym makes.records ∙ sym after_is)
        ∙ ap (λ (q : List ℕ). metas (members there.0.state.components q)) mine))

    redone : AreReadable (changed_by ch s) (left_to_lay (remaining p next ts ++ ch.intents) bytes)
        (remaining p next ts ++ ch.intents)
    redone = subst₂ (λ (r : Records) (is : List Intent). AreReadable r (left_to_lay is bytes) is)
        after_is (sym all_is)
        (are_readable w there.0 at_home.0 p next loss w_sound ts bytes readable serves)

pub stays_behind : (s : Records) (facts : List Fact) (k : Component) (p : List ℕ)
    (r : Result Changed Refusal) → Decides s (seen_in facts) (Lost k.mirror (p ∷ [])) r
    → IsState s → component_of s p ≡ Some k → CommandFits (Lost k.mirror (p ∷ []))
    → IfOk r (StayReadableBehind s p)
stays_behind s facts k p (Ok ch) makes state on fits =
    λ ts bytes next readable next_is.
    redone s facts k p ch state on fits makes ts bytes next readable next_is
stays_behind s facts k p (Err r) least state on fits = tt

pub stays_readable : (s : Records) (size : Sizes) (ts : List Intent) (bytes : List (List ℕ))
    (n p words : List ℕ) (ch : Changed) (j : Judged)
    → IsRedirected s size ts bytes n p words ch j
    → IsState (changed_by ch s) → StayReadableBehind s p ch → StaysReadable s ts bytes j
stays_readable s size ts bytes n p words ch (Kept number reply) is state behind = tt
stays_readable s size ts bytes n p words ch (Refused r) is state behind = tt
stays_readable s size ts bytes n p words ch (New new) l state behind = λ readable. (
  subst IsState (sym l.after) state,
  subst (λ (b : List (List ℕ)). AreReadable new.after b new.intents.items) (sym l.to_lay)
      (subst₂ (λ (r : Records) (is : List Intent). AreReadable r (left_to_lay is bytes) is)
      (sym l.after) (sym l.intents) (behind ts bytes l.next readable
      (subst (λ (r : Records). next_of r p ts ≡ Some l.next) l.after l.next_is))),
)
