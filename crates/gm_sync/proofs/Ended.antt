-- How a sync ended, and the filling of one component.
use Rattle.gm_sync.proofs.Common.{◌≡◌, refl, subst, ℕ, List, Option, Some, None, Records, CallRefusal, ComponentEnd, ComponentEnds, Due, Ending, EndsAs, FillsEach, RefusesAs, Unfilled, Whole, NoRoom, most_turns, next_of, unfilled_at}
use Rattle.gm_sync.specs.declared.fill.ComponentEnd.TheVariants as component
use Rattle.gm_sync.specs.declared.synced.Ending.TheVariants.{Refused}

-- what follows of a refusal
pub refuses_as_too : (Q R : List ℕ → CallRefusal → Type 0) (N M : ℕ → Type 0)
    → ((p : List ℕ) (why : CallRefusal) → Q p why → R p why) → (N most_turns → M most_turns)
    → (provider : Option (List ℕ)) (why : CallRefusal)
    → RefusesAs Q N provider why → RefusesAs R M provider why
refuses_as_too Q R N M then many (Some provider) why holds = then provider why holds
refuses_as_too Q R N M then many None why holds = (holds.0, many holds.1)

-- what follows of an ending
pub ends_too : (P O : Records → Type 0) (Q R : List ℕ → CallRefusal → Type 0) (N M : ℕ → Type 0)
    → ((state : Records) → P state → O state)
    → ((p : List ℕ) (why : CallRefusal) → Q p why → R p why) → (N most_turns → M most_turns)
    → (x : Ending) → EndsAs P Q N x → EndsAs O R M x
ends_too P O Q R N M then other many (Whole state) holds = then state holds
ends_too P O Q R N M then other many (Refused provider why) holds =
    refuses_as_too Q R N M other many provider why holds

-- what follows of how a component ended
pub component_too : (Q R : CallRefusal → Type 0) (N M : ℕ → Type 0)
    → ((why : CallRefusal) → Q why → R why) → ((n : ℕ) → N n → M n)
    → (x : ComponentEnd) → ComponentEnds Q N x → ComponentEnds R M x
component_too Q R N M then many component.Filled holds = many 1 holds
component_too Q R N M then many (component.Refused why) holds = then why holds
component_too Q R N M then many component.Endless holds = many most_turns holds

-- what isn't filled is the component that is refused
pub unfilled_so : (Q : List ℕ → CallRefusal → Type 0) (N : ℕ → Type 0) (provider : List ℕ)
    (x : ComponentEnd) (r : Unfilled) → unfilled_at provider x ≡ Some r
    → ComponentEnds (Q provider) N x → RefusesAs Q N r.provider r.why
unfilled_so Q N provider component.Filled r is holds = let no : ⊥ = cc in absurd no
unfilled_so Q N provider (component.Refused why) r is holds =
    let same : record { provider = Some provider; why = why } ≡ r = cc in
    subst (λ (y : Unfilled). RefusesAs Q N y.provider y.why) same holds
unfilled_so Q N provider component.Endless r is holds =
    let same : record { provider = None; why = NoRoom } ≡ r = cc in
    subst (λ (y : Unfilled). RefusesAs Q N y.provider y.why) same (refl, holds)

-- if nothing isn't filled, the component is
pub filled_so : (Q : CallRefusal → Type 0) (N : ℕ → Type 0) (provider : List ℕ) (x : ComponentEnd)
    → unfilled_at provider x ≡ None → ComponentEnds Q N x → N 1
filled_so Q N provider component.Filled is holds = holds
filled_so Q N provider (component.Refused why) is holds = let no : ⊥ = cc in absurd no
filled_so Q N provider component.Endless is holds = let no : ⊥ = cc in absurd no

-- what is said of the outcome is said of what isn't filled
pub each_some : (Q : List ℕ → CallRefusal → Type 0) (N : ℕ → Type 0) (due : Due) (s : Records)
    (o : Option Unfilled) (r : Unfilled) → o ≡ Some r → FillsEach Q N due s o
    → RefusesAs Q N r.provider r.why
each_some Q N due s o r is holds =
    subst (λ (x : Option Unfilled). FillsEach Q N due s x) is holds

pub each_none : (Q : List ℕ → CallRefusal → Type 0) (N : ℕ → Type 0) (due : Due) (s : Records)
    (o : Option Unfilled) → o ≡ None → FillsEach Q N due s o → (next_of due s ≡ None → ⊥) → N 1
each_none Q N due s o is holds =
    subst (λ (x : Option Unfilled). FillsEach Q N due s x) is holds
