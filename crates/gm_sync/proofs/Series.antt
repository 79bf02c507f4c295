-- Series of calls: in turn, of which the last, how many calls, and which fit.
use Rattle.gm_sync.proofs.Common.{◌≡◌, ◌∙◌, ◌⊎◌, inl, inr, ℕ, ◌+◌, sym, ap, subst, subst₂, append_assoc, arith, List, [], ◌∷◌, ◌++◌, flat_map-append, length, length-append, Has, Command, Call, World, AreBegun, Done, Refused, Repeated, Answer, calls_under, AllFit, EachFits, InSeries, IsAnswered, IsCountBy, IsLast, calls_in, used_for}

-- series in turn
pub run_then : (u : World) (handed : List (List Call)) (v : World) (more : List (List Call))
    (w : World) → InSeries u handed v → InSeries v more w → InSeries u (handed ++ more) w
run_then u [] v more w first then = subst (λ (x : World). InSeries x more w) first then
run_then u (calls ∷ handed) v more w first then = (
  first.0,
  first.1,
  first.2,
  run_then first.0 handed v more w first.3 then,
)

pub has_either : {X : Type 0} (xs ys : List X) (x : X) → Has (xs ++ ys) x → Has xs x ⊎ Has ys x
has_either [] ys x h = inr h
has_either (y ∷ xs) ys x (inl is) = inl (inl is)
has_either {X} (y ∷ xs) ys x (inr h) = placed (has_either xs ys x h) where
  placed : Has xs x ⊎ Has ys x → Has (y ∷ xs) x ⊎ Has ys x
  placed (inl a) = inl (inr a)
  placed (inr b) = inr b

has_before : {X : Type 0} (xs ys : List X) (x : X) → Has xs x → Has (xs ++ ys) x
has_before [] ys x h = absurd h
has_before (y ∷ xs) ys x (inl is) = inl is
has_before (y ∷ xs) ys x (inr h) = inr (has_before xs ys x h)

-- the last series that was done, if others follow
last_more : (v u : World) (handed more : List (List Call)) (before world : World)
    → IsLast v u handed before world → IsLast v u (handed ++ more) before world
last_more v u handed more before world (inl same) = inl same
last_more v u handed more before world (inr (inl waits)) = inr (inl waits)
last_more v u handed more before world (inr (inr done)) = inr (inr (record {
  older = done.older;
  calls = done.calls;
  newer = done.newer ++ more;
  all = ap (λ (cs : List (List Call)). cs ++ more) done.all
      ∙ append_assoc done.older (done.calls ∷ done.newer) more;
  run = done.run;
  steps = done.steps;
}))

-- the last of series in turn
pub last_then : (v u : World) (handed : List (List Call)) (before world : World)
    (more : List (List Call)) (then end : World) → InSeries u handed world
    → IsLast v u handed before world → IsLast before world more then end
    → IsLast v u (handed ++ more) then end
last_then v u handed before world more then end run first (inl same) = inl same
last_then v u handed before world more then end run first (inr (inl waits)) =
    subst₂ (IsLast v u (handed ++ more)) (sym waits.0) (sym waits.1)
    (last_more v u handed more before world first)
last_then v u handed before world more then end run first (inr (inr done)) =
    inr (inr (record {
      older = handed ++ done.older;
      calls = done.calls;
      newer = done.newer;
      all = ap (λ (cs : List (List Call)). handed ++ cs) done.all
          ∙ sym (append_assoc handed done.older (done.calls ∷ done.newer));
      run = run_then u handed world done.older then run done.run;
      steps = done.steps;
    }))

-- ---- how many calls

pub count_append : (xs ys : List (List Call))
    → length (calls_in (xs ++ ys)) ≡ length (calls_in xs) + length (calls_in ys)
count_append xs ys =
    ap (λ (cs : List Call). length cs) (flat_map-append (λ (calls : List Call). calls) xs ys)
    ∙ length-append (calls_in xs) (calls_in ys)

-- one more series
pub count_more : (xs : List (List Call)) (calls : List Call)
    → length (calls_in (xs ++ calls ∷ [])) ≡ length (calls_in xs) + length calls
count_more xs calls =
    let all = count_append xs (calls ∷ []) in
    let one = length-append calls [] in omega (arith, all, one)

-- an answer uses as many keys as it answers calls
pub used_is : (u : World) (calls : List Call) (w : World) (answer : Answer) (count : ℕ)
    → IsAnswered u calls w answer → IsCountBy calls answer count
    → length calls ≡ used_for answer count
used_is u calls w (Done n reply) count answered counted = counted
used_is u calls w (Repeated n reply) count answered counted =
    ap (λ (cs : List Call). length cs) answered.1
used_is u calls w (Refused why) count answered counted =
    ap (λ (cs : List Call). length cs) answered.1

-- ---- which fit

module _ (Fit : Command → Type 0) where
  -- what fits of all series of two lists, or of one
  pub either_fills : (handed more : List (List Call)) → EachFits Fit handed → EachFits Fit more
      → (calls : List Call) → Has handed calls ⊎ Has more calls → AllFit Fit calls
  either_fills handed more first then calls (inl has) = first calls has
  either_fills handed more first then calls (inr has) = then calls has

  pub both_fill : (handed more : List (List Call)) → EachFits Fit handed → EachFits Fit more
      → EachFits Fit (handed ++ more)
  both_fill handed more first then = λ calls has.
      either_fills handed more first then calls (has_either handed more calls has)

  pub one_fills : (calls : List Call) → AllFit Fit calls → EachFits Fit (calls ∷ [])
  one_fills calls is other (inl same) = subst (λ (x : List Call). AllFit Fit x) same is
  one_fills calls is other (inr has) = absurd has

  pub none_fills : EachFits Fit []
  none_fills calls has = absurd has

  -- the first of a series alone
  pub first_fits : (call : Call) (more : List Call) → AllFit Fit (call ∷ more)
      → AllFit Fit (call ∷ [])
  first_fits call more is = (
    λ e. (let no : ⊥ = cc in no),
    λ other has. first_is other has,
  )
    where
      first_is : (other : Call) → Has (call ∷ []) other → Fit other.command
      first_is other (inl same) = is.1 other (inl same)
      first_is other (inr has) = absurd has

  -- what fits one way fits another way that asks for less
  pub all_too : (More : Command → Type 0) → ((c : Command) → Fit c → More c) → (calls : List Call)
      → AllFit Fit calls → AllFit More calls
  all_too More then calls is = (is.0, λ call has. then call.command (is.1 call has))

  pub each_too : (More : Command → Type 0) → ((c : Command) → Fit c → More c)
      → (handed : List (List Call)) → EachFits Fit handed → EachFits More handed
  each_too More then handed is = λ calls has. all_too More then calls (is calls has)

  -- the calls of a command that fits, under the first of some keys
  pub begun_fit : (c : Command) (keys : List (List ℕ)) (calls : List Call) → Fit c
      → AreBegun c keys calls → AllFit Fit calls
  begun_fit c keys calls is begun = (
    begun.some,
    λ call has. (
        let all : Has (calls_under c keys) call =
        subst (λ (cs : List Call). Has cs call) begun.all
        (has_before calls (calls_under c begun.rest) call has) in
        subst Fit (sym (under_is keys call all)) is),
  )
    where
      under_is : (ks : List (List ℕ)) (call : Call) → Has (calls_under c ks) call
          → call.command ≡ c
      under_is [] call h = absurd h
      under_is (k ∷ ks) call (inl same) = ap (λ (x : Call). x.command) (sym same)
      under_is (k ∷ ks) call (inr h) = under_is ks call h
