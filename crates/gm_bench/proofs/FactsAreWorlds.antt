-- Facts that were gathered say what the shelf says.
use Rattle.gm_bench.proofs.Common.{◌≡◌, ◌∙◌, ◌⊎◌, ◌&&◌, inl, inr, ℕ, zero, suc, ◌+◌, ◌<◌, ◌≤◌, min, ap₂, arith, unwrap_or, option_map, List, [], ◌∷◌, ◌++◌, find, take, length, get_or, Option, Some, None, refl, sym, ap, subst, min-zero, take_more, Image, Sizes, Same, agree, same_label, IfSome, MatchOption, Has, same_is, same_from, found, found_none, not_both, option_cases, Fact, equals_in, size_in, CountsEqual, reach_of, Compared, AreEqual, IsFact, Tell, TellSizes, last_of, Has-push}
use Rattle.std.specs.Str.{bytes_eq}
use Rattle.gm_apply.specs.EqualData.{count_of}

-- the provider is absent, or there is an entry for it
abbrev pub IsCovered : List Fact → Sizes → List ℕ → Type 0
IsCovered entries size q = (size q ≡ None) ⊎ ((f : Fact) × Has entries f × (f.provider ≡ q))

-- if one of two providers isn't there, nothing is compared
nothing : (limit a n : ℕ) → n ≡ 0 → min limit (min a n) ≡ 0
nothing limit a n e =
    ap (λ k. min limit (min a k)) e ∙ (ap (min limit) (min-zero a) ∙ min-zero limit)

none_equal : (seen : Image) (p q : List ℕ) (reach : ℕ) → reach ≡ 0 → CountsEqual seen p q reach 0
none_equal seen p q reach e zero low = refl
none_equal seen p q reach e (suc k) low = absurd (omega (arith, e, low))

absent_equal : (size : Sizes) (seen : Image) (against : Option Compared) (q : List ℕ)
    → size q ≡ None → AreEqual size seen against q 0
absent_equal size seen None q absent = tt
absent_equal size seen (Some with) q absent =
    none_equal seen with.source q (reach_of size with.source q with.limit)
    (nothing with.limit (count_of size with.source) (count_of size q)
    (ap (λ o. unwrap_or o 0) absent))

-- equal sectors of an image are equal in one that holds the same
pub agree_same : (x y : Image) (p q : List ℕ) (k : ℕ)
    → ((j : ℕ) → j < k → (x p j ≡ y p j) × (x q j ≡ y q j)) → agree x p q k ≡ agree y p q k
agree_same x y p q zero same = refl
agree_same x y p q (suc k) same =
    let here = same k (omega arith) in
    ap₂ (λ a b. a && b) (agree_same x y p q k (λ j low. same j (omega (arith, low))))
    (ap₂ bytes_eq here.0 here.1)

equal_moved : (size size' : Sizes) (seen seen' : Image) (against : Option Compared) (q : List ℕ)
    (n : ℕ) → size' ≡ size → Same seen' seen → AreEqual size' seen' against q n
    → AreEqual size seen against q n
equal_moved size size' seen seen' None q n e same equal = tt
equal_moved size size' seen seen' (Some with) q n e same equal = λ k low.
    equal k (subst (λ (z : Sizes). k ≤ reach_of z with.source q with.limit) (sym e) low)
    ∙ agree_same seen' seen with.source q k (λ j l. (same with.source j, same q j))

pub tell : (entries : List Fact) (size : Sizes) (seen : Image) (against : Option Compared)
    (q : List ℕ) → ((f : Fact) → Has entries f → IsFact size seen against f)
    → IsCovered entries size q → Tell entries size seen against q
tell entries size seen against q facts covered =
    elim (option_cases (find (λ (f : Fact). same_label f.provider q) entries)) [
      | inl none ↦
          let absent : size q ≡ None = elim covered [
            | inl gone ↦ gone
            | inr there ↦ not_both (same_label there.0.provider q)
                (same_from there.0.provider q there.2)
                (found_none (λ (f : Fact). same_label f.provider q) entries none there.0 there.1)
          ] in
          record {
            size_is = rw none (sym absent);
            last_is = rw (none, absent) refl;
            equal_is = rw none (absent_equal size seen against q absent);
          }
      | inr some ↦
          let f : Fact = some.0 in
          let is = found (λ (g : Fact). same_label g.provider q) entries f some.1 in
          let at : f.provider ≡ q = same_is f.provider q is.1 in
          let fact : IsFact size seen against f = facts f is.0 in
          let size_is : size q ≡ Some f.sectors =
          subst (λ (p : List ℕ). size p ≡ Some f.sectors) at fact.sectors in
          let last_is : f.last ≡ last_of f.sectors (seen q) =
          subst (λ (p : List ℕ). f.last ≡ last_of f.sectors (seen p)) at fact.last in
          record {
            size_is = rw some.1 (sym size_is);
            last_is = rw (some.1, size_is) (ap Some last_is);
            equal_is =
                rw some.1 (subst (λ (p : List ℕ). AreEqual size seen against p f.equal) at
                fact.equal);
          }
    ]

-- entries that have the shelf's sizes tell that of a provider which is covered
pub tell_size : (entries : List Fact) (size : Sizes) (q : List ℕ)
    → ((f : Fact) → Has entries f → size f.provider ≡ Some f.sectors) → IsCovered entries size q
    → size_in entries q ≡ size q
tell_size entries size q told covered =
    elim (option_cases (find (λ (f : Fact). same_label f.provider q) entries)) [
      | inl none ↦
          let absent : size q ≡ None = elim covered [
            | inl gone ↦ gone
            | inr there ↦ not_both (same_label there.0.provider q)
                (same_from there.0.provider q there.2)
                (found_none (λ (f : Fact). same_label f.provider q) entries none there.0 there.1)
          ] in
          rw none (sym absent)
      | inr some ↦
          let is = found (λ (g : Fact). same_label g.provider q) entries some.0 some.1 in
          let size_is : size q ≡ Some some.0.sectors =
          subst (λ (p : List ℕ). size p ≡ Some some.0.sectors) (same_is some.0.provider q is.1)
          (told some.0 is.0) in
          rw some.1 (sym size_is)
    ]

-- entries that have the shelf's sizes tell them
pub tell_sizes : (entries : List Fact) (size : Sizes)
    → ((f : Fact) → Has entries f → size f.provider ≡ Some f.sectors) → TellSizes entries size
tell_sizes entries size told q n e =
    elim (option_cases (find (λ (f : Fact). same_label f.provider q) entries)) [
      | inl none ↦ (let f : None ≡ Some n = rw none at e in absurd (let h : ⊥ = cc in h))
      | inr some ↦
          let f : Some some.0.sectors ≡ Some n = rw some.1 at e in
          let is = found (λ (g : Fact). same_label g.provider q) entries some.0 some.1 in
          subst (λ (p : List ℕ). size p ≡ Some some.0.sectors) (same_is some.0.provider q is.1)
          (told some.0 is.0) ∙ f
    ]

-- what was found of one provider has the shelf's size
pub size_found : (found : Option Fact) (f : Fact) (size : Sizes) (name : List ℕ) → found ≡ Some f
    → IfSome found (λ g. (g.provider ≡ name) × (size name ≡ Some g.sectors))
    → size f.provider ≡ Some f.sectors
size_found None f size name e m = absurd (let h : ⊥ = cc in h)
size_found (Some g) f size name e m =
    let same : g ≡ f = cc in
    subst (λ (x : Fact). size x.provider ≡ Some x.sectors) same
    (ap size m.0 ∙ m.1)

pub covered_more : (entries more : List Fact) (size : Sizes) (names : List (List ℕ)) (i : ℕ)
    (name : List ℕ) → i < length names → name ≡ get_or names i name
    → ((f : Fact) → Has entries f → Has more f) → IsCovered more size name
    → ((q : List ℕ) → Has (take i names) q → IsCovered entries size q) → (q : List ℕ)
    → Has (take (i + 1) names) q → IsCovered more size q
covered_more entries more size names i name low is sub here before q h =
    let h' : Has (take i names ++ name ∷ []) q =
    subst (λ l. Has l q) (take_more names i name low
    ∙ ap (λ (n : List ℕ). take i names ++ n ∷ []) (sym is)) h in
    elim (Has-push (take i names) name q h') [
      | inl was ↦ (elim (before q was) [
        | inl gone ↦ inl gone
        | inr there
            ↦ inr (there.0, sub there.0 there.1, there.2)
      ])
      | inr e ↦ subst (IsCovered more size) e here
    ]

-- a fact of a shelf that was only read since is one of the shelf as it was
pub moved : (size size' : Sizes) (seen seen' : Image) (against : Option Compared) (f : Fact)
    → size' ≡ size → Same seen' seen → IsFact size' seen' against f → IsFact size seen against f
moved size size' seen seen' against f e same fact = record {
  sectors = subst (λ (z : Sizes). z f.provider ≡ Some f.sectors) e fact.sectors;
  last = fact.last ∙ (λ i. last_of f.sectors (λ j. same f.provider j i));
  equal = equal_moved size size' seen seen' against f.provider f.equal e same fact.equal;
}

-- what was found of one provider: its fact, or that it is absent
pub fact_found : (found : Option Fact) (f : Fact) (size : Sizes) (seen : Image)
    (against : Option Compared) (name : List ℕ) → found ≡ Some f
    → MatchOption found (size name ≡ None) (λ g. IsFact size seen against g × (g.provider ≡ name))
    → IsFact size seen against f × (f.provider ≡ name)
fact_found None f size seen against name e m = cc
fact_found (Some g) f size seen against name e m = let same : g ≡ f = cc in
    subst (λ (x : Fact). IsFact size seen against x × (x.provider ≡ name)) same m

pub absent_found : (found : Option Fact) (size : Sizes) (seen : Image) (against : Option Compared)
    (name : List ℕ) → found ≡ None
    → MatchOption found (size name ≡ None) (λ g. IsFact size seen against g × (g.provider ≡ name))
    → size name ≡ None
absent_found None size seen against name e m = m
absent_found (Some g) size seen against name e m = cc

-- what is told of a shelf that was only read since is told of the shelf as it was
pub tell_moved : (size size' : Sizes) (seen seen' : Image) (against : Option Compared)
    (facts : List Fact) (q : List ℕ) → size' ≡ size → Same seen' seen
    → Tell facts size' seen' against q → Tell facts size seen against q
tell_moved size size' seen seen' against facts q e same told = record {
  size_is = told.size_is ∙ ap (λ (z : Sizes). z q) e;
  last_is = told.last_is ∙ (λ i. option_map (λ n. last_of n (λ j. same q j i)) (e i q));
  equal_is = equal_moved size size' seen seen' against q (equals_in facts q) e same told.equal_is;
}
