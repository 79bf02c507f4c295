-- A series of advances under as many keys as a series has, as the bench tells it.
use Rattle.gm_sync.proofs.Common.{◌≡◌, ◌∙◌, ◌⊎◌, inl, inr, ℕ, refl, sym, ap, subst, arith, List, [], ◌∷◌, length, Option, Some, IsSome, Result, Ok, Err, Command, Answer, SeriesAnswer, Done, Repeated, Refused, Bench, BenchFault, Progress, Failed, progress_of, registry_of, shelf_of, carried_records, carried_so, carried_tables, else_none, HandsInAdvances, HandsInSeries, some_answer, rows_for, IsLawful, FailsOn, Advance, TakesNext, HasRoom, phase_of, phase_carried, seen, keys_after}
use Rattle.sqlite_trees.specs.declared.store.Store.{Ghosts as StoreGhosts}
use Rattle.gm_shelf.specs.declared.shelf.Shelf.{Ghosts as ShelfGhosts}
use Rattle.gm_sync.proofs.Keys.{keys_length}
use Rattle.gm_bench.specs.declared.phase.Phase.{Phase}
use Rattle.gm_bench.specs.declared.phase.Phase.TheVariants as far

few_keys : (keys : List (List ℕ)) → length keys ≡ 64
    → (key : List ℕ) × (more : List (List ℕ)) × (keys ≡ key ∷ more) × (length more ≡ 63)
few_keys [] is = absurd (omega (arith, is))
few_keys (key ∷ more) is = (key, more, refl, omega (arith, is))

-- a bench that takes a series takes one after it
pub takes_after : (p q : Progress) (a : Answer) → TakesNext p
    → phase_of q ≡ phase_carried (phase_of p) a → TakesNext q
takes_after p q (Done n reply) takes is = inr is
takes_after p q (Repeated n reply) takes is =
    subst (λ (x : Phase). ((x ≡ far.Ready) ⊎ (x ≡ far.Failed)) ⊎ (x ≡ far.Applied)) (sym is) takes
takes_after p q (Refused why) takes is =
    subst (λ (x : Phase). ((x ≡ far.Ready) ⊎ (x ≡ far.Failed)) ⊎ (x ≡ far.Applied)) (sym is) takes

pub takes_failed : (p : Progress) → p ≡ Failed → TakesNext p
takes_failed p is = inl (inr (ap phase_of is))

module _ {S H : Type 0} (g : StoreGhosts S) (h : ShelfGhosts H) (a b : Bench S H)
    (keys : List (List ℕ)) (c : Command) (n : ℕ) (are : keys ≡ keys_after n 64) where
  -- it is handed in under the first key, and more
  pub record IsSeries (answered : Result SeriesAnswer BenchFault) : Type 0 where
    pub key : List ℕ
    pub more : List (List ℕ)
    pub few : length more ≡ 63
    pub own : key ∷ more ≡ keys_after n 64
    pub hands : HandsInSeries g h a b answered key more c

  is_series : (result : Result (Option SeriesAnswer) BenchFault)
      → HandsInAdvances g h a b result keys c
      → (answered : Result SeriesAnswer BenchFault) × (result ≡ some_answer answered)
      × IsSeries answered
  is_series result hands =
      let many : length keys ≡ 64 =
      ap (λ (ks : List (List ℕ)). length ks) are ∙ keys_length n 64 in
      let k = few_keys keys many in
      let it = hands.few k.0 k.1 k.2 (omega (arith, many)) in (
        it.0,
        it.1,
        record { key = k.0; more = k.1; few = k.3; own = sym k.2 ∙ are; hands = it.2 },
      )

  -- it is answered
  pub is_some : (o : Option SeriesAnswer) → HandsInAdvances g h a b (Ok o) keys c → IsSome o
  is_some o hands =
      let it = is_series (Ok o) hands in some_of it.0 it.1
    where
      some_of : (answered : Result SeriesAnswer BenchFault) → Ok o ≡ some_answer answered → IsSome o
      some_of (Ok x) is =
          let same : Some x ≡ o = cc in subst (λ (y : Option SeriesAnswer). IsSome y) same refl
      some_of (Err e) is = let no : ⊥ = cc in absurd no

  pub answered_so : (answer : SeriesAnswer) → HandsInAdvances g h a b (Ok (Some answer)) keys c
      → IsSeries (Ok answer)
  answered_so answer hands =
      let it = is_series (Ok (Some answer)) hands in so it.0 it.1 it.2
    where
      so : (answered : Result SeriesAnswer BenchFault) → Ok (Some answer) ≡ some_answer answered
          → IsSeries answered → IsSeries (Ok answer)
      so (Ok x) is it =
          let same : x ≡ answer = cc in
          subst (λ (y : SeriesAnswer). IsSeries (Ok y)) same it
      so (Err e) is it = let no : ⊥ = cc in absurd no

  -- or failed
  pub failed_so : (fault : BenchFault) → HandsInAdvances g h a b (Err fault) keys c
      → IsSeries (Err fault)
  failed_so fault hands =
      let it = is_series (Err fault) hands in so it.0 it.1 it.2
    where
      so : (answered : Result SeriesAnswer BenchFault) → Err fault ≡ some_answer answered
          → IsSeries answered → IsSeries (Err fault)
      so (Ok x) is it = let no : ⊥ = cc in absurd no
      so (Err e) is it =
          let same : e ≡ fault = cc in subst (λ (y : BenchFault). IsSeries (Err y)) same it

-- the fault is told as calls tell it
module _ {S H : Type 0} (g : StoreGhosts S) (h : ShelfGhosts H) (a b : Bench S H) (name : List ℕ)
    (provider : List ℕ) where
  pub series_fails : (fault : BenchFault) (key : List ℕ) (more : List (List ℕ))
      → length more ≡ 63
      → HandsInSeries g h a b (Err fault) key more (Advance name provider)
      → ((k : H) → h.honest k → IsLawful (h.view k)) → FailsOn g h a b fault
  series_fails fault key more few hands lawful = record {
    reopen = λ e. hands.closes.reopen (ap Err e);
    absent = λ p e. hands.closes.absent p (ap Err e);
    disk = λ honest kept away v u stands e.
        let was = carried_so g h (progress_of a) (registry_of a) (shelf_of a) away v u stands in
        let are = carried_tables g h (registry_of a) (shelf_of a) away was.intents was.bytes v u
        was.at (lawful (shelf_of a) honest) in
        hands.runs.disk kept was.at.tables u.state was.at.has
        (carried_records was.at.tables u.state was.intents was.bytes are) (ap Err e);
    store = λ honest kept away v u stands e.
        let was = carried_so g h (progress_of a) (registry_of a) (shelf_of a) away v u stands in
        let are = carried_tables g h (registry_of a) (shelf_of a) away was.intents was.bytes v u
        was.at (lawful (shelf_of a) honest) in
        record {
          before = a;
          earlier = v;
          world = u;
          intents = was.intents;
          bytes = was.bytes;
          at = was.at;
          failed = λ room.
              hands.rows.store kept (ap Err e) was.at.tables u.state was.at.has
              (carried_records was.at.tables u.state was.intents was.bytes are)
              (else_none (progress_of a) was.at.tables u.state was.intents was.bytes was.waits are)
              (subst (λ (n : ℕ). HasRoom (rows_for n) (seen g (registry_of a))) (sym few) room)
              tt;
        };
  }
