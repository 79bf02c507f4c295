-- What is looked up in the registry, one thing after another.
use Rattle.gm_bench.proofs.Common.{◌≡◌, ◌∙◌, ℕ, OnOk, IfErr, on_ok_weaker, IsOfRegistry, Result, Ok, Err, ap, arith, Ghosts, Tables, DiskKept, HasTables, IsRegistry, count_of, BenchFault, Media, OnlyLooksUp}
use Rattle.std.specs.Result.{IsErrAnd}
use Rattle.gm_bench.specs.Asking.{Counts, LooksUp}
use Rattle.gm_bench.proofs.DecidesOnly.{alone_then, reads_then}
use Rattle.gm_bench.proofs.StoreFails.{failed_later}

-- what `?` passes on is a fault
pub passed_on : {T E : Type 0} (r : Result T E) (given : E) → IsErrAnd r (λ x. x ≡ given)
    → r ≡ Err given
passed_on (Ok x) given passed = absurd passed
passed_on (Err x) given passed = ap Err passed

-- what is answered is no fault
pub no_fault : {T E : Type 0} (x : T) (e : E) → Ok x ≡ Err e → ⊥
no_fault x e is = cc

-- a fault is the same whatever was asked for
pub same_fault : {T U E : Type 0} (e f : E) → ◌≡◌ {A = Result T E} (Err e) (Err f)
    → ◌≡◌ {A = Result U E} (Err e) (Err f)
same_fault e f is = let same : e ≡ f = cc in ap Err same

module _ {S H : Type 0} (s : Ghosts S) where
  -- what was looked up, in other words
  pub looked_as : {T U : Type 0} (old new : Media S H) (x : T) (y : U)
      (A : T → Tables → Type 0) (B : U → Tables → Type 0) (P Q : Tables → Type 0)
      → LooksUp s old new (Ok x) A P → ((t : Tables) → A x t → B y t)
      → LooksUp s old new (Ok y) B Q
  looked_as old new x y A B P Q it so = record {
    told = λ clean t has. let r = it.told clean t has in (so t r.0, r.1);
    store = λ clean is. absurd (no_fault _ _ is);
    readable = λ clean is. absurd (no_fault _ _ is);
    looks = record {
      shelf = it.looks.shelf;
      clean = it.looks.clean;
      reads = it.looks.reads;
      untouched = it.looks.untouched;
      still = it.looks.still;
      fault = tt;
    };
  }

  -- a count of the commands is a look
  pub counted : (old new : Media S H) (n : ℕ) (P : Tables → Type 0)
      → Counts s old new (Ok n) (λ n count. n ≡ count)
      → LooksUp s old new (Ok n) (λ n t. n ≡ count_of t) P
  counted old new n P it = record {
    told = it.told;
    store = λ clean is. absurd (no_fault _ _ is);
    readable = λ clean is. absurd (no_fault _ _ is);
    looks = record {
      shelf = it.shelf;
      clean = it.reads.clean;
      reads = λ clean. it.reads;
      untouched = λ clean. it.untouched;
      still = it.still;
      fault = tt;
    };
  }

  module _ {T : Type 0} (old mid new : Media S H) (x : T) (A : T → Tables → Type 0)
      (P : Tables → Type 0) (first : LooksUp s old mid (Ok x) A P) where
    -- what was told first holds of the tables, and the second look finds them
    found_first : DiskKept s mid.registry → (t : Tables) → HasTables s old.registry t
        → A x t × HasTables s mid.registry t
    found_first early = first.told early

    -- a look and then another leave both media
    looks_again : {U V : Type 0} (second : Result U BenchFault) (result : Result V BenchFault)
        → OnlyLooksUp s mid new second
        → (DiskKept s new.registry → OnOk result (IsRegistry s mid.registry
        → IsRegistry s new.registry)) → IfErr result IsOfRegistry
        → OnlyLooksUp s old new result
    looks_again second result looks still fault = record {
      shelf = looks.shelf ∙ first.looks.shelf;
      clean = let one = first.looks.clean in
          let two = looks.clean in omega (arith, one, two);
      reads = λ clean.
          let early : DiskKept s mid.registry = omega (arith, looks.clean, clean) in
          reads_then s old.registry mid.registry new.registry
          (λ t has. (found_first early t has).1) (first.looks.reads early) (looks.reads clean);
      untouched = λ clean was.
          let early : DiskKept s mid.registry = omega (arith, looks.clean, clean) in
          let is : IsRegistry s mid.registry = first.looks.still early was in
          alone_then s old.registry mid.registry new.registry is looks.clean
          (first.looks.untouched early was) (looks.untouched clean is);
      still = λ clean.
          let early : DiskKept s mid.registry = omega (arith, looks.clean, clean) in
          on_ok_weaker result (λ goes was. goes (first.looks.still early was)) (still clean);
      fault = fault;
    }

    -- both look up what they tell together
    pub looked_on : {U V : Type 0} (y : U) (z : V) (B : U → Tables → Type 0) (C : V → Tables → Type 0)
        (Q R : Tables → Type 0) → LooksUp s mid new (Ok y) B Q
        → ((t : Tables) → A x t → B y t → C z t) → LooksUp s old new (Ok z) C R
    looked_on y z B C Q R second both = record {
      told = λ clean t has.
          let early : DiskKept s mid.registry = omega (arith, second.looks.clean, clean) in
          let one = found_first early t has in
          let two = second.told clean t one.1 in (both t one.0 two.0, two.1);
      store = λ clean is. absurd (no_fault _ _ is);
      readable = λ clean is. absurd (no_fault _ _ is);
      looks = looks_again (Ok y) (Ok z) second.looks second.looks.still tt;
    }

    -- the second fails
    pub looked_fault : {U V : Type 0} (e : BenchFault) (B : U → Tables → Type 0) (C : V → Tables → Type 0)
        (Q R : Tables → Type 0) → LooksUp s mid new (Err e) B Q
        → ((t : Tables) → R t → Q t) → LooksUp s old new (Err e) C R
    looked_fault e B C Q R second read = record {
      told = λ clean. tt;
      store = λ clean is t has.
          let early : DiskKept s mid.registry = omega (arith, second.looks.clean, clean) in
          let there = (found_first early t has).1 in
          failed_later s old.registry mid.registry t (first.looks.reads early) has there
          new.registry (second.store clean (same_fault e _ is) t there);
      readable = λ clean is t has are.
          let early : DiskKept s mid.registry = omega (arith, second.looks.clean, clean) in
          second.readable clean (same_fault e _ is) t (found_first early t has).1 (read t are);
      looks = looks_again (Err e) (Err e) second.looks (λ clean. tt) second.looks.fault;
    }
