-- Which fault of a medium a fault of the bench comes from.
use Rattle.gm_bench.proofs.Common.{◌≡◌, ◌⊎◌, inl, inr, ℕ, ◌≤◌, ◌<◌, List, Option, Some, None, Result, Ok, Err, refl, subst, arith, IsSomeAnd, IsErrOf, Sizes, Intent, Meta, Clear, Copy, Dirty, Patch, IsAtHand, LacksProvider, LacksSector, ShelfFault, BenchFault, Closed, Disk, Memory, Store, Unreadable, TakenUp, IsBeforeWrites, IsOfOpening, of_store, of_shelf, IsUnwritten}
use Rattle.std.specs.Result.{IsErrAnd}
use Rattle.gm_rows.specs.declared.fault.StoreFault.{StoreFault}
use Rattle.gm_rows.specs.declared.fault.StoreFault.TheVariants as store
use Rattle.gm_shelf.specs.declared.fault.ShelfFault.TheVariants as shelf
use Rattle.gm_bench.specs.declared.fault.BenchFault.TheVariants.{Absent}

-- what `?` passes on is the fault that it was given
pub fault_is : {T E : Type 0} (r : Result T E) (given e : E) → IsErrAnd r (λ x. x ≡ given)
    → IsErrOf r e → given ≡ e
fault_is (Ok x) given e passed is = cc
fault_is (Err x) given e passed is = let same : x ≡ given = passed in cc

pub of_unreadable : (f : StoreFault) → of_store f ≡ Unreadable → f ≡ store.Unreadable
of_unreadable store.Memory e = cc
of_unreadable store.Store e = cc
of_unreadable store.Unreadable e = refl

pub no_disk : (f : StoreFault) → of_store f ≡ Disk → ⊥
no_disk store.Memory e = absurd (let g : ⊥ = cc in g)
no_disk store.Store e = absurd (let g : ⊥ = cc in g)
no_disk store.Unreadable e = absurd (let g : ⊥ = cc in g)

-- a failure of the disk is one of the device, if no provider and no sector is lacking
pub of_disk : (f : ShelfFault) (P : Type 0) → of_shelf f ≡ Disk → (f ≡ shelf.Absent → ⊥)
    → (f ≡ shelf.Range → ⊥) → (f ≡ shelf.Device → P) → P
of_disk shelf.Memory P e absent range device = absurd (let g : ⊥ = cc in g)
of_disk shelf.Absent P e absent range device = absurd (absent refl)
of_disk shelf.Range P e absent range device = absurd (range refl)
of_disk shelf.Device P e absent range device = device refl

none_there : (P : ℕ → Type 0) (o : Option ℕ) → IsSomeAnd o P → o ≡ None → ⊥
none_there P o h e = subst (λ (x : Option ℕ). IsSomeAnd x P) e h

-- what is at hand isn't lacking
pub not_lacking_provider : (size : Sizes) (t : Intent) → IsAtHand size t → LacksProvider size t → ⊥
not_lacking_provider size (Meta p) hand e = none_there _ (size p) hand e
not_lacking_provider size (Clear p) hand e = none_there _ (size p) hand e
not_lacking_provider size (Copy a b x y) hand (inl e) = none_there _ (size a) hand.0 e
not_lacking_provider size (Copy a b x y) hand (inr e) = none_there _ (size b) hand.1 e
not_lacking_provider size (Dirty p) hand e = none_there _ (size p) hand e
not_lacking_provider size (Patch p x y) hand e = none_there _ (size p) hand e

too_short : (o : Option ℕ) (m : ℕ) → IsSomeAnd o (λ n. m ≤ n) → IsSomeAnd o (λ n. n < m) → ⊥
too_short None m h e = h
too_short (Some n) m h e = let a : m ≤ n = h in let b : n < m = e in omega arith

no_sector : (o : Option ℕ) → IsSomeAnd o (λ n. 0 < n) → o ≡ Some 0 → ⊥
no_sector o h e = let l : 0 < 0 = subst (λ (x : Option ℕ). IsSomeAnd x (λ n. 0 < n)) e h in
    omega (arith, l)

pub not_lacking_sector : (size : Sizes) (t : Intent) → IsAtHand size t → LacksSector size t → ⊥
not_lacking_sector size (Meta p) hand e = no_sector (size p) hand e
not_lacking_sector size (Clear p) hand e = no_sector (size p) hand e
not_lacking_sector size (Copy a b x y) hand (inl e) = too_short (size a) y hand.0 e
not_lacking_sector size (Copy a b x y) hand (inr e) = too_short (size b) y hand.1 e
not_lacking_sector size (Dirty p) hand e = no_sector (size p) hand e
not_lacking_sector size (Patch p x y) hand e = too_short (size p) y hand e

pub of_failed : (f : StoreFault) → of_store f ≡ Store → f ≡ store.Store
of_failed store.Memory e = cc
of_failed store.Store e = refl
of_failed store.Unreadable e = cc

-- what is passed on of a call that failed before anything was written
pub passed_unwritten : (r : Result TakenUp BenchFault) (given : BenchFault)
    → IsErrAnd r (λ x. x ≡ given) → IsUnwritten r → IsBeforeWrites given
passed_unwritten (Ok x) given passed before = absurd passed
passed_unwritten (Err x) given passed before = subst IsBeforeWrites passed before

-- of the faults of an opening that is F5 alone
pub only_absent : (f : BenchFault) → IsOfOpening f → IsBeforeWrites f
    → (q : List ℕ) × (f ≡ Absent q)
only_absent (Absent q) of before = (q, refl)
only_absent Memory of before = absurd before
only_absent Store of before = absurd before
only_absent Disk of before = absurd before
only_absent Closed of before = absurd of
only_absent Unreadable of before = absurd of

-- of a bench that isn't closed it is F5 or F6
pub absent_or_unreadable : (f : BenchFault) → (f ≡ Closed → ⊥) → IsBeforeWrites f
    → ((q : List ℕ) × (f ≡ Absent q)) ⊎ (f ≡ Unreadable)
absent_or_unreadable (Absent q) still before = inl (q, refl)
absent_or_unreadable Unreadable still before = inr refl
absent_or_unreadable Closed still before = absurd (still refl)
absent_or_unreadable Memory still before = absurd before
absent_or_unreadable Store still before = absurd before
absent_or_unreadable Disk still before = absurd before
