-- A store's failure after a call that only read, and what room for rows such a call leaves.
use Rattle.gm_bench.proofs.Common.{◌≡◌, ◌∙◌, inl, inr, ℕ, ◌≤◌, sym, subst, arith, Option, IsSome, Ghosts, Held, state, Tables, HasRoom, DiskKept, HasTables, Reads, StoreFailed, seen, GoesOn}

module _ {S : Type 0} (g : Ghosts S) (old mid : Held S) where
  pub failed_behind : (state g old).faults ≤ (state g mid).faults
      → (state g mid).step_limit ≡ (state g old).step_limit → (new : Held S)
      → StoreFailed g mid new → StoreFailed g old new
  failed_behind counts limit new (inl more) = inl (omega (arith, counts, more))
  failed_behind counts limit new (inr some) = inr (subst (λ (o : Option ℕ). IsSome o) limit some)

  module _ (t : Tables) (reads : Reads g old mid) (has : HasTables g old t)
      (then : HasTables g mid t) where
    pub failed_later : (new : Held S) → StoreFailed g mid new → StoreFailed g old new
    failed_later = failed_behind (reads.left t has).counts (reads.left t has).limit

    pub room_later : (n : ℕ) → DiskKept g mid → HasRoom n (seen g old) → HasRoom n (seen g mid)
    room_later n clean room =
        subst (HasRoom n) (sym (reads.same clean t has then.is_open)) room

    -- it goes on, and then goes on as from a later call
    pub read_goes : GoesOn g old mid
    read_goes = record {
      tables = t;
      has = then;
      counts = (reads.left t has).counts;
      limit = (reads.left t has).limit;
    }

    pub goes_later : (new : Held S) → GoesOn g mid new → GoesOn g old new
    goes_later new it = record {
      tables = it.tables;
      has = it.has;
      counts = (let first = (reads.left t has).counts in let second = it.counts in
          omega (arith, first, second));
      limit = it.limit ∙ (reads.left t has).limit;
    }
