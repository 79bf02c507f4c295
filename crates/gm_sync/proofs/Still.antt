-- If nothing is to be filled, nothing is written.
use Rattle.gm_sync.proofs.Common.{◌≡◌, arith, sym, subst, Ok, None, Records, Tables, AreRecordsOf, DiskKept, HasTables, registry_of, shelf_of, Keep, LooksOn, LookDoes, Bench, Due, IsStill, next_of}
use Rattle.sqlite_trees.specs.declared.store.Store.{Ghosts as StoreGhosts}
use Rattle.gm_shelf.specs.declared.shelf.Shelf.{Ghosts as ShelfGhosts}
use Rattle.gm_sync.proofs.Filled.{look_none, look_then}

module _ {S H : Type 0} (g : StoreGhosts S) (h : ShelfGhosts H) (due : Due) where
  pub still_none : (a : Bench S H) → IsStill g h a a due
  still_none a honest kept t s has are none = look_none g h a

  -- a look, and then a call that is still
  pub still_then : (a b c : Bench S H)
      → Keep g h (registry_of a) (registry_of b) (shelf_of a) (shelf_of b)
      → Keep g h (registry_of b) (registry_of c) (shelf_of b) (shelf_of c)
      → (h.honest (shelf_of a) → DiskKept g (registry_of b)
      → LookDoes g h (registry_of a) (registry_of b) (shelf_of a) (shelf_of b))
      → IsStill g h b c due → IsStill g h a c due
  still_then a b c first then does still honest kept t s has are none =
      let mid : DiskKept g (registry_of b) = omega (arith, then.clean, kept) in
      let looked = does honest mid in
      look_then g h a b c looked
      (still (first.shelf.honest honest) kept t s (looked.tables t has) are none)

  -- a call that is still, and then a look
  pub still_looked : (a b c : Bench S H) {T : Type 0} (x : T)
      → Keep g h (registry_of a) (registry_of b) (shelf_of a) (shelf_of b) → IsStill g h a b due
      → LooksOn g h b c (Ok x) → IsStill g h a c due
  still_looked a b c x first still looks honest kept t s has are none =
      let mid : DiskKept g (registry_of b) = omega (arith, looks.store.clean, kept) in
      look_then g h a b c (still honest mid t s has are none)
      (looks.does (first.shelf.honest honest) kept)

  -- if the look shows something to be filled, whatever comes then
  pub still_shown : (a b c d : Bench S H) (state : Records) → IsStill g h a b due
      → LooksOn g h b c (Ok state)
      → (DiskKept g (registry_of c) → (t : Tables) (s : Records) → HasTables g (registry_of b) t
      → AreRecordsOf t s → state ≡ s)
      → (next_of due state ≡ None → ⊥)
      → Keep g h (registry_of c) (registry_of d) (shelf_of c) (shelf_of d)
      → IsStill g h a d due
  still_shown a b c d state still looks shows some then honest kept t s has are none =
      let end : DiskKept g (registry_of c) = omega (arith, then.clean, kept) in
      let mid : DiskKept g (registry_of b) = omega (arith, looks.store.clean, end) in
      let looked = still honest mid t s has are none in
      let same : state ≡ s = shows end t s (looked.tables t has) are in
      absurd (some (subst (λ (x : Records). next_of due x ≡ None) (sym same) none))
