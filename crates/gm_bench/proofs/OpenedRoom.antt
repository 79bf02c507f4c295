-- What room for rows a registry has that was opened.
use Rattle.gm_bench.proofs.Common.{◌≡◌, ◌∙◌, inl, inr, Ok, List, [], map, sym, subst, arith, length-map, nil_from_length, IsPermutation, length_permutation, Database, Held, Ghosts, Tables, no_tables, HasRoom, IsStored, Opens, DiskKept, HasTables, seen, stored, most_rows}

-- a table of no records has no rows
none_kept : {A B : Type 0} (part : A → B) (rows : List A) → IsPermutation [] (map part rows)
    → rows ≡ []
none_kept part rows same = nil_from_length rows
    (sym (length-map rows part) ∙ length_permutation [] (map part rows) same)

module _ {S : Type 0} (g : Ghosts S) (start mid : Held S) where
  room_of_none : HasTables g mid no_tables → HasRoom most_rows (seen g mid)
  room_of_none has =
      let kept = has.tables.rows.rows in
      subst (λ (d : Database). HasRoom most_rows d.trees) (sym has.settled) (record {
        mirrors = rw (none_kept _ _ kept.mirrors.same)
            (record { last = 0; up_to = tt; room = omega arith });
        components = rw (none_kept _ _ kept.components.same)
            (record { last = 0; up_to = tt; room = omega arith });
        commands = rw (none_kept _ _ kept.commands.same)
            (record { last = 0; up_to = tt; room = omega arith });
      })

  -- that of the store, whose rows stay; and in tables that were made there is room
  pub room_opened : Opens g start mid (Ok tt) → DiskKept g mid
      → (t : Tables) → IsStored (stored g start) t → HasTables g mid t
      → HasRoom most_rows (stored g start) → HasRoom most_rows (seen g mid)
  room_opened it clean t (inl holds) has room =
      let same = has.settled ∙ (it.second holds.sound).alone.tables clean has.is_open in
      subst (λ (d : Database). HasRoom most_rows d.trees) (sym same) room
  room_opened it clean t (inr (inl first)) has room =
      let over = (it.first first.sound).done clean in
      subst (λ (d : Database). HasRoom most_rows d.trees) (sym has.settled) (record {
        mirrors = rw over.mirrors room.mirrors;
        components = rw over.components room.components;
        commands = rw over.commands room.commands;
      })
  room_opened it clean t (inr (inr empty)) has room =
      room_of_none (subst (HasTables g mid) empty.1 has)
