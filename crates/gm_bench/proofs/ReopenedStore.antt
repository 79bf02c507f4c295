-- From a store that a stop left to a registry that leads on.
use Rattle.gm_bench.proofs.Common.{◌≡◌, inl, inr, ℕ, List, refl, sym, subst, Ghosts, Trees, Database, Held, state, Image, IsLawful, Intent, Tables, World, IsStored, DiskKept, CrashLeaves, HasTables, LeavesAlone, MayCarryOver, MayLeave, StoreFailed, stored, IsCarriedOver, IsKnownStore, known_first, known_second, failed_since, survives_then, AllLead, HoldsKnown, MayBeCarriedOver, IsLeft, IsOpening, OpenLeaves, Recovers, IsFound, LeavesOnly}
use Rattle.gm_shelf.specs.declared.shelf.Shelf.{Ghosts as ShelfGhosts}

pub known_store : (db : Trees) → HoldsKnown db → IsKnownStore db
known_store db (inl stored) = elim stored.1 [
  | inl held ↦ known_second db held.sound
  | inr (inl first) ↦ known_first db first.sound
  | inr (inr empty) ↦ inl empty.0
]
known_store db (inr foreign) = inr (inr foreign)

module _ {S H : Type 0} (g : Ghosts S) (j : ShelfGhosts H) (start : Held S) (h : H)
    (away : Image) (u w : World) (lawful : IsLawful (j.view h))
    (only : (db : Trees) → CrashLeaves g start db → db ≡ stored g start)
    (r : Recovers (stored g start) (j.size h) away (j.view h).may_leave u w) where
  -- the store as it was, with any images that lead on
  as_it_was : (X : Image → Type 0) → AllLead r.tables r.intents r.bytes (j.size h) away X u w
      → (db : Trees)
      → CrashLeaves g start db → Recovers db (j.size h) away X u w
  as_it_was X leads db left = record {
    tables = r.tables;
    intents = r.intents;
    bytes = r.bytes;
    stored = subst (λ (d : Trees). IsStored d r.tables) (sym (only db left)) r.stored;
    leads =
        leads;
  }

  -- an opening that ended before anything was carried out
  pub unopened : (new : Held S) → DiskKept g new
      → ((t : Tables) → IsStored (stored g start) t → MayLeave g start new t)
      → LeavesOnly g j start new h h away u w
  unopened new clean may = record {
    within = as_it_was ((j.view h).left_since (j.view h).moment)
        (λ x l. r.leads x (lawful.only_now x l));
    end = λ db left. elim ((may r.tables r.stored).crash clean db left) [
      | inl was ↦ as_it_was (j.view h).may_leave r.leads db was
      | inr is ↦ record {
        tables = r.tables;
        intents = r.intents;
        bytes = r.bytes;
        stored = inl is;
        leads = r.leads;
      }
    ];
  }

  -- and what a stop then leaves
  pub unopened_still : (new : Held S) → DiskKept g new
      → ((t : Tables) → IsStored (stored g start) t → MayLeave g start new t)
      → LeavesOnly g j new new h h away u w
  unopened_still new clean may =
      let end = (unopened new clean may).end in
      record {
        within = λ db left.
            let it = end db left in
            record {
              tables = it.tables;
              intents = it.intents;
              bytes = it.bytes;
              stored = it.stored;
              leads = λ x l. it.leads x (lawful.only_now x l);
            };
        end = end;
      }

module _ {S H : Type 0} (g : Ghosts S) (j : ShelfGhosts H) (start mid : Held S)
    (h : H) (opened : (t : Tables) → IsStored (stored g start) t → HasTables g mid t) where
  -- what was left is found in the registry that is opened
  pub found_at : (away : Image) (u w : World) → (left : IsLeft g j start h away u w)
      → IsFound g j mid h away left.recovers.intents left.recovers.bytes u w
  found_at away u w left = record {
    tables = left.recovers.tables;
    has = opened left.recovers.tables left.recovers.stored;
    sizes = left.sizes;
    leads = left.recovers.leads;
  }

module _ {S H : Type 0} (g : Ghosts S) (j : ShelfGhosts H) (start mid : Held S)
    (h : H) (lawful : IsLawful (j.view h))
    (only : (db : Trees) → CrashLeaves g start db → db ≡ stored g start) (clean : DiskKept g mid)
    (may : (t : Tables) → IsStored (stored g start) t → MayLeave g start mid t) where
  -- what a stop leaves while the registry is opened, and after that
  opening : (away : Image) (u w : World) → IsLeft g j start h away u w
      → LeavesOnly g j start mid h h away u w
  opening away u w left =
      unopened g j start h away u w lawful only left.recovers mid clean may

  still : (away : Image) (u w : World) → IsLeft g j start h away u w
      → LeavesOnly g j mid mid h h away u w
  still away u w left =
      unopened_still g j start h away u w lawful only left.recovers mid clean may

  -- a registry that couldn't be opened
  pub not_opened : OpenLeaves g j start mid h h
  not_opened = record {
    registry = mid;
    opened = inr (refl, refl);
    opening = opening;
    carrying = still;
  }

  module _ (opened : (t : Tables) → IsStored (stored g start) t → HasTables g mid t) where
    pub is_opening : IsOpening g j start mid
    is_opening = record { crash = may; tables = opened }

    -- one that was opened, and nothing more
    pub only_opened : OpenLeaves g j start mid h h
    only_opened = record {
      registry = mid;
      opened = inl is_opening;
      opening = opening;
      carrying = still;
    }

    -- what was carried out and settled after that
    pub opens_over : (s : Held S) (k : H)
        → ((away : Image) (ts : List Intent) (bytes : List (List ℕ)) (u w : World)
        → IsFound g j mid h away ts bytes u w → LeavesOnly g j mid s h k away u w)
        → OpenLeaves g j start s h k
    opens_over s k leaves = record {
      registry = mid;
      opened = inl is_opening;
      opening = opening;
      carrying = λ away u w left. leaves away left.recovers.intents left.recovers.bytes u w
          (found_at g j start mid h opened away u w left);
    }

module _ {S : Type 0} (g : Ghosts S) (start mid : Held S) where
  -- a store that was carried over, and then left alone
  pub carried_then : (new : Held S) → IsCarriedOver (stored g start) (stored g mid)
      → MayCarryOver g start mid → LeavesAlone g mid new → MayBeCarriedOver g start new
  carried_then new over crash alone = record {
    tables = λ clean is_open. inr (subst (λ (d : Database). IsCarriedOver (stored g start) d.trees)
        (sym (alone.tables clean is_open)) over);
    crash = survives_then (state g start) (state g mid) (state g new)
        (IsCarriedOver (stored g start)) (λ _. ⊥) (IsCarriedOver (stored g start))
        (λ _ db it. it) (λ _ db none. absurd none) crash alone.crash;
  }

  -- a failure of the store after an opening is one since before it
  pub failed_opened : (new : Held S) → (t : Tables) → MayLeave g start mid t
      → StoreFailed g mid new → StoreFailed g start new
  failed_opened new t may failed =
      failed_since (state g start) (state g mid) (state g new) _ may failed
