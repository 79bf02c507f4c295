-- What a registry leaves, from what its calls promise.
use Rattle.gm_bench.proofs.Common.{◌≡◌, inl, inr, ℕ, List, [], sym, subst, Ghosts, Trees, Held, Image, Sizes, View, IsLawful, Intent, Tables, World, settled, CrashLeaves, CrashLeavesOnly, DiskKept, HasTables, LeavesNothingNew, MayLeave, AreAmong, whole, Leads, AllLead, Recovers, IsAt, IsShelfOf, LeavesOnly}
use Rattle.gm_shelf.specs.declared.shelf.Shelf.{Ghosts as ShelfGhosts}
use Rattle.gm_bench.proofs.ShelfProviders.{masked}
use Rattle.gm_bench.proofs.CarriedOut.{carried_out, settled_leads}
use Rattle.gm_bench.proofs.WorldAtRest.{rest_claims, settled_claims, whole_rest}

module _ {S H : Type 0} (g : Ghosts S) (j : ShelfGhosts H) where
  -- a store that a crash leaves of a registry with these tables
  pub leads_in : (r : Held S) (h : H) (away : Image) (t : Tables) (ts : List Intent)
      (bytes : List (List ℕ)) (u w : World)
      → CrashLeavesOnly g r t → (X : Image → Type 0) → AllLead t ts bytes (j.size h) away X u w
      → (db : Trees) → CrashLeaves g r db → Recovers db (j.size h) away X u w
  leads_in r h away t ts bytes u w only X leads db left =
      record { tables = t; intents = ts; bytes = bytes; stored = inl (only db left); leads = leads }

  module _ (r : Held S) (h k : H) (away : Image) (ts : List Intent) (bytes : List (List ℕ))
      (u w : World)
      (at : IsAt g j r h away ts bytes u w) (only : CrashLeavesOnly g r at.tables)
      (lawful : IsLawful (j.view h)) where
    abbrev before : View
    before = j.view h

    mask : AreAmong (j.size h) w.size
    mask = masked w (j.size h) at.sizes

    -- a redo, whose registry isn't touched
    pub redo_leaves : AllLead at.tables ts bytes (j.size h) away
        ((j.view k).left_since before.moment) u w
        → ((x : Image) → (j.view k).may_leave x → (j.view k).left_since before.moment x)
        → LeavesOnly g j r r h k away u w
    redo_leaves leads counts = record {
      within = leads_in r h away at.tables ts bytes u w only ((j.view k).left_since before.moment)
          leads;
      end = leads_in r h away at.tables ts bytes u w only (j.view k).may_leave
          (λ x l. leads x (counts x l));
    }

    first : Leads at.tables ts bytes (whole (j.size h) away before.seen) w
    first = (at.leads before.seen lawful.holds_now).0

    -- tables that are settled, with the shelf of the world
    leads_settled : IsShelfOf before w (j.size h) → (x : Image) → before.may_leave x
        → Leads (settled at.tables) [] [] (whole (j.size h) away x) w
    leads_settled shelf =
        settled_leads g j r h away ts bytes u w
        (carried_out g j r h away ts bytes u w at shelf) lawful

    -- the settling, which leaves the shelf
    pub settle_leaves : (s : Held S) → DiskKept g s → MayLeave g r s (settled at.tables)
        → IsShelfOf before w (j.size h) → LeavesOnly g j r s h h away u w
    settle_leaves s clean may shelf = record {
      within = leads_in r h away at.tables ts bytes u w only (before.left_since before.moment)
          (λ x l. at.leads x (lawful.only_now x l));
      end = λ db left. elim (may.crash clean db left) [
        | inl was ↦ leads_in r h away at.tables ts bytes u w only before.may_leave at.leads db was
        | inr is ↦ record {
          tables = settled at.tables;
          intents = [];
          bytes = [];
          stored = inl is;
          leads = λ x l. (
            leads_settled shelf x l,
            settled_claims ts (whole (j.size h) away x) u w (at.leads x l).1,
          );
        }
      ];
    }

    pub settle_rests : (s : Held S) → HasTables g s (settled at.tables)
        → IsShelfOf before w (j.size h) → IsAt g j s h away [] [] w w
    settle_rests s has shelf = record {
      tables = settled at.tables;
      has = has;
      sizes = at.sizes;
      at_hand = λ t none. absurd none;
      leads = λ x left. (
        leads_settled shelf x left,
        rest_claims (whole (j.size h) away x) w first.sound
            (whole_rest at.tables ts bytes (j.size h) away before.seen x w mask at.at_hand first
            (shelf x left)),
      );
    }

  -- a registry that was only read, and then whatever left images of these
  pub read_only : (r s : Held S) (h k : H) (away : Image) (t : Tables) (ts : List Intent)
      (bytes : List (List ℕ))
      (u w : World) → CrashLeavesOnly g r t → DiskKept g s → LeavesNothingNew g r s
      → AllLead t ts bytes (j.size h) away ((j.view k).left_since (j.view h).moment) u w
      → AllLead t ts bytes (j.size h) away (j.view k).may_leave u w
      → LeavesOnly g j r s h k away u w
  read_only r s h k away t ts bytes u w only clean nothing since now = record {
    within = leads_in r h away t ts bytes u w only ((j.view k).left_since (j.view h).moment) since;
    end = λ db left. elim (nothing.crash clean db left) [
      | inl was ↦ leads_in r h away t ts bytes u w only (j.view k).may_leave now db was
      | inr none ↦ absurd none
    ];
  }

  -- nothing was done
  pub still_only : (r : Held S) (h : H) (away : Image) (t : Tables) (ts : List Intent)
      (bytes : List (List ℕ)) (u w : World)
      → CrashLeavesOnly g r t → IsLawful (j.view h)
      → AllLead t ts bytes (j.size h) away (j.view h).may_leave u w
      → LeavesOnly g j r r h h away u w
  still_only r h away t ts bytes u w only lawful leads = record {
    within = leads_in r h away t ts bytes u w only ((j.view h).left_since (j.view h).moment)
        (λ x l. leads x (lawful.only_now x l));
    end = leads_in r h away t ts bytes u w only (j.view h).may_leave leads;
  }

  -- a call of one medium after a call of the other
  pub then_only : (r mid s : Held S) (h k l : H) (away : Image) (u w : World) → l ≡ k
      → j.size k ≡ j.size h → LeavesOnly g j r mid h k away u w
      → LeavesOnly g j mid s k l away u w → LeavesOnly g j r s h l away u w
  then_only r mid s h k l away u w same sizes first second = record {
    within = subst (λ (x : H). (db : Trees) → CrashLeaves g r db
        → Recovers db (j.size h) away ((j.view x).left_since (j.view h).moment) u w)
        (sym same) first.within;
    end = λ db left. subst (λ (z : Sizes). Recovers db z away (j.view l).may_leave u w) sizes
        (second.end db left);
  }
