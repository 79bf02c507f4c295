-- What the tables of a bench say when they are loaded.
use Rattle.gm_bench.proofs.Common.{◌≡◌, ℕ, List, None, sym, subst, Ghosts, Held, Image, IsLawful, Intent, IsOf, IsAtHand, Records, IsState, Has, World, same_mirror, same_component, AreTablesOf, one_reading, whole, Leads, Cover, IsFound, IsAt, first_absent}
use Rattle.gm_shelf.specs.declared.shelf.Shelf.{Ghosts as ShelfGhosts}
use Rattle.gm_bench.proofs.Present.{at_hand}
use Rattle.gm_bench.proofs.ReadTables.{tables_of}

module _ {S H : Type 0} (g : Ghosts S) (j : ShelfGhosts H) (r : Held S) (h : H) (away : Image)
    (ts : List Intent) (bytes : List (List ℕ)) (u w : World)
    (at : IsFound g j r h away ts bytes u w) (lawful : IsLawful (j.view h)) where
  pub lead : Leads at.tables ts bytes (whole (j.size h) away (j.view h).seen) w
  lead = (at.leads (j.view h).seen lawful.holds_now).0

  pub readable : AreTablesOf at.tables w.state ts bytes
  readable = tables_of at.tables ts bytes (whole (j.size h) away (j.view h).seen) w lead

  -- what is loaded is the world's
  pub loaded : (s : Records) (is : List Intent) (laid : List (List ℕ))
      → AreTablesOf at.tables s is laid → (s ≡ w.state) × (is ≡ ts) × (laid ≡ bytes)
  loaded s is laid of =
      one_reading same_mirror same_component at.tables s w.state is ts laid bytes of readable

-- all records say what is needed of themselves
pub cover_whole : (s w : Records) (ts : List Intent) → s ≡ w → IsState w → Cover s w ts
cover_whole s w ts same state = record {
  state = subst IsState (sym same) state;
  metas = λ p h m k o is. subst (λ (x : Records). IsOf x m k) (sym same) o;
}

-- with all images at hand
abbrev pub found_at : {S H : Type 0} (g : Ghosts S) (j : ShelfGhosts H) (r : Held S) (h : H)
    (away : Image) (ts : List Intent) (bytes : List (List ℕ)) (u w : World)
    → IsFound g j r h away ts bytes u w → ((t : Intent) → Has ts t → IsAtHand (j.size h) t)
    → IsAt g j r h away ts bytes u w
found_at g j r h away ts bytes u w at hand =
    record { tables = at.tables; has = at.has; sizes = at.sizes; at_hand = hand; leads = at.leads }

module _ {S H : Type 0} (g : Ghosts S) (j : ShelfGhosts H) (r : Held S) (h : H) (away : Image)
    (ts : List Intent) (bytes : List (List ℕ)) (u w : World)
    (at : IsFound g j r h away ts bytes u w) (lawful : IsLawful (j.view h)) (s : Records)
    (same : s ≡ w.state) where
  -- if no image is lacking
  abbrev pub ready : first_absent s (j.size h) ts ≡ None → IsAt g j r h away ts bytes u w
  ready none =
      let l = lead g j r h away ts bytes u w at lawful in
      found_at g j r h away ts bytes u w at
      (at_hand w.state (j.size h) l.sound.state ts l.readable.each
      (subst (λ (x : Records). first_absent x (j.size h) ts ≡ None) same none))

  pub covered : Cover s w.state ts
  covered = cover_whole s w.state ts same (lead g j r h away ts bytes u w at lawful).sound.state
