-- Looks one after another, as one look.
use Rattle.gm_front.proofs.Common.{◌≡◌, ◌∙◌, ℕ, List, Result, Ok, Err, arith, refl, subst, OnOk, Ghosts, IsLawful, ReadsOnly, Command, DiskKept, registry_of, shelf_of, LooksOn, LookDoes, Bench, BenchFault, read_only, OnlyLooks, Call}
use Rattle.gm_shelf.specs.declared.shelf.Shelf.{Ghosts as ShelfGhosts}
use Rattle.gm_shelf.proofs.InTurn.{quiet_moment}
use Rattle.gm_shelf.proofs.Keeping.{only_then}
use Rattle.gm_registry.proofs.CallsLeave.{IsSettling, saved}
use Rattle.gm_bench.proofs.DecidesOnly.{nothing_then}

on_ok : {T E A B : Type 0} (r : Result T E) → OnOk r A → (A → B) → OnOk r B
on_ok (Ok x) a f = f a
on_ok (Err e) a f = tt

module _ {S H T U : Type 0} (s : Ghosts S) (h : ShelfGhosts H) (settling : IsSettling s)
    (a b c : Bench S H)
    (lawful : h.honest (shelf_of a) → IsLawful (h.view (shelf_of a))) where
  -- two looks
  pub looks_then : (x : T) (r : Result U BenchFault) → LooksOn s h a b (Ok x)
      → LooksOn s h b c r → OnlyLooks s h a c r
  looks_then x r first second = record {
    stays = on_ok r second.stays (λ e. e ∙ first.stays);
    does = λ honest clean.
        on_ok r (second.does (first.only.keeps.honest honest) clean) (λ then.
        let one = first.does honest (mid clean) in
        record {
          tables = λ t has. then.tables t (one.tables t has);
          images = λ y may. one.images y (then.images y may);
          sizes = then.sizes ∙ one.sizes;
        });
    leaves = λ honest clean away ts bytes u w at.
        let one = first.does honest (mid clean) in
        let quiet = (only.reads honest).quiet in
        read_only s h (registry_of a) (registry_of c) (shelf_of a) (shelf_of c) away
        at.tables ts bytes u w (saved s settling (registry_of a) at.tables at.has).crash clean
        (nothing_then s (registry_of a) (registry_of b) (registry_of c)
        (first.store.left at.tables at.has)
        (second.store.left at.tables (one.tables at.tables at.has)))
        (λ y l. at.leads y (quiet_moment (h.view (shelf_of a)) (h.view (shelf_of c))
        (lawful honest) quiet y l))
        (λ y l. at.leads y (quiet.crash y l));
    read = λ honest clean.
        on_ok r (second.does (first.only.keeps.honest honest) clean) (λ then t has.
        let one = (first.does honest (mid clean)).tables t has in
        let two = then.tables t one in
        let before = first.store.left t has in
        let behind = second.store.left t one in
        record {
          rows = second.store.same clean t one two.is_open
              ∙ first.store.same (mid clean) t has one.is_open;
          counts = omega (arith, before.counts, behind.counts);
          limit = behind.limit ∙ before.limit;
        });
    only = only;
    clean = omega (arith, first.store.clean, second.store.clean);
    disk = λ is. omega (arith, first.only.keeps.count, second.disk is);
  } where
    mid : DiskKept s (registry_of c) → DiskKept s (registry_of b)
    mid clean = omega (arith, second.store.clean, clean)

    only : ReadsOnly h (shelf_of a) (shelf_of c)
    only = only_then h (shelf_of a) (shelf_of b) (shelf_of c) first.only second.only

-- a bench that isn't asked is as it was
pub looks_nothing : {S H : Type 0} (s : Ghosts S) (h : ShelfGhosts H) (b : Bench S H)
    → LookDoes s h (registry_of b) (registry_of b) (shelf_of b) (shelf_of b)
looks_nothing s h b = record { tables = λ t has. has; images = λ x may. may; sizes = refl }

-- what holds of a call's key and command holds of the same call's
pub same_call : (P : List ℕ → Command → Type 0) (k l : List ℕ) (c d : Command)
    → Call k c ≡ Call l d → P k c → P l d
same_call P k l c d is holds =
    let key : k ≡ l = cc in
    let command : c ≡ d = cc in
    subst (λ (x : Command). P l x) command (subst (λ (x : List ℕ). P x c) key holds)
