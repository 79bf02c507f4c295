-- Looks in turn, before one command that is guarded.
use Rattle.std.proofs.Common.{◌≡◌, ◌∙◌, [], Result, Ok, Err, IfOk, OnOk, inl, refl, sym, subst, arith}
use mathlib.Core.Path.{fun_ext}
use Rattle.sqlite_trees.specs.declared.store.Store.{Ghosts as StoreGhosts}
use Rattle.gm_metadata.specs.Images.{Image, Sizes}
use Rattle.gm_shelf.specs.declared.shelf.Shelf.{Ghosts as ShelfGhosts}
use Rattle.gm_shelf.proofs.InTurn.{reads_itself}
use Rattle.gm_shelf.proofs.Keeping.{only_then}
use Rattle.gm_registry.specs.Registry.{DiskKept}
use Rattle.gm_bench.specs.Benches.{registry_of, shelf_of}
use Rattle.gm_bench.specs.Calls.{LooksOn}
use Rattle.gm_bench.specs.declared.bench.Bench.{Bench}
use Rattle.gm_front.specs.Guards.{OnlyLooks, StandInTheWay}
use Rattle.gm_front.proofs.ManyLooks.{looks_nothing}
use Rattle.gm_lines.specs.Asked.{Asked}
use Rattle.gm_process.specs.declared.status.Status.{Status}
use Rattle.gm_process.specs.declared.status.Status.TheVariants as status
use Rattle.gm_faults.specs.declared.fault.Fault.{Fault}
use Rattle.gm_handing_in.specs.Guarded.{HadNothing, IsOneGuarded, OnlySees}

-- what holds at all holds at Ok
pub whatever : {T E P : Type 0} (r : Result T E) → P → OnOk r P
whatever (Ok x) p = p
whatever (Err e) p = tt

module _ {S H : Type 0} (s : StoreGhosts S) (h : ShelfGhosts H) where
  -- no look, two looks, and a look of each kind
  pub sees_itself : (b : Bench S H) → OnlySees s h b b
  sees_itself b = record {
    does = λ honest kept. looks_nothing s h b;
    only = record {
      keeps = record { honest = λ x. x; size = refl; count = omega arith };
      reads = λ honest. reads_itself (h.view (shelf_of b));
    };
    clean = omega arith;
  }

  pub sees_then : (a b c : Bench S H) → OnlySees s h a b → OnlySees s h b c → OnlySees s h a c
  sees_then a b c first then = record {
    does = λ honest kept.
        let mid : DiskKept s (registry_of b) = omega (arith, then.clean, kept) in
        let one = first.does honest mid in
        let two = then.does (first.only.keeps.honest honest) kept in
        record {
          tables = λ t has. two.tables t (one.tables t has);
          images = λ y may. one.images y (two.images y may);
          sizes = two.sizes ∙ one.sizes;
        };
    only = only_then h (shelf_of a) (shelf_of b) (shelf_of c) first.only then.only;
    clean = omega (arith, first.clean, then.clean);
  }

  pub sees_on : {T : Type 0} (a b : Bench S H) (x : T) → LooksOn s h a b (Ok x)
      → OnlySees s h a b
  sees_on a b x looks =
      record { does = looks.does; only = looks.only; clean = looks.store.clean }

  pub sees_only : {T : Type 0} (a b : Bench S H) (x : T) → OnlyLooks s h a b (Ok x)
      → OnlySees s h a b
  sees_only a b x looks =
      record { does = looks.does; only = looks.only; clean = looks.clean }

  -- of a bench by another name
  pub seen_at : (a b c : Bench S H) → c ≡ b → OnlySees s h a b → OnlySees s h a c
  seen_at a b c is sees = subst (λ (x : Bench S H). OnlySees s h a x) (sym is) sees

  module _ (a b : Bench S H) (sees : OnlySees s h a b) (honest : h.honest (shelf_of a))
      (kept : DiskKept s (registry_of b)) where
    -- what stood in the way after a look did so before it
    pub had_before : (asks : Asked) → HadNothing s h b asks → HadNothing s h a asks
    had_before asks had key command is t r has are =
        let seen : (h.view (shelf_of b)).seen ≡ (h.view (shelf_of a)).seen =
        fun_ext (λ p. fun_ext (λ i. (sees.only.reads honest).quiet.seen p i)) in
        subst (λ (z : Sizes). StandInTheWay t r z (h.view (shelf_of a)).seen key command [])
        sees.only.keeps.size
        (subst (λ (x : Image). StandInTheWay t r (h.size (shelf_of b)) x key command []) seen
        (had key command is t r ((sees.does honest kept).tables t has) are))

  module _ (a b : Bench S H) (asks : Asked) where
    -- whatever becomes of a command that had nothing in its way
    pub had_one : (r : Result Status Fault) → HadNothing s h a asks
        → IfOk r (IsOneGuarded s h a b asks)
    had_one (Ok status.Done) had = had
    had_one (Ok status.Refused) had = inl had
    had_one (Ok status.Words) had = had
    had_one (Ok status.Fault) had = had
    had_one (Err fault) had = tt
