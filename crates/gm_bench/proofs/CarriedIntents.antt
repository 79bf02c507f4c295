-- The redo of a bench's intents, by what `apply` promises.
use Rattle.gm_bench.proofs.Common.{◌≡◌, ◌∙◌, ℕ, List, sym, subst, Ghosts, Held, Image, Sizes, IsLawful, Intent, IsAtHand, Records, Has, World, CrashLeavesOnly, AllLead, Cover, IsAt, IsShelfOf, LeavesOnly}
use Rattle.gm_shelf.specs.declared.shelf.Shelf.{Ghosts as ShelfGhosts}
use Rattle.gm_bench.proofs.RedoLeadsOn.{Moments, End, any_moment, counts, ends}
use Rattle.gm_bench.proofs.RegistryLeaves.{redo_leaves}

module _ {S H : Type 0} (g : Ghosts S) (j : ShelfGhosts H) (r : Held S) (h k : H)
    (away : Image) (ts : List Intent) (bytes : List (List ℕ)) (u w : World)
    (at : IsAt g j r h away ts bytes u w)
    (lawful : IsLawful (j.view h)) (part : Records) (cover : Cover part w.state ts)
    (m : Moments part bytes (j.size h) ts (j.view h) (j.view k)) where
  pub moments : AllLead at.tables ts bytes (j.size h) away ((j.view k).left_since (j.view h).moment)
      u w
  moments = any_moment at.tables ts bytes u w (j.view h) (j.view k) lawful
      (j.size h) away at.leads at.sizes at.at_hand part cover m

  module _ (after : IsLawful (j.view k)) where
    counted : (x : Image) → (j.view k).may_leave x → (j.view k).left_since (j.view h).moment x
    counted = counts at.tables ts bytes u w (j.view h) (j.view k) lawful
        (j.size h) away at.leads at.sizes at.at_hand part cover after m

    pub leaves : CrashLeavesOnly g r at.tables → LeavesOnly g j r r h k away u w
    leaves only = redo_leaves g j r h k away ts bytes u w at only lawful moments counted

    pub carried : (same : j.size k ≡ j.size h) → IsAt g j r k away ts bytes u w
    carried same = record {
      tables = at.tables;
      has = at.has;
      sizes = at.sizes ∙ sym same;
      at_hand = subst (λ (z : Sizes). (t : Intent) → Has ts t → IsAtHand z t) (sym same) at.at_hand;
      leads = subst (λ (z : Sizes). AllLead at.tables ts bytes z away (j.view k).may_leave u w)
          (sym same)
          (λ x l. moments x (counted x l));
    }

    pub ended : (same : j.size k ≡ j.size h) → End part bytes (j.size h) ts (j.view h) (j.view k)
        → IsShelfOf (j.view k) w (j.size k)
    ended same e = subst (λ (z : Sizes). IsShelfOf (j.view k) w z) (sym same)
        (ends at.tables ts bytes u w (j.view h) (j.view k) lawful (j.size h) away at.leads at.sizes
        at.at_hand
        part cover e)
