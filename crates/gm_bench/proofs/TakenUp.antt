-- From what was found to what was carried out, after a load.
use Rattle.gm_bench.proofs.Common.{◌≡◌, ◌∙◌, ℕ, List, Option, sym, ap, subst, subst₂, Ghosts, Held, Image, Sizes, Intent, Records, World, CrashLeavesOnly, HasTables, AllLead, Recovers, IsFound, LeavesOnly, first_absent}
use Rattle.gm_shelf.specs.declared.shelf.Shelf.{Ghosts as ShelfGhosts}
use Rattle.gm_bench.proofs.RegistryLeaves.{leads_in}

module _ {S H : Type 0} (g : Ghosts S) (j : ShelfGhosts H) (r mid : Held S)
    (h k : H) (away : Image) (ts : List Intent) (bytes : List (List ℕ)) (u w : World)
    (at : IsFound g j r h away ts bytes u w) (same : k ≡ h) (is : List Intent)
    (are : is ≡ ts) (laid : List (List ℕ)) (laid_are : laid ≡ bytes) where
  -- the registry was read, and the shelf is the same
  abbrev pub moved : HasTables g mid at.tables → IsFound g j mid k away is laid u w
  moved has = record {
    tables = at.tables;
    has = has;
    sizes = at.sizes ∙ sym (ap j.size same);
    leads = subst (λ (x : H). AllLead at.tables is laid (j.size x) away (j.view x).may_leave u w)
        (sym same) (subst₂ (λ (l : List Intent) (b : List (List ℕ)).
        AllLead at.tables l b (j.size h) away (j.view h).may_leave u w) (sym are) (sym laid_are)
        at.leads);
  }

  pub moments_back : (l : H)
      → AllLead at.tables is laid (j.size k) away ((j.view l).left_since (j.view k).moment) u w
      → AllLead at.tables ts bytes (j.size h) away ((j.view l).left_since (j.view h).moment) u w
  moments_back l m =
      subst₂ (λ (is : List Intent) (b : List (List ℕ)). AllLead at.tables is b (j.size h) away
      ((j.view l).left_since (j.view h).moment) u w) are laid_are
      (subst (λ (x : H). AllLead at.tables is laid (j.size x) away
      ((j.view l).left_since (j.view x).moment) u w) same m)

  pub leaves_back : (s : Held S) (l : H) → CrashLeavesOnly g r at.tables
      → AllLead at.tables is laid (j.size k) away ((j.view l).left_since (j.view k).moment) u w
      → LeavesOnly g j mid s k l away u w → LeavesOnly g j r s h l away u w
  leaves_back s l only m leaves = record {
    within = leads_in g j r h away at.tables ts bytes u w only
        ((j.view l).left_since (j.view h).moment) (moments_back l m);
    end = λ db left. subst (λ (x : H). Recovers db (j.size x) away (j.view l).may_leave u w) same
        (leaves.end db left);
  }

-- a provider that is lacking, of the same records, sizes and intents
pub absent_back : (s v : Records) (size full : Sizes) (is ts : List Intent) (o : Option (List ℕ))
    → s ≡ v → size ≡ full → is ≡ ts → first_absent s size is ≡ o → first_absent v full ts ≡ o
absent_back s v size full is ts o same sizes are e =
    subst (λ (l : List Intent). first_absent v full l ≡ o) are
    (subst (λ (z : Sizes). first_absent v z is ≡ o) sizes
    (subst (λ (x : Records). first_absent x size is ≡ o) same e))
