-- The rowids rise in the tables of an unbroken store.
use Rattle.gm_registry.proofs.Common.{◌≡◌, false, sym, subst, ap, Database, Held, IsSound, IsLaidOut, Ghosts, IsShaped, IsOrdered, registry_schema, HasRisingRowids}
use Rattle.sqlite_catalog.proofs.LayoutLemmas.{laid_out, objects_rise}
use Rattle.sqlite_trees.specs.Objects.{catalog_tree, IsListed}
use Rattle.gm_registry.specs.Registry as of

pub rising : {S : Type 0} (g : Ghosts S)
    → ((s : S) → (g.view s).is_broken ≡ false → IsOrdered (g.view s).shape (g.view s).trees)
    → ((s : S) → (g.view s).is_broken ≡ false
    → IsListed ((g.view s).trees catalog_tree) (g.view s).shape (g.view s).reals)
    → (r : Held S) → of.IsRegistry g r → (g.view r.store).is_broken ≡ false
    → HasRisingRowids (of.seen g r)
rising g ordered listed r is unbroken =
    let v = g.view r.store in
    let up = ordered r.store unbroken in
    let lists = listed r.store unbroken in
    let sound : IsSound registry_schema v.trees =
    subst (IsSound registry_schema) (sym (ap (λ (d : Database). d.trees) is.settled))
    is.sound in
    let laid : IsLaidOut registry_schema v.shape =
    laid_out lists (objects_rise v lists up) sound.lists.listed in
    record {
      mirrors = subst (λ s. IsShaped s (v.trees 1)) laid.tables.1.0 (up 1);
      components = subst (λ s. IsShaped s (v.trees 4)) laid.tables.1.1.0 (up 4);
      intents = subst (λ s. IsShaped s (v.trees 7)) laid.tables.1.1.1.0 (up 7);
      commands = subst (λ s. IsShaped s (v.trees 8)) laid.tables.1.1.1.1.0 (up 8);
      patches = subst (λ s. IsShaped s (v.trees 11)) laid.tables.1.1.1.1.1.0 (up 11);
    }
