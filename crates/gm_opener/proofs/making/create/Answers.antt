use Rattle.std.proofs.Common.{◌∙◌, ap}
use Rattle.sqlite_store.specs.Listed.{catalog_rows}
use Rattle.sqlite_store.specs.Listing.{listed_from}
use Rattle.sqlite_trees.proofs.Doubt.{no_doubt}
use Rattle.gm_opener.proofs.making.create.Goals as goal

pub returns-in-Ok-clause-made : goal.returns-in-Ok-clause-made
returns-in-Ok-clause-made g c clean =
    let it = c.in-Ok.ensures in
    let sure = no_doubt _ clean in
    record {
      fresh = record {
        sound = it.ready.sound sure;
        numbered = it.numbered;
        clean = it.ready.clean;
        unmarked = it.ready.unmarked;
      };
      is_open = it.ready.is_open sure;
      shielded = it.guarded clean;
      empty = (
        λ tree low. ap (λ d. d tree) it.ready.clean ∙ it.empty clean tree low,
        rw clean (catalog_rows _ _ _ ∙ ap (listed_from 0) (it.schema ∙ c.requires.none)),
      );
    }
