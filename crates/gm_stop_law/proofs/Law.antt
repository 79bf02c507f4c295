-- The law over runs says of every stop what makes no image strange.
use Rattle.gm_stop_law.proofs.Common.{List, Ghosts, Held, Image, Sizes}
use Rattle.gm_shelf.specs.declared.shelf.Shelf.{Ghosts as ShelfGhosts}
use Rattle.gm_bench.specs.Schedule.{Entry, Headline, Phase, Ready, Pending, Applied, Down}
use Rattle.gm_stop_law.specs.NeverStrange.{NeverStrange}
use Rattle.gm_stop_law.proofs.NoneStrange.{none_strange}

pub never : {S H : Type 0} (g : Ghosts S) (j : ShelfGhosts H) (all : Sizes)
    (phase : Phase (Held S) H) (away : Image) (accepted acknowledged : List Entry)
    → Headline g j all phase away accepted acknowledged → NeverStrange j phase away
never g j all (Ready r h) away accepted acknowledged it = tt
never g j all (Pending r h work) away accepted acknowledged it = tt
never g j all (Applied r h work) away accepted acknowledged it = tt
never g j all (Down db h) away accepted acknowledged it = record {
  before = it.before;
  world = it.world;
  recovers = it.recovers;
  none = λ x left.
      let r = it.recovers in
      let lead = r.leads x left in
      none_strange r.tables r.intents r.bytes it.before it.world (j.size h) away x it.sizes lead.0
      lead.1;
}
