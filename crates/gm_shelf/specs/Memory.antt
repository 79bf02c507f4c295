-- What contracts see of a shelf in memory.
use Rattle.std.specs.Prelude.{List, reverse}
use Rattle.gm_shelf.specs.declared.history.Event.{Event}
use Rattle.gm_shelf.specs.declared.mem_shelf.MemShelf.{MemShelf}

-- what was done to it, the newest first
abbrev pub history : MemShelf → List Event
history m = reverse m.log.items
