use Rattle.gm_shelf.proofs.Common.{◌≡◌}
use Rattle.gm_shelf.specs.FileShelves.{IsSameFolder, failures_of}
use Rattle.gm_shelf.proofs.file_shelf.FileShelf.settle.Given as goal

abbrev pub invariant-loop-name : goal.invariant-loop-name
invariant-loop-name g l = record {
  same : IsSameFolder l.initial.self l.self;
  count : failures_of l.self ≡ failures_of l.initial.self;
}
