-- The failures around the program, by those of a shelf.
use Rattle.gm_shelf.specs.declared.fault.ShelfFault.{ShelfFault}
use Rattle.gm_shelf.specs.declared.fault.ShelfFault.TheVariants as shelf
use Rattle.gm_process.specs.declared.failure.Failure.{Failure}
use Rattle.gm_process.specs.declared.failure.Failure.TheVariants.{Memory, Disk}

-- memory was refused, or the disk failed
abbrev pub of_shelf : ShelfFault → Failure
of_shelf shelf.Memory = Memory
of_shelf shelf.Absent = Disk
of_shelf shelf.Range = Disk
of_shelf shelf.Device = Disk
