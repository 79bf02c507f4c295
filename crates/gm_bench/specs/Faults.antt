-- The faults of a bench, by those of what it stands on.
use Rattle.std.specs.Prelude.{ℕ}
use Rattle.gm_rows.specs.declared.fault.StoreFault.{StoreFault}
use Rattle.gm_rows.specs.declared.fault.StoreFault.TheVariants as store
use Rattle.gm_shelf.specs.declared.fault.ShelfFault.{ShelfFault}
use Rattle.gm_shelf.specs.declared.fault.ShelfFault.TheVariants as shelf
use Rattle.gm_bench.specs.declared.fault.BenchFault.{BenchFault}
use Rattle.gm_bench.specs.declared.fault.BenchFault.TheVariants.{Memory, Store, Disk, Closed, Absent, Unreadable}

-- the number of a fault
abbrev pub fault_number : BenchFault → ℕ
fault_number Memory = 1
fault_number Store = 2
fault_number Disk = 3
fault_number Closed = 4
fault_number (Absent p) = 5
fault_number Unreadable = 6

-- memory, the store or the disk failed
abbrev pub IsOfMedia : BenchFault → Type 0
IsOfMedia Memory = Unit {0}
IsOfMedia Store = Unit {0}
IsOfMedia Disk = Unit {0}
IsOfMedia Closed = ⊥
IsOfMedia (Absent p) = ⊥
IsOfMedia Unreadable = ⊥

-- the store failed, or what a registry holds can't be read
abbrev pub IsOfRegistry : BenchFault → Type 0
IsOfRegistry Memory = Unit {0}
IsOfRegistry Store = Unit {0}
IsOfRegistry Disk = ⊥
IsOfRegistry Closed = ⊥
IsOfRegistry (Absent p) = ⊥
IsOfRegistry Unreadable = Unit {0}

-- no image is missing, and the bench isn't closed
abbrev pub IsOfCall : BenchFault → Type 0
IsOfCall Memory = Unit {0}
IsOfCall Store = Unit {0}
IsOfCall Disk = Unit {0}
IsOfCall Closed = ⊥
IsOfCall (Absent p) = ⊥
IsOfCall Unreadable = Unit {0}

-- memory, the store or the disk failed, or an image isn't there
abbrev pub IsOfOpening : BenchFault → Type 0
IsOfOpening (Absent p) = Unit {0}
IsOfOpening fault = IsOfMedia fault

-- an opening answers it before it writes to the shelf
abbrev pub IsBeforeWrites : BenchFault → Type 0
IsBeforeWrites Memory = ⊥
IsBeforeWrites Store = ⊥
IsBeforeWrites Disk = ⊥
IsBeforeWrites Closed = Unit {0}
IsBeforeWrites (Absent p) = Unit {0}
IsBeforeWrites Unreadable = Unit {0}

-- a fault of the registry
abbrev pub of_store : StoreFault → BenchFault
of_store store.Memory = Memory
of_store store.Store = Store
of_store store.Unreadable = Unreadable

-- a fault of the shelf
abbrev pub of_shelf : ShelfFault → BenchFault
of_shelf shelf.Memory = Memory
of_shelf shelf.Absent = Disk
of_shelf shelf.Range = Disk
of_shelf shelf.Device = Disk
