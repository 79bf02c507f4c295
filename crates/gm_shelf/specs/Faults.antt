-- Why a call of a shelf fails.
use Rattle.std.specs.Prelude.{ℕ, List, codes, ◌+◌, ◌==◌, if◌then◌else◌}
use Rattle.gm_shelf.specs.declared.fault.ShelfFault.{ShelfFault}
use Rattle.gm_shelf.specs.declared.fault.ShelfFault.TheVariants.{Absent, Range, Device, Memory}

-- the number of a fault
abbrev pub fault_number : ShelfFault → ℕ
fault_number Absent = 1
fault_number Range = 2
fault_number Device = 3
fault_number Memory = 4

-- what is printed of a fault
abbrev pub fault_text : ShelfFault → List ℕ
fault_text Absent = codes "the provider is absent"
fault_text Range = codes "the provider has no such sector"
fault_text Device = codes "the device failed"
fault_text Memory = codes "out of memory"

-- the last count that can be kept
abbrev pub last_count : ℕ
last_count = 18446744073709551615

-- how a failure of the device is answered, if so many came before
abbrev pub fault_after : ℕ → ShelfFault
fault_after n = if n == last_count then Memory else Device

-- the count after it
abbrev pub count_after : ℕ → ℕ
count_after n = if n == last_count then n else n + 1
