-- The order of the faults of a sector.
use Rattle.std.specs.Prelude.{ℕ}
use Rattle.gm_metadata.specs.declared.fault.DecodeFault.{DecodeFault}
use Rattle.gm_metadata.specs.declared.fault.DecodeFault.TheVariants.{Magic, Version, Hash, Name, Provider, Balance, Flags, SectorSize}

-- the number of a fault: a sector's fault is the least that stands in it
abbrev pub fault_number : DecodeFault → ℕ
fault_number Magic = 1
fault_number Version = 2
fault_number Hash = 3
fault_number Name = 4
fault_number Provider = 5
fault_number Balance = 6
fault_number Flags = 7
fault_number SectorSize = 8
