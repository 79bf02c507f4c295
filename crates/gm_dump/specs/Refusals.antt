-- The numbers of refusals.
use Rattle.std.specs.Prelude.{ℕ}
use Rattle.gm_dump.specs.declared.refusal.DumpRefusal.{DumpRefusal}
use Rattle.gm_dump.specs.declared.refusal.DumpRefusal.TheVariants.{Absent, WrongSize}

-- the numbers that these refusals have among those of commands
abbrev pub refusal_number : DumpRefusal → ℕ
refusal_number Absent = 8
refusal_number WrongSize = 28
