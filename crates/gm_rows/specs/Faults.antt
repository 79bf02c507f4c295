-- How the faults of the store are numbered, and from which errors of `sqlite` they come.
use Rattle.std.specs.Prelude.{◌≡◌, ℕ, Result, IfErr}
use Rattle.sqlite.specs.declared.error.Error.{Error}
use Rattle.sqlite.specs.declared.error.Error.TheVariants.{SqliteFailure}
use Rattle.sqlite.specs.declared.error.ErrorCode.TheVariants as code
use Rattle.gm_rows.specs.declared.fault.StoreFault.{StoreFault}
use Rattle.gm_rows.specs.declared.fault.StoreFault.TheVariants.{Memory, Store, Unreadable}

abbrev pub fault_number : StoreFault → ℕ
fault_number Memory = 1
fault_number Store = 2
fault_number Unreadable = 3

-- want of memory, or any other refusal
abbrev pub fault_of : Error → StoreFault
fault_of (SqliteFailure code.OutOfMemory) = Memory
fault_of _ = Store

-- a value of a row that can't be read: want of memory, or no such value as the tables are to hold
abbrev pub value_fault_of : Error → StoreFault
value_fault_of (SqliteFailure code.OutOfMemory) = Memory
value_fault_of _ = Unreadable

-- if the registry is found unreadable
abbrev pub OnUnreadable : {T : Type 0} → Result T StoreFault → Type 0 → Type 0
OnUnreadable result P = IfErr result (λ e. e ≡ Unreadable → P)

-- if the store is said to have failed
abbrev pub OnStore : {T : Type 0} → Result T StoreFault → Type 0 → Type 0
OnStore result P = IfErr result (λ e. e ≡ Store → P)

-- the same of the error of `sqlite` that is told
abbrev pub OnOther : {T : Type 0} → Result T Error → Type 0 → Type 0
OnOther result P = IfErr result (λ e. fault_of e ≡ Store → P)
