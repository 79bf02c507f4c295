-- The faults that end the program, by what fails around it.
use Rattle.gm_bench.specs.Faults.{of_store}
use Rattle.gm_bench.specs.declared.fault.BenchFault.TheVariants as bench
use Rattle.gm_history.specs.declared.fault.HistoryFault.{HistoryFault}
use Rattle.gm_history.specs.declared.fault.HistoryFault.TheVariants as history
use Rattle.gm_process.specs.declared.failure.Failure.{Failure}
use Rattle.gm_process.specs.declared.failure.Failure.TheVariants as failure
use Rattle.gm_faults.specs.declared.fault.Fault.{Fault}
use Rattle.gm_faults.specs.declared.fault.Fault.TheVariants.{Bench, InputOrOutput}

-- want of memory and a disk that fails are told as the bench tells them
abbrev pub of_failure : Failure → Fault
of_failure failure.Memory = Bench bench.Memory
of_failure failure.Disk = Bench bench.Disk
of_failure failure.InputOrOutput = InputOrOutput

-- so is a registry that fails
abbrev pub of_history : HistoryFault → Fault
of_history (history.Store fault) = Bench (of_store fault)
of_history history.Output = InputOrOutput
