-- How the program ends by the end of its batch.
use Rattle.std.specs.Prelude.{◌≡◌, ℕ, List, Option, Some, Result, Ok, Err, if◌then◌else◌}
use Rattle.sqlite_trees.specs.declared.store.Store.{Ghosts}
use Rattle.gm_shelf.specs.declared.shelf.Shelf.{Ghosts as ShelfGhosts}
use Rattle.gm_bench.specs.declared.bench.Bench.{Bench as TheBench}
use Rattle.gm_front.specs.Batch.{AnswersBatch}
use Rattle.gm_bench.specs.declared.fault.BenchFault.TheVariants as bench
use Rattle.gm_front.specs.declared.answer_lines.BatchEnd.{BatchEnd}
use Rattle.gm_front.specs.declared.answer_lines.BatchEnd.TheVariants.{Ended, Stopped}
use Rattle.gm_front.specs.declared.answer_lines.FrontFault.{FrontFault}
use Rattle.gm_front.specs.declared.answer_lines.FrontFault.TheVariants as front
use Rattle.gm_process.specs.declared.status.Status.{Status}
use Rattle.gm_process.specs.declared.status.Status.TheVariants as status
use Rattle.gm_faults.specs.declared.fault.Fault.{Fault}
use Rattle.gm_faults.specs.declared.fault.Fault.TheVariants.{Bench, InputOrOutput}

-- what is told of a batch whose memory, input or output failed
abbrev pub fault_of_front : FrontFault → Fault
fault_of_front front.Memory = Bench bench.Memory
fault_of_front front.Read = InputOrOutput
fault_of_front front.Write = InputOrOutput

-- done if no line was refused; a fault of the bench is that of the program
abbrev pub status_of_end : Result BatchEnd FrontFault → Result Status Fault
status_of_end (Ok (Ended refused)) = Ok (if refused then status.Refused else status.Done)
status_of_end (Ok (Stopped fault)) = Err (Bench fault)
status_of_end (Err fault) = Err (fault_of_front fault)

-- what a batch owes whose input is a text, of which this comes
pub record AnswersText {S H : Type 0} (s : Ghosts S) (h : ShelfGhosts H) (text : List ℕ)
    (before now : Option (List ℕ)) (old new : TheBench S H) (result : Result Status Fault) : Type 0
  where
    pub end : Result BatchEnd FrontFault
    pub answers : AnswersBatch s h (Some text) before now old new end
    pub status : result ≡ status_of_end end
