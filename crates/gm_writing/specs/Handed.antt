-- What it comes to if commands of a `write` are handed in.
use Rattle.std.specs.Prelude.{◌≡◌, ◌≤◌, ◌-◌, ℕ, List, Option, Some, Result, Ok}
use Rattle.sqlite_trees.specs.declared.store.Store.{Ghosts}
use Rattle.gm_metadata.specs.Images.{Image, Sizes}
use Rattle.gm_shelf.specs.declared.shelf.Shelf.{Ghosts as ShelfGhosts}
use Rattle.gm_bench.specs.Benches.{registry_of, shelf_of}
use Rattle.gm_bench.specs.Schedule.{Entry}
use Rattle.gm_bench.specs.declared.bench.Bench.{Bench}
use Rattle.gm_front.specs.BatchRuns.{BatchLeaves}
use Rattle.gm_front.specs.declared.answer_lines.BatchEnd.{BatchEnd}
use Rattle.gm_front.specs.declared.answer_lines.FrontFault.{FrontFault}
use Rattle.gm_process.specs.declared.status.Status.{Status}
use Rattle.gm_process.specs.declared.status.Status.TheVariants.{Done}
use Rattle.gm_faults.specs.declared.fault.Fault.{Fault}
use Rattle.gm_handing_in.specs.Ends.{AnswersText, status_of_end}
use Rattle.gm_writing.specs.Patches.{lines_of}
use Rattle.gm_writing.specs.declared.patches.Patches.{Patches}

-- Of the commands from one on up to another the first so many were answered in turn, as those of
-- one batch; all of them, if none was refused.
pub record HandsIn {S H : Type 0} (s : Ghosts S) (h : ShelfGhosts H) (p : Patches)
    (begin end : ℕ) (before now : Option (List ℕ)) (old new : Bench S H)
    (result : Result Status Fault) : Type 0 where
  pub count : ℕ
  pub within : count ≤ end - begin
  pub answers : AnswersText s h (lines_of p begin count) before now old new result
  pub all : result ≡ Ok Done → count ≡ end - begin

-- What is left of a bench that was at rest after these entries, if a text was handed in, of which
-- this came: what a batch leaves that has the text for its input.
pub record TextLeaves {S H : Type 0} (s : Ghosts S) (h : ShelfGhosts H) (all : Sizes)
    (text : List ℕ) (new : Bench S H) (away : Image) (acc ack : List Entry)
    (result : Result Status Fault) : Type 0 where
  pub end : Result BatchEnd FrontFault
  pub leaves : BatchLeaves s h all (Some text) (registry_of new) (shelf_of new) away acc ack end
  pub status : result ≡ status_of_end end
