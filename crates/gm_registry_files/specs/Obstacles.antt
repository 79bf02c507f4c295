-- What is in the way of a registry, by what its two files are.
use Rattle.std.specs.Prelude.{◌≡◌, ◌<◌, ◌⊎◌, ◌==◌, ◌&&◌, ◌||◌, ℕ, Bool, true, List, Option, Some, None, leb, slice_index, if◌then◌else◌}
use Rattle.gm_registry_files.specs.declared.log.LogKind.{LogKind}
use Rattle.gm_registry_files.specs.declared.log.LogKind.TheVariants as log
use Rattle.gm_registry_files.specs.declared.obstacle.FileKind.{FileKind}
use Rattle.gm_registry_files.specs.declared.obstacle.FileKind.TheVariants as file
use Rattle.gm_registry_files.specs.declared.unusable.StoreCause.{StoreCause}
use Rattle.gm_registry_files.specs.declared.unusable.StoreCause.TheVariants as cause

-- the first byte of SQLite's magic number, or the zero that is there while a log is emptied
abbrev pub is_gate : ℕ → Bool
is_gate byte = byte == 0x37 || byte == 0

-- its last byte, which says how sums are taken
abbrev pub is_order : ℕ → Bool
is_order byte = byte == 0x82 || byte == 0x83

-- the magic number
abbrev pub is_log_head : List ℕ → Bool
is_log_head head =
    is_gate (slice_index head 0)
    && (slice_index head 1 == 0x7f
    && (slice_index head 2 == 0x06 && is_order (slice_index head 3)))

-- what a stop leaves while a log is written anew: a gate, and of each other byte the old or the new
pub record IsStopped (old written left : List ℕ) : Type 0 where
  pub gate : is_gate (slice_index left 0) ≡ true
  pub others : (i : ℕ) → 0 < i
      → (slice_index left i ≡ slice_index old i) ⊎ (slice_index left i ≡ slice_index written i)

-- what has the name of a log, is so long and begins so; 41 bytes are an empty log
abbrev pub log_kind : ℕ → List ℕ → LogKind
log_kind bytes head =
    if leb bytes 41 then log.Empty
    else if is_log_head head then log.Filled
    else log.Other

-- what is in the way of files of these kinds, if a registry is made if there is none, or isn't
abbrev pub obstacle_of : FileKind → LogKind → Bool → Option StoreCause
obstacle_of file.Missing log.Empty makes = if makes then None else Some cause.Missing
obstacle_of file.Missing log.Filled makes = Some (if makes then cause.LogAlone else cause.Missing)
obstacle_of file.Missing log.Other makes = Some (if makes then cause.OtherLog else cause.Missing)
obstacle_of file.Blank log.Empty makes = if makes then None else Some cause.Empty
obstacle_of file.Blank log.Filled makes = Some cause.LogAlone
obstacle_of file.Blank log.Other makes = Some cause.OtherLog
obstacle_of file.Database log.Empty makes = None
obstacle_of file.Database log.Filled makes = None
obstacle_of file.Database log.Other makes = Some cause.OtherLog
