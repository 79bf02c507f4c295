-- A call as the history of a disk has it.
use Rattle.std.specs.Prelude.{ℕ, List}
use Rattle.sqlite_disk.specs.Events.{Event, measured, read, read_under, written, cut, flushed}
use Rattle.gm_overlay.specs.declared.history.Call.{Call}
use Rattle.gm_overlay.specs.declared.history.Call.TheVariants.{Measured, Read, ReadUnder, Written, Cut, Flushed}

-- what is noted of a call, with the bytes that it read or wrote
abbrev pub event_of : Call → List ℕ → Event
event_of (Measured len ok) bytes = measured ok len
event_of (Read at asked ok) bytes = read at asked ok bytes
event_of (ReadUnder key want at asked ok) bytes = read_under key want at asked ok bytes
event_of (Written at count ok) bytes = written at bytes ok count
event_of (Cut len count ok) bytes = cut len ok count
event_of (Flushed count ok) bytes = flushed ok count
