-- Why a call on the file of an image wasn't done.
use Rattle.std.specs.Prelude.{◌≡◌}
use Rattle.std.specs.IoError.{error_kind}
use Rattle.std.specs.declared.io.ErrorKind.TheVariants.{OutOfMemory}
use Rattle.gm_shelf.specs.declared.failure.FileFault.{FileFault}
use Rattle.gm_shelf.specs.declared.failure.FileFault.TheVariants.{Replaced, System}

-- nothing failed but that memory was refused
abbrev pub WantsMemory : FileFault → Type 0
WantsMemory Replaced = ⊥
WantsMemory (System e) = error_kind e ≡ OutOfMemory
