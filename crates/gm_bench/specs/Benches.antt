-- What contracts name of a bench: its two media, and how far it is with a command.
use Rattle.std.specs.Prelude.{ℕ}
use Rattle.sqlite.specs.Held.{Held}
use Rattle.gm_bench.specs.declared.bench.Bench.{Bench}
use Rattle.gm_bench.specs.declared.media.Media.{Media}
use Rattle.gm_bench.specs.declared.phase.Progress.{Progress}

-- the registry, as what its store holds
abbrev pub registry_of : {S H : Type 0} → Bench S H → Held S
registry_of b = b.media.registry

-- the shelf with the images
abbrev pub shelf_of : {S H : Type 0} → Bench S H → H
shelf_of b = b.media.shelf

-- both
abbrev pub media_of : {S H : Type 0} → Bench S H → Media S H
media_of b = b.media

-- how far it is, with the work of the command
abbrev pub progress_of : {S H : Type 0} → Bench S H → Progress
progress_of b = b.progress

-- how many intents its opening found pending
abbrev pub redone_of : {S H : Type 0} → Bench S H → ℕ
redone_of b = b.redone
