-- Which work makes the registry that it finds missing.
use Rattle.std.specs.Prelude.{ℕ, Bool, true, false, ◌||◌, List, [], ◌∷◌, codes}
use Rattle.std.specs.Borrow.{Bor}
use Rattle.std.specs.Str.{bytes_eq}
use Rattle.gm_command_line.specs.declared.job.Work.{Work}
use Rattle.gm_command_line.specs.declared.job.Work.TheVariants as work

-- the first word is that of a command which registers a mirror
abbrev pub registers : List (Bor (List ℕ)) → Bool
registers [] = false
registers (word ∷ _) = bytes_eq word.now (codes "label") || bytes_eq word.now (codes "adopt")

-- all but what fills, compares, replaces or mends components or writes data, what renews a
-- registry, and a command at mirrors that are registered already
abbrev pub makes_registry : Work → Bool
makes_registry (work.Sync filling) = false
makes_registry (work.Scrub comparing) = false
makes_registry (work.Replace replacing) = false
makes_registry (work.Mend mending) = false
makes_registry (work.Write writing) = false
makes_registry (work.Renew renewing) = false
makes_registry (work.Do key words checks form) = registers words.now
makes_registry (work.Command single) = registers single.words.now
makes_registry (work.AdoptAll checks) = true
makes_registry (work.Recover checks form) = true
makes_registry (work.RecoverWithout provider key checks form) = true
makes_registry (work.Status form) = true
makes_registry (work.List form) = true
makes_registry (work.Audit form) = true
makes_registry (work.Batch audits stops guards) = true
makes_registry (work.Serve service) = true
