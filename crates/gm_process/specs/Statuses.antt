-- The numbers by which the program ends.
use Rattle.std.specs.Prelude.{◌≡◌, ◌⊎◌, ◌==◌, ℕ, Bool, if◌then◌else◌}
use Rattle.gm_process.specs.declared.status.Status.{Status}
use Rattle.gm_process.specs.declared.status.Status.TheVariants as status

-- 0 done, 1 refused or damaged, 2 wrong words, 3 a fault
abbrev pub status_code : Status → ℕ
status_code status.Done = 0
status_code status.Refused = 1
status_code status.Words = 2
status_code status.Fault = 3

-- it is done, or refused
abbrev pub MayRefuse : Status → Type 0
MayRefuse it = (it ≡ status.Done) ⊎ (it ≡ status.Refused)

-- done, unless it is refused
abbrev pub status_of_refused : Bool → Status
status_of_refused refused = if refused then status.Refused else status.Done

-- done if nothing was found, else refused
abbrev pub status_of_list : ℕ → Status
status_of_list found = if found == 0 then status.Done else status.Refused
