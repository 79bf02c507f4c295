-- What is printed, and how the program ends then.
use Rattle.std.specs.Prelude.{◌≡◌, ◌∷◌, ◌==◌, ℕ, true, false, List, [], flat_map, length, if◌then◌else◌}
use Rattle.std.specs.List.{list_any}
use Rattle.std.specs.String.{string_bytes}
use Rattle.gm_words.specs.Lines.{line}
use Rattle.gm_taste.specs.declared.tasted.Tasted.{Tasted}
use Rattle.gm_taste.specs.Verdicts.{of_metadata}
use Rattle.gm_command_line.specs.declared.job.Form.{Form}
use Rattle.gm_command_line.specs.declared.job.Form.TheVariants.{Text, Json}
use Rattle.gm_process.specs.declared.status.Status.{Status}
use Rattle.gm_process.specs.declared.status.Status.TheVariants.{Done, Refused}
use Rattle.gm_process.specs.Statuses.{status_of_list}
use Rattle.gm_reports.specs.declared.report.Report.{Report}

-- done, with this text to be printed
abbrev pub IsDone : List ℕ → Report → Type 0
IsDone text report = (report.status ≡ Done) × (string_bytes report.text ≡ text)

-- refused, with this text to be printed
abbrev pub IsRefused : List ℕ → Report → Type 0
IsRefused text report = (report.status ≡ Refused) × (string_bytes report.text ≡ text)

-- a name a line
abbrev pub names_text : List (List ℕ) → List ℕ
names_text names = flat_map line names

-- a text, or a line of JSON
abbrev pub in_form : Form → List ℕ → List ℕ → List ℕ
in_form Text text json = text
in_form Json text json = line json

-- an audit that lists these: damage was found if there is any
abbrev pub IsAudited : List (List ℕ) → List ℕ → Report → Type 0
IsAudited names text report =
    (report.status ≡ status_of_list (length names))
    × (string_bytes report.text ≡ text)

-- what was tasted: damage was found if an image is left out for metadata that it carries
abbrev pub IsTasting : Tasted → List ℕ → Report → Type 0
IsTasting t text report =
    (report.status ≡ (if list_any (λ x. of_metadata x.reason) t.left.items then Refused else Done))
    × (string_bytes report.text ≡ text)
