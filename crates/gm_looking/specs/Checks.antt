-- What a check prints.
use Rattle.std.specs.Prelude.{◌≡◌, ◌++◌, ◌==◌, ℕ, Bool, true, false, List, [], None, not, codes, flat_map, length, map, if◌then◌else◌}
use Rattle.std.specs.Fmt.{decimal}
use Rattle.std.specs.String.{string_bytes}
use Rattle.gm_metadata.specs.Images.{Image, Sizes}
use Rattle.gm_state.specs.Records.{Records}
use Rattle.gm_looks.specs.Scrubs.{IsScrub}
use Rattle.gm_looks.specs.Unlikes.{IsUnlike, is_meant}
use Rattle.gm_looks.specs.declared.unlike.Meant.TheVariants.{All}
use Rattle.gm_looks.specs.declared.unlike.Unlike.{Unlike}
use Rattle.gm_unlike.specs.Checkups.{is_well, renewal_of}
use Rattle.gm_unlike.specs.Claims.{AreClaims}
use Rattle.gm_unlike.specs.Flaws.{unequal_lines}
use Rattle.gm_unlike.specs.Texts.{claim_line, unlike_line}
use Rattle.gm_unlike.specs.Unequals.{AreUnequal, scrubbed}
use Rattle.gm_unlike.specs.declared.checkup.Checkup.{Checkup}
use Rattle.gm_unlike.specs.declared.checkup.Renewal.{Renewal}
use Rattle.gm_unlike.specs.declared.checkup.Renewal.TheVariants.{NotYet, Soon, Now}
use Rattle.gm_unlike.specs.declared.claims.Claim.{Claim}
use Rattle.gm_unlike.specs.declared.unequal.Unequal.{Unequal}
use Rattle.gm_json.specs.Audits.{scrub_json}
use Rattle.gm_json.specs.Checks.{check_json}
use Rattle.gm_words.specs.Lines.{line}
use Rattle.gm_words.specs.Status.{status_text}
use Rattle.gm_command_line.specs.declared.job.Checking.{Checking}
use Rattle.gm_command_line.specs.declared.job.Form.{Form}
use Rattle.gm_command_line.specs.declared.job.Form.TheVariants.{Text, Json}
use Rattle.gm_process.specs.Statuses.{status_of_list, status_of_refused}
use Rattle.gm_registry_files.specs.declared.unopened.Whole.{Whole}
use Rattle.gm_reports.specs.declared.report.Report.{Report}

-- how many writes are pending, if any are
abbrev pub pending_lines : ℕ → List ℕ
pending_lines n =
    if n == 0 then []
    else if n == 1 then codes "1 write is pending\n"
    else decimal n ++ codes " writes are pending\n"

-- how many of something there are, of how many there may be
abbrev pub used_words : List ℕ → ℕ → ℕ → List ℕ
used_words what used most =
    what ++ codes " " ++ decimal used ++ codes " of " ++ decimal most ++ codes ", "

-- how much of the registry is used
abbrev pub usage_line : Checkup → List ℕ
usage_line c =
    used_words (codes "commands") c.commands 100000
    ++ used_words (codes "mirrors") (length c.state.now.mirrors) 64
    ++ line (codes "registry " ++ decimal c.bytes ++ codes " bytes")

-- that a new registry is due, after so many commands
abbrev pub due_words : ℕ → List ℕ → List ℕ
due_words n when =
    codes "commands " ++ decimal n ++ codes " of " ++ decimal 100000 ++ codes ": "
    ++ line (codes "renew the registry " ++ when ++ codes ", by gmbench renew")

abbrev pub renewal_words : ℕ → Renewal → List ℕ
renewal_words n NotYet = []
renewal_words n Soon = due_words n (codes "soon")
renewal_words n Now = due_words n (codes "now")

abbrev pub renewal_line : ℕ → List ℕ
renewal_line n = renewal_words n (renewal_of n)

-- what it comes to
abbrev pub verdict : Bool → List ℕ
verdict well = if well then codes "all is well\n" else codes "not all is well\n"

-- how the mirrors stand, what is amiss, and how much of the registry is used
abbrev pub check_text : Checkup → List ℕ
check_text c =
    status_text c.state.now ++ flat_map unlike_line c.unlike.now
    ++ flat_map claim_line c.claims.now ++ unequal_lines c.flaws.now ++ pending_lines c.pending
    ++ renewal_line c.commands ++ usage_line c ++ verdict (is_well c)

-- the text of a check, as lines or as JSON
abbrev pub check_form : Checkup → Form → List ℕ
check_form c Text = check_text c
check_form c Json = line (check_json c)

-- refused unless all is well, with its text
pub record IsChecked (c : Checkup) (form : Form) (report : Report) : Type 0 where
  pub status : report.status ≡ status_of_refused (not (is_well c))
  pub text : string_bytes report.text ≡ check_form c form

-- the text of a comparison of data, as lines or as JSON
abbrev pub scrub_form : List Unequal → Form → List ℕ
scrub_form flaws Text = unequal_lines flaws
scrub_form flaws Json = line (scrub_json flaws)

-- refused if a component has a flaw, with its text
pub record IsScrubReport (flaws : List Unequal) (form : Form) (report : Report) : Type 0 where
  pub status : report.status ≡ status_of_list (length flaws)
  pub text : string_bytes report.text ≡ scrub_form flaws form

-- what is amiss of these images: how they stand, if that is asked for their data, beside the
-- source's and each other's, and which claim to be components
pub record AreAmiss (checking : Checking) (s : Records) (size : Sizes) (seen : Image)
    (list : List Unlike) (flaws : List Unequal) (claims : List Claim) : Type 0 where
  pub unlike : IsUnlike (is_meant All) s size seen list
  pub compared : checking.compares ≡ true → IsScrub s size seen None (map scrubbed flaws)
  pub beside : checking.compares ≡ true → AreUnequal s seen flaws
  pub unasked : checking.compares ≡ false → flaws ≡ []
  pub claims_are : AreClaims s size seen claims

-- a report of these records, and of these images
pub record IsCheckOf (checking : Checking) (whole : Whole) (length_of : ℕ) (size : Sizes)
    (seen : Image) (report : Report) : Type 0 where
  pub found : Checkup
  pub state : found.state.now ≡ whole.loaded.state
  pub amiss : AreAmiss checking whole.loaded.state size seen found.unlike.now found.flaws.now
      found.claims.now
  pub pending : found.pending ≡ length whole.loaded.intents.items
  pub commands : found.commands ≡ whole.accepted
  pub bytes : found.bytes ≡ length_of
  pub told : IsChecked found checking.form report
