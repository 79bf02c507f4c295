-- What a request over HTTP demands of a bench, and how it is responded to.
use Rattle.std.specs.Prelude.{◌≡◌, ℕ, List, Option, Some, None, Result, Ok, Err, codes}
use Rattle.gm_metadata.specs.Reading.{decode_of}
use Rattle.gm_metadata.specs.declared.metadata.Metadata.{Metadata}
use Rattle.gm_metadata.specs.declared.fault.DecodeFault.{DecodeFault}
use Rattle.gm_commands.specs.declared.command.Command.{Command}
use Rattle.gm_state.specs.World.{World, present}
use Rattle.gm_refusals.specs.Refusals.{number_of_call}
use Rattle.gm_rules.specs.AbstractCalls as run
use Rattle.gm_bench.specs.declared.fault.BenchFault.{BenchFault}
use Rattle.gm_bench.specs.declared.fault.BenchFault.TheVariants as bench
use Rattle.gm_bench.specs.Faults.{fault_number}
use Rattle.gm_shelf.specs.LastSector.{last_sector}
use Rattle.gm_http.specs.declared.status.Status.{Status}
use Rattle.gm_http.specs.declared.status.Status.TheVariants as status
use Rattle.gm_http.specs.Requests.{Asked}
use Rattle.gm_http.specs.Requests as asked
use Rattle.gm_json.specs.Answers.{done_json, error_json, fault_json, refused_json, repeated_json}
use Rattle.gm_json.specs.Mirrors.{mirror_json, status_json}
use Rattle.gm_json.specs.Sectors.{decode_json, metadata_json}
use Rattle.gm_words.specs.Spelling.{spelled}

-- nothing of the bench, since the request is turned down; all mirrors; one; a last sector; words
-- that are no command; or a command under a key
pub data Demand : Type 0 where
  TurnedDown : Status → List ℕ → Demand
  AllMirrors : Demand
  OneMirror : List ℕ → Demand
  LastSector : List ℕ → Demand
  NoCommand : Demand
  Carry : List ℕ → Command → Demand

-- words under a key, by the command that they spell
abbrev pub carried : List ℕ → Option Command → Demand
carried key None = NoCommand
carried key (Some command) = Carry key command

abbrev pub demand_of : Asked → Demand
demand_of asked.BadRequest = TurnedDown status.BadRequest (codes "bad request")
demand_of asked.NotFound = TurnedDown status.NotFound (codes "not found")
demand_of (asked.NotAllowed method) =
    TurnedDown (status.NotAllowed method) (codes "method not allowed")
demand_of asked.TooLarge = TurnedDown status.TooLarge (codes "too large")
demand_of asked.Status = AllMirrors
demand_of (asked.Mirror name) = OneMirror name
demand_of (asked.Metadata provider) = LastSector provider
demand_of (asked.Command key words forced) = carried key (spelled words)

-- what is told: a status, and a body
pub record Told : Type 0 where
  pub status : Status
  pub body : List ℕ

abbrev pub told_as : Status → List ℕ → Told
told_as status body = record { status = status; body = body }

abbrev pub not_found : Told
not_found = told_as status.NotFound (error_json (codes "not found"))

-- a mirror, if one has the name
abbrev pub mirror_told : Option (List ℕ) → Told
mirror_told None = not_found
mirror_told (Some body) = told_as status.Ok body

-- what a last sector says, or why it says nothing
abbrev pub decoded_told : Result Metadata DecodeFault → Told
decoded_told (Ok metadata) = told_as status.Ok (metadata_json metadata)
decoded_told (Err fault) = told_as status.NotFound (decode_json fault)

-- the last sector of a provider, if it has one
abbrev pub sector_told : Option (List ℕ) → Told
sector_told None = not_found
sector_told (Some sector) = decoded_told (decode_of sector)

abbrev pub refusal_told : ℕ → Told
refusal_told number = told_as status.Conflict (refused_json number)

abbrev pub answer_told : run.Answer → Told
answer_told (run.Done number reply) = told_as status.Ok (done_json number reply)
answer_told (run.Repeated number reply) = told_as status.Ok (repeated_json number)
answer_told (run.Refused why) = refusal_told (number_of_call why)

-- want of memory may pass, and a bench that is closed may be opened again
abbrev pub fault_status : BenchFault → Status
fault_status bench.Memory = status.Unavailable
fault_status bench.Closed = status.Unavailable
fault_status bench.Store = status.Internal
fault_status bench.Disk = status.Internal
fault_status (bench.Absent p) = status.Internal
fault_status bench.Unreadable = status.Internal

abbrev pub fault_told : BenchFault → Told
fault_told fault = told_as (fault_status fault) (fault_json (fault_number fault))

-- What is told in the world u, and the world that this leaves: a command alone changes it.
abbrev pub Responds : World → Demand → World → Told → Type 0
Responds u (TurnedDown status message) w told =
    (w ≡ u) × (told ≡ told_as status (error_json message))
Responds u AllMirrors w told = (w ≡ u) × (told ≡ told_as status.Ok (status_json u.state))
Responds u (OneMirror name) w told = (w ≡ u) × (told ≡ mirror_told (mirror_json u.state name))
Responds u (LastSector provider) w told =
    (w ≡ u) × (told ≡ sector_told (last_sector (present u) u.shelf provider))
Responds u NoCommand w told = (w ≡ u) × (told ≡ refusal_told 1)
Responds u (Carry key command) w told =
    (answer : run.Answer) × run.Calls u (record { key = key; command = command }) w answer
    × (told ≡ answer_told answer)
