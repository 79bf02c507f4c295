-- What is told of a request that isn't put to the bench.
use Rattle.std.specs.Prelude.{ℕ, List, ◌++◌, Option, Some, None, codes, flat_map, string_bytes, String}
use Rattle.std.specs.declared.alloc.Global.{Global}
use Rattle.gm_bench.specs.declared.fault.BenchFault.{BenchFault}
use Rattle.gm_http.specs.declared.status.Status.TheVariants.{Conflict}
use Rattle.gm_json.specs.Answers.{error_json}
use Rattle.gm_front.specs.declared.turned_back.TurnedBack.{TurnedBack}
use Rattle.gm_front.specs.declared.turned_back.TurnedBack.TheVariants.{Page, Losing, Unlooked}
use Rattle.gm_front.specs.Demands.{Told, fault_told, told_as}
use Rattle.gm_front.specs.Services.{page_told}

-- a sentence as a part of a line
abbrev pub sentence_part : String Global → List ℕ
sentence_part sentence = codes "; " ++ string_bytes sentence

-- that a command isn't done, because of what these sentences say
abbrev pub losing_message : List (String Global) → List ℕ
losing_message sentences = codes "not done" ++ flat_map sentence_part sentences

abbrev pub losing_told : List (String Global) → Told
losing_told sentences = told_as Conflict (error_json (losing_message sentences))

abbrev pub turned_back_told : TurnedBack → Told
turned_back_told Page = page_told
turned_back_told (Losing sentences) = losing_told sentences.now
turned_back_told (Unlooked fault) = fault_told fault

-- the fault of the bench, if it failed
abbrev pub turned_back_fault : TurnedBack → Option BenchFault
turned_back_fault Page = None
turned_back_fault (Losing sentences) = None
turned_back_fault (Unlooked fault) = Some fault
