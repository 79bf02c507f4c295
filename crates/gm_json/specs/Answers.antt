-- What is answered to a command, and why a request has no answer.
use Rattle.std.specs.Prelude.{ℕ, List, [], ◌∷◌, codes}
use Rattle.gm_state.specs.declared.intents.Reply.{Reply}
use Rattle.gm_state.specs.declared.intents.Reply.TheVariants.{Plain, Copied}
use Rattle.serde_json.specs.Data.{Data}
use Rattle.gm_json.specs.Fields.{number_at, object_of, text_at, text_of}

-- the command with this number was accepted
abbrev pub done_data : ℕ → Reply → Data
done_data seq Plain = object_of (
    text_at (codes "answer") (codes "ok")
    ∷ number_at (codes "seq") seq
    ∷ [])
done_data seq (Copied held total) = object_of (
    text_at (codes "answer") (codes "ok")
    ∷ number_at (codes "copied") held
    ∷ number_at (codes "of") total
    ∷ number_at (codes "seq") seq
    ∷ [])

-- it was accepted before, with this number
abbrev pub repeated_data : ℕ → Data
repeated_data seq = object_of (
    text_at (codes "answer") (codes "repeated")
    ∷ number_at (codes "seq") seq
    ∷ [])

-- it is refused, by the refusal of this number
abbrev pub refused_data : ℕ → Data
refused_data n = object_of (
    text_at (codes "answer") (codes "refused")
    ∷ number_at (codes "number") n
    ∷ [])

-- the bench has a fault of this number
abbrev pub fault_data : ℕ → Data
fault_data n = object_of (number_at (codes "fault") n ∷ [])

-- the request isn't one that is answered
abbrev pub error_data : List ℕ → Data
error_data message = object_of (text_at (codes "error") message ∷ [])

-- the texts
abbrev pub done_json : ℕ → Reply → List ℕ
done_json seq reply = text_of (done_data seq reply)

abbrev pub repeated_json : ℕ → List ℕ
repeated_json seq = text_of (repeated_data seq)

abbrev pub refused_json : ℕ → List ℕ
refused_json n = text_of (refused_data n)

abbrev pub fault_json : ℕ → List ℕ
fault_json n = text_of (fault_data n)

abbrev pub error_json : List ℕ → List ℕ
error_json message = text_of (error_data message)
