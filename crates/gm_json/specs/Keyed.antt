-- What is answered to a command under its key.
use Rattle.std.specs.Prelude.{ℕ, List, [], ◌∷◌, codes}
use Rattle.gm_state.specs.declared.intents.Reply.{Reply}
use Rattle.gm_state.specs.declared.intents.Reply.TheVariants.{Plain, Copied}
use Rattle.gm_looks.specs.declared.unlike.Unlike.{Unlike}
use Rattle.gm_unlike.specs.Texts.{told_standing}
use Rattle.serde_json.specs.Data.{Data}
use Rattle.gm_json.specs.declared.keyed.Acceptance.{Acceptance}
use Rattle.gm_json.specs.declared.keyed.Acceptance.TheVariants.{Now, Before}
use Rattle.gm_json.specs.Fields.{each_at, number_at, object_of, text_at, text_of}

-- this answer, with the number of a command
abbrev pub with_seq : List ℕ → List ℕ → ℕ → Data
with_seq answer key seq = object_of (
    text_at (codes "answer") answer
    ∷ text_at (codes "key") key
    ∷ number_at (codes "seq") seq
    ∷ [])

-- this answer, with the number of a refusal or a fault
abbrev pub with_number : List ℕ → List ℕ → ℕ → Data
with_number answer key n = object_of (
    text_at (codes "answer") answer
    ∷ text_at (codes "key") key
    ∷ number_at (codes "number") n
    ∷ [])

-- the command with this number was accepted
abbrev pub keyed_done_data : List ℕ → ℕ → Reply → Data
keyed_done_data key seq Plain = with_seq (codes "ok") key seq
keyed_done_data key seq (Copied held total) = object_of (
    text_at (codes "answer") (codes "ok")
    ∷ number_at (codes "copied") held
    ∷ text_at (codes "key") key
    ∷ number_at (codes "of") total
    ∷ number_at (codes "seq") seq
    ∷ [])

-- an image that stands in a command's way, and how it stands
abbrev pub in_the_way_data : Unlike → Data
in_the_way_data x = object_of (
    text_at (codes "image") x.provider
    ∷ text_at (codes "standing") (told_standing x.standing)
    ∷ [])

-- the command isn't done, because these images stand in its way
abbrev pub withheld_data : List ℕ → List Unlike → Data
withheld_data key list = object_of (
    text_at (codes "answer") (codes "not done")
    ∷ each_at (codes "images") in_the_way_data list
    ∷ text_at (codes "key") key
    ∷ [])

-- it isn't done, because data would be lost
abbrev pub not_done_data : List ℕ → Data
not_done_data key = object_of (
    text_at (codes "answer") (codes "not done")
    ∷ text_at (codes "key") key
    ∷ [])

-- so many writes were pending, and were carried out
abbrev pub recovered_data : ℕ → Data
recovered_data redone = object_of (number_at (codes "recovered") redone ∷ [])

-- how a command is answered that was accepted
abbrev pub acceptance_word : Acceptance → List ℕ
acceptance_word Now = codes "ok"
acceptance_word Before = codes "repeated"

-- the same after an image was given up, by the command with a number
abbrev pub recovered_without_data : Acceptance → List ℕ → ℕ → ℕ → Data
recovered_without_data acceptance key redone seq = object_of (
    text_at (codes "answer") (acceptance_word acceptance)
    ∷ text_at (codes "key") key
    ∷ number_at (codes "recovered") redone
    ∷ number_at (codes "seq") seq
    ∷ [])

-- the texts
abbrev pub keyed_done_json : List ℕ → ℕ → Reply → List ℕ
keyed_done_json key seq reply = text_of (keyed_done_data key seq reply)

abbrev pub keyed_repeated_json : List ℕ → ℕ → List ℕ
keyed_repeated_json key seq = text_of (with_seq (codes "repeated") key seq)

abbrev pub keyed_refused_json : List ℕ → ℕ → List ℕ
keyed_refused_json key n = text_of (with_number (codes "refused") key n)

abbrev pub keyed_fault_json : List ℕ → ℕ → List ℕ
keyed_fault_json key n = text_of (with_number (codes "fault") key n)

abbrev pub withheld_json : List ℕ → List Unlike → List ℕ
withheld_json key list = text_of (withheld_data key list)

abbrev pub not_done_json : List ℕ → List ℕ
not_done_json key = text_of (not_done_data key)

abbrev pub recovered_json : ℕ → List ℕ
recovered_json redone = text_of (recovered_data redone)

abbrev pub recovered_without_json : Acceptance → List ℕ → ℕ → ℕ → List ℕ
recovered_without_json acceptance key redone seq =
    text_of (recovered_without_data acceptance key redone seq)
