-- What is told of a check.
use Rattle.std.specs.Prelude.{ℕ, List, [], ◌∷◌, codes, length}
use Rattle.gm_state.specs.Records.{members}
use Rattle.gm_looks.specs.declared.unlike.Unlike.{Unlike}
use Rattle.gm_unlike.specs.Checkups.{is_well, renewal_of, renewal_word}
use Rattle.gm_unlike.specs.Texts.{told_standing}
use Rattle.gm_unlike.specs.declared.checkup.Checkup.{Checkup}
use Rattle.gm_unlike.specs.declared.claims.Claim.{Claim}
use Rattle.serde_json.specs.Data.{Data}
use Rattle.gm_json.specs.Audits.{difference_data, differing, uncompared}
use Rattle.gm_json.specs.Fields.{each_at, number_at, object_of, text_at, text_of, texts_at, truth_at}
use Rattle.gm_json.specs.Mirrors.{standing_mirror}

-- a component whose image isn't as it is registered, and how it stands
abbrev pub unlike_data : Unlike → Data
unlike_data x = object_of (
    text_at (codes "image") x.provider
    ∷ text_at (codes "standing") (told_standing x.standing)
    ∷ [])

-- an image that claims to be a component, or was one until it was given up
abbrev pub claim_data : Claim → Data
claim_data c = object_of (
    truth_at (codes "given_up") c.is_given_up
    ∷ text_at (codes "mirror") c.mirror
    ∷ text_at (codes "name") c.provider
    ∷ [])

-- how much of the registry is used, how much it takes, and when a new one is due
abbrev pub usage_data : Checkup → Data
usage_data c = object_of (
    number_at (codes "bytes") c.bytes
    ∷ number_at (codes "commands") c.commands
    ∷ number_at (codes "commands_of") 100000
    ∷ number_at (codes "mirrors") (length c.state.now.mirrors)
    ∷ number_at (codes "mirrors_of") 64
    ∷ text_at (codes "renew") (renewal_word (renewal_of c.commands))
    ∷ [])

-- what a check found
abbrev pub check_data : Checkup → Data
check_data c = object_of (
    each_at (codes "amiss") unlike_data c.unlike.now
    ∷ each_at (codes "claims") claim_data c.claims.now
    ∷ each_at (codes "differ") (difference_data (differing c.flaws.now)) (differing c.flaws.now)
    ∷ each_at (codes "mirrors")
    (λ m. standing_mirror m (members c.state.now.components m.name)) c.state.now.mirrors
    ∷ number_at (codes "pending") c.pending
    ∷ record { key = codes "registry"; value = usage_data c }
    ∷ texts_at (codes "uncompared") (uncompared c.flaws.now)
    ∷ truth_at (codes "well") (is_well c)
    ∷ [])

-- the text
abbrev pub check_json : Checkup → List ℕ
check_json c = text_of (check_data c)
