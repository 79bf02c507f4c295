-- How components are told whose images aren't as they are registered.
use Rattle.std.specs.Prelude.{ℕ, List, [], ◌∷◌, ◌++◌, codes, if◌then◌else◌}
use Rattle.gm_looks.specs.declared.standing.Standing.{Standing}
use Rattle.gm_looks.specs.declared.standing.Standing.TheVariants.{AsRegistered, Absent, AnotherSize, Zero, NoMetadata, Damaged, AnotherMirror, AnotherComponent, Older, Newer, Member}
use Rattle.gm_looks.specs.declared.unlike.Unlike.{Unlike}
use Rattle.gm_unlike.specs.declared.claims.Claim.{Claim}

-- how the image of a component stands, for whoever wants to mend it
abbrev pub told_standing : Standing → List ℕ
told_standing AsRegistered = codes "as registered"
told_standing Absent = codes "absent"
told_standing AnotherSize = codes "another size"
told_standing Zero = codes "zeros"
told_standing NoMetadata = codes "no metadata"
told_standing Damaged = codes "damaged"
told_standing AnotherMirror = codes "another mirror"
told_standing AnotherComponent = codes "another component"
told_standing Older = codes "older"
told_standing Newer = codes "newer"
told_standing Member = codes "changed"

-- the line of a component
abbrev pub unlike_line : Unlike → List ℕ
unlike_line e = e.provider ++ codes " " ++ told_standing e.standing ++ 10 ∷ []

-- the same as a part of a line
abbrev pub unlike_word : Unlike → List ℕ
unlike_word e = codes "; " ++ e.provider ++ codes " " ++ told_standing e.standing

-- the line of an image that claims to be a component, or was one until it was given up
abbrev pub claim_line : Claim → List ℕ
claim_line c =
    if c.is_given_up
    then c.provider ++ codes " was given up as lost by " ++ c.mirror ++ 10 ∷ []
    else c.provider ++ codes " claims to be a component of " ++ c.mirror ++ 10 ∷ []
