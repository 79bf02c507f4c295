-- The words for how an image stands.
use Rattle.std.specs.Prelude.{ℕ, List, codes}
use Rattle.gm_looks.specs.declared.standing.Standing.{Standing}
use Rattle.gm_looks.specs.declared.standing.Standing.TheVariants.{AsRegistered, Absent, AnotherSize, Zero, NoMetadata, Damaged, AnotherMirror, AnotherComponent, Older, Newer, Member}

abbrev pub word : Standing → List ℕ
word AsRegistered = codes "as registered"
word Absent = codes "absent"
word AnotherSize = codes "absent"
word Zero = codes "zero"
word NoMetadata = codes "no metadata"
word Damaged = codes "no metadata"
word AnotherMirror = codes "another"
word AnotherComponent = codes "member"
word Older = codes "member"
word Newer = codes "member"
word Member = codes "member"

-- for an image of which zeros say nothing more than that there are no metadata
abbrev pub without_zero : Standing → Standing
without_zero Zero = NoMetadata
without_zero standing = standing
