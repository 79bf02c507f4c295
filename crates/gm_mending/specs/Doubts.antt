-- What is asked before an image is mended.
use Rattle.std.specs.Prelude.{◌++◌, List, [], ◌∷◌, Option, Some, None}
use Rattle.gm_looks.specs.declared.standing.Standing.{Standing}
use Rattle.gm_looks.specs.declared.standing.Standing.TheVariants as stands
use Rattle.gm_mending.specs.declared.compared.Compared.{Compared}
use Rattle.gm_mending.specs.declared.compared.Compared.TheVariants as compared
use Rattle.gm_mending.specs.declared.doubts.Doubt.{Doubt}
use Rattle.gm_mending.specs.declared.doubts.Doubt.TheVariants.{Alone, Short, AnotherMirror, AnotherComponent, Newer}

-- its data, if what is owed can't be compared
abbrev pub doubt_of_data : Compared → Option Doubt
doubt_of_data compared.Equal = None
doubt_of_data (compared.Differs source sectors first) = None
doubt_of_data (compared.Short source) = Some (Short source)
doubt_of_data compared.Alone = Some Alone

-- its last sector, if that is another one's or newer
abbrev pub doubt_of_sector : Standing → Option Doubt
doubt_of_sector stands.AsRegistered = None
doubt_of_sector stands.Absent = None
doubt_of_sector stands.AnotherSize = None
doubt_of_sector stands.Zero = None
doubt_of_sector stands.NoMetadata = None
doubt_of_sector stands.Damaged = None
doubt_of_sector stands.AnotherMirror = Some AnotherMirror
doubt_of_sector stands.AnotherComponent = Some AnotherComponent
doubt_of_sector stands.Older = None
doubt_of_sector stands.Newer = Some Newer
doubt_of_sector stands.Member = None

-- the one, if there is one
abbrev pub listed : Option Doubt → List Doubt
listed None = []
listed (Some doubt) = doubt ∷ []

-- both
abbrev pub doubts_of : Compared → Standing → List Doubt
doubts_of found standing = listed (doubt_of_data found) ++ listed (doubt_of_sector standing)
