-- What is seen of the image that a replacement takes out.
use Rattle.std.specs.Prelude.{Option, Some, None}
use Rattle.gm_looks.specs.declared.standing.Standing.{Standing}
use Rattle.gm_looks.specs.declared.standing.Standing.TheVariants.{AsRegistered, Absent, AnotherSize, Zero, NoMetadata, Damaged, AnotherMirror, AnotherComponent, Older, Newer, Member}
use Rattle.gm_ways.specs.declared.way.OldImage.{OldImage}
use Rattle.gm_ways.specs.declared.way.OldImage.TheVariants.{There, Ruined, Gone}

-- what is seen of an image that stands so
abbrev pub old_image_of : Standing → OldImage
old_image_of AsRegistered = There
old_image_of Absent = Gone
old_image_of AnotherSize = Ruined
old_image_of Zero = Ruined
old_image_of NoMetadata = Ruined
old_image_of Damaged = Ruined
old_image_of AnotherMirror = There
old_image_of AnotherComponent = There
old_image_of Older = There
old_image_of Newer = There
old_image_of Member = There

-- the same, if it isn't as it is registered
abbrev pub old_image_by : Option Standing → OldImage
old_image_by None = There
old_image_by (Some standing) = old_image_of standing
