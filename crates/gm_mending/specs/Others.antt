-- What can't be mended of images that aren't as they are registered.
use Rattle.std.specs.Prelude.{Bool, true, false}
use Rattle.gm_looks.specs.declared.standing.Standing.{Standing}
use Rattle.gm_looks.specs.declared.standing.Standing.TheVariants.{AsRegistered, Absent, AnotherSize, Zero, NoMetadata, Damaged, AnotherMirror, AnotherComponent, Older, Newer, Member}

-- it isn't there, or has another size than is registered
abbrev pub has_another_size : Standing → Bool
has_another_size AsRegistered = false
has_another_size Absent = true
has_another_size AnotherSize = true
has_another_size Zero = false
has_another_size NoMetadata = false
has_another_size Damaged = false
has_another_size AnotherMirror = false
has_another_size AnotherComponent = false
has_another_size Older = false
has_another_size Newer = false
has_another_size Member = false
