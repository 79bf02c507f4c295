-- The entries of a folder that are no images.
use Rattle.std.specs.Prelude.{ℕ, List, codes, if◌then◌else◌}
use Rattle.std.specs.Char.{is_ascii_graphic}
use Rattle.gm_shelf.specs.declared.no_image.NoImage.{NoImage}
use Rattle.gm_shelf.specs.declared.no_image.NoImage.TheVariants.{LongName, OtherCharacters, Link, NotRegular, Length}

-- why one isn't an image, in texts
abbrev pub no_image_text : NoImage → List ℕ
no_image_text LongName = codes "name too long"
no_image_text OtherCharacters = codes "name with other characters"
no_image_text Link = codes "a link"
no_image_text NotRegular = codes "not a regular file"
no_image_text Length = codes "length no multiple of 512"

-- a byte as it is shown: the visible characters of ASCII, and ? for all others
abbrev pub visible : ℕ → ℕ
visible byte = if is_ascii_graphic byte then byte else 63
