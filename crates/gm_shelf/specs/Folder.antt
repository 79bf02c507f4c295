-- A folder of image files as contracts see it: sizes and failures, and nothing of what a file
-- holds.
use Rattle.std.specs.Prelude.{⊤, ℕ, Bool, List, [], ◌/◌, ◌==◌, ◌&&◌, filter, not}
use Rattle.std.specs.List.{list_any}
use Rattle.std.specs.Option.{option_map}
use Rattle.std.specs.Ordering.{nat_cmp}
use Rattle.std.specs.Cmp.Lexicographic.{slice_cmp}
use Rattle.std.specs.BTreeMap.{BTreeMap, get}
use Rattle.gm_metadata.specs.Images.{Sizes}
use Rattle.gm_shelf.specs.Disk.{View}
use Rattle.gm_shelf.specs.declared.file_id.FileId.{FileId}
use Rattle.gm_shelf.specs.declared.folder_images.ImageFile.{ImageFile}

-- a file has a sector for each 512 of its bytes
abbrev pub sectors_of : BTreeMap (List ℕ) ImageFile → Sizes
sectors_of images p = option_map (λ image. image.length / 512) (get (slice_cmp nat_cmp) images p)

-- both are one file: by device, inode and time of birth
abbrev pub is_same_file : FileId → FileId → Bool
is_same_file a b = (a.device == b.device) && ((a.inode == b.inode) && (a.born == b.born))

-- the image is one of these files
abbrev pub is_one_of : List FileId → ImageFile → Bool
is_one_of files image = list_any (λ file. is_same_file file image.file) files

-- these images, each with its name, but those that are one of these files
abbrev pub images_but : List FileId → List (List ℕ × ImageFile) → List (List ℕ × ImageFile)
images_but files = filter (λ named. not (is_one_of files named.1))

-- nothing is known of what is held or left: any image may be left, now or since any moment
abbrev pub unknown : ℕ → View
unknown failures = record {
  seen = λ p i. [];
  may_leave = λ x. ⊤;
  moment = 0;
  left_since = λ t x. ⊤;
  faults = failures;
}
