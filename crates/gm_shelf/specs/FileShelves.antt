-- What contracts see of a folder of image files.
use Rattle.std.specs.Prelude.{◌≡◌, ℕ, List, Option}
use Rattle.std.specs.String.{string_bytes}
use Rattle.gm_shelf.specs.declared.failure.ImageFailure.{ImageFailure}
use Rattle.gm_shelf.specs.declared.file_shelf.FileShelf.{FileShelf}
use Rattle.gm_shelf.specs.declared.folder_images.ImageFile.{ImageFile}

-- how many failures of the device it has counted
abbrev pub failures_of : {R D : Type 0} → FileShelf R D → ℕ
failures_of shelf = shelf.failures

-- which image failed last, and why
abbrev pub last_failure_of : {R D : Type 0} → FileShelf R D → Option ImageFailure
last_failure_of shelf = shelf.last_failure

-- the path of its folder
abbrev pub folder_of : {R D : Type 0} → FileShelf R D → List ℕ
folder_of shelf = string_bytes shelf.files.folder

-- its images by their names
abbrev pub images_of : {R D : Type 0} → FileShelf R D → List (List ℕ × ImageFile)
images_of shelf = shelf.images.entries

-- the same images of the same folder
pub record IsSameFolder {R D : Type 0} (old new : FileShelf R D) : Type 0 where
  pub folder : folder_of new ≡ folder_of old
  pub images : new.images ≡ old.images
