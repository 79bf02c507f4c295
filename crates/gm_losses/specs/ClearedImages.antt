-- The images whose metadata a `clear` wipes though their mirror may need them.
use Rattle.std.specs.Prelude.{◌≡◌, ◌-◌, ◌==◌, ◌&&◌, not, nat_lt, ℕ, Bool, true, false, List, Option, Some, None, Result, Ok, Err, if◌then◌else◌}
use Rattle.gm_metadata.specs.Images.{Image, Sizes}
use Rattle.gm_metadata.specs.Reading.{decode_of}
use Rattle.gm_metadata.specs.declared.fault.DecodeFault.{DecodeFault}
use Rattle.gm_metadata.specs.declared.metadata.Metadata.{Metadata}
use Rattle.gm_state.specs.declared.records.Mirror.{Mirror}
use Rattle.gm_state.specs.Lookups.{component_of, mirror_of}
use Rattle.gm_state.specs.Records.{Records}
use Rattle.gm_refusals.specs.Applies.{has_wrong_size}
use Rattle.gm_losses.specs.LeftImages.{is_in_use}
use Rattle.gm_losses.specs.declared.loss.Loss.{Loss}
use Rattle.gm_losses.specs.declared.loss.Loss.TheVariants.{Member}

-- the registered mirror is that of the metadata, and has a greater genid: who says them is BROKEN
abbrev pub is_outdated : Option Mirror → Metadata → Bool
is_outdated None d = false
is_outdated (Some m) d = m.mid == d.mid && nat_lt d.genid m.genid

-- an image that says this may be needed: it is in use, and not BROKEN beside a registered mirror
abbrev pub is_needed : Records → Metadata → Bool
is_needed s d = is_in_use d && not (is_outdated (mirror_of s d.name) d)

-- the image on p may be cleared, by its size and the records, and its last sector says d, by which
-- it may be needed
pub record IsNeeded (s : Records) (size : Sizes) (seen : Image) (p : List ℕ) (d : Metadata) :
    Type 0 where
  pub sectors : ℕ
  pub size_is : size p ≡ Some sectors
  pub right : has_wrong_size sectors ≡ false
  pub stranger : component_of s p ≡ None
  pub says : decode_of (seen p (sectors - 1)) ≡ Ok d
  pub needed : is_needed s d ≡ true

-- what is said of an image by its last sector
abbrev pub needed_by : Records → List ℕ → Result Metadata DecodeFault → Option Loss
needed_by s p (Ok d) = if is_needed s d then Some (Member p d.name) else None
needed_by s p (Err fault) = None
