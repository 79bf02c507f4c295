-- What is told of the losses of a command, and which command is let go.
use Rattle.std.specs.Prelude.{◌≡◌, ◌⊎◌, ◌+◌, ◌<◌, ◌==◌, ◌&&◌, ℕ, Bool, true, false, not, List, [], length, count_by, Option, Some, None, is_some, IfSome, IsTrue, if◌then◌else◌}
use Rattle.std.specs.List.{filter_map}
use Rattle.gm_commands.specs.declared.command.Command.{Command}
use Rattle.gm_commands.specs.declared.command.Command.TheVariants.{Adopt, Lost}
use Rattle.gm_losses.specs.Losses.{AreLosses}
use Rattle.gm_losses.specs.declared.loss.Loss.{Loss}
use Rattle.gm_losses.specs.declared.loss.Loss.TheVariants.{Whole}
use Rattle.gm_shelf.specs.declared.shelf.Shelf.{Ghosts}
use Rattle.gm_state.specs.Records.{Records}
use Rattle.gm_handing_in.specs.Insistence.{says_yes}

-- the image, if the loss is of one that is whole beside a DIRTY source
abbrev pub image_of_whole : Loss → Option (List ℕ)
image_of_whole (Whole p) = Some p
image_of_whole _ = None

abbrev pub is_of_whole : Loss → Bool
is_of_whole x = is_some (image_of_whole x)

-- the images of these that are whole
abbrev pub whole_images : List Loss → List (List ℕ)
whole_images list = filter_map image_of_whole list

abbrev pub is_adoption : Command → Bool
is_adoption (Adopt name ps) = true
is_adoption _ = false

-- each loss has its sentence, but for the images that are whole, which have one of an adoption
abbrev pub sentence_count : Command → List Loss → ℕ
sentence_count c list = count_by (λ x. not (is_of_whole x)) list
    + (if is_adoption c && not (length (whole_images list) == 0) then 1 else 0)

module _ {H : Type 0} (h : Ghosts H) (old new : H) where
  -- an image is given up, and one of the shelf couldn't be read
  abbrev pub IsUnread : Command → Type 0
  IsUnread (Lost name ps) = (h.view old).faults < (h.view new).faults
  IsUnread _ = ⊥

  -- so many sentences are told of the losses of a command, and none of an image that is given up if
  -- it couldn't be read
  abbrev pub IsTold : Records → Command → ℕ → Type 0
  IsTold s c n =
      ((list : List Loss) × AreLosses s (h.size old) (h.view old).seen c list
      × (n ≡ sentence_count c list))
      ⊎ (IsUnread c × (n ≡ 0))

  -- nothing is lost by the command
  abbrev pub LosesNothing : Records → Command → Type 0
  LosesNothing s c = AreLosses s (h.size old) (h.view old).seen c []

  -- the command may be carried out: nothing is lost by it, or it gives up what couldn't be read, or
  -- somebody could be asked, and said `yes` where the bytes of the input are known
  abbrev pub IsLetGo : Records → Command → Bool → Option (List ℕ) → Type 0
  IsLetGo s c asks input = LosesNothing s c ⊎ (IsUnread c
      ⊎ (IsTrue asks × IfSome input (λ bytes. IsTrue (says_yes bytes))))
