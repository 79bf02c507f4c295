-- The text of what is pending.
use Rattle.std.specs.Prelude.{◌≡◌, ◌-◌, ℕ, List, [], ◌∷◌, ◌++◌, codes, flat_map}
use Rattle.std.specs.Fmt.{decimal}
use Rattle.gm_metadata.specs.Images.{Image, Sizes}
use Rattle.gm_state.specs.declared.intents.Intent.{Intent}
use Rattle.gm_state.specs.declared.intents.Intent.TheVariants.{Meta, Clear, Copy, Dirty, Patch}
use Rattle.gm_state.specs.Records.{Records}
use Rattle.gm_looks.specs.Standings.{IsOfCleared, IsOfNamed}
use Rattle.gm_looks.specs.Words.{word}
use Rattle.gm_looks.specs.declared.standing.Standing.{Standing}

-- a copy of so many sectors, from this one on
abbrev pub copy_text : List ℕ → List ℕ → ℕ → ℕ → List ℕ
copy_text source target first sectors =
    codes "copy " ++ decimal sectors ++ codes " sectors of " ++ source ++ codes " to " ++ target
    ++ codes " from " ++ decimal first

-- a patch of so many sectors, from this one on
abbrev pub patch_text : List ℕ → ℕ → ℕ → List ℕ
patch_text provider first sectors =
    codes "patch " ++ decimal sectors ++ codes " sectors of " ++ provider ++ codes " from "
    ++ decimal first

-- what an intent is
abbrev pub intent_text : Intent → List ℕ
intent_text (Meta p) = codes "metadata of " ++ p
intent_text (Clear p) = codes "clear " ++ p
intent_text (Copy source target first end) = copy_text source target first (end - first)
intent_text (Dirty p) = codes "mark " ++ p ++ codes " dirty"
intent_text (Patch p first end) = patch_text p first (end - first)

-- a line of it
abbrev pub intent_line : Intent → List ℕ
intent_line t = intent_text t ++ 10 ∷ []

-- a line an intent
abbrev pub pending_text : List Intent → List ℕ
pending_text ts = flat_map intent_line ts

-- how two images stand, each after its name
abbrev pub two_told : List ℕ → Standing → List ℕ → Standing → List ℕ
two_told source a target b =
    source ++ codes " " ++ word a ++ codes ", " ++ target ++ codes " " ++ word b

-- the line of an intent, with what is told of its images
abbrev pub told_line : Intent → List ℕ → List ℕ
told_line t told = intent_text t ++ codes ": " ++ told ++ 10 ∷ []

module _ (s : Records) (size : Sizes) (seen : Image) where
  -- the text tells how each image that the intent names stands, in that order
  abbrev pub IsTold : Intent → List ℕ → Type 0
  IsTold (Meta p) told = (a : Standing) × IsOfNamed s size seen p a × (told ≡ word a)
  IsTold (Clear p) told = (a : Standing) × IsOfCleared s size seen p a × (told ≡ word a)
  IsTold (Copy source target first end) told = (a : Standing) × (b : Standing)
      × IsOfNamed s size seen source a × IsOfNamed s size seen target b
      × (told ≡ two_told source a target b)
  IsTold (Dirty p) told = (a : Standing) × IsOfNamed s size seen p a × (told ≡ word a)
  IsTold (Patch p first end) told = (a : Standing) × IsOfNamed s size seen p a × (told ≡ word a)

  -- a line an intent, each with how its images stand
  abbrev pub AreTold : List Intent → List ℕ → Type 0
  AreTold [] text = text ≡ []
  AreTold (t ∷ ts) text = (told : List ℕ) × (rest : List ℕ) × IsTold t told × AreTold ts rest
      × (text ≡ told_line t told ++ rest)
