-- Intents that may be pending, and what laws say of the images that they leave.
use Rattle.std.specs.Prelude.{◌≡◌, ℕ, List, true}
use Rattle.gm_metadata.specs.Images.{Image, Sizes, Same, SameThere}
use Rattle.gm_lists.specs.Ordered.{Has}
use Rattle.gm_state.specs.declared.intents.Intent.{Intent}
use Rattle.gm_state.specs.Intents.{Agrees, AllSay, AreThere, InOrder, IsRedo, Lends, Says, is_place, names}
use Rattle.gm_state.specs.Readable.{AreReadable}
use Rattle.gm_state.specs.Records.{Records, IsState}
use Rattle.gm_state.specs.World.{World}
use Rattle.gm_apply.specs.Continues.{Continues}
use Rattle.gm_apply.specs.Redo.{IsPartlyDone, with_places}

-- intents, with what they are carried out by
pub record Pending : Type 0 where
  pub state : Records  -- whose metadata they write
  pub bytes : List (List ℕ)  -- what a Patch lays
  pub size : Sizes  -- of the providers
  pub intents : List Intent

-- they lead from d to w
abbrev pub LeadTo : Pending → Image → Image → Type 0
LeadTo t d w = IsRedo t.state t.bytes t.size t.intents d w

-- Every image that they leave on the way from d to w leads to w, and one that they leave in the end
-- holds the same.
pub record EachLeadsOn (t : Pending) (d w : Image) : Type 0 where
  pub part : (x : Image) → IsPartlyDone t.state t.size t.intents w d x → LeadTo t x w
  pub end : (x : Image) → Same x (with_places (is_place t.size t.intents) w d)
      → SameThere t.size x w

-- they are readable for the state, and the components that they read or write are there
pub record MayPend (t : Pending) : Type 0 where
  pub state : IsState t.state
  pub readable : AreReadable t.state t.bytes t.intents
  pub there : AreThere t.state t.intents t.size

-- they put data before claims and dirt before patches, and no copy lends what another one writes
pub record AreSafe (t : Pending) : Type 0 where
  pub order : InOrder t.size t.intents
  pub lends : (r : Intent) → Has t.intents r → Lends t.size t.intents r

-- one of them, which names the sector
pub record IsNaming (t : Pending) (q : List ℕ) (j : ℕ) (r : Intent) : Type 0 where
  pub has : Has t.intents r
  pub named : names t.size r q j ≡ true

-- what one intent says of sector j the other one says too
abbrev pub SaysAs : Pending → ℕ → Intent → Intent → Type 0
SaysAs t j r o = (w : Image) (x : List ℕ)
    → Says t.state t.bytes w r j x → Says t.state t.bytes w o j x

-- what is true of an image stays so on the way, from u's providers to what w holds
abbrev pub StaysTrue : World → World → List Intent → (Image → Type 0) → Type 0
StaysTrue u w ts P = (d x : Image) → Continues u w ts → InOrder u.size ts
    → Agrees u.size ts d w.shelf → P d → IsPartlyDone w.state u.size ts w.shelf d x → P x

-- the intents are readable for the world, and its images hold what they say
pub record HoldsSaid (w : World) (bytes : List (List ℕ)) (size : Sizes) (ts : List Intent)
    : Type 0 where
  pub readable : AreReadable w.state bytes ts
  pub says : AllSay w.state bytes size ts w.shelf
