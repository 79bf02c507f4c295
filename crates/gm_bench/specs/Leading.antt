-- What tables with pending intents and an image lead to.
use Rattle.std.specs.Prelude.{◌≡◌, ◌⊎◌, ◌-◌, ℕ, false, List, None, is_some, if◌then◌else◌}
use Rattle.std.specs.List.Sorted.{IsPermutation}
use Rattle.gm_metadata.specs.Images.{Image, Sizes}
use Rattle.gm_state.specs.declared.intents.Intent.{Intent}
use Rattle.gm_state.specs.Intents.{IsAtHand, IsRedo}
use Rattle.gm_state.specs.Readable.{AreReadable}
use Rattle.gm_state.specs.Rows.{Tables, HoldRecords, intent_rows, patch_rows}
use Rattle.gm_lists.specs.Ordered.{Has}
use Rattle.gm_metadata.specs.Sector.{Bears, IsMetadata}
use Rattle.gm_metadata.specs.declared.metadata.Metadata.{Metadata}
use Rattle.gm_state.specs.declared.records.Mirror.{Mirror}
use Rattle.gm_state.specs.declared.records.Component.{Component}
use Rattle.gm_state.specs.Intents.{IsOf}
use Rattle.gm_state.specs.Lookups.{component_of}
use Rattle.gm_state.specs.World.{World, Sound, Below, Claims, CopiesData, claimed}
use Rattle.gm_bench.specs.Between.{ComesOf}

-- all providers: those of these sizes as the shelf has them, the others as they are away from it
abbrev pub whole : Sizes → Image → Image → Image
whole size away x p i = if is_some (size p) then x p i else away p i

-- these providers are some of those, with the same sizes
abbrev pub AreAmong : Sizes → Sizes → Type 0
AreAmong size all = (q : List ℕ) → (size q ≡ None) ⊎ (size q ≡ all q)

-- Beside these intents, and the bytes that they lay, the tables hold the rows of the world. The
-- image is the world's but for the sectors that the intents name, and in the world those hold what
-- the intents say.
pub record Leads (t : Tables) (ts : List Intent) (bytes : List (List ℕ)) (x : Image)
    (w : World) : Type 0 where
  pub sound : Sound w
  pub records : HoldRecords w t
  pub intents : IsPermutation (intent_rows 1 ts) t.intents
  pub patches : t.patches ≡ patch_rows bytes
  pub readable : AreReadable w.state bytes ts
  pub at_hand : (t : Intent) → Has ts t → IsAtHand w.size t
  pub redo : IsRedo w.state bytes w.size ts x w.shelf

-- the last sector of the component's provider bore nothing
abbrev pub WasBare : World → Component → Type 0
WasBare u k = (d : Metadata) → Bears (u.shelf k.provider (k.sectors - 1)) d → ⊥

-- what a component claims in the image, of the list that its syncid tells, is there
abbrev pub ClaimsOf : Mirror → Component → (ℕ → ℕ → List ℕ) → Image → Type 0
ClaimsOf m k list x =
    (d : Metadata) → IsMetadata d → Bears (x k.provider (k.sectors - 1)) d
    → d.name ≡ m.name → d.mid ≡ m.mid → d.dflags.inactive ≡ false → d.dflags.dirty ≡ false
    → Below x (list d.syncid) k.provider (claimed m d)

-- so is what each component claims that is new in w, and whose provider bore nothing before
abbrev pub EachNewClaims : World → World → Image → Type 0
EachNewClaims u w x =
    (m : Mirror) (k : Component) → IsOf w.state m k → component_of u.state k.provider ≡ None
    → WasBare u k → ClaimsOf m k (λ syncid. w.holds m.name) x

-- No component of u claims in the image a sector that it lacks, nor does one that is new in w; the
-- intents keep that on the way to w; these and the last sectors come of what was accepted since.
pub record KeepsClaims (ts : List Intent) (x : Image) (u w : World) : Type 0 where
  pub sound : Sound u
  pub sizes : u.size ≡ w.size
  pub after : Claims u w w.shelf
  pub copies : CopiesData u w ts
  pub old : Claims u w x
  pub new : EachNewClaims u w x
  pub comes : ComesOf ts x u w

-- with each of the shelf's images the tables and their intents lead to w, and no component claims
-- on the way a sector that it lacks
abbrev pub AllLead : Tables → List Intent → List (List ℕ) → Sizes → Image → (Image → Type 0)
    → World → World → Type 0
AllLead t ts bytes size away X u w = (x : Image) → X x
    → Leads t ts bytes (whole size away x) w × KeepsClaims ts (whole size away x) u w
