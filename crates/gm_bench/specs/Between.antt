-- How pending intents, and the image that they are to change, came about: between the world before
-- the first of the commands that are pending and the one after them all.
use Rattle.std.specs.Prelude.{◌≡◌, ◌≤◌, ◌⊎◌, ℕ, zero, suc, Bool, true, false, List, [], ◌∷◌, None}
use Rattle.std.specs.List.{list_any}
use Rattle.gm_metadata.specs.Images.{Image, zeros}
use Rattle.gm_metadata.specs.Reading.{encoded}
use Rattle.gm_lists.specs.Ordered.{Has}
use Rattle.gm_commands.specs.declared.command.Command.{Command}
use Rattle.gm_commands.specs.declared.command.Command.TheVariants.{Lost}
use Rattle.gm_state.specs.declared.intents.Intent.{Intent}
use Rattle.gm_state.specs.declared.intents.Reply.{Reply}
use Rattle.gm_state.specs.declared.records.Mirror.{Mirror}
use Rattle.gm_state.specs.declared.records.Component.{Component}
use Rattle.gm_state.specs.Records.{members}
use Rattle.gm_state.specs.Lookups.{component_of, metadata, dirty_metadata}
use Rattle.gm_state.specs.Intents.{IsOf, is_dirty_of, is_last, is_place}
use Rattle.gm_state.specs.World.{World, Sound}
use Rattle.gm_rules.specs.Step.{Step}
use Rattle.gm_rules.specs.Series.{AreIntentsOf, InTurn, IsSeries, Keyed}
use Rattle.gm_bench.specs.Losing.{pending_after}

-- one command took u to w, or several advances in turn, and these are its intents or theirs
pub record IsOfSteps (u w : World) (ts : List Intent) : Type 0 where
  pub command : Command
  pub keys : List Keyed
  pub series : IsSeries command keys
  pub stepped : World
  pub turns : InTurn u command keys stepped
  pub sound : Sound stepped
  pub state : w.state ≡ stepped.state
  pub answered : w.answered ≡ stepped.answered
  pub intents : AreIntentsOf u command stepped ts

-- the loss of one provider took v to w, and left these of the intents that were pending
pub record IsOfLoss (v w : World) (before ts : List Intent) : Type 0 where
  pub sound : Sound v
  pub key : List ℕ
  pub name : List ℕ
  pub provider : List ℕ
  pub next : List ℕ
  pub stepped : World
  pub reply : Reply
  pub step : Step v key (Lost name (provider ∷ [])) stepped reply
  pub sound_after : Sound stepped
  pub state : w.state ≡ stepped.state
  pub answered : w.answered ≡ stepped.answered
  pub intents : ts ≡ pending_after provider next before (members stepped.state.components name)

-- The intents are pending since u: those of the commands that took u on, or none if all was settled
-- since; and what so many losses then left of them.
abbrev pub PendingSince : ℕ → Bool → World → World → List Intent → Type 0
PendingSince zero false u w ts = ts ≡ []
PendingSince zero true u w ts = IsOfSteps u w ts
PendingSince (suc n) begun u w ts =
    (v : World) × (before : List Intent) × PendingSince n begun u v before × IsOfLoss v w before ts

-- the mirror with another genid
abbrev pub of_genid : ℕ → Mirror → Mirror
of_genid genid m = record m { genid = genid }

-- The sector says the metadata of a component of w on the provider, with a genid that its mirror
-- has had since u; or those with DIRTY, if a pending intent marks the provider.
pub record SaysSince (u w : World) (ts : List Intent) (q x : List ℕ) : Type 0 where
  pub mirror : Mirror
  pub component : Component
  pub is : IsOf w.state mirror component
  pub on : component.provider ≡ q
  pub genid : ℕ
  pub since : (a : Mirror) → Has u.state.mirrors a → a.name ≡ mirror.name → a.genid ≤ genid
  pub at_most : genid ≤ mirror.genid
  pub says : (x ≡ encoded (metadata (of_genid genid mirror) component))
      ⊎ ((list_any (is_dirty_of q) ts ≡ true)
      × (x ≡ encoded (dirty_metadata (of_genid genid mirror) component)))

-- It is what the sector was in u, if the command that took u on is pending; or it is wiped, and of
-- no component; or it says what was registered since.
abbrev pub IsBetween : Bool → World → World → List Intent → List ℕ → ℕ → List ℕ → Type 0
IsBetween begun u w ts q j x =
    ((begun ≡ true) × (x ≡ u.shelf q j))
    ⊎ (((x ≡ zeros) × (component_of w.state q ≡ None)) ⊎ SaysSince u w ts q x)

-- The intents are pending since u, no mirror's genid is less than it was in u, and each last sector
-- that they write is between u and w.
pub record ComesOf (ts : List Intent) (x : Image) (u w : World) : Type 0 where
  pub losses : ℕ
  pub begun : Bool
  pub pending : PendingSince losses begun u w ts
  pub rises : (a b : Mirror) → Has u.state.mirrors a → Has w.state.mirrors b → a.name ≡ b.name
      → a.genid ≤ b.genid
  pub lasts : (q : List ℕ) (j : ℕ) → is_last (w.size q) j ≡ true
      → is_place w.size ts q j ≡ true → IsBetween begun u w ts q j (x q j)
