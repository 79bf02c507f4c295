-- What a command would take away for good: a definition for each kind of loss, and which command
-- has which.
use Rattle.std.specs.Prelude.{◌≡◌, ◌≢◌, ◌⊎◌, ◌-◌, ◌<◌, ℕ, Bool, true, false, List, [], length, Some, None, IsSome}
use Rattle.gm_metadata.specs.Images.{Image, Sizes, zeros}
use Rattle.gm_commands.specs.declared.command.Command.{Command}
use Rattle.gm_commands.specs.declared.command.Command.TheVariants.{Label, Insert, Remove, Deactivate, Clear, Destroy, Lost, Adopt}
use Rattle.gm_lists.specs.Ordered.{Has, AscendsBy, label_lt}
use Rattle.gm_state.specs.declared.records.Mirror.{Mirror}
use Rattle.gm_state.specs.declared.records.Component.{Component}
use Rattle.gm_state.specs.Intents.{IsOf}
use Rattle.gm_state.specs.Lookups.{mirror_of}
use Rattle.gm_state.specs.Records.{Records, members}
use Rattle.gm_looks.specs.Audits.{IsAsRegistered}
use Rattle.gm_metadata.specs.declared.metadata.Metadata.{Metadata}
use Rattle.gm_losses.specs.ClearedImages.{IsNeeded}
use Rattle.gm_losses.specs.Copies.{only_copy}
use Rattle.gm_losses.specs.DifferingImages.{IsUnlikeSource}
use Rattle.gm_losses.specs.FreeImages.{IsFirstData, IsFree, is_database}
use Rattle.gm_losses.specs.LeftImages.{IsLeft}
use Rattle.gm_losses.specs.WholeImages.{IsWholeBeside}
use Rattle.gm_losses.specs.declared.loss.Loss.{Loss}
use Rattle.gm_losses.specs.declared.loss.Loss.TheVariants as loss

module _ (s : Records) (size : Sizes) (seen : Image) where
  -- of an image that can be taken into a mirror: it begins as a database
  abbrev pub LosesDatabase : List ℕ → Loss → Type 0
  LosesDatabase p x = (x ≡ loss.Database p)
      × (n : ℕ) × IsFree s size seen p n × (is_database (seen p 0) ≡ true)

  -- its last sector isn't all zeros
  abbrev pub LosesLastSector : List ℕ → Loss → Type 0
  LosesLastSector p x = (x ≡ loss.LastSector p)
      × (n : ℕ) × IsFree s size seen p n × (seen p (n - 1) ≢ zeros)

  -- it doesn't begin as a database, and its first data are there
  abbrev pub LosesData : List ℕ → Loss → Type 0
  LosesData p x = (place : ℕ) × (x ≡ loss.Data p place)
      × (n : ℕ) × IsFree s size seen p n × (is_database (seen p 0) ≡ false)
      × IsFirstData (seen p) n place

  -- of a mirror that gives up components on these providers: one of them is as it is registered
  abbrev pub LosesIntact : List ℕ → List (List ℕ) → Loss → Type 0
  LosesIntact name ps x = (m : Mirror) × (k : Component) × IsOf s m k × (m.name ≡ name)
      × Has ps k.provider × IsAsRegistered size seen m k × (x ≡ loss.Intact k.provider)

  -- of a mirror that is adopted from these: the source is DIRTY, and an image of it is whole
  abbrev pub LosesWhole : List ℕ → List (List ℕ) → Loss → Type 0
  LosesWhole name ps x = (p : List ℕ) × (x ≡ loss.Whole p) × IsWholeBeside size seen name ps p

  -- another image of it is left, and not told as one that is whole
  abbrev pub LosesLeft : List ℕ → List (List ℕ) → Loss → Type 0
  LosesLeft name ps x = (p : List ℕ) × (newer : Bool) × (x ≡ loss.Left p newer)
      × IsLeft size seen name ps p newer × (IsWholeBeside size seen name ps p → ⊥)

  -- an ACTIVE image that is named has other data than the source, and isn't told as whole either
  abbrev pub LosesDiffering : List ℕ → List (List ℕ) → Loss → Type 0
  LosesDiffering name ps x = (p : List ℕ) × (sectors : ℕ) × (first : ℕ)
      × (x ≡ loss.Differs p sectors first) × IsUnlikeSource size seen name ps p sectors first
      × (IsWholeBeside size seen name ps p → ⊥)

  abbrev pub LosesAdopted : List ℕ → List (List ℕ) → Loss → Type 0
  LosesAdopted name ps x =
      LosesWhole name ps x ⊎ (LosesLeft name ps x ⊎ LosesDiffering name ps x)

  -- of an image whose metadata are wiped: by them its mirror may need it
  abbrev pub LosesMember : List ℕ → Loss → Type 0
  LosesMember p x = (d : Metadata) × (x ≡ loss.Member p d.name) × IsNeeded s size seen p d

  -- of a mirror that the component on p leaves: one copy alone stays, and others are being filled
  abbrev pub LosesCopies : List ℕ → List ℕ → Loss → Type 0
  LosesCopies name p x = (q : List ℕ) × (x ≡ loss.OnlyCopy q)
      × (only_copy (members s.components name) p ≡ Some q)

  -- of a mirror that is dropped: it has more than one component
  abbrev pub LosesMirror : List ℕ → Loss → Type 0
  LosesMirror name x = (x ≡ loss.Mirror (length (members s.components name)))
      × (1 < length (members s.components name))

  -- what each command would take away
  abbrev pub IsLoss : Command → Loss → Type 0
  IsLoss (Label new) x = (mirror_of s new.name ≡ None)
      × (LosesDatabase new.provider x ⊎ LosesLastSector new.provider x)
  IsLoss (Insert new) x = IsSome (mirror_of s new.name)
      × (LosesDatabase new.provider x ⊎ LosesData new.provider x)
  IsLoss (Remove name p) x = LosesCopies name p x
  IsLoss (Deactivate name p) x = LosesCopies name p x
  IsLoss (Clear p) x = LosesMember p x
  IsLoss (Destroy name) x = LosesMirror name x
  IsLoss (Lost name ps) x = LosesIntact name ps x
  IsLoss (Adopt name ps) x = (mirror_of s name ≡ None) × LosesAdopted name ps x
  IsLoss _ x = ⊥

-- the provider that a loss is about
abbrev pub provider_of : Loss → List ℕ
provider_of (loss.LastSector p) = p
provider_of (loss.Database p) = p
provider_of (loss.Data p place) = p
provider_of (loss.Intact p) = p
provider_of (loss.Left p newer) = p
provider_of (loss.Whole p) = p
provider_of (loss.Differs p sectors first) = p
provider_of (loss.Member p name) = p
provider_of (loss.OnlyCopy p) = p
provider_of (loss.Mirror n) = []

-- losses are told in byte order of providers, and a database before the last sector
abbrev pub goes_before : Loss → Loss → Bool
goes_before (loss.Database p) (loss.LastSector q) = true
goes_before a b = label_lt (provider_of a) (provider_of b)

-- the list has just the losses of a command, each once, in order
pub record AreJust (IsOne : Loss → Type 0) (list : List Loss) : Type 0 where
  pub told : (x : Loss) → Has list x → IsOne x
  pub others : (x : Loss) → IsOne x → Has list x
  pub order : AscendsBy goes_before list

-- those of this command
abbrev pub AreLosses : Records → Sizes → Image → Command → List Loss → Type 0
AreLosses s size seen c list = AreJust (IsLoss s size seen c) list
