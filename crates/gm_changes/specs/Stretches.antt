-- An advance that goes on: its next stretches are copied with the first, under further keys.
use Rattle.std.specs.Prelude.{◌≡◌, ◌<◌, ℕ, Bool, List, [], ◌∷◌, ◌++◌}
use Rattle.gm_state.specs.declared.intents.Intent.{Intent}
use Rattle.gm_state.specs.declared.intents.Intent.TheVariants.{Copy}
use Rattle.gm_state.specs.declared.intents.Reply.{Reply}
use Rattle.gm_state.specs.declared.intents.Reply.TheVariants.{Copied}
use Rattle.gm_state.specs.declared.records.Mirror.{Mirror}
use Rattle.gm_state.specs.declared.records.Component.{Component}
use Rattle.gm_state.specs.declared.records.Disk.TheVariants.{Copying}
use Rattle.gm_changes.specs.declared.change.Further.{Further}
use Rattle.gm_changes.specs.After.{advanced, reach}
use Rattle.gm_changes.specs.Decides.{Changed}

-- the change puts this component alone, and data are still to be copied to it
pub record IsUnfilled (ch : Changed) (k : Component) : Type 0 where
  pub alone : ch.components ≡ k ∷ []
  pub forced : Bool
  pub held : ℕ
  pub copying : k.disk ≡ Copying forced held
  pub few : held < 1048576

-- a copy that ends there, or any other intent
abbrev pub to_end : ℕ → Intent → Intent
to_end end (Copy source target first was) = Copy source target first end
to_end end t = t

-- the intents, of which the first copies as far as this if it copies
abbrev pub copied_to : ℕ → List Intent → List Intent
copied_to end [] = []
copied_to end (t ∷ ts) = to_end end t ∷ ts

-- what is answered to the next stretch of the component
abbrev pub stretch_reply : Mirror → Component → Reply
stretch_reply m k = Copied (reach m k) m.data_sectors

-- the change with the next stretch of the component as well, under a further key
abbrev pub stretched : Mirror → Component → Further → Changed → Changed
stretched m k f ch = record ch {
  components = advanced m k ∷ [];
  intents = copied_to (reach m k) ch.intents;
  further = ch.further ++ f ∷ [];
}
