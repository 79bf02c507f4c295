-- The step of the abstract bench by a command, and the plan that carries it out.
use Rattle.std.specs.Prelude.{◌≡◌, ◌+◌, ◌-◌, ◌<◌, ◌==◌, ◌&&◌, ◌||◌, ℕ, Bool, IsTrue, true, false, List, ◌∷◌, length, Some, None, unwrap_or}
use Rattle.std.specs.List.{list_any}
use Rattle.gm_metadata.specs.Images.{same_label, zeros}
use Rattle.gm_metadata.specs.Reading.{encoded}
use Rattle.gm_metadata.specs.Sector.{Bears}
use Rattle.gm_metadata.specs.declared.metadata.Metadata.{Metadata}
use Rattle.gm_taste.specs.declared.tasted.Member.{Member}
use Rattle.gm_commands.specs.declared.command.Command.{Command}
use Rattle.gm_commands.specs.declared.command.Command.TheVariants as commands
use Rattle.gm_state.specs.declared.intents.Intent.{Intent}
use Rattle.gm_state.specs.declared.intents.Intent.TheVariants.{Meta}
use Rattle.gm_state.specs.declared.intents.Reply.{Reply}
use Rattle.gm_state.specs.declared.records.Mirror.{Mirror}
use Rattle.gm_state.specs.declared.records.Component.{Component}
use Rattle.gm_commands.specs.Commands.{CommandFits}
use Rattle.gm_lists.specs.Ordered.{Has}
use Rattle.gm_state.specs.Lookups.{metadata, component_of}
use Rattle.gm_state.specs.Intents.{IsOf, is_last, IsRedo, InOrder, IsAtHand}
use Rattle.gm_state.specs.Readable.{AreReadable}
use Rattle.gm_state.specs.World.{World, Answered, Sound, Claims, Below, CopiesData, present}
use Rattle.gm_commands.specs.Commands.{is_key}
use Rattle.gm_refusals.specs.declared.refusals.Refusal.{Refusal}
use Rattle.gm_refusals.specs.Refusals.{is_listed}
use Rattle.gm_state.specs.Records.{Records, held_by}
use Rattle.gm_refusals.specs.Applies.{applies, members_named}
use Rattle.gm_refusals.specs.WorldFacts.{seen_of}
use Rattle.gm_refusals.specs.Adoptable.{source_in, data_of}
use Rattle.gm_changes.specs.After.{after, bytes_of, intents_of, laid_over, reply_to, clears, fills}

-- the refusal applies to the command in the world
pub record Bad (u : World) (c : Command) (r : Refusal) : Type 0 where
  pub listed : is_listed c r ≡ true
  pub met : applies u.state (seen_of u) c r ≡ true

-- sector j of q is the last one of a component after the command, or of a provider that is cleared,
-- or the command copies it or lays over it
abbrev pub is_changed : World → Command → World → List ℕ → ℕ → Bool
is_changed u c w q j =
    list_any (λ k. same_label k.provider q && k.sectors == j + 1) w.state.components ||
    ((clears u.state c q && is_last (u.size q) j) || fills u.state c q j)

-- the data list of a new mirror: the first sectors of its provider, or of the source that it is
-- adopted from
abbrev pub NewData : World → Command → World → Type 0
NewData u (commands.Label new) w = (i : ℕ) → i + 1 < unwrap_or (u.size new.provider) 0
    → w.holds new.name i ≡ u.shelf new.provider i
NewData u (commands.Insert new) w = Unit {0}
NewData u (commands.Remove n p) w = Unit {0}
NewData u (commands.Deactivate n p) w = Unit {0}
NewData u (commands.Activate n p) w = Unit {0}
NewData u (commands.Forget n) w = Unit {0}
NewData u (commands.Rebuild n p) w = Unit {0}
NewData u (commands.Configure n settings) w = Unit {0}
NewData u (commands.Clear p) w = Unit {0}
NewData u (commands.Destroy n) w = Unit {0}
NewData u (commands.Lost n ps) w = Unit {0}
NewData u (commands.Advance n p) w = Unit {0}
NewData u (commands.Patch n first sectors) w = Unit {0}
NewData u (commands.Adopt n ps) w = (b : Member) → source_in (seen_of u) ps ≡ Some b → (i : ℕ)
    → i < data_of b.metadata → w.holds n i ≡ u.shelf b.provider i

-- the answer that the command's key keeps from now on
abbrev pub answer : World → List ℕ → Command → Reply → Answered
answer u key c r = record { key = key; command = c; number = length u.answered + 1; reply = r }

-- the command under the key takes u to w, and is answered by r
pub record Step (u : World) (key : List ℕ) (c : Command) (w : World) (r : Reply) : Type 0 where
  pub good : (q : Refusal) → Bad u c q → ⊥
  pub records : w.state ≡ after (seen_of u) c u.state
  pub reply : r ≡ reply_to c u.state
  pub answered : w.answered ≡ answer u key c r ∷ u.answered
  pub sizes : (q : List ℕ) → w.size q ≡ u.size q
  pub there : (q : List ℕ) → w.there q ≡ u.there q
  pub holds : (m : Mirror) → Has u.state.mirrors m → (i : ℕ)
      → w.holds m.name i ≡ laid_over c m.name (u.holds m.name) i
  pub new : NewData u c w
  pub held : (m : Mirror) (k : Component) → IsOf w.state m k
      → Below w.shelf (w.holds m.name) k.provider (held_by k.disk m.data_sectors)
  pub full : (m : Mirror) (k : Component) → IsOf w.state m k
      → w.shelf k.provider (k.sectors - 1) ≡ encoded (metadata m k)
  pub cleared : (q : List ℕ) (j : ℕ) → clears u.state c q ≡ true → is_last (u.size q) j ≡ true
      → w.shelf q j ≡ zeros
  pub others : (q : List ℕ) (j : ℕ) → is_changed u c w q j ≡ false → w.shelf q j ≡ u.shelf q j

-- the key is free and there is room for one more answer; the command is what words can say
pub record CanAnswer (u : World) (key : List ℕ) (c : Command) : Type 0 where
  pub key_ok : IsTrue (is_key key)
  pub free : (a : Answered) → Has u.answered a → a.key ≡ key → ⊥
  pub room : length u.answered < 100000
  pub fits : CommandFits c

-- the last sector of a component that is new bears nothing before the command
abbrev pub NewAreBare : World → World → Type 0
NewAreBare u w = (k : Component) → Has w.state.components k → component_of u.state k.provider ≡ None
    → (d : Metadata) → Bears (u.shelf k.provider (k.sectors - 1)) d → ⊥

-- a provider that label or insert makes a component bore nothing before
abbrev pub WereBare : Command → World → World → Type 0
WereBare (commands.Label new) u w = NewAreBare u w
WereBare (commands.Insert new) u w = NewAreBare u w
WereBare _ u w = Unit {0}

-- the provider is that of a component of the mirror that the command names
abbrev pub IsOwn : Records → Command → List ℕ → Type 0
IsOwn s c p = (k : Component) × Has (members_named s c) k × (k.provider ≡ p)

-- The intents ts, with these sectors to lay over data, carry out the command's step from u to w:
-- they name every sector that it changes and say what w holds there, no source of a copy is a
-- place, data come before claims, and what was claimed on the way stays true. A registry that keeps
-- them can be read again, what they read and write is there, they write metadata of the command's
-- mirror alone, and what they copy is the data of the mirror.
pub record Plan (u : World) (key : List ℕ) (c : Command) (ts : List Intent)
    (bytes : List (List ℕ)) (w : World) : Type 0 where
  pub step : Step u key c w (reply_to c u.state)
  pub sound : Sound w
  pub redo : IsRedo w.state bytes u.size ts u.shelf w.shelf
  pub order : InOrder u.size ts
  pub claims : Claims u w w.shelf
  pub readable : AreReadable w.state bytes ts
  pub at_hand : (t : Intent) → Has ts t → IsAtHand (present u) t
  pub own : (p : List ℕ) → Has ts (Meta p) → IsOwn w.state c p
  pub copies : CopiesData u w ts
  pub bare : WereBare c u w

-- there is a world that the command steps to, and its intents carry that out
abbrev pub HasPlan : World → List ℕ → Command → Type 0
HasPlan u key c = (w : World) × Plan u key c (intents_of c u.state w.state) (bytes_of c) w
