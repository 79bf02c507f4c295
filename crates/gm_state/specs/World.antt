-- The abstract bench.
use Rattle.std.specs.Prelude.{◌≡◌, ◌≢◌, ◌==◌, Option, ◌+◌, ◌-◌, ◌/◌, ◌<◌, ◌≤◌, ℕ, Bool, true, false, IsTrue, List, [], ◌∷◌, length, Some, None, if◌then◌else◌}
use Rattle.gm_metadata.specs.Images.{Image, Sizes}
use Rattle.gm_metadata.specs.Reading.{encoded}
use Rattle.gm_metadata.specs.Sector.{Bears, IsMetadata}
use Rattle.gm_metadata.specs.declared.metadata.Metadata.{Metadata}
use Rattle.gm_commands.specs.declared.command.Command.{Command}
use Rattle.gm_state.specs.declared.intents.Intent.{Intent}
use Rattle.gm_state.specs.declared.intents.Reply.{Reply}
use Rattle.gm_state.specs.declared.intents.Reply.TheVariants.{Plain, Copied}
use Rattle.gm_state.specs.declared.records.Mirror.{Mirror}
use Rattle.gm_state.specs.declared.records.Component.{Component}
use Rattle.gm_lists.specs.Ordered.{Has}
use Rattle.gm_state.specs.Records.{Records, IsState, held_by}
use Rattle.gm_state.specs.Lookups.{metadata, component_of, mirror_of}
use Rattle.gm_commands.specs.Commands.{CommandFits}
use Rattle.gm_state.specs.Intents.{IsOf, any_copies}
use Rattle.gm_commands.specs.Commands.{is_key}

-- an answered key: its command, the command's number and the reply
pub record Answered : Type 0 where
  pub key : List ℕ
  pub command : Command
  pub number : ℕ
  pub reply : Reply

-- the records, the data of each mirror by its name and the sector's number, the answered keys with
-- the newest first, what each provider holds and how many sectors it has, also while it is away,
-- and which are there
pub record World : Type 0 where
  pub state : Records
  pub holds : List ℕ → ℕ → List ℕ
  pub answered : List Answered
  pub shelf : Image
  pub size : Sizes
  pub there : List ℕ → Bool

-- the sizes of the providers that are there
abbrev pub present : World → Sizes
present w p = if w.there p then w.size p else None

-- the first k sectors of p are the first k of the list
abbrev pub Below : Image → (ℕ → List ℕ) → List ℕ → ℕ → Type 0
Below shelf list p k = (i : ℕ) → i < k → shelf p i ≡ list i

-- all n data sectors of the mirror on p are its list
abbrev pub Whole : World → Mirror → List ℕ → Type 0
Whole w m p = Below w.shelf (w.holds m.name) p m.data_sectors

-- a copy holds some of its sectors, at most all, and no more than an image has
abbrev pub ReplyFits : Reply → Type 0
ReplyFits Plain = Unit {0}
ReplyFits (Copied held total) = (0 < held) × (held ≤ total) × (total ≤ 1048576)

pub record AnswerFits (a : Answered) : Type 0 where
  pub key : IsTrue (is_key a.key)
  pub command : CommandFits a.command
  pub reply : ReplyFits a.reply

-- the numbers count from 1 without gaps
abbrev pub AreNumbered : List Answered → Type 0
AreNumbered [] = Unit {0}
AreNumbered (a ∷ older) = (a.number ≡ length older + 1) × AreNumbered older

-- The rules of the answered keys.
pub record AreAnswers (answers : List Answered) : Type 0 where
  pub count : length answers ≤ 100000
  pub fit : (a : Answered) → Has answers a → AnswerFits a
  pub numbers : AreNumbered answers
  pub keys : (a b : Answered) → Has answers a → Has answers b → a.key ≡ b.key → a ≡ b

-- The rules hold, each component has its registered size, its last sector says its metadata, and
-- its data are what its record says: an ACTIVE one is whole, one that is being copied to holds the
-- list below its offset.
pub record Sound (w : World) : Type 0 where
  pub state : IsState w.state
  pub answers : AreAnswers w.answered
  pub sizes : (m : Mirror) (k : Component) → IsOf w.state m k → w.size k.provider ≡ Some k.sectors
  pub full : (m : Mirror) (k : Component) → IsOf w.state m k
      → w.shelf k.provider (k.sectors - 1) ≡ encoded (metadata m k)
  pub whole : (m : Mirror) (k : Component) → IsOf w.state m k
      → Below w.shelf (w.holds m.name) k.provider (held_by k.disk m.data_sectors)

-- how many data sectors metadata claim to hold: all of the mirror's, or those below the offset of a
-- copy
abbrev pub claimed : Mirror → Metadata → ℕ
claimed m d = if d.dflags.synchronizing then d.sync_offset / 512 else m.data_sectors

-- the mirror is there, and has this syncid
abbrev pub has_syncid : Option Mirror → ℕ → Bool
has_syncid None n = false
has_syncid (Some m) n = m.syncid == n

-- the data of a mirror that an image with this syncid claims on the way from u to w: those after
-- if it has the syncid of after, else those before
abbrev pub data_at : World → World → List ℕ → ℕ → ℕ → List ℕ
data_at u w name syncid i =
    if has_syncid (mirror_of w.state name) syncid then w.holds name i else u.holds name i

-- On the way from u to w no image of a component of u claims a sector that it lacks, if its last
-- sector bears metadata of its mirror, with neither INACTIVE nor DIRTY.
abbrev pub Claims : World → World → Image → Type 0
Claims u w x =
    (m : Mirror) (k : Component) (d : Metadata) → IsOf u.state m k → IsMetadata d
    → Bears (x k.provider (k.sectors - 1)) d
    → d.name ≡ m.name → d.mid ≡ m.mid → d.dflags.inactive ≡ false → d.dflags.dirty ≡ false
    → Below x (data_at u w m.name d.syncid) k.provider (claimed m d)

-- The same of the components that w has and u hasn't: they claim of w's data.
abbrev pub NewClaims : World → World → Image → Type 0
NewClaims u w x =
    (m : Mirror) (k : Component) (d : Metadata) → IsOf w.state m k
    → component_of u.state k.provider ≡ None → IsMetadata d
    → Bears (x k.provider (k.sectors - 1)) d
    → d.name ≡ m.name → d.mid ≡ m.mid → d.dflags.inactive ≡ false → d.dflags.dirty ≡ false
    → Below x (w.holds m.name) k.provider (claimed m d)

-- what is copied to a component of u is its mirror's data, and the mirror stays, with the same data
abbrev pub CopiesData : World → World → List Intent → Type 0
CopiesData u w ts =
    (m : Mirror) (k : Component) → IsOf u.state m k → (i : ℕ) → any_copies ts k.provider i ≡ true
    → (w.shelf k.provider i ≡ u.holds m.name i) × (w.holds m.name i ≡ u.holds m.name i)
    × (mirror_of w.state m.name ≢ None)
