-- Why an opening without a provider is refused, and what it does if it isn't.
use Rattle.std.specs.Prelude.{◌≡◌, ◌⊎◌, ◌≤◌, ◌<◌, ◌+◌, ◌++◌, ℕ, true, false, IsTrue, IsSome, IsSomeAnd, List, [], ◌∷◌, length, Option, Some, None, MatchOption, option_map, string_bytes}
use Rattle.gm_metadata.specs.Labels.{is_label}
use Rattle.gm_commands.specs.declared.command.Command.{Command}
use Rattle.gm_commands.specs.declared.command.Command.TheVariants.{Lost}
use Rattle.gm_commands.specs.Commands.{is_key, words_of}
use Rattle.gm_lists.specs.Ordered.{Has}
use Rattle.gm_state.specs.declared.intents.Intent.{Intent}
use Rattle.gm_state.specs.declared.intents.Reply.{Reply}
use Rattle.gm_state.specs.declared.records.Component.{Component}
use Rattle.gm_state.specs.Lookups.{component_of}
use Rattle.gm_state.specs.Readable.{AreReadable}
use Rattle.gm_state.specs.Records.{Records, IsState, members}
use Rattle.gm_state.specs.World.{World, Answered, Sound, present}
use Rattle.gm_refusals.specs.declared.refusals.CallRefusal.TheVariants.{NoKey, KeyTaken, NoRoom, ByRules}
use Rattle.gm_refusals.specs.declared.refusals.Refusal.TheVariants.{NotMember}
use Rattle.gm_refusals.specs.Refusals.{number_of_call}
use Rattle.gm_refusals.specs.WorldFacts.{seen_of}
use Rattle.gm_changes.specs.After.{after}
use Rattle.gm_changes.specs.Decides.{Makes, changed_by}
use Rattle.gm_rules.specs.Step.{Bad, CanAnswer}
use Rattle.gm_bench.specs.declared.loss.LossRefusal.{LossRefusal}
use Rattle.gm_bench.specs.declared.loss.LossRefusal.TheVariants.{ByCall, OnlySource, OnShelf}
use Rattle.gm_bench.specs.declared.loss.Loss.{Loss}
use Rattle.gm_bench.specs.declared.loss.Judged.{Judged}
use Rattle.gm_bench.specs.declared.loss.Judged.TheVariants.{Kept, Refused, New}
use Rattle.gm_bench.specs.declared.answer.Answer.TheVariants.{Done, Repeated, Refused as AnswerRefused}
use Rattle.gm_bench.specs.declared.take_up_without.Looked.{Looked}
use Rattle.gm_bench.specs.declared.take_up_without.TakenUp.{TakenUp}
use Rattle.gm_bench.specs.declared.take_up_without.TakenUp.TheVariants.{Carried, NotLost}
use Rattle.gm_state.specs.Rows.{Tables}
use Rattle.gm_registry.specs.Changes.{settled}
use Rattle.gm_registry.specs.Replies.{IsFree, count_of}
use Rattle.gm_bench.specs.Planning.{IsFitting}
use Rattle.gm_bench.specs.Losing.{dropped, left_to_lay, next_of, pending_after, remaining}
use Rattle.gm_bench.specs.Presence.{first_absent}
use Rattle.gm_bench.specs.Recovering.{IsAt, IsFound, LeavesOnly}
use Rattle.gm_bench.specs.Schedule.{IsStepWithout, LeavesCommit}
use Rattle.gm_rules.specs.AbstractCalls.{Call}
use Rattle.gm_changes.specs.Decides.{Changed}
use Rattle.gm_metadata.specs.Images.{Image, Sizes}
use Rattle.gm_shelf.specs.declared.shelf.Shelf.{Ghosts as ShelfGhosts}
use Rattle.sqlite.specs.Held.{Held}
use Rattle.sqlite_trees.specs.declared.store.Store.{Ghosts}

-- the number of a refusal
abbrev pub number_of_loss : LossRefusal → ℕ
number_of_loss (ByCall r) = number_of_call r
number_of_loss OnlySource = 27
number_of_loss OnShelf = 32

-- the words are those of a loss of the provider alone, of whatever mirror
pub record AreOfLoss (p words : List ℕ) : Type 0 where
  pub mirror : List ℕ
  pub label : IsTrue (is_label mirror)
  pub provider : IsTrue (is_label p)
  pub are : words ≡ words_of (Lost mirror (p ∷ []))

-- the command that gives the provider up; none if it is no component
abbrev pub loss_of : Records → List ℕ → Option Command
loss_of s p = option_map (λ k. Lost k.mirror (p ∷ [])) (component_of s p)

-- the answer is one to a loss of the provider under this key, of whatever mirror
pub record IsKeptLoss (w : World) (key p : List ℕ) (a : Answered) : Type 0 where
  pub kept : Has w.answered a
  pub key_is : a.key ≡ key
  pub mirror : List ℕ
  pub command : a.command ≡ Lost mirror (p ∷ [])

-- The refusal applies to an opening without the provider, after which the world is w once these
-- intents are carried out: that of the key; the rules' of the loss; a pending copy takes from the
-- provider, and its target has no other source; or the image is there.
abbrev pub IsBadLoss : World → List Intent → List ℕ → List ℕ → LossRefusal → Type 0
IsBadLoss w ts key p (ByCall NoKey) = is_key key ≡ false
IsBadLoss w ts key p (ByCall KeyTaken) =
    (a : Answered) × Has w.answered a × (a.key ≡ key) × (IsKeptLoss w key p a → ⊥)
IsBadLoss w ts key p (ByCall NoRoom) = 100000 ≤ length w.answered
IsBadLoss w ts key p (ByCall (ByRules r)) =
    MatchOption (loss_of w.state p) (r ≡ NotMember) (λ c. Bad w c r)
IsBadLoss w ts key p OnlySource =
    IsSomeAnd (loss_of w.state p) (λ c. next_of (after (seen_of w) c w.state) p ts ≡ None)
IsBadLoss w ts key p OnShelf = IsSome (present w p)

-- of those that apply it is the one with the least number, and the loss wasn't accepted before
pub record IsRefusedLoss (w : World) (ts : List Intent) (key p : List ℕ)
    (r : LossRefusal) : Type 0 where
  pub fresh : (a : Answered) → IsKeptLoss w key p a → ⊥
  pub applies : IsBadLoss w ts key p r
  pub least : (q : LossRefusal) → IsBadLoss w ts key p q → number_of_loss r ≤ number_of_loss q

-- nothing refuses the loss: what it makes, the records, the intents and the bytes after it, and
-- its words
pub record IsNewLoss (w : World) (ts : List Intent) (bytes : List (List ℕ)) (key p : List ℕ)
    (loss : Loss) : Type 0 where
  pub component : Component
  pub on : component_of w.state p ≡ Some component
  pub mirror : loss.mirror ≡ component.mirror
  pub can : CanAnswer w key (Lost component.mirror (p ∷ []))
  pub makes : Makes w.state (seen_of w) (Lost component.mirror (p ∷ [])) loss.change
  pub after : loss.after ≡ changed_by loss.change w.state
  pub next : List ℕ
  pub next_is : next_of loss.after p ts ≡ Some next
  pub intents : loss.intents.items
      ≡ pending_after p next ts (members loss.after.components component.mirror)
  pub to_lay : loss.bytes.items ≡ left_to_lay loss.intents.items bytes
  pub words : string_bytes loss.words ≡ words_of (Lost component.mirror (p ∷ []))
  pub away : present w p ≡ None

-- what is found of an opening without the provider, before anything is written
abbrev pub IsJudged : World → List Intent → List (List ℕ) → List ℕ → List ℕ → Judged → Type 0
IsJudged w ts bytes key p (Kept n reply) =
    (a : Answered) × IsKeptLoss w key p a × (a.number ≡ n) × (a.reply ≡ reply)
IsJudged w ts bytes key p (Refused r) = IsRefusedLoss w ts key p r
IsJudged w ts bytes key p (New loss) = IsNewLoss w ts bytes key p loss

-- the mirror, the change, the records after it, all that is pending then, and the words; and the
-- provider is away
pub record IsLossWith (s : Records) (size : Sizes) (ts : List Intent) (bytes : List (List ℕ))
    (n p words : List ℕ) (ch : Changed) (loss : Loss) : Type 0 where
  pub mirror : loss.mirror ≡ n
  pub change : loss.change ≡ ch
  pub after : loss.after ≡ changed_by ch s
  pub next : List ℕ
  pub next_is : next_of loss.after p ts ≡ Some next
  pub intents : loss.intents.items ≡ remaining p next ts ++ ch.intents
  pub to_lay : loss.bytes.items ≡ left_to_lay loss.intents.items bytes
  pub words_are : string_bytes loss.words ≡ words
  pub away : size p ≡ None

-- what a loss comes to whose change the rules allow, by the records and the sizes
abbrev pub IsRedirected : Records → Sizes → List Intent → List (List ℕ) → (n p words : List ℕ)
    → Changed → Judged → Type 0
IsRedirected s size ts bytes n p words ch (Kept number reply) = ⊥
IsRedirected s size ts bytes n p words ch (Refused (ByCall r)) = ⊥
IsRedirected s size ts bytes n p words ch (Refused OnlySource) =
    next_of (changed_by ch s) p ts ≡ None
IsRedirected s size ts bytes n p words ch (Refused OnShelf) =
    IsSome (next_of (changed_by ch s) p ts) × IsSome (size p)
IsRedirected s size ts bytes n p words ch (New loss) = IsLossWith s size ts bytes n p words ch loss

-- what is pending after this change of a loss can be read again, if what was pending could be
abbrev pub StayReadableBehind : Records → List ℕ → Changed → Type 0
StayReadableBehind s p ch = (ts : List Intent) (bytes : List (List ℕ)) (next : List ℕ)
    → AreReadable s bytes ts → next_of (changed_by ch s) p ts ≡ Some next
    → AreReadable (changed_by ch s) (left_to_lay (remaining p next ts ++ ch.intents) bytes)
    (remaining p next ts ++ ch.intents)

-- the same of a loss that was judged
abbrev pub StaysReadable : Records → List Intent → List (List ℕ) → Judged → Type 0
StaysReadable s ts bytes (Kept n reply) = Unit {0}
StaysReadable s ts bytes (Refused r) = Unit {0}
StaysReadable s ts bytes (New loss) = AreReadable s bytes ts
    → IsState loss.after × AreReadable loss.after loss.bytes.items loss.intents.items

-- The loss can be committed under the key, in place of the intents that are pending: its change
-- fits the tables, under one key, and after it no more than 17 intents more are pending.
pub record CanCommit (key : List ℕ) (ts : List Intent) (t : Tables) (loss : Loss) : Type 0 where
  pub key_ok : is_key key ≡ true
  pub free : IsFree t key
  pub room : count_of t < 100000
  pub once : loss.change.further ≡ []
  pub change : IsFitting loss.change (string_bytes loss.words) (settled t)
  pub few : length loss.intents.items ≤ length ts + 17

-- the same of a loss that was judged, if it is to be written
abbrev pub CanBeCommitted : List ℕ → List Intent → Tables → Judged → Type 0
CanBeCommitted key ts t (Kept n reply) = Unit {0}
CanBeCommitted key ts t (Refused r) = Unit {0}
CanBeCommitted key ts t (New loss) = CanCommit key ts t loss

-- the records are the world's, and so are the providers that are there
pub record AreOfWorld (s : Records) (size : Sizes) (w : World) : Type 0 where
  pub sound : Sound w
  pub records : s ≡ w.state
  pub sizes : present w ≡ size

-- of the intents that are to be carried out it needs this image first: of those that were pending,
-- if the loss was accepted before; and of those after the loss
abbrev pub IsLacking : World → List Intent → List (List ℕ) → List ℕ → List ℕ → Sizes → List ℕ
    → Type 0
IsLacking w ts bytes key p size q =
    ((a : Answered) × IsKeptLoss w key p a × (first_absent w.state size ts ≡ Some q))
    ⊎ ((loss : Loss) × IsNewLoss w ts bytes key p loss
    × (first_absent loss.after size loss.intents.items ≡ Some q))

-- ---- what a loss leaves

abbrev pub loss_call : List ℕ → List ℕ → List ℕ → Call
loss_call key n p = record { key = key; command = Lost n (p ∷ []) }

module _ {S H : Type 0} (g : Ghosts S) (j : ShelfGhosts H) where
  -- the tables that are found, of which the loss was judged
  pub record HasJudged (r : Held S) (h : H) (key p : List ℕ) (loss : Loss) (away : Image)
      (ts : List Intent) (bytes : List (List ℕ)) (u w : World) : Type 0 where
    pub found : IsFound g j r h away ts bytes u w
    pub judged : IsNewLoss w ts bytes key p loss

  -- it is committed under this number: the loss's intents lead to its step
  abbrev pub IsLost : Held S → H → Image → Loss → (key p : List ℕ) → List Intent → (u w : World)
      → ℕ → Type 0
  IsLost end h away loss key p ts u w n =
      (v : World) × (step : IsStepWithout w (loss_call key loss.mirror p) p (dropped p ts) v)
      × (step.reply ≡ loss.change.reply) × (n ≡ length w.answered + 1) × (present v ≡ j.size h)
      × (loss.after ≡ v.state) × IsFound g j end h away loss.intents.items loss.bytes.items u v

module _ {S H : Type 0} (g : Ghosts S) (j : ShelfGhosts H)
    (Was : Image → List Intent → List (List ℕ) → World → World → Type 0) (call : Call) (p : List ℕ)
  where
    -- until its commit nothing is written to the shelf
    abbrev pub Commits : (start mid : Held S) → H → Type 0
    Commits start mid h = (away : Image) (ts : List Intent) (bytes : List (List ℕ)) (u w : World)
        → Was away ts bytes u w
        → LeavesCommit g j start mid h away u w call p (dropped p ts)

    -- after its commit, what a stop leaves leads to the step
    abbrev pub Carries : (mid end : Held S) (h k : H) → Type 0
    Carries mid end h k = (away : Image) (ts : List Intent) (bytes : List (List ℕ)) (u w : World)
        → Was away ts bytes u w
        → (v : World) × IsStepWithout w call p (dropped p ts) v × (present v ≡ j.size h)
        × LeavesOnly g j mid end h k away u v

    -- it was stopped at its commit, or after that
    abbrev pub LeavesLoss : (start end : Held S) (h k : H) → Type 0
    LeavesLoss start end h k =
        (Commits start end h × (k ≡ h))
        ⊎ ((mid : Held S) × Commits start mid h × Carries mid end h k)

    -- it is carried out under this number, and the bench is at rest in the world of its step
    abbrev pub DoesLoss : (end : Held S) → H → ℕ → Reply → Type 0
    DoesLoss end k n reply = (away : Image) (ts : List Intent) (bytes : List (List ℕ)) (u w : World)
        → Was away ts bytes u w
        → (v : World) × (step : IsStepWithout w call p (dropped p ts) v) × (step.reply ≡ reply)
        × (n ≡ length w.answered + 1) × IsAt g j end k away [] [] v v

-- what was found of the loss, of these tables
module _ {S H : Type 0} (g : Ghosts S) (j : ShelfGhosts H) where
  pub record IsLooked (r : Held S) (h : H) (key p : List ℕ) (looked : Looked) (away : Image)
      (ts : List Intent) (bytes : List (List ℕ)) (u w : World) : Type 0 where
    pub found : IsFound g j r h away ts bytes u w
    pub state : looked.state ≡ w.state
    pub intents : looked.intents.items ≡ ts
    pub to_lay : looked.bytes.items ≡ bytes
    pub judged : IsJudged w ts bytes key p looked.judged

  module _ (key p : List ℕ) (start end : Held S) (h k : H) where
    -- nothing is committed, and what was pending may be carried out
    abbrev pub LeavesOpened : Type 0
    LeavesOpened = (away : Image) (ts : List Intent) (bytes : List (List ℕ)) (u w : World)
        → IsFound g j start h away ts bytes u w
        → LeavesOnly g j start end h k away u w

    -- that, or the loss is committed
    abbrev pub LeavesWithout : Type 0
    LeavesWithout = LeavesOpened
        ⊎ ((n : List ℕ) × (gone : List Intent)
        × ((away : Image) (ts : List Intent) (bytes : List (List ℕ)) (u w : World)
        → IsFound g j start h away ts bytes u w → gone ≡ dropped p ts)
        × LeavesLoss g j (IsFound g j start h) (loss_call key n p) p start end h k)

    -- nothing is committed unless the loss is answered as done
    abbrev pub KeepsUndone : TakenUp → Type 0
    KeepsUndone (Carried (Done n reply) redone) = Unit {0}
    KeepsUndone (Carried (Repeated n reply) redone) = LeavesOpened
    KeepsUndone (Carried (AnswerRefused why) redone) = Unit {0}
    KeepsUndone (NotLost why) = LeavesOpened

    -- an image is lacking, and nothing is committed
    abbrev pub LacksFirst : List ℕ → Type 0
    LacksFirst q = LeavesOpened
        × ((away : Image) (ts : List Intent) (bytes : List (List ℕ)) (u w : World)
        → IsFound g j start h away ts bytes u w → IsLacking w ts bytes key p (j.size h) q)

    -- what is answered, and how many intents were pending
    abbrev pub DoesWithout : TakenUp → Type 0
    DoesWithout (Carried (Done n reply) redone) =
        (m : List ℕ) × (gone : List Intent)
        × ((away : Image) (ts : List Intent) (bytes : List (List ℕ)) (u w : World)
        → IsFound g j start h away ts bytes u w → (gone ≡ dropped p ts)
        × (redone ≡ length ts))
        × DoesLoss g j (IsFound g j start h) (loss_call key m p) p end k n reply
    DoesWithout (Carried (Repeated n reply) redone) =
        (away : Image) (ts : List Intent) (bytes : List (List ℕ)) (u w : World)
        → IsFound g j start h away ts bytes u w
        → ((a : Answered) × IsKeptLoss w key p a × (a.number ≡ n) × (a.reply ≡ reply))
        × (redone ≡ length ts) × IsAt g j end k away [] [] w w
    DoesWithout (Carried (AnswerRefused why) redone) = ⊥
    DoesWithout (NotLost why) =
        (away : Image) (ts : List Intent) (bytes : List (List ℕ)) (u w : World)
        → IsFound g j start h away ts bytes u w
        → IsRefusedLoss w ts key p why
