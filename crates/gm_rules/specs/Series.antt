-- A series: several advances of one component, accepted together, and what carries all of them out.
use Rattle.std.specs.Prelude.{◌≡◌, ◌+◌, ℕ, List, [], ◌∷◌, length, map}
use Rattle.std.specs.String.{string_bytes}
use Rattle.gm_commands.specs.declared.command.Command.{Command}
use Rattle.gm_commands.specs.declared.command.Command.TheVariants.{Advance}
use Rattle.gm_state.specs.declared.intents.Intent.{Intent}
use Rattle.gm_state.specs.declared.intents.Intent.TheVariants.{Meta}
use Rattle.gm_state.specs.declared.intents.Reply.{Reply}
use Rattle.gm_lists.specs.Ordered.{Has}
use Rattle.gm_state.specs.Intents.{IsRedo, InOrder, IsAtHand}
use Rattle.gm_state.specs.Readable.{AreReadable}
use Rattle.gm_state.specs.World.{World, Answered, Sound, Claims, CopiesData, present}
use Rattle.gm_changes.specs.declared.change.Further.{Further}
use Rattle.gm_changes.specs.After.{bytes_of, intents_of}
use Rattle.gm_changes.specs.Decides.{Changed, PutsInPlace, changed_by}
use Rattle.gm_changes.specs.Stretches.{copied_to}
use Rattle.gm_rules.specs.AbstractCalls.{Answer, Call, Calls, Done}
use Rattle.gm_rules.specs.Step.{CanAnswer, IsOwn, Step, WereBare}

-- a key, and what is answered under it
pub record Keyed : Type 0 where
  pub key : List ℕ
  pub reply : Reply

abbrev pub keyed_of : Further → Keyed
keyed_of f = record { key = string_bytes f.key; reply = f.reply }

-- the keys of a change, each with its reply: the first, and the further ones
abbrev pub keyed_in : List ℕ → Changed → List Keyed
keyed_in key ch = record { key = key; reply = ch.reply } ∷ map keyed_of ch.further

-- the calls of a command under these keys
abbrev pub calls_of : Command → List Keyed → List Call
calls_of c ks = map (λ k. record { key = k.key; command = c }) ks

-- what they are answered if each is done, after so many commands
abbrev pub answers_after : ℕ → List Keyed → List Answer
answers_after n [] = []
answers_after n (k ∷ ks) = Done (n + 1) k.reply ∷ answers_after (n + 1) ks

-- the answers that these keys keep, put one after another before those that there were
abbrev pub answered_on : List Answered → Command → List Keyed → List Answered
answered_on old c [] = old
answered_on old c (k ∷ ks) = answered_on (record {
  key = k.key;
  command = c;
  number = length old + 1;
  reply = k.reply;
} ∷ old) c ks

-- the reply under the last of the keys, or this one if there is none
abbrev pub last_reply : Reply → List Keyed → Reply
last_reply r [] = r
last_reply r (k ∷ ks) = last_reply k.reply ks

-- all are done, numbered on from n, and the last with this reply
abbrev pub DoneFrom : ℕ → Reply → List Answer → Type 0
DoneFrom n r [] = ⊥
DoneFrom n r (a ∷ []) = a ≡ Done n r
DoneFrom n r (a ∷ (b ∷ more)) = (s : Reply) × (a ≡ Done n s) × DoneFrom (n + 1) r (b ∷ more)

-- the first of the calls is answered so, and changes nothing
abbrev pub IsFirstAnswered : World → List Call → Answer → Type 0
IsFirstAnswered u [] a = ⊥
IsFirstAnswered u (call ∷ more) a = Calls u call u a

-- one call after another takes u to w, each by its step
abbrev pub Steps : World → List Call → World → Type 0
Steps u [] w = w ≡ u
Steps u (call ∷ more) w =
    (v : World) × (r : Reply) × Step u call.key call.command v r × Steps v more w

-- the command can be answered under each key in turn, and is a step with that reply
abbrev pub InTurn : World → Command → List Keyed → World → Type 0
InTurn u c [] w = w ≡ u
InTurn u c (k ∷ ks) w = CanAnswer u k.key c × (v : World) × Sound v × Step u k.key c v k.reply
    × InTurn v c ks w

-- one key, or several of an advance
abbrev pub IsSeries : Command → List Keyed → Type 0
IsSeries c [] = ⊥
IsSeries c (k ∷ []) = Unit {0}
IsSeries c (k ∷ (l ∷ ks)) = (n : List ℕ) × (p : List ℕ) × (c ≡ Advance n p)

-- The intents are those of the command, and if that copies they copy as far as the last stretch.
abbrev pub AreIntentsOf : World → Command → World → List Intent → Type 0
AreIntentsOf u c w ts = (end : ℕ) × (ts ≡ copied_to end (intents_of c u.state w.state))

-- The command is accepted under each key of the change in turn, which takes u to w; and the
-- change's records, intents and sectors to lay over data are those of all: as a plan's, they name
-- every sector that is changed and say what w holds there, and keep what is claimed on the way.
pub record SeriesPlan (u : World) (key : List ℕ) (c : Command) (ch : Changed) (w : World) : Type 0
  where
    pub turns : InTurn u c (keyed_in key ch) w
    pub series : IsSeries c (keyed_in key ch)
    pub records : changed_by ch u.state ≡ w.state
    pub in_place : PutsInPlace u.state ch
    pub intents : AreIntentsOf u c w ch.intents
    pub bytes : ch.bytes ≡ bytes_of c
    pub sound : Sound w
    pub redo : IsRedo w.state ch.bytes u.size ch.intents u.shelf w.shelf
    pub order : InOrder u.size ch.intents
    pub claims : Claims u w w.shelf
    pub readable : AreReadable w.state ch.bytes ch.intents
    pub at_hand : (t : Intent) → Has ch.intents t → IsAtHand (present u) t
    pub own : (p : List ℕ) → Has ch.intents (Meta p) → IsOwn w.state c p
    pub copies : CopiesData u w ch.intents
    pub bare : WereBare c u w
