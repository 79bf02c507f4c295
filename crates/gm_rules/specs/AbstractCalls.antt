-- What the abstract bench answers to calls, one after another.
use Rattle.std.specs.Prelude.{◌≡◌, ◌≢◌, ◌≤◌, ℕ, false, List, [], ◌∷◌, length}
use Rattle.gm_commands.specs.declared.command.Command.{Command}
use Rattle.gm_state.specs.declared.intents.Reply.{Reply}
use Rattle.gm_lists.specs.Ordered.{Has}
use Rattle.gm_state.specs.World.{World, Answered}
use Rattle.gm_commands.specs.Commands.{is_key}
use Rattle.gm_refusals.specs.declared.refusals.CallRefusal.{CallRefusal}
use Rattle.gm_refusals.specs.declared.refusals.CallRefusal.TheVariants.{NoKey, KeyTaken, NoRoom, ByRules}
use Rattle.gm_refusals.specs.Refusals.{number_of_call}
use Rattle.gm_rules.specs.Step.{Step, Bad}

-- a key and a command
pub record Call : Type 0 where
  pub key : List ℕ
  pub command : Command

-- what a call is answered: done or repeated with its number and reply, or refused
pub data Answer : Type 0 where
  Done : ℕ → Reply → Answer
  Repeated : ℕ → Reply → Answer
  Refused : CallRefusal → Answer

-- the refusal applies to the call: the key has no form of a key, it was accepted for another
-- command, 100,000 commands were accepted, or the rules refuse the command in the world
abbrev pub IsBadCall : World → Call → CallRefusal → Type 0
IsBadCall u call NoKey = is_key call.key ≡ false
IsBadCall u call KeyTaken = (a : Answered) × Has u.answered a × (a.key ≡ call.key)
    × (a.command ≢ call.command)
IsBadCall u call NoRoom = 100000 ≤ length u.answered
IsBadCall u call (ByRules r) = Bad u call.command r

-- of the refusals that apply it is the one with the least number
pub record IsRefused (u : World) (call : Call) (r : CallRefusal) : Type 0 where
  pub applies : IsBadCall u call r
  pub least : (q : CallRefusal) → IsBadCall u call q → number_of_call r ≤ number_of_call q

-- the call was accepted before: its answer is kept
pub record IsKept (u : World) (call : Call) (a : Answered) : Type 0 where
  pub kept : Has u.answered a
  pub key : a.key ≡ call.key
  pub command : a.command ≡ call.command

-- one call takes u to w: an answered key repeats its answer, a call that is refused is told the
-- least, any other is a step
abbrev pub Calls : World → Call → World → Answer → Type 0
Calls u call w (Repeated n r) = (w ≡ u) × (a : Answered) × IsKept u call a × (a.number ≡ n)
    × (a.reply ≡ r)
Calls u call w (Refused r) = (w ≡ u) × ((a : Answered) → IsKept u call a → ⊥) × IsRefused u call r
Calls u call w (Done n r) = ((a : Answered) → IsKept u call a → ⊥)
    × ((r : CallRefusal) → IsBadCall u call r → ⊥) × (n ≡ length w.answered)
    × Step u call.key call.command w r

-- calls one after another
abbrev pub Run : World → List Call → World → List Answer → Type 0
Run u [] w [] = w ≡ u
Run u (call ∷ calls) w (answer ∷ answers) =
    (v : World) × Calls u call v answer × Run v calls w answers
Run u [] w (answer ∷ answers) = ⊥
Run u (call ∷ calls) w [] = ⊥
