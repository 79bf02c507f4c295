-- What a line asks, by whether it is text.
use Rattle.gm_lines.proofs.Common.{◌≡◌, ◌≤◌, ◌∙◌, ℕ, nat_lt, Bool, true, false, true≢false, refl, sym, ap, arith, List, ◌∷◌, Option, Some, None, codes, length, nat_tests, spelled, Asked, Nothing, Wrong, Call, asked_by, called, pieces}
use Rattle.std.proofs.lemmas.Str.{IsUtf8-from_is_utf8, is_utf8-from_IsUtf8}
use Rattle.std.specs.Str.{IsUtf8, is_utf8}
use Rattle.gm_commands.specs.declared.command.Command.{Command}
use Rattle.gm_lines.specs.Asked.{asked}

abbrev pub IsShort : List ℕ → Type 0
IsShort text = length text ≤ 131072

pub asked_text : (text : List ℕ) → IsShort text → IsUtf8 text → asked text ≡ asked_by (pieces text)
unfolding asked
asked_text text short is =
    let test : nat_lt 131072 (length text) ≡ false = grind (arith, nat_tests) in
    rw (test, is_utf8-from_IsUtf8 text is) refl

no_text : (text : List ℕ) (b : Bool) → is_utf8 text ≡ b → (IsUtf8 text → ⊥) → is_utf8 text ≡ false
no_text text true e not = absurd (not (IsUtf8-from_is_utf8 text e))
no_text text false e not = e

pub asked_bytes : (text : List ℕ) → IsShort text → (IsUtf8 text → ⊥)
    → asked text ≡ Wrong (codes "?")
unfolding asked
asked_bytes text short not =
    let test : nat_lt 131072 (length text) ≡ false = grind (arith, nat_tests) in
    rw (test, no_text text _ refl not) refl

abbrev is_call : Asked → Bool
is_call Nothing = false
is_call (Wrong key) = false
is_call (Call key command) = true

abbrev command_in : Command → Asked → Command
command_in other Nothing = other
command_in other (Wrong key) = other
command_in other (Call key command) = command

called_so : (key : List ℕ) (found : Option Command) (other : List ℕ) (command : Command)
    → called key found ≡ Call other command → Call key command ≡ called key found
called_so key None other command e = absurd (true≢false (sym (ap is_call e)))
called_so key (Some known) other command e = ap (Call key) (sym (ap (command_in command) e))

-- a command that a line asks is asked under its first piece
pub under_first : (key : List ℕ) (words : List (List ℕ)) (line : List ℕ) (command : Command)
    → asked line ≡ asked_by (key ∷ words)
    → ((other : List ℕ) × (asked line ≡ Call other command)) → Call key command ≡ asked line
under_first key words line command is asks =
    called_so key (spelled words) asks.0 command (sym is ∙ asks.1) ∙ sym is
