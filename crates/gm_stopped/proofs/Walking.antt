-- The walk back over the last commands, one at a time.
use Rattle.gm_stopped.proofs.Common.{◌≡◌, ◌∙◌, ℕ, ◌+◌, ◌<◌, ◌≤◌, true, false, List, ◌∷◌, Option, Some, None, length, take, drop, slice_get, nat_lt, sym, ap, refl, get_or, suc, arith, lt-ltb, drop-cons, drop_of_length-le, slice_get_past, slice_get_read}
use Rattle.gm_commands.specs.declared.command.Command.{Command}
use Rattle.gm_state.specs.declared.intents.Intent.{Intent}
use Rattle.gm_state.specs.Records.{Records}
use Rattle.gm_stopped.specs.Losses.{before_loss, passes, stopped_after}

-- the end of a list, from an element of it on
from_here : (cs : List Command) (i : ℕ) (c : Command) → i < length cs → c ≡ get_or cs i c
    → drop i cs ≡ c ∷ drop (i + 1) cs
from_here cs i c h is =
    let next : suc i ≡ i + 1 = omega arith in
    drop-cons cs i c h ∙ (ap (λ (x : Command). x ∷ drop (suc i) cs) (sym is)
    ∙ ap (λ (j : ℕ). c ∷ drop j cs) next)

module _ (s : Records) (ts : List Intent) (passed : ℕ) (c : Command) (older : List Command) where
  -- the newest command, if it isn't passed, is the one that was stopped
  pub ends_on : passes (before_loss s ts c) ≡ false
      → stopped_after s ts passed (c ∷ older) ≡ record { command = Some c; losses = passed }
  ends_on not_passed = rw not_passed refl

  -- a loss that left intents before its own is passed
  pub passes_on : (n : ℕ) → before_loss s ts c ≡ Some n → 0 < n
      → stopped_after s ts passed (c ∷ older) ≡ stopped_after s (take n ts) (passed + 1) older
  passes_on n some left = let t : nat_lt 0 n ≡ true = lt-ltb 0 n left in rw some (rw t refl)

module _ (s : Records) (ts : List Intent) (cs : List Command) (passed i : ℕ)
    (same : passed ≡ i) where
  -- the walk stops at a command that isn't passed
  pub stops : (c : Command) → i < length cs → c ≡ get_or cs i c
      → passes (before_loss s ts c) ≡ false
      → stopped_after s ts passed (drop i cs)
      ≡ record { command = slice_get cs passed; losses = passed }
  stops c h is not_passed =
      let at : slice_get cs i ≡ Some c = slice_get_read cs (length cs) i c refl h is in
      ap (stopped_after s ts passed) (from_here cs i c h is)
      ∙ (ends_on s ts passed c (drop (i + 1) cs) not_passed
      ∙ rw same (ap (λ (o : Option Command). record { command = o; losses = i }) (sym at)))

  -- it goes on at one that is passed
  pub goes_on : (c : Command) (n : ℕ) → i < length cs → c ≡ get_or cs i c
      → before_loss s ts c ≡ Some n → 0 < n
      → stopped_after s ts passed (drop i cs)
      ≡ stopped_after s (take n ts) (passed + 1) (drop (i + 1) cs)
  goes_on c n h is some left = ap (stopped_after s ts passed) (from_here cs i c h is)
      ∙ passes_on s ts passed c (drop (i + 1) cs) n some left

  -- at the end no command is known
  pub runs_out : length cs ≤ i
      → stopped_after s ts passed (drop i cs)
      ≡ record { command = slice_get cs passed; losses = passed }
  runs_out past =
      let none : slice_get cs i ≡ None = slice_get_past cs i past in
      ap (stopped_after s ts passed) (drop_of_length-le cs past)
      ∙ rw same (ap (λ (o : Option Command). record { command = o; losses = i }) (sym none))
