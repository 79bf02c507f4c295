-- Balances, their codes and names.
use Rattle.std.specs.Prelude.{ℕ, List, Option, Some, codes, ◌==◌, nat_lt, if◌then◌else◌}
use Rattle.std.specs.Prelude as prelude
use Rattle.gm_metadata.specs.declared.balance.Balance.{Balance}
use Rattle.gm_metadata.specs.declared.balance.Balance.TheVariants.{RoundRobin, Load, Split, Prefer}
use Rattle.gm_metadata.specs.declared.balance.Balance.TheVariants as balances

-- the code of a balance in a sector
abbrev pub balance_code : Balance → ℕ
balance_code balances.None = 0
balance_code RoundRobin = 1
balance_code Load = 2
balance_code Split = 3
balance_code Prefer = 4

-- the balance that has the code, of 0 to 4
abbrev pub balance_in : ℕ → Balance
balance_in code =
    if code == 0 then balances.None
    else (if code == 1 then RoundRobin
    else (if code == 2 then Load
    else (if code == 3 then Split
    else Prefer)))

-- the balance that a code stands for, if any
abbrev pub balance_of : ℕ → Option Balance
balance_of code = if nat_lt code 5 then Some (balance_in code) else prelude.None

-- the name of a balance in words and texts
abbrev pub balance_name : Balance → List ℕ
balance_name balances.None = codes "none"
balance_name RoundRobin = codes "round-robin"
balance_name Load = codes "load"
balance_name Split = codes "split"
balance_name Prefer = codes "prefer"
