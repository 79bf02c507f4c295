-- A word says its value, and has no space in it.
use Rattle.gm_commands.proofs.Common.{◌≡◌, ◌∙◌, ℕ, ◌<◌, ◌^◌, ◌==◌, not, Bool, true, false, cond, refl, sym, ap, arith, List, get_or, decimal, decimal_injective, balance_name, BalanceWord, Load, Prefer, RoundRobin, Split, balance_of_word, on_where}
use Rattle.gm_metadata.specs.declared.flags.MirrorFlags.{MirrorFlags}
use Rattle.gm_commands.proofs.OneParting.{spaceless, decimal_spaceless}

word_back : List ℕ → BalanceWord
word_back w =
    cond (get_or w 0 0 == 108) Load (cond (get_or w 0 0 == 112) Prefer
    (cond (get_or w 0 0 == 114) RoundRobin Split))

word_again : (b : BalanceWord) → word_back (balance_name (balance_of_word b)) ≡ b
unfolding word_back
word_again Load = refl
word_again Prefer = refl
word_again RoundRobin = refl
word_again Split = refl

switch_back : List ℕ → Bool
switch_back w = get_or w 1 0 == 110

switch_again : (b : Bool) → switch_back (on_where b) ≡ b
unfolding switch_back
switch_again true = refl
switch_again false = refl

not_again : (b : Bool) → not (not b) ≡ b
not_again true = refl
not_again false = refl

pub same_balance : (a b : BalanceWord)
    → balance_name (balance_of_word a) ≡ balance_name (balance_of_word b) → a ≡ b
same_balance a b e = sym (word_again a) ∙ (ap word_back e ∙ word_again b)

pub same_switch : (a b : Bool) → on_where a ≡ on_where b → a ≡ b
same_switch a b e = sym (switch_again a) ∙ (ap switch_back e ∙ switch_again b)

pub same_off : (a b : Bool) → on_where (not a) ≡ on_where (not b) → a ≡ b
same_off a b e = sym (not_again a) ∙ (ap not (same_switch (not a) (not b) e) ∙ not_again b)

pub same_flags : (f g : MirrorFlags) → f.no_autosync ≡ g.no_autosync → f.no_failsync ≡ g.no_failsync
    → f ≡ g
same_flags f g p q = λ i. record { no_autosync = p i; no_failsync = q i }

pub same_number : (m n : ℕ) → m < 2 ^ 32 → n < 2 ^ 32 → decimal m ≡ decimal n → m ≡ n
same_number m n h k e = decimal_injective m n (omega arith) (omega arith) e

pub balance_spaceless : (b : BalanceWord) → spaceless (balance_name (balance_of_word b)) ≡ true
balance_spaceless Load = refl
balance_spaceless Prefer = refl
balance_spaceless RoundRobin = refl
balance_spaceless Split = refl

pub switch_spaceless : (b : Bool) → spaceless (on_where b) ≡ true
switch_spaceless true = refl
switch_spaceless false = refl

pub number_spaceless : (n : ℕ) → n < 2 ^ 32 → spaceless (decimal n) ≡ true
number_spaceless n h = decimal_spaceless n (omega arith)
