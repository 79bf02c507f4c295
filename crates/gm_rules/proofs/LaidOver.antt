-- What a command lays over the data of mirrors: nothing, or sectors over those of the mirror that
-- it names.
use Rattle.gm_rules.proofs.Common.{◌≡◌, ◌≢◌, ◌∙◌, ℕ, ◌+◌, ◌&&◌, nat_le, nat_lt, false, refl, sym, ap, arith, List, [], length, Some, nat_tests, and-false, same_label, Command, differ, bytes_of, laid_over, name_of}
use Rattle.gm_commands.specs.declared.command.Command.TheVariants.{Patch}

in_no_range : (first n i : ℕ) → n ≡ 0 → (nat_le first i && nat_lt i (first + n)) ≡ false
in_no_range first n i e = grind (arith, nat_tests)

-- if there are no bytes, all data stay
pub nothing_laid : (c : Command) → bytes_of c ≡ [] → (n : List ℕ) (list : ℕ → List ℕ) (i : ℕ)
    → laid_over c n list i ≡ list i
nothing_laid (Patch a first sectors) none n list i =
    let off : (same_label a n && (nat_le first i && nat_lt i (first + length sectors))) ≡ false =
    ap (λ b. same_label a n && b) (in_no_range first (length sectors) i (ap length none))
    ∙ and-false (same_label a n) in
    rw off refl
nothing_laid _ none n list i = refl

-- and so do those of the mirrors that it doesn't name
pub laid_elsewhere : (c : Command) (a n : List ℕ) → name_of c ≡ Some a → n ≢ a
    → (list : ℕ → List ℕ) (i : ℕ) → laid_over c n list i ≡ list i
laid_elsewhere (Patch b first sectors) a n named d list i =
    let is : b ≡ a = cc in
    rw (differ b n (λ e. d (sym e ∙ is))) refl
laid_elsewhere _ a n named d list i = refl
