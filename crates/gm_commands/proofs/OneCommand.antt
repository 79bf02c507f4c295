-- Commands with one line of words are one command.
use Rattle.gm_commands.proofs.Common.{◌≡◌, ◌≢◌, ◌∙◌, ℕ, ◌+◌, ◌<◌, ◌^◌, ◌==◌, not, true, false, refl, sym, ap, arith, List, [], ◌∷◌, ◌++◌, get_or, true≢false, eq-eqb, join_with_byte, Command, Label, Insert, Remove, Deactivate, Activate, Forget, Rebuild, Configure, Clear, Destroy, Lost, Advance, Adopt, Patch, CommandFits, setting_words, words, words_of, joined}
use Rattle.gm_commands.proofs.GivenOptions.{same_settings, settings_spaceless, last_word}
use Rattle.gm_commands.proofs.OneWord.{same_balance, same_switch, same_off, same_flags, same_number, balance_spaceless, switch_spaceless, number_spaceless}
use Rattle.gm_commands.proofs.JoinedSectors.{joined_bytes, same_sectors}
use Rattle.gm_commands.proofs.OneParting.{all_spaceless, digits_spaceless, same_words, label_spaceless, labels_spaceless}

-- no word of a command has a space in it
words_spaceless : (c : Command) → CommandFits c → all_spaceless (words c) ≡ true
words_spaceless (Label new) fits =
    rw (
      number_spaceless new.mid fits.2,
      number_spaceless new.did fits.3,
      balance_spaceless new.balance,
      number_spaceless new.slice fits.5,
      switch_spaceless (not new.flags.no_autosync),
      switch_spaceless (not new.flags.no_failsync),
      switch_spaceless new.hardcoded,
      label_spaceless new.name fits.0,
      label_spaceless new.provider fits.1,
    ) refl
words_spaceless (Insert new) fits =
    let small : new.priority < 2 ^ 8 = fits.3 in
    rw (
      number_spaceless new.did fits.2,
      number_spaceless new.priority (omega arith),
      switch_spaceless new.hardcoded,
      label_spaceless new.name fits.0,
      label_spaceless new.provider fits.1,
    ) refl
words_spaceless (Remove n p) fits = rw (label_spaceless n fits.0, label_spaceless p fits.1) refl
words_spaceless (Deactivate n p) fits = rw (label_spaceless n fits.0, label_spaceless p fits.1) refl
words_spaceless (Activate n p) fits = rw (label_spaceless n fits.0, label_spaceless p fits.1) refl
words_spaceless (Forget n) fits = rw (label_spaceless n fits) refl
words_spaceless (Rebuild n p) fits = rw (label_spaceless n fits.0, label_spaceless p fits.1) refl
words_spaceless (Configure n s) fits =
    settings_spaceless s n (fits.1, fits.2) (label_spaceless n fits.0)
words_spaceless (Clear p) fits = rw (label_spaceless p fits) refl
words_spaceless (Destroy n) fits = rw (label_spaceless n fits) refl
words_spaceless (Lost n ps) fits = rw (label_spaceless n fits.0) (labels_spaceless ps fits.1)
words_spaceless (Advance n p) fits = rw (label_spaceless n fits.0, label_spaceless p fits.1) refl
words_spaceless (Adopt n ps) fits = rw (label_spaceless n fits.0) (labels_spaceless ps fits.1)
words_spaceless (Patch n first sectors) fits =
    rw (
      number_spaceless first fits.1,
      digits_spaceless (joined sectors) (joined_bytes sectors fits.2),
      label_spaceless n fits.0,
    ) refl

-- the first, the third and the fourth letter of the first word, added up, and a word by its place
letters : List (List ℕ) → ℕ
letters ws = get_or (get_or ws 0 []) 0 0 + get_or (get_or ws 0 []) 2 0 + get_or (get_or ws 0 []) 3 0

word : ℕ → List (List ℕ) → List ℕ
word k ws = get_or ws k []

words_some : (c : Command) → words c ≢ []
words_some (Label new) e = cc
words_some (Insert new) e = cc
words_some (Remove n p) e = cc
words_some (Deactivate n p) e = cc
words_some (Activate n p) e = cc
words_some (Forget n) e = cc
words_some (Rebuild n p) e = cc
words_some (Configure n s) e = cc
words_some (Clear p) e = cc
words_some (Destroy n) e = cc
words_some (Lost n ps) e = cc
words_some (Advance n p) e = cc
words_some (Adopt n ps) e = cc
words_some (Patch n first sectors) e = cc

lists_same : (xs ys : List (List ℕ)) → xs ≢ [] → ys ≢ [] → all_spaceless xs ≡ true
    → all_spaceless ys ≡ true → join_with_byte 32 xs ≡ join_with_byte 32 ys → xs ≡ ys
lists_same [] ys n m e f g = absurd (n refl)
lists_same (x ∷ xs) [] n m e f g = absurd (m refl)
lists_same (x ∷ xs) (y ∷ ys) n m e f g = same_words x xs y ys e f g

-- numbers that a test tells apart aren't equal
pub apart : (m n : ℕ) → (m == n) ≡ false → m ≡ n → ⊥
apart m n e s = true≢false (sym (eq-eqb m n s) ∙ e)

same_by_words : (a b : Command) → CommandFits a → CommandFits b → words a ≡ words b → a ≡ b
unfolding letters word
same_by_words (Label a) (Label b) u v e =
    let mids : a.mid ≡ b.mid = same_number a.mid b.mid u.2 v.2 (ap (word 2) e) in
    let dids : a.did ≡ b.did = same_number a.did b.did u.3 v.3 (ap (word 4) e) in
    let balances : a.balance ≡ b.balance = same_balance a.balance b.balance (ap (word 6) e) in
    let slices : a.slice ≡ b.slice = same_number a.slice b.slice u.5 v.5 (ap (word 8) e) in
    let flags : a.flags ≡ b.flags =
    same_flags a.flags b.flags (same_off a.flags.no_autosync b.flags.no_autosync
    (ap (word 10) e)) (same_off a.flags.no_failsync b.flags.no_failsync (ap (word 12) e)) in
    let hard : a.hardcoded ≡ b.hardcoded = same_switch a.hardcoded b.hardcoded (ap (word 14) e) in
    let names : a.name ≡ b.name = ap (word 15) e in
    let providers : a.provider ≡ b.provider = ap (word 16) e in
    λ i. Label (record {
      name = names i;
      provider = providers i;
      mid = mids i;
      did = dids i;
      balance = balances i;
      slice = slices i;
      flags = flags i;
      hardcoded = hard i;
    })
same_by_words (Insert a) (Insert b) u v e =
    let small : a.priority < 2 ^ 8 = u.3 in
    let small' : b.priority < 2 ^ 8 = v.3 in
    let dids : a.did ≡ b.did = same_number a.did b.did u.2 v.2 (ap (word 2) e) in
    let priorities : a.priority ≡ b.priority =
    same_number a.priority b.priority (omega arith) (omega arith) (ap (word 4) e) in
    let hard : a.hardcoded ≡ b.hardcoded = same_switch a.hardcoded b.hardcoded (ap (word 6) e) in
    let names : a.name ≡ b.name = ap (word 7) e in
    let providers : a.provider ≡ b.provider = ap (word 8) e in
    λ i. Insert (record {
      name = names i;
      provider = providers i;
      did = dids i;
      priority = priorities i;
      hardcoded = hard i;
    })
same_by_words (Remove n p) (Remove n' p') u v e = let names : n ≡ n' = ap (word 1) e in
    let providers : p ≡ p' = ap (word 2) e in cc
same_by_words (Deactivate n p) (Deactivate n' p') u v e = let names : n ≡ n' = ap (word 1) e in
    let providers : p ≡ p' = ap (word 2) e in cc
same_by_words (Activate n p) (Activate n' p') u v e = let names : n ≡ n' = ap (word 1) e in
    let providers : p ≡ p' = ap (word 2) e in cc
same_by_words (Forget n) (Forget n') u v e = ap Forget (ap (word 1) e)
same_by_words (Rebuild n p) (Rebuild n' p') u v e = let names : n ≡ n' = ap (word 1) e in
    let providers : p ≡ p' = ap (word 2) e in cc
same_by_words (Configure n s) (Configure n' s') u v e =
    let t : setting_words s ++ n ∷ [] ≡ setting_words s' ++ n' ∷ [] = cc in
    let names : n ≡ n' = last_word (setting_words s) (setting_words s') n n' t in
    let settings : s ≡ s' = same_settings s s' n n' (u.1, u.2) (v.1, v.2) t in
    cc
same_by_words (Clear p) (Clear p') u v e = ap Clear (ap (word 1) e)
same_by_words (Destroy n) (Destroy n') u v e = ap Destroy (ap (word 1) e)
same_by_words (Lost n ps) (Lost n' ps') u v e = let names : n ≡ n' = ap (word 1) e in
    let providers : ps ≡ ps' = cc in cc
same_by_words (Advance n p) (Advance n' p') u v e = let names : n ≡ n' = ap (word 1) e in
    let providers : p ≡ p' = ap (word 2) e in cc
same_by_words (Adopt n ps) (Adopt n' ps') u v e = let names : n ≡ n' = ap (word 1) e in
    let providers : ps ≡ ps' = cc in cc
same_by_words (Patch n first sectors) (Patch n' first' sectors') u v e =
    let names : n ≡ n' = ap (word 5) e in
    let firsts : first ≡ first' = same_number first first' u.1 v.1 (ap (word 2) e) in
    let bytes : sectors ≡ sectors' = same_sectors sectors sectors' u.2 v.2 (ap (word 4) e) in
    cc
same_by_words a b u v e = absurd (apart (letters (words a)) (letters (words b)) refl (ap letters e))

pub same_command : (a b : Command) → CommandFits a → CommandFits b → words_of a ≡ words_of b → a ≡ b
same_command a b u v e =
    same_by_words a b u v (lists_same (words a) (words b) (words_some a) (words_some b)
    (words_spaceless a u) (words_spaceless b v) e)
