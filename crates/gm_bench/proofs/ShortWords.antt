-- The canonical words of a command that nothing refuses are short.
use Rattle.gm_bench.proofs.Common.{◌≡◌, ◌∙◌, ℕ, ◌+◌, ◌*◌, ◌≤◌, ◌<◌, ◌^◌, ◌&&◌, Bool, true, false, not, nat_lt, arith, refl, sym, ap, List, [], ◌∷◌, ◌++◌, Option, Some, None, length, codes, ltb-true, ltb-false, length-append, IsTrue, join_with_byte, list_all, list_any, and_parts, not-false, or_parts, balance_name, same_label, is_label, is_label_byte, Command, Label, Insert, Remove, Deactivate, Activate, Forget, Rebuild, Configure, Destroy, Lost, Advance, Adopt, CommandFits, PreferenceFits, SliceFits, balance_of_word, balance_words, given_switch, is_key, on_where, preference_words, setting_words, slice_words, words, words_of, Distinct, none_any, not_both, some_any, same_from, same_is, Component, Records, IsState, provider, has_twice, IsGood, members_named, Seen, few_members, names_among}
use Rattle.std.specs.Fmt.{decimal}
use Rattle.std.proofs.lemmas.Fmt.{length-decimal-le}
use Rattle.gm_metadata.proofs.Labels.{label_parts}
use Rattle.gm_commands.specs.declared.command.BalanceWord.{BalanceWord}
use Rattle.gm_commands.specs.declared.command.BalanceWord.TheVariants.{Load, Prefer, RoundRobin, Split}
use Rattle.gm_commands.specs.declared.command.Command.TheVariants.{Clear, Patch}
use Rattle.gm_commands.specs.declared.command.Preference.{Preference}
use Rattle.gm_commands.specs.declared.command.Settings.{Settings}
use Rattle.gm_commands.specs.Sectors.{joined as joined_sectors}
use Rattle.hex.specs.Hex.{encode_lower, encode_with}
use Rattle.gm_refusals.specs.declared.refusals.Refusal.TheVariants as refusals
use Rattle.gm_bench.proofs.FewBytes.{patch_long}

-- ---- how long words are that are joined

-- how long they are in all, each with a space
total : List (List ℕ) → ℕ
total [] = 0
total (w ∷ ws) = length w + 1 + total ws

joined : (ws : List (List ℕ)) → length (join_with_byte 32 ws) ≤ total ws
unfolding total
joined [] = omega arith
joined (w ∷ []) = omega arith
joined (w ∷ v ∷ ws) =
    let rest : length (join_with_byte 32 (v ∷ ws)) ≤ total (v ∷ ws) = joined (v ∷ ws) in
    let all = length-append w (32 ∷ join_with_byte 32 (v ∷ ws)) in
    omega (arith, rest, all)

total-append : (ws vs : List (List ℕ)) → total (ws ++ vs) ≡ total ws + total vs
unfolding total
total-append [] vs = omega arith
total-append (w ∷ ws) vs =
    let rest : total (ws ++ vs) ≡ total ws + total vs = total-append ws vs in
    omega (arith, rest)

-- ---- each word

label_short : (name : List ℕ) → IsTrue (is_label name) → length name ≤ 15
label_short name is = let parts = label_parts name is in omega (arith, parts.1)

number_short : (n : ℕ) → n < 2 ^ 32 → length (decimal n) ≤ 10
number_short n low = length-decimal-le 10 n (omega arith) (omega (arith, low)) (omega (arith, low))

small_short : (n : ℕ) → n < 2 ^ 8 → length (decimal n) ≤ 10
small_short n low = number_short n (omega (arith, low))

balance_short : (b : BalanceWord) → length (balance_name (balance_of_word b)) ≤ 11
balance_short Load = omega arith
balance_short Prefer = omega arith
balance_short RoundRobin = omega arith
balance_short Split = omega arith

on_short : (b : Bool) → length (on_where b) ≤ 3
on_short true = omega arith
on_short false = omega arith

labels_short : (ps : List (List ℕ)) → IsTrue (list_all is_label ps) → total ps ≤ 16 * length ps
unfolding total
labels_short [] all = omega arith
labels_short (p ∷ ps) all =
    let parts = and_parts (is_label p) (list_all is_label ps) all in
    let first : length p ≤ 15 = label_short p parts.0 in
    let rest : total ps ≤ 16 * length ps = labels_short ps parts.1 in
    omega (arith, first, rest)

-- ---- the digits of bytes

digits_long : (xs : List ℕ) → length (encode_lower xs) ≡ 2 * length xs
unfolding encode_with
digits_long [] = omega arith
digits_long (x ∷ xs) = let rest = digits_long xs in omega (arith, rest)

-- ---- the settings

balance_words_short : (b : Option BalanceWord) → total (balance_words b) ≤ 22
unfolding total
balance_words_short None = omega arith
balance_words_short (Some b) = omega (arith, balance_short b)

slice_words_short : (slice : Option ℕ) → SliceFits slice → total (slice_words slice) ≤ 22
unfolding total
slice_words_short None fits = omega arith
slice_words_short (Some n) fits = omega (arith, number_short n fits.1)

switch_short : (option : List ℕ) (set : Option Bool)
    → total (given_switch option set) ≤ length option + 5
unfolding total
switch_short option None = omega arith
switch_short option (Some set) = omega (arith, on_short set)

preference_short : (p : Option Preference) → PreferenceFits p → total (preference_words p) ≤ 50
unfolding total
preference_short None fits = omega arith
preference_short (Some p) fits =
    omega (arith, label_short p.provider fits.0, small_short p.priority fits.1)

total-six : (a b c d e f : List (List ℕ)) → total (a ++ b ++ c ++ d ++ e ++ f)
    ≡ total a + total b + total c + total d + total e + total f
total-six a b c d e f =
    total-append (a ++ b ++ c ++ d ++ e) f ∙ ap (λ n. n + total f)
    (total-append (a ++ b ++ c ++ d) e ∙ ap (λ n. n + total e)
    (total-append (a ++ b ++ c) d ∙ ap (λ n. n + total d)
    (total-append (a ++ b) c ∙ ap (λ n. n + total c) (total-append a b))))

settings_short : (s : Settings) → SliceFits s.slice → PreferenceFits s.preference
    → total (setting_words s) ≤ 200
settings_short s slice preference =
    let a : List (List ℕ) = balance_words s.balance in
    let b : List (List ℕ) = slice_words s.slice in
    let c : List (List ℕ) = given_switch (codes "--autosync") s.autosync in
    let d : List (List ℕ) = given_switch (codes "--failsync") s.failsync in
    let e : List (List ℕ) = given_switch (codes "--hardcode") s.hardcode in
    let f : List (List ℕ) = preference_words s.preference in
    let all : total (setting_words s)
    ≡ total a + total b + total c + total d + total e + total f =
    total-six a b c d e f in
    let first : total a ≤ 22 = balance_words_short s.balance in
    let second : total b ≤ 22 = slice_words_short s.slice slice in
    let third : total c ≤ 15 = switch_short (codes "--autosync") s.autosync in
    let fourth : total d ≤ 15 = switch_short (codes "--failsync") s.failsync in
    let fifth : total e ≤ 15 = switch_short (codes "--hardcode") s.hardcode in
    let last : total f ≤ 50 = preference_short s.preference preference in
    omega (arith, all, first, second, third, fourth, fifth, last)

-- ---- how many providers are named

apart : (ps : List (List ℕ)) → has_twice ps ≡ false → Distinct (λ (p : List ℕ). p) ps
apart [] e = tt
apart (p ∷ ps) e =
    let parts = or_parts (list_any (λ q. same_label q p) ps) (has_twice ps) e in (
      λ q h same. not_both (same_label q p) (same_from q p (sym same))
          (none_any (λ q. same_label q p) ps parts.0 q h),
      apart ps parts.1,
    )

few_lost : (s : Records) (x : Seen) (n : List ℕ) (ps : List (List ℕ)) → IsState s
    → IsGood s x (Lost n ps) → length ps ≤ 16
few_lost s x n ps state good =
    let ks : List Component = members_named s (Lost n ps) in
    let parts = or_parts (has_twice ps) (list_any
    (λ p. not (list_any (λ k. same_label k.provider p) ks)) ps)
    (good refusals.NotMember refl) in
    let among : length ps ≤ length ks =
    names_among provider ps ks (apart ps parts.0) (λ p h.
    let some = some_any (λ (k : Component). same_label k.provider p) ks
    (not-false _ (none_any (λ q. not (list_any (λ k. same_label k.provider q) ks)) ps parts.1 p h))
    in (some.0, some.1, same_is some.0.provider p some.2)) in
    let few : length ks ≤ 16 = few_members s state n in
    omega (arith, among, few)

few_adopted : (s : Records) (x : Seen) (n : List ℕ) (ps : List (List ℕ))
    → IsGood s x (Adopt n ps) → length ps ≤ 16
few_adopted s x n ps good =
    ltb-false 16 (length ps) (or_parts _ (nat_lt 16 (length ps)) (good refusals.Full refl)).1

-- ---- all of them

total_short : (s : Records) (x : Seen) (c : Command) → CommandFits c → IsState s → IsGood s x c
    → total (words c) ≤ 70000
unfolding total
total_short s x (Label new) fits state good =
    omega (
      arith,
      label_short new.name fits.0,
      label_short new.provider fits.1,
      number_short new.mid fits.2,
      number_short new.did fits.3,
      number_short new.slice fits.5,
      balance_short new.balance,
      on_short (not new.flags.no_autosync),
      on_short (not new.flags.no_failsync),
      on_short new.hardcoded,
    )
total_short s x (Insert new) fits state good =
    omega (
      arith,
      label_short new.name fits.0,
      label_short new.provider fits.1,
      number_short new.did fits.2,
      small_short new.priority fits.3,
      on_short new.hardcoded,
    )
total_short s x (Remove n p) fits state good =
    omega (arith, label_short n fits.0, label_short p fits.1)
total_short s x (Deactivate n p) fits state good =
    omega (arith, label_short n fits.0, label_short p fits.1)
total_short s x (Activate n p) fits state good =
    omega (arith, label_short n fits.0, label_short p fits.1)
total_short s x (Forget n) fits state good = omega (arith, label_short n fits)
total_short s x (Rebuild n p) fits state good =
    omega (arith, label_short n fits.0, label_short p fits.1)
total_short s x (Configure n settings) fits state good =
    let all = total-append (setting_words settings) (n ∷ []) in
    omega (arith, all, label_short n fits.0, settings_short settings fits.1 fits.2)
total_short s x (Clear p) fits state good = omega (arith, label_short p fits)
total_short s x (Destroy n) fits state good = omega (arith, label_short n fits)
total_short s x (Lost n ps) fits state good =
    omega (arith, label_short n fits.0, labels_short ps fits.1, few_lost s x n ps state good)
total_short s x (Advance n p) fits state good =
    omega (arith, label_short n fits.0, label_short p fits.1)
total_short s x (Patch n first ss) fits state good =
    omega (
      arith,
      label_short n fits.0,
      number_short first fits.1,
      digits_long (joined_sectors ss),
      patch_long n first ss fits,
    )
total_short s x (Adopt n ps) fits state good =
    omega (arith, label_short n fits.0, labels_short ps fits.1, few_adopted s x n ps good)

pub words_short : (s : Records) (x : Seen) (c : Command) → CommandFits c → IsState s
    → IsGood s x c → length (words_of c) ≤ 70000
words_short s x c fits state good =
    let all = total_short s x c fits state good in
    let some = joined (words c) in
    omega (arith, all, some)

pub key_short : (key : List ℕ) → is_key key ≡ true → length key ≤ 32
key_short key is =
    let form = and_parts (nat_lt 0 (length key) && nat_lt (length key) 33)
    (list_all is_label_byte key) is in
    let low = ltb-true (length key) 33 (and_parts (nat_lt 0 (length key)) (nat_lt (length key) 33)
    form.0).1 in
    omega (arith, low)
