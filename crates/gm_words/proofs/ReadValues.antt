-- Values that are read from texts.
use Rattle.gm_words.proofs.Common.{◌≡◌, ◌∙◌, ◌<◌, ◌^◌, ◌&&◌, ◌==◌, not, ℕ, Bool, true, false, refl, ap, ap₂, subst, inl, inr, arith, length, codes, List, [], ◌∷◌, Option, Some, None, Result, Ok, Err, lt-ltb, ltb-true, nat_lt, IfSome, if◌then◌else◌, option_map, decimal, list_all, result_ok, cases_Bool, Row, first_of, both, balance_name, is_label, BalanceWord, Preference, Settings, PreferenceFits, SliceFits, balance_of_word, on_where, ◌>>=◌, IsNoFlag, if_given}
use Rattle.std.specs.Char.{digit_value}
use Rattle.std.specs.Str.Parse.{AllDigits, ParsesUnsigned, digits_value, without_leading_plus}
use Rattle.std.proofs.lemmas.Bool.{eqb-true}
use Rattle.std.proofs.lemmas.Fmt.{decimal_is_IsNumeral}
use Rattle.clap.specs.ValueTests.{is_numeral}
use Rattle.gm_metadata.specs.declared.flags.MirrorFlags.{MirrorFlags}
use Rattle.gm_commands.specs.declared.command.BalanceWord.TheVariants.{Load, Prefer, RoundRobin, Split}
use Rattle.gm_words.specs.Spelling.{balance_at, balance_in, component_at, flags_at, label_at, label_in, number_at, number_below, preference_in, priority_at, settings_at, slice_at, slice_in, switch_at, switch_in}

all_digits : (ds : List ℕ) → list_all (λ d. nat_lt (digit_value d) 10) ds ≡ true → AllDigits 10 ds
all_digits [] e = tt
all_digits (d ∷ ds) e = let parts = both _ _ e in (ltb-true _ _ parts.0, all_digits ds parts.1)

digits_pass : (ds : List ℕ) → AllDigits 10 ds → list_all (λ d. nat_lt (digit_value d) 10) ds ≡ true
digits_pass [] h = refl
digits_pass (d ∷ ds) h = rw (lt-ltb (digit_value d) 10 h.0) (digits_pass ds h.1)

-- `parse` at an unsigned type of k bits
pub parsed_below : {E : Type 0} (k : ℕ) (text : List ℕ) (r : Result ℕ E)
    → ParsesUnsigned k 10 text r → result_ok r ≡ number_below (2 ^ k) text
unfolding number_below
parsed_below k text (Ok n) h =
    let digits = without_leading_plus text in
    let some : nat_lt 0 (length digits) ≡ true = lt-ltb 0 (length digits) h.0.0.0 in
    let all : list_all (λ d. nat_lt (digit_value d) 10) digits ≡ true =
    digits_pass digits h.0.0.1 in
    let below : nat_lt (digits_value 10 digits) (2 ^ k) ≡ true = lt-ltb _ _ h.0.1 in
    rw (some, all, below) (ap Some h.1)
parsed_below k text (Err e) h =
    let digits = without_leading_plus text in
    elim (cases_Bool (is_numeral digits && nat_lt (digits_value 10 digits) (2 ^ k))) [
      | inl t ↦ (let parts = both _ _ t in let numeral = both _ _ parts.0 in
          absurd (h ((ltb-true _ _ numeral.0, all_digits digits numeral.1), ltb-true _ _ parts.1)))
      | inr f ↦ rw f refl
    ]

-- ---- what is read of texts that the canonical words have

unplussed : (ds : List ℕ) → AllDigits 10 ds → without_leading_plus ds ≡ ds
unplussed [] h = refl
unplussed (d ∷ ds) h =
    elim (cases_Bool (d == 43)) [
      | inl e ↦ (let bad : digit_value 43 < 10 = subst (λ (x : ℕ). digit_value x < 10)
          (eqb-true d 43 e) h.0 in absurd (omega arith))
      | inr e ↦ rw e refl
    ]

no_flag : (ds : List ℕ) → AllDigits 10 ds → IsNoFlag ds
no_flag [] h = tt
no_flag (d ∷ ds) h =
    elim (cases_Bool (d == 45)) [
      | inl e ↦ (let bad : digit_value 45 < 10 = subst (λ (x : ℕ). digit_value x < 10)
          (eqb-true d 45 e) h.0 in absurd (omega arith))
      | inr e ↦ e
    ]

-- decimals are no option
pub decimal_no_flag : (n : ℕ) → n < 2 ^ 32 → IsNoFlag (decimal n)
decimal_no_flag n small = no_flag (decimal n) (decimal_is_IsNumeral n (omega arith)).0.1

pub switch_no_flag : (b : Bool) → IsNoFlag (on_where b)
switch_no_flag true = refl
switch_no_flag false = refl

pub balance_no_flag : (b : BalanceWord) → IsNoFlag (balance_name (balance_of_word b))
balance_no_flag Load = refl
balance_no_flag Prefer = refl
balance_no_flag RoundRobin = refl
balance_no_flag Split = refl

number_again : (bound n : ℕ) → n < bound → n < 2 ^ 32 → number_below bound (decimal n) ≡ Some n
unfolding number_below
number_again bound n fits small =
    let is = decimal_is_IsNumeral n (omega arith) in
    let some : nat_lt 0 (length (decimal n)) ≡ true = lt-ltb 0 (length (decimal n)) is.0.0 in
    let all : list_all (λ d. nat_lt (digit_value d) 10) (decimal n) ≡ true =
    digits_pass (decimal n) is.0.1 in
    let below : nat_lt n bound ≡ true = lt-ltb n bound fits in
    let value : digits_value 10 (decimal n) ≡ n = is.1 in
    rw (unplussed (decimal n) is.0.1, some, all, value, below) refl

pub nonzero : (n : ℕ) → 0 < n → (n == 0) ≡ false
nonzero n h =
    elim (cases_Bool (n == 0)) [
      | inl e ↦ (let bad : n ≡ 0 = eqb-true n 0 e in
          absurd (omega arith))
      | inr e ↦ e
    ]

slice_again : (n : ℕ) → 0 < n → n < 2 ^ 32 → slice_in (decimal n) ≡ Some n
unfolding slice_in
slice_again n some small =
    ap (λ (o : Option ℕ). o >>= (λ bytes. if bytes == 0 then None else Some bytes))
    (number_again (2 ^ 32) n small small)
    ∙ ap (λ (b : Bool). if b then None else Some n) (nonzero n some)

switch_again : (b : Bool) → switch_in (on_where b) ≡ Some b
unfolding switch_in
switch_again true = refl
switch_again false = refl

balance_again : (b : BalanceWord) → balance_in (balance_name (balance_of_word b)) ≡ Some b
unfolding balance_in
balance_again Load = refl
balance_again Prefer = refl
balance_again RoundRobin = refl
balance_again Split = refl

label_again : (t : List ℕ) → is_label t ≡ true → label_in t ≡ Some t
unfolding label_in
label_again t is = ap (λ (b : Bool). if b then Some t else None) is

module _ (id : List ℕ) (rows : List Row) where
  pub number_read : (n : ℕ) → first_of id rows ≡ Some (decimal n) → n < 2 ^ 32
      → number_at id rows ≡ Some n
  unfolding number_at
  number_read n e small = ap (λ (o : Option (List ℕ)). o >>= number_below (2 ^ 32)) e
      ∙ number_again (2 ^ 32) n small small

  pub priority_read : (n : ℕ) → first_of id rows ≡ Some (decimal n) → n < 2 ^ 8
      → priority_at id rows ≡ Some n
  unfolding priority_at
  priority_read n e small = ap (λ (o : Option (List ℕ)). o >>= number_below (2 ^ 8)) e
      ∙ number_again (2 ^ 8) n small (omega arith)

  pub slice_read : (n : ℕ) → first_of id rows ≡ Some (decimal n) → 0 < n → n < 2 ^ 32
      → slice_at id rows ≡ Some n
  unfolding slice_at
  slice_read n e some small = ap (λ (o : Option (List ℕ)). o >>= slice_in) e
      ∙ slice_again n some small

  pub switch_read : (b : Bool) → first_of id rows ≡ Some (on_where b) → switch_at id rows ≡ Some b
  unfolding switch_at
  switch_read b e = ap (λ (o : Option (List ℕ)). o >>= switch_in) e ∙ switch_again b

  pub balance_read : (b : BalanceWord) → first_of id rows ≡ Some (balance_name (balance_of_word b))
      → balance_at id rows ≡ Some b
  unfolding balance_at
  balance_read b e = ap (λ (o : Option (List ℕ)). o >>= balance_in) e ∙ balance_again b

  pub label_read : (t : List ℕ) → first_of id rows ≡ Some t → is_label t ≡ true
      → label_at id rows ≡ Some t
  unfolding label_at
  label_read t e is = ap (λ (o : Option (List ℕ)). o >>= label_in) e ∙ label_again t is

pub component_read : (rows : List Row) (n p : List ℕ) → first_of (codes "name") rows ≡ Some n
    → first_of (codes "prov") rows ≡ Some p
    → is_label n ≡ true → is_label p ≡ true
    → component_at rows ≡ Some (record { name = n; provider = p })
unfolding component_at
component_read rows n p name_is provider_is fits too =
    rw (
      label_read (codes "name") rows n name_is fits,
      label_read (codes "prov") rows p provider_is too,
    ) refl

not_again : (b : Bool) → not (not b) ≡ b
not_again true = refl
not_again false = refl

pub flags_read : (rows : List Row) (f : MirrorFlags)
    → switch_at (codes "autosync") rows ≡ Some (not f.no_autosync)
    → switch_at (codes "failsync") rows ≡ Some (not f.no_failsync) → flags_at rows ≡ Some f
unfolding flags_at
flags_read rows f autosync failsync =
    rw (autosync, failsync)
    (ap₂ (λ (x y : Bool). let r : MirrorFlags = record { no_autosync = x; no_failsync = y } in
    Some r) (not_again f.no_autosync) (not_again f.no_failsync))

-- ---- options that may be left out

given_again : {A : Type 0} (kind : List ℕ → Option A) (word : A → List ℕ) (o : Option A)
    → IfSome o (λ a. kind (word a) ≡ Some a)
    → if_given kind (option_map word o) ≡ Some o
given_again kind word None again = refl
given_again kind word (Some a) again = ap (option_map Some) again

always : {A : Type 0} (P : A → Type 0) → ((a : A) → P a) → (o : Option A) → IfSome o P
always P each None = tt
always P each (Some a) = each a

balance_given : (o : Option BalanceWord)
    → if_given balance_in (option_map (λ b. balance_name (balance_of_word b)) o) ≡ Some o
balance_given o = given_again balance_in _ o (always _ balance_again o)

switch_given : (o : Option Bool) → if_given switch_in (option_map on_where o) ≡ Some o
switch_given o = given_again switch_in on_where o (always _ switch_again o)

slice_given : (o : Option ℕ) → SliceFits o → if_given slice_in (option_map decimal o) ≡ Some o
slice_given None fits = refl
slice_given (Some n) fits = ap (option_map Some) (slice_again n fits.0 fits.1)

preference_given : (o : Option Preference) → PreferenceFits o
    → preference_in (option_map (λ p. p.provider) o) (option_map (λ p. decimal p.priority) o)
    ≡ Some o
unfolding preference_in
preference_given None fits = refl
preference_given (Some p) fits =
    let small : p.priority < 2 ^ 8 = fits.1 in
    rw (label_again p.provider fits.0, number_again (2 ^ 8) p.priority small (omega arith)) refl

-- if each option says what the settings say
pub settings_read : (rows : List Row) (settings : Settings) → SliceFits settings.slice
    → PreferenceFits settings.preference
    → first_of (codes "balance") rows ≡ option_map (λ b. balance_name (balance_of_word b))
    settings.balance
    → first_of (codes "slice") rows ≡ option_map decimal settings.slice
    → first_of (codes "autosync") rows ≡ option_map on_where settings.autosync
    → first_of (codes "failsync") rows ≡ option_map on_where settings.failsync
    → first_of (codes "hardcode") rows ≡ option_map on_where settings.hardcode
    → first_of (codes "prov") rows ≡ option_map (λ p. p.provider) settings.preference
    → first_of (codes "priority") rows ≡ option_map (λ p. decimal p.priority) settings.preference
    → settings_at rows ≡ Some settings
unfolding settings_at
settings_read rows settings slice_fits preference_fits balance slice autosync failsync hardcode
    provider priority =
    rw (
      balance,
      balance_given settings.balance,
      slice,
      slice_given settings.slice slice_fits,
      autosync,
      switch_given settings.autosync,
      failsync,
      switch_given settings.failsync,
      hardcode,
      switch_given settings.hardcode,
      provider,
      priority,
      preference_given settings.preference preference_fits,
    ) refl
