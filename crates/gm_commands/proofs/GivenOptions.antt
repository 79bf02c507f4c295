-- The words of options that were given say which were, and their values.
use Rattle.gm_commands.proofs.Common.{◌≡◌, ◌∙◌, inl, inr, ℕ, ◌<◌, ◌^◌, Bool, true, refl, sym, ap, arith, List, [], ◌∷◌, ◌++◌, append_assoc, Option, Some, None, IfSome, IsTrue, if◌then◌else◌, ⊤, codes, decimal, flat_map, bytes_eq, cases_Bool, balance_name, is_label, BalanceWord, Preference, Settings, SliceFits, PreferenceFits, balance_of_word, on_where, balance_words, given_switch, preference_words, setting_words, slice_words}
use Rattle.std.specs.Option.{option_map, option_or}
use Rattle.gm_commands.proofs.OneParting.{spaceless, all_spaceless, label_spaceless}
use Rattle.gm_commands.proofs.OneWord.{same_balance, same_switch, same_number, balance_spaceless, switch_spaceless, number_spaceless}

-- an option, and its value if it was given
record Choice : Type 0 where
  option : List ℕ
  value : Option (List ℕ)

given : List ℕ → Option (List ℕ) → List (List ℕ)
given o None = []
given o (Some v) = o ∷ v ∷ []

all_given : List Choice → List (List ℕ)
all_given os = flat_map (λ o. given o.option o.value) os

-- the value after an option, among words that stand in pairs
back : List ℕ → List (List ℕ) → Option (List ℕ)
back o [] = None
back o (a ∷ []) = None
back o (a ∷ b ∷ ws) = if bytes_eq a o then Some b else back o ws

-- the value of an option
lookup : List ℕ → List Choice → Option (List ℕ)
lookup o [] = None
lookup o (c ∷ cs) = if bytes_eq c.option o then option_or c.value (lookup o cs) else lookup o cs

found_one : (o a : List ℕ) (v : Option (List ℕ)) (ws : List (List ℕ))
    → back o (given a v ++ ws) ≡ (if bytes_eq a o then option_or v (back o ws) else back o ws)
unfolding back given
found_one o a None ws = elim (cases_Bool (bytes_eq a o)) [ inl e ↦ rw e refl | inr e ↦ rw e refl ]
found_one o a (Some x) ws = refl

found : (o : List ℕ) (cs : List Choice) (n : List ℕ) → back o (all_given cs ++ n ∷ []) ≡ lookup o cs
unfolding back lookup all_given
found o [] n = refl
found o (c ∷ cs) n =
    rw (
      append_assoc (given c.option c.value) (all_given cs) (n ∷ []),
      found_one o c.option c.value (all_given cs ++ n ∷ []),
      found o cs n,
    ) refl

-- ---- the options of configure

choice : List ℕ → Option (List ℕ) → Choice
choice o v = record { option = o; value = v }

preferred : Option Preference → List Choice
preferred p = choice (codes "--prov") (option_map (λ q. q.provider) p)
    ∷ choice (codes "--priority") (option_map (λ q. decimal q.priority) p) ∷ []

choices : Settings → List Choice
choices s =
    choice (codes "--balance") (option_map (λ b. balance_name (balance_of_word b)) s.balance)
    ∷ choice (codes "--slice") (option_map decimal s.slice)
    ∷ choice (codes "--autosync") (option_map on_where s.autosync)
    ∷ choice (codes "--failsync") (option_map on_where s.failsync)
    ∷ choice (codes "--hardcode") (option_map on_where s.hardcode)
    ∷ preferred s.preference

balance_given : (b : Option BalanceWord)
    → balance_words b ≡ given (codes "--balance")
    (option_map (λ b. balance_name (balance_of_word b)) b)
unfolding given
balance_given None = refl
balance_given (Some b) = refl

slice_given : (s : Option ℕ) → slice_words s ≡ given (codes "--slice") (option_map decimal s)
unfolding given
slice_given None = refl
slice_given (Some n) = refl

switch_given : (o : List ℕ) (s : Option Bool) → given_switch o s ≡ given o (option_map on_where s)
unfolding given
switch_given o None = refl
switch_given o (Some b) = refl

preferred_words : (p : Option Preference) → preference_words p ≡ all_given (preferred p)
unfolding all_given preferred choice given
preferred_words None = refl
preferred_words (Some p) = refl

chosen_words : (s : Settings) → setting_words s ≡ all_given (choices s)
unfolding all_given choices choice
chosen_words s =
    rw (
      balance_given s.balance,
      slice_given s.slice,
      switch_given (codes "--autosync") s.autosync,
      switch_given (codes "--failsync") s.failsync,
      switch_given (codes "--hardcode") s.hardcode,
      preferred_words s.preference,
    )
    (simp append_assoc)

or_none : {X : Type 0} (v : Option X) → option_or v None ≡ v
or_none None = refl
or_none (Some x) = refl

same_option : {X : Type 0} (f : X → List ℕ) (P : X → Type 0)
    → ((x y : X) → P x → P y → f x ≡ f y → x ≡ y)
    → (a b : Option X) → IfSome a P → IfSome b P → option_map f a ≡ option_map f b → a ≡ b
same_option f P h None None p q e = refl
same_option f P h (Some x) None p q e = cc
same_option f P h None (Some y) p q e = cc
same_option f P h (Some x) (Some y) p q e = ap Some (h x y p q (let i : f x ≡ f y = cc in i))

-- one whose values are told apart whatever they are
same_any : {X : Type 0} (f : X → List ℕ) → ((x y : X) → f x ≡ f y → x ≡ y) → (a b : Option X)
    → option_map f a ≡ option_map f b → a ≡ b
same_any f h None None e = refl
same_any f h (Some x) None e = cc
same_any f h None (Some y) e = cc
same_any f h (Some x) (Some y) e = ap Some (h x y (let i : f x ≡ f y = cc in i))

same_preference : (a b : Option Preference)
    → IfSome a (λ p. IsTrue (is_label p.provider) × (p.priority < 2 ^ 8))
    → IfSome b (λ p. IsTrue (is_label p.provider) × (p.priority < 2 ^ 8))
    → option_map (λ q. q.provider) a ≡ option_map (λ q. q.provider) b
    → option_map (λ q. decimal q.priority) a ≡ option_map (λ q. decimal q.priority) b → a ≡ b
same_preference None None u v e f = refl
same_preference (Some p) None u v e f = cc
same_preference None (Some q) u v e f = cc
same_preference (Some p) (Some q) u v e f =
    let small : p.priority < 2 ^ 8 = u.1 in
    let small' : q.priority < 2 ^ 8 = v.1 in
    let providers : p.provider ≡ q.provider = cc in
    let texts : decimal p.priority ≡ decimal q.priority = cc in
    let priorities : p.priority ≡ q.priority =
    same_number p.priority q.priority (omega arith) (omega arith) texts in
    λ i. Some (record { provider = providers i; priority = priorities i })

pub same_settings : (s t : Settings) (n m : List ℕ)
    → SliceFits s.slice × PreferenceFits s.preference
    → SliceFits t.slice × PreferenceFits t.preference
    → setting_words s ++ n ∷ [] ≡ setting_words t ++ m ∷ [] → s ≡ t
unfolding choices preferred choice lookup
same_settings s t n m u v e =
    let both : all_given (choices s) ++ n ∷ [] ≡ all_given (choices t) ++ m ∷ [] =
    ap (λ (x : List (List ℕ)). x ++ n ∷ []) (sym (chosen_words s))
    ∙ (e ∙ ap (λ (x : List (List ℕ)). x ++ m ∷ []) (chosen_words t)) in
    let looked : (o : List ℕ) → lookup o (choices s) ≡ lookup o (choices t) =
    λ o. sym (found o (choices s) n) ∙ (ap (back o) both ∙ found o (choices t) m) in
    let value : (a b : Option (List ℕ)) → option_or a None ≡ option_or b None
    → a ≡ b = λ a b f. sym (or_none a) ∙ (f ∙ or_none b) in
    let balances : s.balance ≡ t.balance =
    same_any (λ b. balance_name (balance_of_word b)) same_balance s.balance t.balance
    (value _ _ (looked (codes "--balance"))) in
    let slices : s.slice ≡ t.slice =
    same_option decimal (λ n. (0 < n) × (n < 2 ^ 32)) (λ x y p q f. same_number x y p.1 q.1 f)
    s.slice t.slice u.0 v.0 (value _ _ (looked (codes "--slice"))) in
    let autosyncs : s.autosync ≡ t.autosync =
    same_any on_where same_switch s.autosync t.autosync
    (value _ _ (looked (codes "--autosync"))) in
    let failsyncs : s.failsync ≡ t.failsync =
    same_any on_where same_switch s.failsync t.failsync
    (value _ _ (looked (codes "--failsync"))) in
    let hardcodes : s.hardcode ≡ t.hardcode =
    same_any on_where same_switch s.hardcode t.hardcode
    (value _ _ (looked (codes "--hardcode"))) in
    let preferences : s.preference ≡ t.preference =
    same_preference s.preference t.preference u.1 v.1 (value _ _ (looked (codes "--prov")))
    (value _ _ (looked (codes "--priority"))) in
    λ i. record {
      balance = balances i;
      slice = slices i;
      autosync = autosyncs i;
      failsync = failsyncs i;
      hardcode = hardcodes i;
      preference = preferences i;
    }

-- ---- no spaces

Spaceless : List Choice → Type 0
Spaceless [] = ⊤
Spaceless (c ∷ cs) = (spaceless c.option ≡ true) × IfSome c.value (λ w. spaceless w ≡ true)
    × Spaceless cs

one_spaceless : (o : List ℕ) (v : Option (List ℕ)) (ws : List (List ℕ)) → spaceless o ≡ true
    → IfSome v (λ w. spaceless w ≡ true) → all_spaceless ws ≡ true
    → all_spaceless (given o v ++ ws) ≡ true
unfolding given
one_spaceless o None ws e f g = g
one_spaceless o (Some w) ws e f g = rw (e, f) g

each_spaceless : (cs : List Choice) (n : List ℕ) → Spaceless cs → spaceless n ≡ true
    → all_spaceless (all_given cs ++ n ∷ []) ≡ true
unfolding all_given Spaceless
each_spaceless [] n h e = rw e refl
each_spaceless (c ∷ cs) n h e =
    rw (append_assoc (given c.option c.value) (all_given cs) (n ∷ []))
    (one_spaceless c.option c.value (all_given cs ++ n ∷ []) h.0 h.1 (each_spaceless cs n h.2 e))

mapped : {X : Type 0} (f : X → List ℕ) (P : X → Type 0) → ((x : X) → P x → spaceless (f x) ≡ true)
    → (a : Option X) → IfSome a P → IfSome (option_map f a) (λ w. spaceless w ≡ true)
mapped f P h None p = tt
mapped f P h (Some x) p = h x p

mapped_any : {X : Type 0} (f : X → List ℕ) → ((x : X) → spaceless (f x) ≡ true) → (a : Option X)
    → IfSome (option_map f a) (λ w. spaceless w ≡ true)
mapped_any f h None = tt
mapped_any f h (Some x) = h x

small_number : (p : Preference) → IsTrue (is_label p.provider) × (p.priority < 2 ^ 8)
    → spaceless (decimal p.priority) ≡ true
small_number p fits = let small : p.priority < 2 ^ 8 = fits.1 in
    number_spaceless p.priority (omega arith)

pub settings_spaceless : (s : Settings) (n : List ℕ)
    → SliceFits s.slice × PreferenceFits s.preference → spaceless n ≡ true
    → all_spaceless (setting_words s ++ n ∷ []) ≡ true
unfolding choices preferred choice Spaceless
settings_spaceless s n fits e =
    rw (chosen_words s)
    (each_spaceless (choices s) n (
      refl,
      mapped_any (λ b. balance_name (balance_of_word b)) balance_spaceless s.balance,
      (
        refl,
        mapped decimal (λ n. (0 < n) × (n < 2 ^ 32)) (λ x p. number_spaceless x p.1) s.slice fits.0,
        (
          refl,
          mapped_any on_where switch_spaceless s.autosync,
          (
            refl,
            mapped_any on_where switch_spaceless s.failsync,
            (
              refl,
              mapped_any on_where switch_spaceless s.hardcode,
              (
                refl,
                mapped (λ q. q.provider) (λ p. IsTrue (is_label p.provider) × (p.priority < 2 ^ 8))
                    (λ p f. label_spaceless p.provider f.0) s.preference fits.1,
                (
                  refl,
                  mapped (λ q. decimal q.priority) (λ p. IsTrue (is_label p.provider)
                      × (p.priority < 2 ^ 8)) small_number s.preference fits.1,
                  tt,
                ),
              ),
            ),
          ),
        ),
      ),
    ) e)

-- the last words of equal lists
pub last_word : (xs ys : List (List ℕ)) (x y : List ℕ) → xs ++ x ∷ [] ≡ ys ++ y ∷ [] → x ≡ y
last_word [] [] x y e = cc
last_word [] (b ∷ []) x y e = cc
last_word [] (b ∷ c ∷ ys) x y e = cc
last_word (a ∷ []) [] x y e = cc
last_word (a ∷ c ∷ xs) [] x y e = cc
last_word (a ∷ xs) (b ∷ ys) x y e = last_word xs ys x y (let t : xs ++ x ∷ [] ≡ ys ++ y ∷ [] = cc in
    t)
