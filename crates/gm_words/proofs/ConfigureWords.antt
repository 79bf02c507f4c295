-- The words of configure.
use Rattle.gm_words.proofs.Common.{◌≡◌, ◌∙◌, ◌<◌, ◌^◌, ℕ, Bool, true, false, refl, sym, ap, append_assoc, arith, List, [], ◌∷◌, ◌++◌, map, Option, Some, None, ⊤, IfSome, codes, fold, if◌then◌else◌, option_map, decimal, list_all, Kinds, or_else, first_of, nothing_held, Held, Row, Text, has_row, is_empty, is_pending, pushed, settled, walk_from, Shape, check_fault, balance_name, BalanceWord, Preference, Settings, Configure, CommandFits, PreferenceFits, SliceFits, words, balance_of_word, balance_words, given_switch, on_where, preference_words, setting_words, slice_words, HasNoFlags, IsNoFlag, guarded_words, guarded_preference, guarded_settings, label_at, settings_at, spelled, configure}
use Rattle.clap.proofs.OnLiterals.{clap_on_literals}
use Rattle.gm_words.specs.Spelling.{command_of, configure_of}
use Rattle.gm_words.specs.Table.{name, names, optional, possible, wanted}
use Rattle.gm_words.proofs.FoundCommand.{leaf, named}
use Rattle.gm_words.proofs.ReadValues.{balance_no_flag, decimal_no_flag, switch_no_flag, label_read, settings_read}
use Rattle.gm_words.proofs.Options.{AreOptions, Ends, IsOption, Slot, Stands, all_new, apart, apart_option, attached, attached_option, begins, ends_by, first_in, first_use, found_in, found_more, given_or_none, given_words, held_fault, none_in, options_step, plain_more, said_in, said_told, value_at}
use Rattle.gm_words.proofs.Rows.{added, added_new, given_last, row}
use Rattle.gm_words.proofs.ClapWalk.{ArePlain, begun, Has, Said, spelled_as, text_of, said_fault, said_walked}

pub has_configure : Has (codes "configure") (leaf configure) configure_of
unfolding clap_on_literals name names optional possible wanted command_of
has_configure = record {
  meets = refl;
  passes = refl;
  rows = λ behind. refl;
  faults = λ behind. refl;
  reads = λ found. refl;
}

-- ---- its options

-- what clap makes of the command
abbrev s : Shape
s = leaf configure

balance_option : IsOption s (codes "balance") (apart (codes "balance"))
unfolding clap_on_literals name possible
balance_option =
    apart_option s (codes "balance") (record {
      walks = λ v h rest. refl;
      fails = λ v h rest. refl;
      settles = λ v h. refl;
      rows = λ v h. refl;
    })

slice_option : IsOption s (codes "slice") (apart (codes "slice"))
unfolding clap_on_literals name possible
slice_option =
    apart_option s (codes "slice") (record {
      walks = λ v h rest. refl;
      fails = λ v h rest. refl;
      settles = λ v h. refl;
      rows = λ v h. refl;
    })

autosync_option : IsOption s (codes "autosync") (apart (codes "autosync"))
unfolding clap_on_literals name possible
autosync_option =
    apart_option s (codes "autosync") (record {
      walks = λ v h rest. refl;
      fails = λ v h rest. refl;
      settles = λ v h. refl;
      rows = λ v h. refl;
    })

failsync_option : IsOption s (codes "failsync") (apart (codes "failsync"))
unfolding clap_on_literals name possible
failsync_option =
    apart_option s (codes "failsync") (record {
      walks = λ v h rest. refl;
      fails = λ v h rest. refl;
      settles = λ v h. refl;
      rows = λ v h. refl;
    })

hardcode_option : IsOption s (codes "hardcode") (apart (codes "hardcode"))
unfolding clap_on_literals name possible
hardcode_option =
    apart_option s (codes "hardcode") (record {
      walks = λ v h rest. refl;
      fails = λ v h rest. refl;
      settles = λ v h. refl;
      rows = λ v h. refl;
    })

priority_option : IsOption s (codes "priority") (apart (codes "priority"))
unfolding clap_on_literals name possible
priority_option =
    apart_option s (codes "priority") (record {
      walks = λ v h rest. refl;
      fails = λ v h rest. refl;
      settles = λ v h. refl;
      rows = λ v h. refl;
    })

-- the words of a provider, which stands after `=` if the names are guarded
abbrev provider_words : Bool → Text → List Said
provider_words false = apart (codes "prov")
provider_words true = attached (codes "prov")

provider_option : (guarded : Bool) → IsOption s (codes "prov") (provider_words guarded)
unfolding clap_on_literals name possible
provider_option false =
    apart_option s (codes "prov") (record {
      walks = λ v h rest. refl;
      fails = λ v h rest. refl;
      settles = λ v h. refl;
      rows = λ v h. refl;
    })
provider_option true =
    attached_option s (codes "prov") (record { walks = λ v h rest. refl; fails = λ v h rest. refl })

-- ---- its name

abbrev after_name : Text → Held → Held
after_name n h = record (settled s.rules h) { pending = Some (codes "name", n ∷ []) }

name_walk : (guarded : Bool) (n : Text) (h : Held)
    → (fold (said_walked s.rules) (walk_from h) (named guarded (n ∷ []))).held ≡ after_name n h
unfolding clap_on_literals name possible
name_walk true n h =
    ap (pushed (codes "name") n) (begins (is_pending (name (codes "name")) h.pending) h
    (settled s.rules h))
name_walk false n h =
    ap (pushed (codes "name") n) (begins (is_pending (name (codes "name")) h.pending) h
    (settled s.rules h))

name_passes : (guarded : Bool) (n : Text) (h : Held) → held_fault s h ≡ []
    → said_fault s (walk_from h) (named guarded (n ∷ [])) ≡ []
unfolding clap_on_literals name possible
name_passes true n h e =
    ap (λ (k : Kinds). or_else k []) (begins (is_pending (name (codes "name")) h.pending) []
    (held_fault s h) ∙ e)
name_passes false n h e =
    ap (λ (k : Kinds). or_else k []) (begins (is_pending (name (codes "name")) h.pending) []
    (held_fault s h) ∙ e)

name_settles : (n : Text) (h : Held) → has_row (codes "name") (settled s.rules h).rows ≡ false
    → held_fault s (after_name n h) ≡ []
unfolding clap_on_literals name possible
name_settles n h new = first_use s (codes "name") h new

name_rows : (n : Text) (h : Held)
    → (settled s.rules (after_name n h)).rows ≡ added (codes "name") n (settled s.rules h).rows
unfolding clap_on_literals name possible
name_rows n h = refl

name_checked : (n : Text) (rows : List Row) → has_row (codes "name") rows ≡ false
    → check_fault s (rows ++ row (codes "name") n ∷ []) false ≡ []
unfolding clap_on_literals name possible
name_checked n rows new = rw (given_last (codes "name") n rows refl new) refl

no_default : list_all (λ a. is_empty a.defaults) s.rules ≡ true
unfolding clap_on_literals name possible
no_default = refl

name_ends : (guarded : Bool) (n : Text) (h : Held) (rows : List Row) → Stands s h rows
    → has_row (codes "name") rows ≡ false
    → Ends s (walk_from h) (named guarded (n ∷ [])) (rows ++ row (codes "name") n ∷ [])
name_ends guarded n h rows stands new =
    let here : has_row (codes "name") (settled s.rules h).rows ≡ false =
    ap (has_row (codes "name")) stands.are ∙ new in
    let found : (settled s.rules (after_name n h)).rows ≡ rows ++ row (codes "name") n ∷ [] =
    name_rows n h ∙ (ap (added (codes "name") n) stands.are
    ∙ added_new (codes "name") n rows new) in
    ends_by s no_default (walk_from h) (named guarded (n ∷ [])) (after_name n h)
    (rows ++ row (codes "name") n ∷ [])
    (name_walk guarded n h) (name_passes guarded n h stands.passes) (name_settles n h here) found
    (name_checked n rows new)

-- ---- its words

abbrev slot : Text → Option Text → Slot
slot id value = record { id = id; words = apart id; value = value }

-- the options other than the preference
abbrev others : Settings → List Slot
others settings =
    slot (codes "balance") (option_map (λ b. balance_name (balance_of_word b)) settings.balance)
    ∷ slot (codes "slice") (option_map decimal settings.slice)
    ∷ slot (codes "autosync") (option_map on_where settings.autosync)
    ∷ slot (codes "failsync") (option_map on_where settings.failsync)
    ∷ slot (codes "hardcode") (option_map on_where settings.hardcode) ∷ []

abbrev slots : Bool → Settings → List Slot
slots guarded settings = others settings
    ++ record {
      id = codes "prov";
      words = provider_words guarded;
      value = option_map (λ p. p.provider) settings.preference;
    }
    ∷ slot (codes "priority") (option_map (λ p. decimal p.priority) settings.preference) ∷ []

are_options : (guarded : Bool) (settings : Settings) → AreOptions s (slots guarded settings)
are_options guarded settings = (
  balance_option,
  (
    slice_option,
    (
      autosync_option,
      (failsync_option, (hardcode_option, (provider_option guarded, (priority_option, tt)))),
    ),
  ),
)

-- its own words
abbrev said : Bool → Text → Settings → List Said
said guarded n settings = said_in (slots guarded settings) (named guarded (n ∷ []))

-- what is found of them
abbrev all_found : Bool → Text → Settings → List Row
all_found guarded n settings = found_in (slots guarded settings) ++ row (codes "name") n ∷ []

configure_ends : (guarded : Bool) (n : Text) (settings : Settings)
    → Ends s begun (said guarded n settings) (all_found guarded n settings)
configure_ends guarded n settings =
    let own = slots guarded settings in
    options_step s own (are_options guarded settings) refl nothing_held []
    (record { are = refl; passes = refl }) (all_new own) (named guarded (n ∷ []))
    (all_found guarded n settings) (λ h stands. name_ends guarded n h (found_in own) stands
    (none_in (codes "name") own refl))

-- ---- what is read of them

module _ (n : Text) (settings : Settings) (fits : CommandFits (Configure n settings)) where
  -- the rows, as those of one more option
  found_at : (guarded : Bool) (id : Text)
      → first_of id (all_found guarded n settings) ≡ value_at id
      (slots guarded settings ++ slot (codes "name") (Some n) ∷ [])
  found_at guarded id =
      ap (first_of id) (found_more (slots guarded settings) (codes "name") n (apart (codes "name")))
      ∙ first_in id (slots guarded settings ++ slot (codes "name") (Some n) ∷ [])

  configure_from : (guarded : Bool)
      → configure_of (all_found guarded n settings) ≡ Some (Configure n settings)
  unfolding configure_of
  configure_from guarded =
      let rows = all_found guarded n settings in
      let at = found_at guarded in
      let named_is : label_at (codes "name") rows ≡ Some n =
      label_read (codes "name") rows n (at (codes "name")) fits.0 in
      let set : settings_at rows ≡ Some settings = settings_read rows settings fits.1 fits.2
      (at (codes "balance") ∙ given_or_none _) (at (codes "slice") ∙ given_or_none _)
      (at (codes "autosync") ∙ given_or_none _)
      (at (codes "failsync") ∙ given_or_none _) (at (codes "hardcode") ∙ given_or_none _)
      (at (codes "prov") ∙ given_or_none _) (at (codes "priority") ∙ given_or_none _) in
      rw (named_is, set) refl

  configure_spelled : (guarded : Bool) → ArePlain (said guarded n settings)
      → spelled (codes "configure" ∷ map text_of (said guarded n settings))
      ≡ Some (Configure n settings)
  configure_spelled guarded free =
      let ends = configure_ends guarded n settings in
      spelled_as (codes "configure") s configure_of has_configure
      (said guarded n settings) free ends.passes
      ∙ ap configure_of ends.are ∙ configure_from guarded

-- ---- its canonical words

balance_told : (o : Option BalanceWord)
    → map text_of (given_words (apart (codes "balance"))
    (option_map (λ b. balance_name (balance_of_word b)) o)) ≡ balance_words o
balance_told None = refl
balance_told (Some b) = refl

slice_told : (o : Option ℕ)
    → map text_of (given_words (apart (codes "slice")) (option_map decimal o)) ≡ slice_words o
slice_told None = refl
slice_told (Some n) = refl

switch_told : (id : Text) (o : Option Bool)
    → map text_of (given_words (apart id) (option_map on_where o))
    ≡ given_switch (codes "--" ++ id) o
switch_told id None = refl
switch_told id (Some b) = refl

preference_told : (guarded : Bool) (o : Option Preference) (names : List Said)
    → map text_of (given_words (provider_words guarded) (option_map (λ p. p.provider) o)
    ++ (given_words (apart (codes "priority")) (option_map (λ p. decimal p.priority) o)
    ++ names))
    ≡ (if guarded then guarded_preference o else preference_words o) ++ map text_of names
preference_told true None names = refl
preference_told false None names = refl
preference_told true (Some p) names = refl
preference_told false (Some p) names = refl

-- the five options before the preference, in front of the rest
others_told : (settings : Settings) (rest : List Said) (more : List Text) → map text_of rest ≡ more
    → map text_of (said_in (others settings) rest)
    ≡ balance_words settings.balance ++ (slice_words settings.slice
    ++ (given_switch (codes "--autosync") settings.autosync
    ++ (given_switch (codes "--failsync") settings.failsync
    ++ (given_switch (codes "--hardcode") settings.hardcode ++ more))))
others_told settings rest more e =
    said_told _ _ _ _ (balance_told settings.balance) (said_told _ _ _ _ (slice_told settings.slice)
    (said_told _ _ _ _ (switch_told (codes "autosync") settings.autosync)
    (said_told _ _ _ _ (switch_told (codes "failsync") settings.failsync)
    (said_told _ _ _ more (switch_told (codes "hardcode") settings.hardcode) e))))

configure_told : (n : Text) (settings : Settings)
    → map text_of (said false n settings) ≡ setting_words settings ++ n ∷ []
configure_told n settings =
    others_told settings _ (preference_words settings.preference ++ n ∷ [])
    (preference_told false settings.preference (named false (n ∷ []))) ∙ simp append_assoc

guarded_told : (n : Text) (settings : Settings)
    → map text_of (said true n settings) ≡ guarded_settings settings ++ codes "--" ∷ n ∷ []
guarded_told n settings =
    others_told settings _ (guarded_preference settings.preference ++ codes "--" ∷ n ∷ [])
    (preference_told true settings.preference (named true (n ∷ []))) ∙ simp append_assoc

-- ---- none of them begins with a hyphen

-- the provider of a preference doesn't, if it isn't guarded
abbrev MayStand : Bool → Option Preference → Type 0
MayStand true o = ⊤
MayStand false o = IfSome o (λ p. IsNoFlag p.provider)

some_plain : {A : Type 0} (word : A → Text) (o : Option A) → ((a : A) → IsNoFlag (word a))
    → IfSome (option_map word o) IsNoFlag
some_plain word None each = tt
some_plain word (Some a) each = each a

slice_plain : (o : Option ℕ) → SliceFits o → IfSome (option_map decimal o) IsNoFlag
slice_plain None fits = tt
slice_plain (Some n) fits = decimal_no_flag n fits.1

priority_plain : (o : Option Preference) → PreferenceFits o
    → IfSome (option_map (λ p. decimal p.priority) o) IsNoFlag
priority_plain None fits = tt
priority_plain (Some p) fits = let small : p.priority < 2 ^ 8 = fits.1 in
    decimal_no_flag p.priority (omega arith)

provider_plain : (guarded : Bool) (o : Option Preference) (rest : List Said) → MayStand guarded o
    → ArePlain rest
    → ArePlain (given_words (provider_words guarded) (option_map (λ p. p.provider) o) ++ rest)
provider_plain guarded None rest free plain_rest = plain_rest
provider_plain false (Some p) rest free plain_rest = (tt, (free, plain_rest))
provider_plain true (Some p) rest free plain_rest = (tt, plain_rest)

said_plain : (guarded : Bool) (n : Text) (settings : Settings) → SliceFits settings.slice
    → PreferenceFits settings.preference
    → MayStand guarded settings.preference → ArePlain (named guarded (n ∷ []))
    → ArePlain (said guarded n settings)
said_plain guarded n settings slice_fits preference_fits free names_plain =
    plain_more (codes "balance") _ _ (some_plain _ settings.balance balance_no_flag)
    (plain_more (codes "slice") _ _ (slice_plain settings.slice slice_fits)
    (plain_more (codes "autosync") _ _ (some_plain _ settings.autosync switch_no_flag)
    (plain_more (codes "failsync") _ _ (some_plain _ settings.failsync switch_no_flag)
    (plain_more (codes "hardcode") _ _ (some_plain _ settings.hardcode switch_no_flag)
    (provider_plain guarded settings.preference _ free
    (plain_more (codes "priority") _ _ (priority_plain settings.preference preference_fits)
    names_plain))))))

-- ---- the law

pub configure_canonical : (n : Text) (settings : Settings) → CommandFits (Configure n settings)
    → HasNoFlags (Configure n settings)
    → spelled (words (Configure n settings)) ≡ Some (Configure n settings)
configure_canonical n settings fits free =
    ap (λ (ws : List Text). spelled (codes "configure" ∷ ws)) (sym (configure_told n settings))
    ∙ configure_spelled n settings fits false
    (said_plain false n settings fits.1 fits.2 free.1 (free.0, tt))

pub configure_guarded : (n : Text) (settings : Settings) → CommandFits (Configure n settings)
    → spelled (guarded_words (Configure n settings)) ≡ Some (Configure n settings)
configure_guarded n settings fits =
    ap (λ (ws : List Text). spelled (codes "configure" ∷ ws)) (sym (guarded_told n settings))
    ∙ configure_spelled n settings fits true
    (said_plain true n settings fits.1 fits.2 tt (tt, (tt, tt)))
