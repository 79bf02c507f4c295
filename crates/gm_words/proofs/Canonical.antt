-- The canonical words of a command spell it, and so do they with `--` before the names.
use Rattle.gm_words.proofs.Common.{◌≡◌, ◌∙◌, ◌<◌, ◌^◌, ℕ, Bool, true, false, not, refl, ap, arith, List, [], ◌∷◌, ◌++◌, map, Some, ⊤, codes, option_map, decimal, Row, Text, App, balance_name, is_label, Command, Label, Insert, Remove, Deactivate, Activate, Forget, Rebuild, Configure, Clear, Destroy, Lost, Advance, Adopt, Patch, joined, encode_lower, CommandFits, balance_of_word, on_where, words, HasNoFlags, IsNoFlag, guarded_words, label_at, of_component, of_mirror, of_provider, spelled, insert, label, on_component, on_mirror, on_provider, patch}
use Rattle.clap.proofs.OnLiterals.{clap_on_literals}
use Rattle.gm_commands.specs.declared.command.NewComponent.{NewComponent}
use Rattle.gm_commands.specs.declared.command.NewMirror.{NewMirror}
use Rattle.gm_words.specs.Spelling.{command_of, insert_of, label_of, named_of, patch_of}
use Rattle.gm_words.specs.Table.{name, names, optional, possible, wanted}
use Rattle.gm_words.proofs.ConfigureWords.{configure_canonical, configure_guarded}
use Rattle.gm_words.proofs.FoundCommand.{AreFound, Finds, component, found, leaf, named}
use Rattle.gm_words.proofs.Several.{adopt_canonical, adopt_guarded, lost_canonical, lost_guarded}
use Rattle.gm_words.proofs.ReadSectors.{digits_no_flag, sectors_read}
use Rattle.gm_words.proofs.ReadValues.{balance_no_flag, balance_read, component_read, decimal_no_flag, flags_read, label_read, number_read, priority_read, slice_read, switch_no_flag, switch_read}
use Rattle.gm_words.proofs.ClapWalk.{ArePlain, Has, Said, exact, plain, spelled_as, text_of}

-- ---- the table has each command

pub has_label : Has (codes "label") (leaf label) label_of
unfolding clap_on_literals name names optional possible wanted command_of named_of
has_label = record {
  meets = refl;
  passes = refl;
  rows = λ behind. refl;
  faults = λ behind. refl;
  reads = λ found. refl;
}

pub has_insert : Has (codes "insert") (leaf insert) insert_of
unfolding clap_on_literals name names optional possible wanted command_of named_of
has_insert = record {
  meets = refl;
  passes = refl;
  rows = λ behind. refl;
  faults = λ behind. refl;
  reads = λ found. refl;
}

pub has_patch : Has (codes "patch") (leaf patch) patch_of
unfolding clap_on_literals name names optional possible wanted command_of named_of
has_patch = record {
  meets = refl;
  passes = refl;
  rows = λ behind. refl;
  faults = λ behind. refl;
  reads = λ found. refl;
}

pub has_remove : Has (codes "remove") (leaf (on_component (codes "remove"))) (of_component Remove)
unfolding clap_on_literals name names optional possible wanted command_of named_of
has_remove = record {
  meets = refl;
  passes = refl;
  rows = λ behind. refl;
  faults = λ behind. refl;
  reads = λ found. refl;
}

pub has_deactivate : Has (codes "deactivate") (leaf (on_component (codes "deactivate")))
    (of_component Deactivate)
unfolding clap_on_literals name names optional possible wanted command_of named_of
has_deactivate = record {
  meets = refl;
  passes = refl;
  rows = λ behind. refl;
  faults = λ behind. refl;
  reads = λ found. refl;
}

pub has_activate : Has (codes "activate") (leaf (on_component (codes "activate")))
    (of_component Activate)
unfolding clap_on_literals name names optional possible wanted command_of named_of
has_activate = record {
  meets = refl;
  passes = refl;
  rows = λ behind. refl;
  faults = λ behind. refl;
  reads = λ found. refl;
}

pub has_forget : Has (codes "forget") (leaf (on_mirror (codes "forget"))) (of_mirror Forget)
unfolding clap_on_literals name names optional possible wanted command_of named_of
has_forget = record {
  meets = refl;
  passes = refl;
  rows = λ behind. refl;
  faults = λ behind. refl;
  reads = λ found. refl;
}

pub has_rebuild : Has (codes "rebuild") (leaf (on_component (codes "rebuild")))
    (of_component Rebuild)
unfolding clap_on_literals name names optional possible wanted command_of named_of
has_rebuild = record {
  meets = refl;
  passes = refl;
  rows = λ behind. refl;
  faults = λ behind. refl;
  reads = λ found. refl;
}

pub has_advance : Has (codes "advance") (leaf (on_component (codes "advance")))
    (of_component Advance)
unfolding clap_on_literals name names optional possible wanted command_of named_of
has_advance = record {
  meets = refl;
  passes = refl;
  rows = λ behind. refl;
  faults = λ behind. refl;
  reads = λ found. refl;
}

pub has_clear : Has (codes "clear") (leaf (on_provider (codes "clear"))) (of_provider Clear)
unfolding clap_on_literals name names optional possible wanted command_of named_of
has_clear = record {
  meets = refl;
  passes = refl;
  rows = λ behind. refl;
  faults = λ behind. refl;
  reads = λ found. refl;
}

pub has_destroy : Has (codes "destroy") (leaf (on_mirror (codes "destroy"))) (of_mirror Destroy)
unfolding clap_on_literals name names optional possible wanted command_of named_of
has_destroy = record {
  meets = refl;
  passes = refl;
  rows = λ behind. refl;
  faults = λ behind. refl;
  reads = λ found. refl;
}

-- ---- the commands that have names alone

mirror_finds : (word n : Text) (guarded : Bool)
    → Finds (on_mirror word) (named guarded (n ∷ [])) ((codes "name", n) ∷ [])
unfolding clap_on_literals name
mirror_finds word n true = record { passes = refl; are = (refl, tt) }
mirror_finds word n false = record { passes = refl; are = (refl, tt) }

provider_finds : (word p : Text) (guarded : Bool)
    → Finds (on_provider word) (named guarded (p ∷ [])) ((codes "prov", p) ∷ [])
unfolding clap_on_literals name
provider_finds word p true = record { passes = refl; are = (refl, tt) }
provider_finds word p false = record { passes = refl; are = (refl, tt) }

component_finds : (word n p : Text) (guarded : Bool)
    → Finds (on_component word) (named guarded (n ∷ p ∷ [])) (component n p)
unfolding clap_on_literals name
component_finds word n p true = record { passes = refl; are = (refl, (refl, tt)) }
component_finds word n p false = record { passes = refl; are = (refl, (refl, tt)) }

-- a command that finds its one name is spelled, and so are those of each shape below
name_spelled : (word : Text) (command : App) (id : Text) (make : Text → Command)
    → Has word (leaf command) (λ rows. option_map make (label_at id rows))
    → (n : Text) → is_label n ≡ true → (said : List Said) → ArePlain said
    → Finds command said ((id, n) ∷ [])
    → spelled (word ∷ map text_of said) ≡ Some (make n)
name_spelled word command id make has n fits said free finds =
    spelled_as word (leaf command) (λ rows. option_map make (label_at id rows)) has said free
    finds.passes
    ∙ ap (option_map make) (label_read id (found command said) n finds.are.0 fits)

mirror_spelled : {word : Text} (make : Text → Command)
    → Has word (leaf (on_mirror word)) (of_mirror make)
    → (n : Text) → is_label n ≡ true → (guarded : Bool) → ArePlain (named guarded (n ∷ []))
    → spelled (word ∷ map text_of (named guarded (n ∷ []))) ≡ Some (make n)
mirror_spelled {word} make has n fits guarded free =
    name_spelled word (on_mirror word) (codes "name") make has n fits (named guarded (n ∷ [])) free
    (mirror_finds word n guarded)

provider_spelled : {word : Text} (make : Text → Command)
    → Has word (leaf (on_provider word)) (of_provider make)
    → (p : Text) → is_label p ≡ true → (guarded : Bool) → ArePlain (named guarded (p ∷ []))
    → spelled (word ∷ map text_of (named guarded (p ∷ []))) ≡ Some (make p)
provider_spelled {word} make has p fits guarded free =
    name_spelled word (on_provider word) (codes "prov") make has p fits
    (named guarded (p ∷ [])) free (provider_finds word p guarded)

component_spelled : {word : Text} (make : Text → Text → Command)
    → Has word (leaf (on_component word)) (of_component make)
    → (n p : Text) → (is_label n ≡ true) × (is_label p ≡ true) → (guarded : Bool)
    → ArePlain (named guarded (n ∷ p ∷ []))
    → spelled (word ∷ map text_of (named guarded (n ∷ p ∷ []))) ≡ Some (make n p)
component_spelled {word} make has n p fits guarded free =
    let said = named guarded (n ∷ p ∷ []) in
    let finds = component_finds word n p guarded in
    spelled_as word (leaf (on_component word)) (of_component make) has said free finds.passes
    ∙ ap (option_map (λ names. make names.name names.provider))
    (component_read (found (on_component word) said) n p finds.are.0 finds.are.1.0 fits.0 fits.1)

-- ---- the commands that have options

-- options, each with its value, before the names
abbrev with_options : List (Text × Text) → List Said → List Said
with_options [] names = names
with_options (o ∷ rest) names = exact (codes "--" ++ o.0) ∷ plain o.1 ∷ with_options rest names

-- no value begins with a hyphen
abbrev AreValues : List (Text × Text) → Type 0
AreValues [] = ⊤
AreValues (o ∷ rest) = IsNoFlag o.1 × AreValues rest

options_plain : (options : List (Text × Text)) (names : List Said) → AreValues options
    → ArePlain names → ArePlain (with_options options names)
options_plain [] names values free = free
options_plain (o ∷ rest) names values free =
    (tt, (values.0, options_plain rest names values.1 free))

-- the options of label, with these values
abbrev label_options : Text → Text → Text → Text → Text → Text → Text → List (Text × Text)
label_options mid did balance slice autosync failsync hardcode =
    (codes "mid", mid) ∷ (codes "did", did) ∷ (codes "balance", balance) ∷ (codes "slice", slice)
    ∷ (codes "autosync", autosync) ∷ (codes "failsync", failsync) ∷ (codes "hardcode", hardcode)
    ∷ []

label_finds : (mid did balance slice autosync failsync hardcode n p : Text) (guarded : Bool) →
    let options = label_options mid did balance slice autosync failsync hardcode in
    Finds label (with_options options (named guarded (n ∷ p ∷ []))) (component n p ++ options)
unfolding clap_on_literals name optional wanted
label_finds mid did balance slice autosync failsync hardcode n p true =
    record {
      passes = refl;
      are = (refl, (refl, (refl, (refl, (refl, (refl, (refl, (refl, (refl, tt)))))))));
    }
label_finds mid did balance slice autosync failsync hardcode n p false =
    record {
      passes = refl;
      are = (refl, (refl, (refl, (refl, (refl, (refl, (refl, (refl, (refl, tt)))))))));
    }

module _ (new : NewMirror) (fits : CommandFits (Label new)) where
  -- the command's own options
  abbrev label_own : List (Text × Text)
  label_own = label_options (decimal new.mid) (decimal new.did)
      (balance_name (balance_of_word new.balance)) (decimal new.slice)
      (on_where (not new.flags.no_autosync)) (on_where (not new.flags.no_failsync))
      (on_where new.hardcoded)

  label_values : AreValues label_own
  label_values =
      let mid_value = decimal_no_flag new.mid fits.2 in
      let did_value = decimal_no_flag new.did fits.3 in
      let slice_value = decimal_no_flag new.slice fits.5 in
      let autosync = switch_no_flag (not new.flags.no_autosync) in
      let failsync = switch_no_flag (not new.flags.no_failsync) in (
        mid_value,
        (
          did_value,
          (
            balance_no_flag new.balance,
            (slice_value, (autosync, (failsync, (switch_no_flag new.hardcoded, tt)))),
          ),
        ),
      )

  label_from : (rows : List Row) → AreFound rows (component new.name new.provider ++ label_own)
      → label_of rows ≡ Some (Label new)
  unfolding label_of
  label_from rows (
    name_is,
    (
      provider_is,
      (
        mid_is,
        (
          did_is,
          (balance_is, (slice_is, (autosync_is, (failsync_is, (hardcode_is, _))))),
        ),
      ),
    ),
  ) =
      let names = component_read rows new.name new.provider name_is provider_is fits.0 fits.1 in
      let mids = number_read (codes "mid") rows new.mid mid_is fits.2 in
      let dids = number_read (codes "did") rows new.did did_is fits.3 in
      let balances = balance_read (codes "balance") rows new.balance balance_is in
      let slices = slice_read (codes "slice") rows new.slice slice_is fits.4 fits.5 in
      let flags = flags_read rows new.flags
      (switch_read (codes "autosync") rows (not new.flags.no_autosync) autosync_is)
      (switch_read (codes "failsync") rows (not new.flags.no_failsync) failsync_is) in
      let hardcodes = switch_read (codes "hardcode") rows new.hardcoded hardcode_is in
      rw (names, mids, dids, balances, slices, flags, hardcodes) refl

  label_spelled : (guarded : Bool) → let names = named guarded (new.name ∷ new.provider ∷ []) in
      ArePlain names → spelled (codes "label" ∷ map text_of (with_options label_own names))
      ≡ Some (Label new)
  label_spelled guarded free =
      let names = named guarded (new.name ∷ new.provider ∷ []) in
      let finds = label_finds (decimal new.mid) (decimal new.did)
      (balance_name (balance_of_word new.balance)) (decimal new.slice)
      (on_where (not new.flags.no_autosync)) (on_where (not new.flags.no_failsync))
      (on_where new.hardcoded) new.name new.provider guarded in
      spelled_as (codes "label") (leaf label) label_of has_label (with_options label_own names)
      (options_plain label_own names label_values free) finds.passes
      ∙ label_from (found label (with_options label_own names)) finds.are

-- the options of insert, with these values
abbrev insert_options : Text → Text → Text → List (Text × Text)
insert_options did priority hardcode = (codes "did", did) ∷ (codes "priority", priority)
    ∷ (codes "hardcode", hardcode) ∷ []

insert_finds : (did priority hardcode n p : Text) (guarded : Bool) →
    let options = insert_options did priority hardcode in
    Finds insert (with_options options (named guarded (n ∷ p ∷ []))) (component n p ++ options)
unfolding clap_on_literals name optional wanted
insert_finds did priority hardcode n p true =
    record { passes = refl; are = (refl, (refl, (refl, (refl, (refl, tt))))) }
insert_finds did priority hardcode n p false =
    record { passes = refl; are = (refl, (refl, (refl, (refl, (refl, tt))))) }

module _ (new : NewComponent) (fits : CommandFits (Insert new)) where
  -- the command's own options
  abbrev insert_own : List (Text × Text)
  insert_own = insert_options (decimal new.did) (decimal new.priority) (on_where new.hardcoded)

  insert_values : AreValues insert_own
  insert_values =
      let small : new.priority < 2 ^ 8 = fits.3 in (
        decimal_no_flag new.did fits.2,
        (
          decimal_no_flag new.priority (omega arith),
          (switch_no_flag new.hardcoded, tt),
        ),
      )

  insert_from : (rows : List Row) → AreFound rows (component new.name new.provider ++ insert_own)
      → insert_of rows ≡ Some (Insert new)
  unfolding insert_of
  insert_from rows (name_is, (provider_is, (did_is, (priority_is, (hardcode_is, _))))) =
      let names = component_read rows new.name new.provider name_is provider_is fits.0 fits.1 in
      let dids = number_read (codes "did") rows new.did did_is fits.2 in
      let priorities = priority_read (codes "priority") rows new.priority priority_is fits.3 in
      let hardcodes = switch_read (codes "hardcode") rows new.hardcoded hardcode_is in
      rw (names, dids, priorities, hardcodes) refl

  insert_spelled : (guarded : Bool) → let names = named guarded (new.name ∷ new.provider ∷ []) in
      ArePlain names → spelled (codes "insert" ∷ map text_of (with_options insert_own names))
      ≡ Some (Insert new)
  insert_spelled guarded free =
      let names = named guarded (new.name ∷ new.provider ∷ []) in
      let finds = insert_finds (decimal new.did) (decimal new.priority)
      (on_where new.hardcoded) new.name new.provider guarded in
      spelled_as (codes "insert") (leaf insert) insert_of has_insert (with_options insert_own names)
      (options_plain insert_own names insert_values free) finds.passes
      ∙ insert_from (found insert (with_options insert_own names)) finds.are

-- the options of patch, with these values
abbrev patch_options : Text → Text → List (Text × Text)
patch_options first digits = (codes "first", first) ∷ (codes "data", digits) ∷ []

patch_finds : (first digits n : Text) (guarded : Bool) →
    let options = patch_options first digits in
    Finds patch (with_options options (named guarded (n ∷ []))) ((codes "name", n) ∷ options)
unfolding clap_on_literals name wanted
patch_finds first digits n true = record { passes = refl; are = (refl, (refl, (refl, tt))) }
patch_finds first digits n false = record { passes = refl; are = (refl, (refl, (refl, tt))) }

module _ (n : List ℕ) (first : ℕ) (sectors : List (List ℕ))
    (fits : CommandFits (Patch n first sectors)) where
  -- the command's own options
  abbrev patch_own : List (Text × Text)
  patch_own = patch_options (decimal first) (encode_lower (joined sectors))

  patch_from : (rows : List Row) → AreFound rows ((codes "name", n) ∷ patch_own)
      → patch_of rows ≡ Some (Patch n first sectors)
  unfolding patch_of
  patch_from rows (name_is, (first_is, (data_is, _))) =
      rw (
        label_read (codes "name") rows n name_is fits.0,
        number_read (codes "first") rows first first_is fits.1,
        sectors_read sectors fits.2 fits.3 fits.4 (codes "data") rows data_is,
      ) refl

  patch_spelled : (guarded : Bool) → let names = named guarded (n ∷ []) in
      ArePlain names → spelled (codes "patch" ∷ map text_of (with_options patch_own names))
      ≡ Some (Patch n first sectors)
  patch_spelled guarded free =
      let names = named guarded (n ∷ []) in
      let finds = patch_finds (decimal first) (encode_lower (joined sectors)) n guarded in
      spelled_as (codes "patch") (leaf patch) patch_of has_patch (with_options patch_own names)
      (options_plain patch_own names (
        decimal_no_flag first fits.1,
        (digits_no_flag sectors fits.2, tt),
      ) free) finds.passes
      ∙ patch_from (found patch (with_options patch_own names)) finds.are

-- ---- the law

pub canonical : (c : Command) → CommandFits c → HasNoFlags c → spelled (words c) ≡ Some c
canonical (Label new) fits free = label_spelled new fits false (free.0, (free.1, tt))
canonical (Insert new) fits free = insert_spelled new fits false (free.0, (free.1, tt))
canonical (Remove n p) fits free =
    component_spelled Remove has_remove n p fits false (free.0, (free.1, tt))
canonical (Deactivate n p) fits free =
    component_spelled Deactivate has_deactivate n p fits false (free.0, (free.1, tt))
canonical (Activate n p) fits free =
    component_spelled Activate has_activate n p fits false (free.0, (free.1, tt))
canonical (Forget n) fits free = mirror_spelled Forget has_forget n fits false (free, tt)
canonical (Rebuild n p) fits free =
    component_spelled Rebuild has_rebuild n p fits false (free.0, (free.1, tt))
canonical (Configure n settings) fits free = configure_canonical n settings fits free
canonical (Clear p) fits free = provider_spelled Clear has_clear p fits false (free, tt)
canonical (Destroy n) fits free = mirror_spelled Destroy has_destroy n fits false (free, tt)
canonical (Lost n ps) fits free = lost_canonical n ps fits free
canonical (Advance n p) fits free =
    component_spelled Advance has_advance n p fits false (free.0, (free.1, tt))
canonical (Adopt n ps) fits free = adopt_canonical n ps fits free
canonical (Patch n first sectors) fits free =
    patch_spelled n first sectors fits false (free, tt)

pub guarded : (c : Command) → CommandFits c → spelled (guarded_words c) ≡ Some c
guarded (Label new) fits = label_spelled new fits true (tt, (tt, (tt, tt)))
guarded (Insert new) fits = insert_spelled new fits true (tt, (tt, (tt, tt)))
guarded (Remove n p) fits = component_spelled Remove has_remove n p fits true (tt, (tt, (tt, tt)))
guarded (Deactivate n p) fits =
    component_spelled Deactivate has_deactivate n p fits true (tt, (tt, (tt, tt)))
guarded (Activate n p) fits =
    component_spelled Activate has_activate n p fits true (tt, (tt, (tt, tt)))
guarded (Forget n) fits = mirror_spelled Forget has_forget n fits true (tt, (tt, tt))
guarded (Rebuild n p) fits =
    component_spelled Rebuild has_rebuild n p fits true (tt, (tt, (tt, tt)))
guarded (Configure n settings) fits = configure_guarded n settings fits
guarded (Clear p) fits = provider_spelled Clear has_clear p fits true (tt, (tt, tt))
guarded (Destroy n) fits = mirror_spelled Destroy has_destroy n fits true (tt, (tt, tt))
guarded (Lost n ps) fits = lost_guarded n ps fits
guarded (Advance n p) fits =
    component_spelled Advance has_advance n p fits true (tt, (tt, (tt, tt)))
guarded (Adopt n ps) fits = adopt_guarded n ps fits
guarded (Patch n first sectors) fits = patch_spelled n first sectors fits true (tt, (tt, tt))
