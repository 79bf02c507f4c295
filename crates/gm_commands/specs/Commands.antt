-- Commands: what they can hold, and their canonical words.
use Rattle.std.specs.Prelude.{◌<◌, ◌≤◌, ◌^◌, ℕ, Bool, not, IsTrue, IfSome, List, [], ◌∷◌, ◌++◌, length, codes, Option, Some, None, if◌then◌else◌, ◌&&◌, nat_lt}
use Rattle.std.specs.List.{join_with_byte, list_all, flat_map}
use Rattle.std.specs.Fmt.{decimal}
use Rattle.hex.specs.Hex.{encode_lower}
use Rattle.gm_metadata.specs.Balance.{balance_name}
use Rattle.gm_metadata.specs.Labels.{is_label, is_label_byte}
use Rattle.gm_metadata.specs.declared.balance.Balance.{Balance}
use Rattle.gm_metadata.specs.declared.balance.Balance.TheVariants as balances
use Rattle.gm_commands.specs.declared.command.BalanceWord.{BalanceWord}
use Rattle.gm_commands.specs.declared.command.BalanceWord.TheVariants.{Load, Prefer, RoundRobin, Split}
use Rattle.gm_commands.specs.declared.command.Preference.{Preference}
use Rattle.gm_commands.specs.declared.command.Settings.{Settings}
use Rattle.gm_commands.specs.Sectors.{is_sector, joined}
use Rattle.gm_commands.specs.declared.command.Command.{Command}
use Rattle.gm_commands.specs.declared.command.Command.TheVariants.{Label, Insert, Remove, Deactivate, Activate, Forget, Rebuild, Configure, Clear, Destroy, Lost, Advance, Adopt, Patch}

-- the balance that a word asks for
abbrev pub balance_of_word : BalanceWord → Balance
balance_of_word Load = balances.Load
balance_of_word Prefer = balances.Prefer
balance_of_word RoundRobin = balances.RoundRobin
balance_of_word Split = balances.Split

-- a slice that is given isn't 0
abbrev pub SliceFits : Option ℕ → Type 0
SliceFits slice = IfSome slice (λ n. (0 < n) × (n < 2 ^ 32))

-- a priority that is given is a provider's
abbrev pub PreferenceFits : Option Preference → Type 0
PreferenceFits preference =
    IfSome preference (λ p. IsTrue (is_label p.provider) × (p.priority < 2 ^ 8))

-- names are labels, numbers fit, a slice isn't 0, and a patch has 1 to 64 sectors, as the types of
-- the code have it
abbrev pub CommandFits : Command → Type 0
CommandFits (Label new) = IsTrue (is_label new.name) × IsTrue (is_label new.provider)
    × (new.mid < 2 ^ 32) × (new.did < 2 ^ 32) × (0 < new.slice) × (new.slice < 2 ^ 32)
CommandFits (Insert new) = IsTrue (is_label new.name) × IsTrue (is_label new.provider)
    × (new.did < 2 ^ 32) × (new.priority < 2 ^ 8)
CommandFits (Remove n p) = IsTrue (is_label n) × IsTrue (is_label p)
CommandFits (Deactivate n p) = IsTrue (is_label n) × IsTrue (is_label p)
CommandFits (Activate n p) = IsTrue (is_label n) × IsTrue (is_label p)
CommandFits (Forget n) = IsTrue (is_label n)
CommandFits (Rebuild n p) = IsTrue (is_label n) × IsTrue (is_label p)
CommandFits (Configure n settings) = IsTrue (is_label n) × SliceFits settings.slice
    × PreferenceFits settings.preference
CommandFits (Clear p) = IsTrue (is_label p)
CommandFits (Destroy n) = IsTrue (is_label n)
CommandFits (Lost n ps) = IsTrue (is_label n) × IsTrue (list_all is_label ps) × (0 < length ps)
CommandFits (Advance n p) = IsTrue (is_label n) × IsTrue (is_label p)
CommandFits (Adopt n ps) = IsTrue (is_label n) × IsTrue (list_all is_label ps) × (0 < length ps)
CommandFits (Patch n first sectors) = IsTrue (is_label n) × (first < 2 ^ 32)
    × IsTrue (list_all is_sector sectors) × (0 < length sectors) × (length sectors ≤ 64)

-- on or off
abbrev pub on_where : Bool → List ℕ
on_where b = if b then codes "on" else codes "off"

-- the options of label that tell numbers and names
abbrev pub number_words : ℕ → ℕ → List ℕ → ℕ → List (List ℕ)
number_words mid did balance slice = codes "--mid" ∷ decimal mid ∷ codes "--did" ∷ decimal did
    ∷ codes "--balance" ∷ balance ∷ codes "--slice" ∷ decimal slice ∷ []

-- those that turn something on or off
abbrev pub switch_words : List ℕ → List ℕ → List ℕ → List (List ℕ)
switch_words autosync failsync hardcode =
    codes "--autosync" ∷ autosync ∷ codes "--failsync" ∷ failsync ∷ codes "--hardcode" ∷ hardcode
    ∷ []

-- the options of configure, each if it was given
abbrev pub balance_words : Option BalanceWord → List (List ℕ)
balance_words None = []
balance_words (Some balance) = codes "--balance" ∷ balance_name (balance_of_word balance) ∷ []

abbrev pub slice_words : Option ℕ → List (List ℕ)
slice_words None = []
slice_words (Some bytes) = codes "--slice" ∷ decimal bytes ∷ []

abbrev pub given_switch : List ℕ → Option Bool → List (List ℕ)
given_switch option None = []
given_switch option (Some set) = option ∷ on_where set ∷ []

abbrev pub preference_words : Option Preference → List (List ℕ)
preference_words None = []
preference_words (Some p) = codes "--prov" ∷ p.provider ∷ codes "--priority" ∷ decimal p.priority
    ∷ []

abbrev pub setting_words : Settings → List (List ℕ)
setting_words s =
    balance_words s.balance ++ slice_words s.slice ++ given_switch (codes "--autosync") s.autosync
    ++ given_switch (codes "--failsync") s.failsync ++ given_switch (codes "--hardcode") s.hardcode
    ++ preference_words s.preference

-- those of patch: its bytes are in lower-case hexadecimal
abbrev pub patch_words : List ℕ → ℕ → List (List ℕ) → List (List ℕ)
patch_words n first sectors = codes "patch" ∷ codes "--first" ∷ decimal first ∷ codes "--data"
    ∷ encode_lower (joined sectors) ∷ n ∷ []

-- a space before each
abbrev pub spaced : List (List ℕ) → List ℕ
spaced ws = flat_map (λ w. 32 ∷ w) ws

-- the words: the command, its options in their order with each default written out, and then the
-- names
abbrev pub words : Command → List (List ℕ)
words (Label new) =
    codes "label" ∷ number_words new.mid new.did (balance_name (balance_of_word new.balance))
    new.slice
    ++ switch_words (on_where (not new.flags.no_autosync)) (on_where (not new.flags.no_failsync))
    (on_where new.hardcoded)
    ++ new.name ∷ new.provider ∷ []
words (Insert new) =
    codes "insert" ∷ codes "--did" ∷ decimal new.did ∷ codes "--priority" ∷ decimal new.priority
    ∷ codes "--hardcode" ∷ on_where new.hardcoded ∷ new.name ∷ new.provider ∷ []
words (Remove n p) = codes "remove" ∷ n ∷ p ∷ []
words (Deactivate n p) = codes "deactivate" ∷ n ∷ p ∷ []
words (Activate n p) = codes "activate" ∷ n ∷ p ∷ []
words (Forget n) = codes "forget" ∷ n ∷ []
words (Rebuild n p) = codes "rebuild" ∷ n ∷ p ∷ []
words (Configure n settings) = codes "configure" ∷ setting_words settings ++ n ∷ []
words (Clear p) = codes "clear" ∷ p ∷ []
words (Destroy n) = codes "destroy" ∷ n ∷ []
words (Lost n ps) = codes "lost" ∷ n ∷ ps
words (Advance n p) = codes "advance" ∷ n ∷ p ∷ []
words (Adopt n ps) = codes "adopt" ∷ n ∷ ps
words (Patch n first sectors) = patch_words n first sectors

-- the canonical words: joined by one space
abbrev pub words_of : Command → List ℕ
words_of c = join_with_byte 32 (words c)

-- 1 to 32 of the characters of labels
abbrev pub is_key : List ℕ → Bool
is_key key = (nat_lt 0 (length key) && nat_lt (length key) 33) && list_all is_label_byte key
