-- Which command words spell.
use Rattle.std.specs.Prelude.{All, IfSome, ◌≡◌, ◌==◌, ◌&&◌, ◌^◌, ⊤, ℕ, Bool, not, true, false, List, [], ◌∷◌, ◌++◌, Option, Some, None, codes, length, nat_lt, if◌then◌else◌, option_and_then, option_map}
use Rattle.std.specs.Fmt.{decimal}
use Rattle.std.specs.List.{list_all}
use Rattle.std.specs.Str.{bytes_eq}
use Rattle.std.specs.Str.Parse.{digits_value, without_leading_plus}
use Rattle.clap.specs.ValueTests.{is_numeral}
use Rattle.clap.specs.Walk.{Row, Text, all_of, first_of}
use Rattle.clap.specs.Simple.{subcommand_of}
use Rattle.clap.specs.Faults.{fault_of}
use Rattle.clap.specs.Kinds.{Kinds}
use Rattle.gm_metadata.specs.Balance.{balance_name}
use Rattle.gm_metadata.specs.Labels.{is_label}
use Rattle.gm_metadata.specs.declared.flags.MirrorFlags.{MirrorFlags}
use Rattle.gm_commands.specs.declared.command.BalanceWord.{BalanceWord}
use Rattle.gm_commands.specs.declared.command.BalanceWord.TheVariants.{Load, Prefer, RoundRobin, Split}
use Rattle.gm_commands.specs.declared.command.Preference.{Preference}
use Rattle.gm_commands.specs.declared.command.Settings.{Settings}
use Rattle.gm_commands.specs.declared.command.Command.{Command}
use Rattle.gm_commands.specs.declared.command.Command.TheVariants.{Label, Insert, Remove, Deactivate, Activate, Forget, Rebuild, Configure, Clear, Destroy, Lost, Advance, Adopt, Patch}
use Rattle.gm_commands.specs.Commands.{balance_of_word, number_words, on_where, setting_words, switch_words}
use Rattle.gm_commands.specs.Sectors.{joined}
use Rattle.hex.specs.Hex.{encode_lower}
use Rattle.gm_words.specs.Digits.{sectors_in}
use Rattle.gm_words.specs.Table.{table}
use Rattle.gm_words.specs.declared.command_words.ComponentNames.{ComponentNames}
use Rattle.gm_words.specs.declared.command_words.SeveralNames.{SeveralNames}

infixl 10 ◌>>=◌
abbrev pub ◌>>=◌ : {A B : Type 0} → Option A → (A → Option B) → Option B
o >>= f = option_and_then f o

-- ---- the kinds of values

-- a number below the bound: decimal digits, after a plus or not
unfoldable pub number_below : ℕ → Text → Option ℕ
number_below bound text =
    let digits = without_leading_plus text in
    if is_numeral digits && nat_lt (digits_value 10 digits) bound then Some
    (digits_value 10 digits) else None

unfoldable pub slice_in : Text → Option ℕ
slice_in text = do
  bytes ← number_below (2 ^ 32) text
  if bytes == 0 then None else Some bytes

unfoldable pub switch_in : Text → Option Bool
switch_in text = if bytes_eq text (codes "on") then Some true else if bytes_eq text
    (codes "off") then Some false else None

unfoldable pub balance_in : Text → Option BalanceWord
balance_in text =
    if bytes_eq text (codes "load") then Some Load
    else if bytes_eq text (codes "prefer") then Some Prefer
    else if bytes_eq text (codes "round-robin") then Some RoundRobin
    else if bytes_eq text (codes "split") then Some Split
    else None

unfoldable pub label_in : Text → Option Text
label_in text = if is_label text then Some text else None

-- labels, one or more
unfoldable pub providers_in : List Text → Option (List Text)
providers_in texts = if list_all is_label texts && not (length texts == 0) then Some texts else None

-- of an option that may be left out: that it is, or its value, if that is one of its kind
abbrev pub if_given : {A : Type 0} → (Text → Option A) → Option Text → Option (Option A)
if_given kind None = Some None
if_given kind (Some text) = option_map Some (kind text)

-- a provider and its priority: both or neither
unfoldable pub preference_in : Option Text → Option Text → Option (Option Preference)
preference_in None None = Some None
preference_in (Some provider) (Some priority) = do
  provider ← label_in provider
  priority ← number_below (2 ^ 8) priority
  Some (Some (record { provider = provider; priority = priority }))
preference_in _ _ = None

-- ---- the commands, by what clap found for each option and name

unfoldable pub number_at : Text → List Row → Option ℕ
number_at id rows = first_of id rows >>= number_below (2 ^ 32)

unfoldable pub priority_at : Text → List Row → Option ℕ
priority_at id rows = first_of id rows >>= number_below (2 ^ 8)

unfoldable pub slice_at : Text → List Row → Option ℕ
slice_at id rows = first_of id rows >>= slice_in

unfoldable pub switch_at : Text → List Row → Option Bool
switch_at id rows = first_of id rows >>= switch_in

unfoldable pub balance_at : Text → List Row → Option BalanceWord
balance_at id rows = first_of id rows >>= balance_in

unfoldable pub label_at : Text → List Row → Option Text
label_at id rows = first_of id rows >>= label_in

unfoldable pub providers_at : Text → List Row → Option (List Text)
providers_at id rows = all_of id rows >>= providers_in

unfoldable pub sectors_at : Text → List Row → Option (List (List ℕ))
sectors_at id rows = first_of id rows >>= sectors_in

unfoldable pub flags_at : List Row → Option MirrorFlags
flags_at rows = do
  autosync ← switch_at (codes "autosync") rows
  failsync ← switch_at (codes "failsync") rows
  Some (record { no_autosync = not autosync; no_failsync = not failsync })

-- the names that tell a component
unfoldable pub component_at : List Row → Option ComponentNames
component_at rows = do
  name ← label_at (codes "name") rows
  provider ← label_at (codes "prov") rows
  Some (record { name = name; provider = provider })

unfoldable pub label_of : List Row → Option Command
label_of rows = do
  names ← component_at rows
  mid ← number_at (codes "mid") rows
  did ← number_at (codes "did") rows
  balance ← balance_at (codes "balance") rows
  slice ← slice_at (codes "slice") rows
  flags ← flags_at rows
  hardcoded ← switch_at (codes "hardcode") rows
  Some (Label (record {
    name = names.name;
    provider = names.provider;
    mid = mid;
    did = did;
    balance = balance;
    slice = slice;
    flags = flags;
    hardcoded = hardcoded;
  }))

unfoldable pub insert_of : List Row → Option Command
insert_of rows = do
  names ← component_at rows
  did ← number_at (codes "did") rows
  priority ← priority_at (codes "priority") rows
  hardcoded ← switch_at (codes "hardcode") rows
  Some (Insert (record {
    name = names.name;
    provider = names.provider;
    did = did;
    priority = priority;
    hardcoded = hardcoded;
  }))

unfoldable pub settings_at : List Row → Option Settings
settings_at rows = do
  balance ← if_given balance_in (first_of (codes "balance") rows)
  slice ← if_given slice_in (first_of (codes "slice") rows)
  autosync ← if_given switch_in (first_of (codes "autosync") rows)
  failsync ← if_given switch_in (first_of (codes "failsync") rows)
  hardcode ← if_given switch_in (first_of (codes "hardcode") rows)
  preference ← preference_in (first_of (codes "prov") rows) (first_of (codes "priority") rows)
  Some (record {
    balance = balance;
    slice = slice;
    autosync = autosync;
    failsync = failsync;
    hardcode = hardcode;
    preference = preference;
  })

unfoldable pub configure_of : List Row → Option Command
configure_of rows = do
  name ← label_at (codes "name") rows
  settings ← settings_at rows
  Some (Configure name settings)

unfoldable pub patch_of : List Row → Option Command
patch_of rows = do
  name ← label_at (codes "name") rows
  first ← number_at (codes "first") rows
  sectors ← sectors_at (codes "data") rows
  Some (Patch name first sectors)

-- the names of a mirror and of one or more providers
unfoldable pub several_at : List Row → Option SeveralNames
several_at rows = do
  name ← label_at (codes "name") rows
  providers ← providers_at (codes "prov") rows
  Some (record { name = name; providers = providers })

-- a command on them
abbrev pub several_of : (Text → List Text → Command) → List Row → Option Command
several_of command rows = option_map (λ names. command names.name names.providers) (several_at rows)

-- a command on a component
abbrev pub of_component : (Text → Text → Command) → List Row → Option Command
of_component command rows =
    option_map (λ names. command names.name names.provider) (component_at rows)

-- a command on a mirror
abbrev pub of_mirror : (Text → Command) → List Row → Option Command
of_mirror command rows = option_map command (label_at (codes "name") rows)

-- a command on a provider
abbrev pub of_provider : (Text → Command) → List Row → Option Command
of_provider command rows = option_map command (label_at (codes "prov") rows)

-- the command of this word that has one name or a component's
unfoldable pub named_of : Text → List Row → Option Command
named_of word rows =
    if bytes_eq word (codes "remove") then of_component Remove rows
    else if bytes_eq word (codes "deactivate") then of_component Deactivate rows
    else if bytes_eq word (codes "activate") then of_component Activate rows
    else if bytes_eq word (codes "forget") then of_mirror Forget rows
    else if bytes_eq word (codes "rebuild") then of_component Rebuild rows
    else if bytes_eq word (codes "clear") then of_provider Clear rows
    else if bytes_eq word (codes "destroy") then of_mirror Destroy rows
    else if bytes_eq word (codes "advance") then of_component Advance rows
    else None

-- the command of this word, of which these rows were found
unfoldable pub command_of : Text → List Row → Option Command
command_of word rows =
    if bytes_eq word (codes "label") then label_of rows
    else if bytes_eq word (codes "insert") then insert_of rows
    else if bytes_eq word (codes "configure") then configure_of rows
    else if bytes_eq word (codes "lost") then several_of Lost rows
    else if bytes_eq word (codes "adopt") then several_of Adopt rows
    else if bytes_eq word (codes "patch") then patch_of rows
    else named_of word rows

-- ---- the words

-- the command of the name that clap met, if it finds no fault
abbrev pub taken : Kinds → Option (Text × List Row) → Option Command
taken faults found = if length faults == 0 then found >>= (λ p. command_of p.0 p.1) else None

-- the command, if clap takes the words by the table and each value is one of its kind
unfoldable pub spelled : List Text → Option Command
spelled words = taken (fault_of table words) (subcommand_of table words)

-- ---- words that aren't taken for options

-- the text doesn't begin with a hyphen
abbrev pub IsNoFlag : Text → Type 0
IsNoFlag [] = ⊤
IsNoFlag (x ∷ xs) = (x == 45) ≡ false

-- no name of the command does
abbrev pub HasNoFlags : Command → Type 0
HasNoFlags (Label new) = IsNoFlag new.name × IsNoFlag new.provider
HasNoFlags (Insert new) = IsNoFlag new.name × IsNoFlag new.provider
HasNoFlags (Remove name provider) = IsNoFlag name × IsNoFlag provider
HasNoFlags (Deactivate name provider) = IsNoFlag name × IsNoFlag provider
HasNoFlags (Activate name provider) = IsNoFlag name × IsNoFlag provider
HasNoFlags (Forget name) = IsNoFlag name
HasNoFlags (Rebuild name provider) = IsNoFlag name × IsNoFlag provider
HasNoFlags (Configure name settings) =
    IsNoFlag name × IfSome settings.preference (λ p. IsNoFlag p.provider)
HasNoFlags (Clear provider) = IsNoFlag provider
HasNoFlags (Destroy name) = IsNoFlag name
HasNoFlags (Lost name providers) = IsNoFlag name × All IsNoFlag providers
HasNoFlags (Advance name provider) = IsNoFlag name × IsNoFlag provider
HasNoFlags (Adopt name providers) = IsNoFlag name × All IsNoFlag providers
HasNoFlags (Patch name first sectors) = IsNoFlag name

-- the options of configure with the provider after `=`
abbrev pub guarded_preference : Option Preference → List Text
guarded_preference None = []
guarded_preference (Some p) = (codes "--prov=" ++ p.provider) ∷ codes "--priority"
    ∷ decimal p.priority ∷ []

abbrev pub guarded_settings : Settings → List Text
guarded_settings settings = setting_words (record settings { preference = None })
    ++ guarded_preference settings.preference

-- the canonical words with `--` before the names, and `=` before the provider of a preference
abbrev pub guarded_words : Command → List Text
guarded_words (Label new) =
    codes "label" ∷ number_words new.mid new.did (balance_name (balance_of_word new.balance))
    new.slice
    ++ switch_words (on_where (not new.flags.no_autosync)) (on_where (not new.flags.no_failsync))
    (on_where new.hardcoded)
    ++ codes "--" ∷ new.name ∷ new.provider ∷ []
guarded_words (Insert new) =
    codes "insert" ∷ codes "--did" ∷ decimal new.did ∷ codes "--priority" ∷ decimal new.priority
    ∷ codes "--hardcode" ∷ on_where new.hardcoded ∷ codes "--" ∷ new.name ∷ new.provider ∷ []
guarded_words (Remove name provider) = codes "remove" ∷ codes "--" ∷ name ∷ provider ∷ []
guarded_words (Deactivate name provider) = codes "deactivate" ∷ codes "--" ∷ name ∷ provider ∷ []
guarded_words (Activate name provider) = codes "activate" ∷ codes "--" ∷ name ∷ provider ∷ []
guarded_words (Forget name) = codes "forget" ∷ codes "--" ∷ name ∷ []
guarded_words (Rebuild name provider) = codes "rebuild" ∷ codes "--" ∷ name ∷ provider ∷ []
guarded_words (Configure name settings) =
    codes "configure" ∷ guarded_settings settings ++ codes "--" ∷ name ∷ []
guarded_words (Clear provider) = codes "clear" ∷ codes "--" ∷ provider ∷ []
guarded_words (Destroy name) = codes "destroy" ∷ codes "--" ∷ name ∷ []
guarded_words (Lost name providers) = codes "lost" ∷ codes "--" ∷ name ∷ providers
guarded_words (Advance name provider) = codes "advance" ∷ codes "--" ∷ name ∷ provider ∷ []
guarded_words (Adopt name providers) = codes "adopt" ∷ codes "--" ∷ name ∷ providers
guarded_words (Patch name first sectors) =
    codes "patch" ∷ codes "--first" ∷ decimal first ∷ codes "--data" ∷ encode_lower (joined sectors)
    ∷ codes "--" ∷ name ∷ []
