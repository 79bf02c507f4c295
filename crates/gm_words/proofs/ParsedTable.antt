-- What is computed of the table, and what clap's clauses say there.
use Rattle.gm_words.proofs.Common.{◌≡◌, ◌≢◌, ◌∙◌, Bool, true, refl, sym, ap, ap₂, arith, subst, length, List, [], ◌∷◌, Option, Some, None, Result, Ok, Err, IfOk, IfErr, MatchResult, inl, inr, ℕ, MatchOption, if◌then◌else◌, option_and_then, option_map, Bor, result_ok, Text, App, matches_of, FailsBy, HasKind, IsAmong, fault_of, is_simple, is_simple_and_free, kind_of, subcommand_of, subcommand_rows_of, Command, ReadsAlike, command_of, taken, table}
use Rattle.clap.specs.Words.{Kinds, Row}
use Rattle.clap.specs.declared.ArgMatches.{ArgMatches}
use Rattle.clap.specs.declared.Error.{Error}
use Rattle.clap.specs.declared.error.ErrorKind.TheVariants.{OutOfMemory}
use Rattle.clap.proofs.OnLiterals.{clap_on_literals}
use Rattle.gm_words.specs.Spelling.{spelled}
use Rattle.gm_words.specs.Table.{name, names, optional, possible, wanted}
use Rattle.gm_words.proofs.ReadValues.{nonzero}

pub table_is_simple : is_simple table ≡ true
unfolding clap_on_literals name names optional possible wanted
table_is_simple = refl

pub table_is_free : is_simple_and_free table ≡ true
unfolding clap_on_literals name names optional possible wanted
table_is_free = refl

pub none_at_ok : {X : Type 0} (kinds : Kinds) (r : Result X Error) → FailsBy kinds r
    → IfOk r (λ m. kinds ≡ [])
none_at_ok kinds (Ok x) h = h
none_at_ok kinds (Err e) h = tt

pub some_at : (kinds : Kinds) (e : Error) → HasKind kinds e → kind_of e ≢ OutOfMemory → kinds ≢ []
some_at kinds e (inl memory) other = absurd (other memory)
some_at kinds e (inr among) other = λ none. subst (IsAmong (kind_of e)) none among

pub some_at_err : {X : Type 0} (kinds : Kinds) (r : Result X Error) → FailsBy kinds r
    → IfErr r (λ e. kind_of e ≢ OutOfMemory → kinds ≢ [])
some_at_err kinds (Ok x) h = tt
some_at_err kinds (Err e) h = some_at kinds e h

-- what was found, as an option of a text behind a reference
pub found_as : (o : Option (Bor (List ℕ))) (f : Option (List ℕ)) → option_map (λ s. s.now) o ≡ f
    → MatchOption o (f ≡ None) (λ s. f ≡ Some s.now)
found_as None f e = sym e
found_as (Some s) f e = sym e

-- ---- the command that words spell, by what clap makes of them

pub spelled_by : (words : List Text) (m : ArgMatches) → fault_of table words ≡ []
    → subcommand_rows_of m ≡ subcommand_of table words
    → spelled words ≡ option_and_then (λ p. command_of p.0 p.1) (subcommand_rows_of m)
unfolding spelled
spelled_by words m none rows = ap₂ taken none (sym rows)

-- the same of a command's own words, by what clap makes of them by the command alone
pub spelled_alone : (a : App) (word : Text) (own : List Text) (rows : List Row)
    → ReadsAlike a word own → fault_of a own ≡ [] → rows ≡ matches_of a own
    → spelled (word ∷ own) ≡ command_of word rows
unfolding spelled
spelled_alone a word own rows alike none are =
    ap₂ taken (sym alike.faults ∙ none)
    (sym alike.found ∙ ap (λ (found : List Row). Some (word, found)) (sym are))

none_taken : (faults : Kinds) (found : Option (Text × List Row)) → faults ≢ []
    → taken faults found ≡ None
none_taken [] found some = absurd (some refl)
none_taken (k ∷ ks) found some =
    ap (λ (b : Bool). if b then option_and_then (λ p. command_of p.0 p.1) found else None)
    (nonzero (length (k ∷ ks)) (omega arith))

pub spelled_none : (words : List Text) → fault_of table words ≢ [] → spelled words ≡ None
unfolding spelled
spelled_none words some = none_taken (fault_of table words) (subcommand_of table words) some

pub answered : {E : Type 0} (s : Option Command) (r : Result Command E) → s ≡ result_ok r
    → MatchResult r (λ c. s ≡ Some c) (λ _. s ≡ None)
answered s (Ok c) e = e
answered s (Err w) e = e
