use Rattle.gm_words.proofs.Common.{◌≡◌, ◌∙◌, ap, subst, sym, true, IfOk-weaker, texts, FailsBy, fault_of, is_simple, is_simple_and_free, subcommand_of}
use Rattle.clap.specs.Words.{App}
use Rattle.gm_words.proofs.ParsedTable.{none_at_ok, some_at_err, table_is_free, table_is_simple}
use Rattle.gm_words.proofs.command_words.parsed.Goals as goal

pub returns-clause-taken : goal.returns-clause-taken
returns-clause-taken c =
    let is = c.in_ok-table.ensures in
    let words = texts c.args.words.now in
    none_at_ok _ _ (subst (λ (a : App). FailsBy (fault_of a words) c.try_get_matches_from.result)
    is (c.try_get_matches_from.ensures.kinds
    (subst (λ (a : App). is_simple_and_free a ≡ true) (sym is) table_is_free)))

pub returns-clause-rows : goal.returns-clause-rows
returns-clause-rows c =
    let is = c.in_ok-table.ensures in
    let words = texts c.args.words.now in
    IfOk-weaker c.try_get_matches_from.result _ _
    (λ m h. (h (subst (λ (a : App). is_simple a ≡ true) (sym is) table_is_simple)).1
    ∙ ap (λ (a : App). subcommand_of a words) is) c.try_get_matches_from.ensures.matches

pub returns-clause-refused : goal.returns-clause-refused
returns-clause-refused c =
    let is = c.in_ok-table.ensures in
    let words = texts c.args.words.now in
    some_at_err _ _ (subst (λ (a : App). FailsBy (fault_of a words) c.try_get_matches_from.result)
    is (c.try_get_matches_from.ensures.kinds
    (subst (λ (a : App). is_simple_and_free a ≡ true) (sym is) table_is_free)))
