use Rattle.gm_words.proofs.Common.{◌∙◌, List, sym, subst, Text, ReadsAlike}
use Rattle.clap.specs.Words.{App}
use Rattle.gm_words.proofs.OneCommand.{alike_label, alike_insert, alike_remove, alike_deactivate, alike_activate, alike_forget, alike_rebuild, alike_configure, alike_clear, alike_destroy, alike_lost, alike_advance, alike_adopt, alike_patch, found_alike, more, none}
use Rattle.gm_words.proofs.clap_table.command_for.Goals as goal

pub returns-in_ok-alone-in-Some : goal.returns-in_ok-alone-in-Some
returns-in_ok-alone-in-Some c =
    λ (own : List Text). subst (λ (a : App). ReadsAlike a c.args.word.now own)
    (sym c.in_ok-alone-in-Some.ensures)
    (found_alike (sym c.row_of.ensures ∙ c.in-Some.is)
    (more alike_label (more alike_insert (more alike_remove (more alike_deactivate
    (more alike_activate (more alike_forget (more alike_rebuild (more alike_configure
    (more alike_clear (more alike_destroy (more alike_lost (more alike_advance
    (more alike_adopt (more alike_patch none)))))))))))))) own)
