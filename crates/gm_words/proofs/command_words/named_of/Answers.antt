-- For each word: which command it is, and that it is one if its names are found.
use Rattle.gm_words.proofs.Common.{◌≡◌, ◌∙◌, List, Option, ap, refl, rules, sym, option_map, Row, Text, Command, Remove, Deactivate, Activate, Forget, Rebuild, Clear, Destroy, Advance, ComponentNames}
use Rattle.gm_words.specs.Spelling.{named_of}
use Rattle.gm_words.proofs.command_words.named_of.Goals as goal

-- the command of a word, if this was found for its names
told : {X : Type 0} (f : X → Command) (word literal : Text) (rows : List Row)
    (at found x : Option X) → word ≡ literal → named_of literal rows ≡ option_map f at
    → found ≡ at → found ≡ x → option_map f x ≡ named_of word rows
told f word literal rows at found x is named same was =
    sym (ap (λ (w : Text). named_of w rows) is ∙ (named ∙ ap (option_map f) (sym same ∙ was)))

-- a command on a component
abbrev on : (Text → Text → Command) → ComponentNames → Command
on command names = command names.name names.provider

pub returns-in_err-name-in-remove : goal.returns-in_err-name-in-remove
unfolding named_of
returns-in_err-name-in-remove c =
    c.from_residual.ensures
    ∙ told (on Remove) _ _ _ _ _ _ c.in-remove.is refl c.component_at.ensures
    c.in_err-name-in-remove.was

pub returns-in_ok-name-in-remove : goal.returns-in_ok-name-in-remove
unfolding named_of
returns-in_ok-name-in-remove c =
    told (on Remove) _ _ _ _ _ _ c.in-remove.is refl c.component_at.ensures
    c.in_ok-name-in-remove.was

pub returns-in_err-name-in-deactivate : goal.returns-in_err-name-in-deactivate
unfolding named_of
returns-in_err-name-in-deactivate c =
    c.from_residual-in_err-name-in-deactivate.ensures
    ∙ told (on Deactivate) _ _ _ _ _ _ c.in-deactivate.is refl c.component_at-in-deactivate.ensures
    c.in_err-name-in-deactivate.was

pub returns-in_ok-name-in-deactivate : goal.returns-in_ok-name-in-deactivate
unfolding named_of
returns-in_ok-name-in-deactivate c =
    told (on Deactivate) _ _ _ _ _ _ c.in-deactivate.is refl c.component_at-in-deactivate.ensures
    c.in_ok-name-in-deactivate.was

pub returns-in_err-name-in-activate : goal.returns-in_err-name-in-activate
unfolding named_of
returns-in_err-name-in-activate c =
    c.from_residual-in_err-name-in-activate.ensures
    ∙ told (on Activate) _ _ _ _ _ _ c.in-activate.is refl c.component_at-in-activate.ensures
    c.in_err-name-in-activate.was

pub returns-in_ok-name-in-activate : goal.returns-in_ok-name-in-activate
unfolding named_of
returns-in_ok-name-in-activate c =
    told (on Activate) _ _ _ _ _ _ c.in-activate.is refl c.component_at-in-activate.ensures
    c.in_ok-name-in-activate.was

pub returns-in_err-name-in-forget : goal.returns-in_err-name-in-forget
unfolding named_of
returns-in_err-name-in-forget c =
    c.from_residual-in_err-name-in-forget.ensures
    ∙ told Forget _ _ _ _ _ _ c.in-forget.is refl c.label_at.ensures
    c.in_err-name-in-forget.was

pub returns-in_ok-name-in-forget : goal.returns-in_ok-name-in-forget
unfolding named_of
returns-in_ok-name-in-forget c =
    told Forget _ _ _ _ _ _ c.in-forget.is refl c.label_at.ensures
    c.in_ok-name-in-forget.was

pub returns-in_err-name-in-rebuild : goal.returns-in_err-name-in-rebuild
unfolding named_of
returns-in_err-name-in-rebuild c =
    c.from_residual-in_err-name-in-rebuild.ensures
    ∙ told (on Rebuild) _ _ _ _ _ _ c.in-rebuild.is refl c.component_at-in-rebuild.ensures
    c.in_err-name-in-rebuild.was

pub returns-in_ok-name-in-rebuild : goal.returns-in_ok-name-in-rebuild
unfolding named_of
returns-in_ok-name-in-rebuild c =
    told (on Rebuild) _ _ _ _ _ _ c.in-rebuild.is refl c.component_at-in-rebuild.ensures
    c.in_ok-name-in-rebuild.was

pub returns-in_err-provider-in-clear : goal.returns-in_err-provider-in-clear
unfolding named_of
returns-in_err-provider-in-clear c =
    c.from_residual-in_err-provider-in-clear.ensures
    ∙ told Clear _ _ _ _ _ _ c.in-clear.is refl c.label_at-in-clear.ensures
    c.in_err-provider-in-clear.was

pub returns-in_ok-provider-in-clear : goal.returns-in_ok-provider-in-clear
unfolding named_of
returns-in_ok-provider-in-clear c =
    told Clear _ _ _ _ _ _ c.in-clear.is refl c.label_at-in-clear.ensures
    c.in_ok-provider-in-clear.was

pub returns-in_err-name-in-destroy : goal.returns-in_err-name-in-destroy
unfolding named_of
returns-in_err-name-in-destroy c =
    c.from_residual-in_err-name-in-destroy.ensures
    ∙ told Destroy _ _ _ _ _ _ c.in-destroy.is refl c.label_at-in-destroy.ensures
    c.in_err-name-in-destroy.was

pub returns-in_ok-name-in-destroy : goal.returns-in_ok-name-in-destroy
unfolding named_of
returns-in_ok-name-in-destroy c =
    told Destroy _ _ _ _ _ _ c.in-destroy.is refl c.label_at-in-destroy.ensures
    c.in_ok-name-in-destroy.was

pub returns-in_err-name-in-advance : goal.returns-in_err-name-in-advance
unfolding named_of
returns-in_err-name-in-advance c =
    c.from_residual-in_err-name-in-advance.ensures
    ∙ told (on Advance) _ _ _ _ _ _ c.in-advance.is refl c.component_at-in-advance.ensures
    c.in_err-name-in-advance.was

pub returns-in_ok-name-in-advance : goal.returns-in_ok-name-in-advance
unfolding named_of
returns-in_ok-name-in-advance c =
    told (on Advance) _ _ _ _ _ _ c.in-advance.is refl c.component_at-in-advance.ensures
    c.in_ok-name-in-advance.was

pub returns-in_default : goal.returns-in_default
unfolding named_of
returns-in_default c = search rules
