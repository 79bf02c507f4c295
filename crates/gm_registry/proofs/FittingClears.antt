-- Why the deletion of all rows of a table fails: no rule refuses that of intents, of bytes, or of
-- the record of `about`.
use Rattle.gm_registry.proofs.Common.{◌≡◌, inl, inr, Bool, true, false, [], ◌∷◌, refl, ⊤, Trees, col, is_all_of, scan, clear_stops, references_fit, Unique, ForeignKey, ProgramOverflows, accepts_program, intents, patches, registry_schema, settle_text, drop_patches_text}
use Rattle.sqlite.specs.Listing.{understood}
use Rattle.sqlite_schema.specs.Names.{same_name}
use Rattle.sqlite_tied.specs.Compute.{everything}
use Rattle.sqlite_value.specs.Keys.{joined}
use Rattle.gm_registry.proofs.ChangedTables.{idle}
use Rattle.gm_registry.proofs.Failures.{never}
use Rattle.gm_registry.proofs.FittingTables.{apart, refers}
use Rattle.gm_registry.proofs.InsideFails.{StopsOnly}
use Rattle.gm_registry.proofs.TextMeanings.{clear}

pub settle_whole : is_all_of settle_text 0 (understood registry_schema settle_text) ≡ true
unfolding understood everything
settle_whole = refl

pub drop_patches_whole : is_all_of drop_patches_text 0
    (understood registry_schema drop_patches_text) ≡ true
unfolding understood everything
drop_patches_whole = refl

intents_typed : accepts_program registry_schema [] (scan 7 [] (col 1 0 ∷ []) []) [] ≡ true
unfolding everything
intents_typed = refl

patches_typed : accepts_program registry_schema [] (scan 11 [] (col 1 0 ∷ []) []) [] ≡ true
unfolding everything
patches_typed = refl

intents_safe : (db : Trees) → ProgramOverflows db [] [] [] (scan 7 [] (col 1 0 ∷ []) []) → ⊥
intents_safe db (inl none) = none
intents_safe db (inr over) = never (db 7) over

patches_safe : (db : Trees) → ProgramOverflows db [] [] [] (scan 11 [] (col 1 0 ∷ []) []) → ⊥
patches_safe db (inl none) = none
patches_safe db (inr over) = never (db 11) over

intents_referred : (gone : Bool) → references_fit registry_schema intents false gone ≡ true
unfolding same_name joined
intents_referred true = refl
intents_referred false = refl

patches_referred : (gone : Bool) → references_fit registry_schema patches false gone ≡ true
unfolding same_name joined
patches_referred true = refl
patches_referred false = refl

pub drop_intents_stops : StopsOnly (clear 3 7) [] (λ _ _. ⊤)
drop_intents_stops db t limit text stop holds sound fits =
    clear_stops registry_schema 3 intents (inr (inr (inr (inl refl)))) apart
    (λ olds. idle 7 olds [])
    limit [] db holds.intents.keyed (sound.obeys.rules Unique) intents_typed (intents_safe db)
    (λ rows. intents_referred _)
    (λ next lost. refers db next (lost.tables.1.0 (λ e. let f : 1 ≡ 7 = e in cc))
    (lost.tables.1.1.0 (λ e. let f : 4 ≡ 7 = e in cc)) (sound.obeys.rules ForeignKey)) stop

pub drop_bytes_stops : StopsOnly (clear 5 11) [] (λ _ _. ⊤)
drop_bytes_stops db t limit text stop holds sound fits =
    clear_stops registry_schema 5 patches (inr (inr (inr (inr (inr (inl refl)))))) apart
    (λ olds. idle 11 olds [])
    limit [] db holds.patches.keyed (sound.obeys.rules Unique) patches_typed (patches_safe db)
    (λ rows. patches_referred _)
    (λ next lost. refers db next (lost.tables.1.0 (λ e. let f : 1 ≡ 11 = e in cc))
    (lost.tables.1.1.0 (λ e. let f : 4 ≡ 11 = e in cc)) (sound.obeys.rules ForeignKey)) stop
