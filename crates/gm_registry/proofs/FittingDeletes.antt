-- Why the deletion of a mirror or a component fails: no rule refuses that of a component, nor that
-- of a mirror without components.
use Rattle.gm_registry.proofs.Common.{◌≡◌, inl, inr, ℕ, Bool, true, false, not, List, [], ◌∷◌, refl, sym, ap, subst, ◌∙◌, ⊤, false_from_ne_true, column, Binary, Trees, col, Text, references_fit, equal, Unique, ProgramOverflows, accepts_program, all_has, has_filtered, has_kept, has_key, is_all_of, scan, delete_stops, equal_text, mirrors, components, registry_schema, drop_mirror_text, drop_component_text, HasNoComponents}
use Rattle.sqlite.specs.Listing.{understood}
use Rattle.sqlite_value.specs.Keys.{joined}
use Rattle.sqlite_schema.specs.Names.{same_name}
use Rattle.sqlite_tied.specs.Compute.{everything}
use Rattle.sqlite_rules.specs.Lists.{Has as Stands}
use Rattle.gm_registry.proofs.ChangedTables.{idle}
use Rattle.gm_registry.proofs.Failures.{never}
use Rattle.gm_registry.proofs.FittingTables.{apart, parent_of, refers_by}
use Rattle.gm_registry.proofs.InsideFails.{StopsOnly}
use Rattle.gm_registry.proofs.TextMeanings.{by_key, drop}

pub drop_mirror_whole : is_all_of drop_mirror_text 1 (understood registry_schema drop_mirror_text)
    ≡ true
unfolding understood everything
drop_mirror_whole = refl

pub drop_component_whole : is_all_of drop_component_text 1
    (understood registry_schema drop_component_text)
    ≡ true
unfolding understood everything
drop_component_whole = refl

mirror_typed : (name : List ℕ)
    → accepts_program registry_schema [] (scan 1 (by_key ∷ []) (col 1 0 ∷ []) []) (Text name ∷ [])
    ≡ true
unfolding everything
mirror_typed name = refl

component_typed : (name : List ℕ)
    → accepts_program registry_schema [] (scan 4 (by_key ∷ []) (col 1 0 ∷ []) []) (Text name ∷ [])
    ≡ true
unfolding everything
component_typed name = refl

mirrors_safe : (name : List ℕ) (db : Trees)
    → ProgramOverflows db (Text name ∷ []) [] [] (scan 1 (by_key ∷ []) (col 1 0 ∷ []) []) → ⊥
mirrors_safe name db (inl none) = none
mirrors_safe name db (inr over) = never (db 1) over

components_safe : (name : List ℕ) (db : Trees)
    → ProgramOverflows db (Text name ∷ []) [] [] (scan 4 (by_key ∷ []) (col 1 0 ∷ []) []) → ⊥
components_safe name db (inl none) = none
components_safe name db (inr over) = never (db 4) over

mirrors_referred : (gone : Bool) → references_fit registry_schema mirrors false gone ≡ true
unfolding same_name joined
mirrors_referred true = refl
mirrors_referred false = refl

components_referred : (gone : Bool) → references_fit registry_schema components false gone ≡ true
unfolding same_name joined
components_referred true = refl
components_referred false = refl

pub drop_component_stops : (prov : List ℕ) → StopsOnly (drop 2 4) (Text prov ∷ []) (λ _ _. ⊤)
drop_component_stops prov db t limit text stop holds sound fits =
    delete_stops registry_schema 2 components (inr (inr (inl refl))) apart (λ olds. idle 4 olds [])
    limit (Text prov ∷ []) db by_key holds.components.keyed (sound.obeys.rules Unique)
    (component_typed prov) (components_safe prov db) (λ rows. components_referred _)
    (λ next lost.
    let same : next 1 ≡ db 1 = lost.tables.1.0 (λ e. let f : 1 ≡ 4 = e in cc) in
    refers_by next (λ k has.
    let before = (has_filtered _ (db 4) k (subst (λ l. Stands l k) lost.rows has)).0 in
    let it = parent_of db t holds sound k before in
    (it.3, subst (λ l. Stands l it.3) (sym same) it.4, it.5))) stop

pub drop_mirror_stops : (name : List ℕ)
    → StopsOnly (drop 1 1) (Text name ∷ []) (λ _. HasNoComponents name)
drop_mirror_stops name db t limit text stop holds sound none =
    delete_stops registry_schema 1 mirrors (inr (inl refl)) apart (λ olds. idle 1 olds [])
    limit (Text name ∷ []) db by_key holds.mirrors.keyed (sound.obeys.rules Unique)
    (mirror_typed name) (mirrors_safe name db) (λ rows. mirrors_referred _)
    (λ next lost.
    let same : next 4 ≡ db 4 = lost.tables.1.1.0 (λ e. let f : 4 ≡ 1 = e in cc) in
    refers_by next (λ k has.
    let it = parent_of db t holds sound k (subst (λ l. Stands l k) same has) in
    let its : column it.3 1 ≡ Text it.0.mirror =
    equal_text (column it.3 1) it.0.mirror
    (subst (λ v. equal Binary (column it.3 1) v ≡ true) it.2 it.5) in
    let other : has_key name it.3 ≡ false = false_from_ne_true _ (λ named.
    all_has _ t.components it.0 none it.1
    (let e : Text it.0.mirror ≡ Text name = sym its ∙ equal_text (column it.3 1) name named in
    cc)) in
    let stays = has_kept (λ r. not (has_key name r)) (db 1) it.3 it.4 (ap not other) in
    (it.3, subst (λ l. Stands l it.3) (sym lost.rows) stays, it.5))) stop
