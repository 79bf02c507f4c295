-- A command by itself reads its own words as the whole table reads them after its word.
use Rattle.gm_words.proofs.Common.{◌≡◌, ◌∙◌, true, false, refl, sym, ap, subst, List, [], ◌∷◌, Some, find, ⊎_elim, codes, map, Bor, bytes_eq, level_fault, Kinds, or_else, Text, nothing_held, rows_after, App, Shape, built, label_of, is_simple, is_simple_and_free, and_parts, ReadsAlike, alone, Kind, Provider, Component, Several}
use Rattle.clap.proofs.FaultLemmas.{leaf_fault}
use Rattle.clap.proofs.OnLiterals.{clap_on_literals}
use Rattle.gm_lists.specs.Ordered.{Has as IsAmong}
use Rattle.gm_lists.proofs.Finding.{found}
use Rattle.gm_lists.proofs.Order.{same_is}
use Rattle.gm_words.specs.Table.{name, names, optional, possible, wanted}
use Rattle.gm_words.specs.declared.clap_table.Kind.TheVariants.{Label, Insert, Configure, Patch, Mirror}
use Rattle.gm_words.proofs.Canonical.{has_label, has_insert, has_remove, has_deactivate, has_activate, has_forget, has_rebuild, has_advance, has_clear, has_destroy, has_patch}
use Rattle.gm_words.proofs.ConfigureWords.{has_configure}
use Rattle.gm_words.proofs.Several.{has_lost, has_adopt}
use Rattle.gm_words.proofs.ClapWalk.{Meets, app, in_table, own_fault, own_rows}

-- the command reads its own words as the whole table does
abbrev pub IsAlike : Text → Kind → Type 0
IsAlike word kind = (own : List Text) → ReadsAlike (alone word kind) word own

or_nothing : (faults : Kinds) → faults ≡ or_else faults []
or_nothing [] = refl
or_nothing (k ∷ ks) = refl

-- the table has the command, of the shape that it has by itself
alike : (n : Text) (kind : Kind) (s : Shape) → is_simple_and_free (alone n kind) ≡ true
    → (built (alone n kind)).subs ≡ [] → (built (alone n kind)).top ≡ s → Meets app n s
    → IsAlike n kind
alike n kind s simple none top all own =
    let a = built (alone n kind) in
    record {
      simple = simple;
      faults = leaf_fault a nothing_held own none
          ∙ (ap (λ (t : Shape). level_fault t [] nothing_held own false []) top
          ∙ (or_nothing _ ∙ sym (own_fault app n s all own)));
      found = ap (λ (subs : List Shape). Some (n, rows_after a.top.rules (map label_of subs) own))
          none
          ∙ (ap (λ (t : Shape). Some (n, rows_after t.rules [] own)) top
          ∙ sym (own_rows app n s all own));
    }

pub alike_label : IsAlike (codes "label") Label
unfolding clap_on_literals name names optional possible wanted
alike_label = alike _ Label _ refl refl refl (in_table _ _ _ has_label)

pub alike_insert : IsAlike (codes "insert") Insert
unfolding clap_on_literals name names optional possible wanted
alike_insert = alike _ Insert _ refl refl refl (in_table _ _ _ has_insert)

pub alike_remove : IsAlike (codes "remove") Component
unfolding clap_on_literals name names optional possible wanted
alike_remove = alike _ Component _ refl refl refl (in_table _ _ _ has_remove)

pub alike_deactivate : IsAlike (codes "deactivate") Component
unfolding clap_on_literals name names optional possible wanted
alike_deactivate = alike _ Component _ refl refl refl (in_table _ _ _ has_deactivate)

pub alike_activate : IsAlike (codes "activate") Component
unfolding clap_on_literals name names optional possible wanted
alike_activate = alike _ Component _ refl refl refl (in_table _ _ _ has_activate)

pub alike_forget : IsAlike (codes "forget") Mirror
unfolding clap_on_literals name names optional possible wanted
alike_forget = alike _ Mirror _ refl refl refl (in_table _ _ _ has_forget)

pub alike_rebuild : IsAlike (codes "rebuild") Component
unfolding clap_on_literals name names optional possible wanted
alike_rebuild = alike _ Component _ refl refl refl (in_table _ _ _ has_rebuild)

pub alike_configure : IsAlike (codes "configure") Configure
unfolding clap_on_literals name names optional possible wanted
alike_configure = alike _ Configure _ refl refl refl (in_table _ _ _ has_configure)

pub alike_clear : IsAlike (codes "clear") Provider
unfolding clap_on_literals name names optional possible wanted
alike_clear = alike _ Provider _ refl refl refl (in_table _ _ _ has_clear)

pub alike_destroy : IsAlike (codes "destroy") Mirror
unfolding clap_on_literals name names optional possible wanted
alike_destroy = alike _ Mirror _ refl refl refl (in_table _ _ _ has_destroy)

pub alike_lost : IsAlike (codes "lost") Several
unfolding clap_on_literals name names optional possible wanted
alike_lost = alike _ Several _ refl refl refl (in_table _ _ _ has_lost)

pub alike_advance : IsAlike (codes "advance") Component
unfolding clap_on_literals name names optional possible wanted
alike_advance = alike _ Component _ refl refl refl (in_table _ _ _ has_advance)

pub alike_adopt : IsAlike (codes "adopt") Several
unfolding clap_on_literals name names optional possible wanted
alike_adopt = alike _ Several _ refl refl refl (in_table _ _ _ has_adopt)

pub alike_patch : IsAlike (codes "patch") Patch
unfolding clap_on_literals name names optional possible wanted
alike_patch = alike _ Patch _ refl refl refl (in_table _ _ _ has_patch)

-- ---- the command that is found in rows

-- the command of each row reads its own words as the whole table does
pub data AreAlike : List (Bor Text × Kind) → Type 0 where
  none : AreAlike []
  more : {row : Bor Text × Kind} {rest : List (Bor Text × Kind)} → IsAlike row.0.now row.1
      → AreAlike rest → AreAlike (row ∷ rest)

among : (rows : List (Bor Text × Kind)) → AreAlike rows → (row : Bor Text × Kind)
    → IsAmong rows row → IsAlike row.0.now row.1
among [] none row has = absurd has
among (r ∷ rest) (more this others) row has =
    ⊎_elim (λ (same : r ≡ row). subst (λ (x : Bor Text × Kind). IsAlike x.0.now x.1) same this)
    (λ (later : IsAmong rest row). among rest others row later) has

pub found_alike : {rows : List (Bor Text × Kind)} {word : Text} {row : Bor Text × Kind}
    → find (λ r. bytes_eq r.0.now word) rows ≡ Some row → AreAlike rows
    → (own : List Text) → ReadsAlike (alone row.0.now row.1) word own
found_alike {rows} {word} {row} e all own =
    let it = found (λ (r : Bor Text × Kind). bytes_eq r.0.now word) rows row e in
    let same : row.0.now ≡ word = same_is _ _ it.1 in
    subst (λ (w : Text). ReadsAlike (alone row.0.now row.1) w own) same
    (among rows all row it.0 own)

-- what is simple and free is simple
pub simple_one : (a : App) → is_simple_and_free a ≡ true → is_simple a ≡ true
simple_one a both = (and_parts (is_simple a) _ both).0
