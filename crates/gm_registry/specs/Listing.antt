-- The texts of its tables, as a store lists them.
use Rattle.std.specs.Prelude.{not, pos, ◌≡◌, true, List, ℕ, [], ◌∷◌, filter, map}
use Rattle.std.specs.List.Sorted.{IsPermutation}
use Rattle.sqlite.specs.Order.{Row, column}
use Rattle.sqlite.specs.Tree.{Trees}
use Rattle.sqlite.specs.Schema.{Schema}
use Rattle.sqlite.specs.Listing.{shown, reads_listing}
use Rattle.sqlite.specs.declared.types.Value.TheVariants.{Int, Text}
use Rattle.sqlite_sql.specs.Ops.{is_null}
use Rattle.sqlite_rules.specs.Edit.{put_all}
use Rattle.sqlite_trees.specs.Objects.{catalog_tree}
use Rattle.gm_lists.specs.Ordered.{Has}
use Rattle.gm_rows.specs.Statements.{load_texts_text}
use Rattle.gm_rows.specs.Texts.{about_text, mirrors_text, components_text, intents_text, commands_text, patches_text}
use Rattle.gm_registry.specs.declared.edition.Edition.{Edition}
use Rattle.gm_registry.specs.declared.edition.Edition.TheVariants.{First, Second}

-- the objects that have a text, as sqlite_schema shows them: each by its number and its text
abbrev pub listed : Trees → List Row
listed db = map (λ row. column row 0 ∷ column row 5 ∷ [])
    (filter (λ row. not (is_null (column row 5))) (put_all [] (map shown (db catalog_tree))))

-- a text under its number
abbrev pub under_number : ℕ → List ℕ → Row
under_number number text = Int (pos number) ∷ Text text ∷ []

-- the tables of a registry of each schema
abbrev pub tables_of : Edition → List Row
tables_of First = under_number 1 about_text ∷ under_number 2 mirrors_text
    ∷ under_number 5 components_text ∷ under_number 8 intents_text ∷ under_number 9 commands_text
    ∷ []
tables_of Second = under_number 1 about_text ∷ under_number 2 mirrors_text
    ∷ under_number 5 components_text ∷ under_number 8 intents_text ∷ under_number 9 commands_text
    ∷ under_number 12 patches_text ∷ []

-- each of these rows stands among those
abbrev pub AllStand : List Row → List Row → Type 0
AllStand rows [] = Unit {0}
AllStand rows (row ∷ []) = Has rows row
AllStand rows (row ∷ more) = Has rows row × AllStand rows more

-- a store lists the tables of a registry of this schema by their texts, and nothing else
abbrev pub Lists : Edition → Trees → Type 0
Lists edition db = IsPermutation (tables_of edition) (listed db)

-- no table of the schema has the name of the list
abbrev pub ShowsList : Schema → Type 0
ShowsList schema = reads_listing schema load_texts_text ≡ true
