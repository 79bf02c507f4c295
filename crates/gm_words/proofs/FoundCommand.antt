-- What clap finds for a command of the table.
use Rattle.gm_words.proofs.Common.{◌≡◌, Bool, true, false, List, [], ◌∷◌, map, Some, ⊤, codes, Row, Text, finished, first_of, App, Shape, built_leaf, inherited}
use Rattle.gm_words.proofs.ClapWalk.{Said, app, begun, ended, exact, leaf_fault, plain, said_fault}

-- what clap makes of a command of the table
abbrev pub leaf : App → Shape
leaf command = built_leaf (inherited app.top command.top)

-- names that don't begin with a hyphen, or any names after `--`
abbrev pub named : Bool → List Text → List Said
named false names = map plain names
named true names = exact (codes "--") ∷ map exact names

-- what clap finds at the end of a command's own words
abbrev pub found : App → List Said → List Row
found command said = finished (leaf command).rules (ended (leaf command) said).held

-- these texts are found, each by its id
abbrev pub AreFound : List Row → List (Text × Text) → Type 0
AreFound rows [] = ⊤
AreFound rows (t ∷ rest) = (first_of t.0 rows ≡ Some t.1) × AreFound rows rest

-- the command's own words pass, and these texts are found
pub record Finds (command : App) (said : List Said) (texts : List (Text × Text)) : Type 0 where
  pub passes : leaf_fault (leaf command) (ended (leaf command) said)
      (said_fault (leaf command) begun said) ≡ []
  pub are : AreFound (found command said) texts

-- the names that tell a component, by their ids
abbrev pub component : Text → Text → List (Text × Text)
component n p = (codes "name", n) ∷ (codes "prov", p) ∷ []
