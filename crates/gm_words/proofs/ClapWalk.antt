-- How clap walks over words of which it looks at some alone: a word that doesn't begin with a
-- hyphen is a value or a name, whatever else it is, and after the word of a command every word
-- goes to that command.
use Rattle.gm_words.proofs.Common.{◌≡◌, ◌∙◌, ℕ, Bool, true, false, refl, sym, ap, ap₂, List, [], ◌∷◌, ◌++◌, map, Option, Some, None, is_some, append-nil, append_assoc, ⊤, if◌then◌else◌, fold, Kinds, or_else, Held, Names, Row, Rule, Step, Text, Waiting, idle, option, positional, Walk, value, after_step, finished, nothing_held, plain_word, rows_after, settled, walk, walk_from, walked_from, word_met, built_fault, check_fault, defaults_fault, entered_fault, level_fault, settle_fault, step_fault, turn_fault, word_fault, App, Shape, built, entered, names_of, Command, IsNoFlag, command_of, taken, table}
use Rattle.clap.specs.Walk.{walked}
use Rattle.clap.specs.Faults.{fault_of, walk_fault}
use Rattle.clap.specs.Simple.{subcommand_of}
use Rattle.gm_words.specs.Spelling.{spelled}

-- ---- words that clap needn't look at

-- a word that is written out, or one that doesn't begin with a hyphen
pub data Said : Type 0 where
  exact : Text → Said
  plain : Text → Said

abbrev pub text_of : Said → Text
text_of (exact t) = t
text_of (plain t) = t

abbrev pub IsPlain : Said → Type 0
IsPlain (exact t) = ⊤
IsPlain (plain t) = IsNoFlag t

abbrev pub ArePlain : List Said → Type 0
ArePlain [] = ⊤
ArePlain (a ∷ rest) = IsPlain a × ArePlain rest

abbrev pub said_met : List Rule → Bool → Waiting → ℕ → Said → Held → Held × Step
said_met c is_trailing waiting position (exact t) h = word_met c [] is_trailing waiting position t h
said_met c is_trailing waiting position (plain t) h =
    if is_trailing then (h, value) else plain_word c waiting t h

abbrev pub said_from : List Rule → Option (Text × List Text) → Walk → Said → Walk
said_from c (Some p) w a = record w { stopped = Some (p.0, p.1 ++ text_of a ∷ []) }
said_from c None w a =
    let met = said_met c w.is_trailing w.waiting w.position a w.held in
    after_step c (text_of a) w met.0 met.1

abbrev pub said_walked : List Rule → Walk → Said → Walk
said_walked c w a = said_from c w.stopped w a

abbrev pub said_word_fault : Shape → Bool → Waiting → Said → Held → Kinds
said_word_fault s is_trailing waiting (exact t) h = word_fault s [] is_trailing waiting t h
said_word_fault s is_trailing waiting (plain t) h = []

abbrev pub turn_of : Shape → Walk → Kinds → Held × Step → Kinds
turn_of s w fault met =
    if is_some w.stopped then [] else or_else fault (step_fault s w.position met.0 met.1)

abbrev pub said_turn_fault : Shape → Walk → Said → Kinds
said_turn_fault s w a =
    turn_of s w (said_word_fault s w.is_trailing w.waiting a w.held)
    (said_met s.rules w.is_trailing w.waiting w.position a w.held)

abbrev pub said_fault : Shape → Walk → List Said → Kinds
said_fault s w [] = []
said_fault s w (a ∷ rest) =
    or_else (said_turn_fault s w a) (said_fault s (said_walked s.rules w a) rest)

-- a plain word is a value or a name
plain_met : (c : List Rule) (is_trailing : Bool) (waiting : Waiting) (position : ℕ) (t : Text)
    (h : Held) → IsNoFlag t
    → word_met c [] is_trailing waiting position t h ≡ said_met c is_trailing waiting position
    (plain t) h
plain_met c true waiting position t h e = refl
plain_met c false idle position [] h e = refl
plain_met c false (option id) position [] h e = refl
plain_met c false positional position [] h e = refl
plain_met c false idle position (x ∷ xs) h e = rw (e, e) refl
plain_met c false (option id) position (x ∷ xs) h e = rw (e, e) refl
plain_met c false positional position (x ∷ xs) h e = rw (e, e) refl

plain_passes : (s : Shape) (is_trailing : Bool) (waiting : Waiting) (t : Text) (h : Held)
    → IsNoFlag t
    → word_fault s [] is_trailing waiting t h ≡ []
plain_passes s true waiting t h e = refl
plain_passes s false idle [] h e = refl
plain_passes s false (option id) [] h e = refl
plain_passes s false positional [] h e = refl
plain_passes s false idle (x ∷ xs) h e = rw (e, e) refl
plain_passes s false (option id) (x ∷ xs) h e = rw (e, e) refl
plain_passes s false positional (x ∷ xs) h e = rw (e, e) refl

said_once : (c : List Rule) (w : Walk) (a : Said) → IsPlain a
    → walked c [] w (text_of a) ≡ said_walked c w a
unfolding walked
said_once c w (exact t) h = by w.stopped
  where
    by : (o : Option (Text × List Text)) → walked_from c [] o w t ≡ said_from c o w (exact t)
    by None = refl
    by (Some p) = refl
said_once c w (plain t) h = by w.stopped
  where
    by : (o : Option (Text × List Text)) → walked_from c [] o w t ≡ said_from c o w (plain t)
    by None = ap (λ (met : Held × Step). after_step c t w met.0 met.1)
        (plain_met c w.is_trailing w.waiting w.position t w.held h)
    by (Some p) = refl

said_all : (c : List Rule) (w : Walk) (said : List Said) → ArePlain said
    → fold (walked c []) w (map text_of said) ≡ fold (said_walked c) w said
said_all c w [] h = refl
said_all c w (a ∷ rest) h =
    ap (λ (v : Walk). fold (walked c []) v (map text_of rest)) (said_once c w a h.0)
    ∙ said_all c (said_walked c w a) rest h.1

turn_once : (s : Shape) (w : Walk) (a : Said) → IsPlain a
    → turn_fault s [] w (text_of a) ≡ said_turn_fault s w a
turn_once s w (exact t) h = refl
turn_once s w (plain t) h =
    ap₂ (turn_of s w) (plain_passes s w.is_trailing w.waiting t w.held h)
    (plain_met s.rules w.is_trailing w.waiting w.position t w.held h)

fault_all : (s : Shape) (w : Walk) (said : List Said) → ArePlain said
    → walk_fault s [] w (map text_of said) ≡ said_fault s w said
unfolding walk_fault
fault_all s w [] h = refl
fault_all s w (a ∷ rest) h =
    ap₂ or_else (turn_once s w a h.0)
    (ap (λ (v : Walk). walk_fault s [] v (map text_of rest)) (said_once s.rules w a h.0)
    ∙ fault_all s (said_walked s.rules w a) rest h.1)

-- ---- after the word of a command

-- the walk of the table has met the command n, and these words after it
abbrev pub met_with : Text → List Text → Walk
met_with n behind = record (walk_from nothing_held) { stopped = Some (n, behind) }

behind_walk : (c : List Rule) (names : Names) (n : Text) (behind more : List Text)
    → fold (walked c names) (met_with n behind) more ≡ met_with n (behind ++ more)
unfolding walked
behind_walk c names n behind [] = ap (met_with n) (sym (append-nil behind))
behind_walk c names n behind (t ∷ more) =
    let joined : (behind ++ t ∷ []) ++ more ≡ behind ++ (t ∷ more) = simp append_assoc in
    behind_walk c names n (behind ++ t ∷ []) more ∙ ap (met_with n) joined

behind_fault : (s : Shape) (names : Names) (n : Text) (behind more : List Text)
    → walk_fault s names (met_with n behind) more ≡ []
unfolding walk_fault walked
behind_fault s names n behind [] = refl
behind_fault s names n behind (t ∷ more) = behind_fault s names n (behind ++ t ∷ []) more

-- what is wrong with a command's own words, after a walk in which this was wrong
abbrev pub leaf_fault : Shape → Walk → Kinds → Kinds
leaf_fault s w fault =
    or_else fault (or_else (settle_fault s.rules s.args_override_self w.held)
    (or_else (defaults_fault (settled s.rules w.held).rows s.rules)
    (check_fault s (finished s.rules w.held) false)))

abbrev pub top_fault : App → Walk → Kinds → Kinds
top_fault a w fault =
    or_else fault (or_else (entered_fault a w.stopped)
    (or_else (settle_fault a.top.rules a.top.args_override_self w.held)
    (or_else (defaults_fault (settled a.top.rules w.held).rows a.top.rules)
    (check_fault a.top (finished a.top.rules w.held) (is_some (entered a w.stopped))))))

abbrev pub app : App
app = built table

abbrev pub begun : Walk
begun = walk_from nothing_held

abbrev pub ended : Shape → List Said → Walk
ended s said = fold (said_walked s.rules) begun said

-- a built table has the command n, of this shape
pub record Meets (a : App) (n : Text) (s : Shape) : Type 0 where
  pub meets : walked a.top.rules (names_of a) begun n ≡ met_with n []
  pub passes : turn_fault a.top (names_of a) begun n ≡ []
  pub rows : (behind : List Text)
      → entered a (Some (n, behind)) ≡ Some (n, rows_after s.rules [] behind)
  pub faults : (behind : List Text)
      → top_fault a (met_with n behind) []
      ≡ or_else (level_fault s [] nothing_held behind false []) []

module _ (a : App) (n : Text) (s : Shape) (has : Meets a n s) where
  met : (behind : List Text) → walk a.top.rules (names_of a) nothing_held (n ∷ behind)
      ≡ met_with n behind
  met behind =
      ap (λ (w : Walk). fold (walked a.top.rules (names_of a)) w behind) has.meets
      ∙ behind_walk a.top.rules (names_of a) n [] behind

  no_fault : (behind : List Text) → walk_fault a.top (names_of a) begun (n ∷ behind) ≡ []
  unfolding walk_fault
  no_fault behind =
      ap₂ or_else has.passes (ap (λ (w : Walk). walk_fault a.top (names_of a) w behind)
      has.meets ∙ behind_fault a.top (names_of a) n [] behind)

  -- what is wrong with words is what is wrong with those after the command's
  pub own_fault : (behind : List Text) → built_fault a nothing_held (n ∷ behind)
      ≡ or_else (level_fault s [] nothing_held behind false []) []
  own_fault behind = ap₂ (top_fault a) (met behind) (no_fault behind) ∙ has.faults behind

  -- what is found of words is found of those after the command's
  pub own_rows : (behind : List Text)
      → entered a (walk a.top.rules (names_of a) nothing_held (n ∷ behind)).stopped
      ≡ Some (n, rows_after s.rules [] behind)
  own_rows behind = ap (λ (w : Walk). entered a w.stopped) (met behind) ∙ has.rows behind

-- the table has the command n, of this shape, and what is found for it is read so
pub record Has (n : Text) (s : Shape) (read : List Row → Option Command) : Type 0 where
  pub meets : walked app.top.rules (names_of app) begun n ≡ met_with n []
  pub passes : turn_fault app.top (names_of app) begun n ≡ []
  pub rows : (behind : List Text)
      → entered app (Some (n, behind)) ≡ Some (n, rows_after s.rules [] behind)
  pub faults : (behind : List Text)
      → top_fault app (met_with n behind) []
      ≡ or_else (level_fault s [] nothing_held behind false []) []
  pub reads : (found : List Row) → command_of n found ≡ read found

module _ (n : Text) (s : Shape) (read : List Row → Option Command) (has : Has n s read) where
  pub in_table : Meets app n s
  in_table = record {
    meets = has.meets;
    passes = has.passes;
    rows = has.rows;
    faults = has.faults;
  }

  -- the command that words spell, if its own words pass
  pub spelled_as : (said : List Said) → ArePlain said
      → leaf_fault s (ended s said) (said_fault s begun said) ≡ []
      → spelled (n ∷ map text_of said) ≡ read (finished s.rules (ended s said).held)
  unfolding spelled
  spelled_as said free passes =
      let behind = map text_of said in
      let own : level_fault s [] nothing_held behind false [] ≡ [] =
      ap₂ (leaf_fault s) (said_all s.rules begun said free) (fault_all s begun said free)
      ∙ passes in
      let fault : fault_of table (n ∷ behind) ≡ [] =
      own_fault app n s in_table behind ∙ ap (λ (k : Kinds). or_else k []) own in
      let rows : subcommand_of table (n ∷ behind) ≡ Some (n, finished s.rules (ended s said).held) =
      own_rows app n s in_table behind
      ∙ ap (λ (w : Walk). Some (n, finished s.rules w.held)) (said_all s.rules begun said free) in
      ap₂ taken fault rows ∙ has.reads (finished s.rules (ended s said).held)
