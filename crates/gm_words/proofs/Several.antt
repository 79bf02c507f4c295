-- The words of the commands on a mirror and one or more providers.
use Rattle.gm_words.proofs.Common.{◌≡◌, ◌∙◌, ◌==◌, ◌+◌, ◌<◌, ◌≤◌, ℕ, Bool, true, false, not, refl, sym, ap, ap₂, arith, List, [], ◌∷◌, ◌++◌, get_or, length, take, map, Option, Some, None, append_assoc, take_all, codes, fold, if◌then◌else◌, option_map, Bor, All, list_all, and_from, map_push, take_more, list_all-append, list_all-map, list_all_at, Kinds, or_else, Shape, Row, Text, Walk, finished, positional, texts, CommandLine, AsWritten, is_label, Command, Adopt, Lost, CommandFits, words, HasNoFlags, IsNoFlag, guarded_words, several_of, spelled, on_several}
use Rattle.std.proofs.lemmas.List.Elements.{All-head, All-tail}
use Rattle.clap.proofs.OnLiterals.{clap_on_literals}
use Rattle.gm_words.specs.Spelling.{command_of, providers_at, providers_in, several_at}
use Rattle.gm_words.specs.Table.{name, names, optional, possible, wanted}
use Rattle.gm_words.proofs.FoundCommand.{leaf, named}
use Rattle.gm_words.proofs.Options.{Ends}
use Rattle.gm_words.proofs.Rows.{row}
use Rattle.gm_words.proofs.ReadValues.{label_read, nonzero}
use Rattle.gm_words.proofs.ClapWalk.{ArePlain, Has, Said, begun, exact, leaf_fault, plain, said_fault, said_turn_fault, said_walked, spelled_as, text_of}

-- ---- texts that are read as providers

-- what `Label::new` says of a text
abbrev label_or_none : Text → Option Text
label_or_none t = if is_label t then Some t else None

is_told : (t x : Text) (o : Option Text) → o ≡ label_or_none t → o ≡ Some x
    → (is_label t ≡ true) × (x ≡ t)
is_told t x o told some = by (is_label t) (sym some ∙ told)
  where
    by : (b : Bool) → Some x ≡ (if b then Some t else None) → (b ≡ true) × (x ≡ t)
    by true e = (refl, cc e)
    by false e = absurd (cc e)

none_told : (t : Text) (o : Option Text) → o ≡ label_or_none t → o ≡ None → is_label t ≡ false
none_told t o told none = by (is_label t) (sym none ∙ told)
  where
    by : (b : Bool) → None ≡ (if b then Some t else None) → b ≡ false
    by true e = absurd (cc e)
    by false e = refl

module _ (found : List (Bor Text)) (i : ℕ) where
  -- one of the texts is no label
  pub stops : (d : Bor Text) (o : Option Text) → i < length found
      → o ≡ label_or_none (get_or found i d).now → o ≡ None → None ≡ providers_in (texts found)
  unfolding providers_in
  stops d o here told none =
      let wrong = list_all_at (λ t. is_label t.now) found i d here
      (none_told (get_or found i d).now o told none) in
      rw (list_all-map is_label (λ t. t.now) found, wrong) refl

  -- one more is
  pub goes_on : (d : Bor Text) (o : Option Text) (x : Text) (named pushed : List Text)
      → i < length found
      → o ≡ label_or_none (get_or found i d).now → o ≡ Some x → named ≡ texts (take i found)
      → list_all is_label named ≡ true → pushed ≡ named ++ x ∷ []
      → (pushed ≡ texts (take (i + 1) found)) × (list_all is_label pushed ≡ true)
  goes_on d o x named pushed here told some are labels push =
      let is = is_told (get_or found i d).now x o told some in
      let more : texts (take (i + 1) found) ≡ texts (take i found) ++ (get_or found i d).now ∷ [] =
      ap texts (take_more found i d here) ∙ map_push (λ t. t.now) (take i found)
      (get_or found i d) in
      let all : list_all is_label (named ++ x ∷ []) ≡ true =
      list_all-append is_label named (x ∷ []) ∙ and_from _ _ labels
      (and_from _ _ (ap is_label is.1 ∙ is.0) refl) in
      (cc (more, is.1), ap (list_all is_label) push ∙ all)

  -- all of them are
  pub all_read : (named : List Text) (o : Option (List Text)) → length found ≤ i
      → named ≡ texts (take i found) → list_all is_label named ≡ true
      → o ≡ (if length named == 0 then None else Some named) → o ≡ providers_in (texts found)
  unfolding providers_in
  all_read named o past are labels told =
      let whole : named ≡ texts found = are ∙ ap texts (take_all i found past) in
      told ∙ (rw (whole) (rw (ap (list_all is_label) (sym whole) ∙ labels)
      (by (length (texts found) == 0))))
    where
      by : (b : Bool) → (if b then None else Some (texts found))
          ≡ (if not b then Some (texts found) else None)
      by true = refl
      by false = refl

-- ---- what clap found for them

pub strs_some : (r : Option (Bor (List (Bor Text)))) (x : Bor (List (Bor Text)))
    (f : Option (List Text)) → option_map (λ s. texts s.now) r ≡ f → r ≡ Some x
    → f ≡ Some (texts x.now)
strs_some r x f e is = sym e ∙ ap (option_map (λ s. texts s.now)) is

pub strs_none : (r : Option (Bor (List (Bor Text)))) (f : Option (List Text))
    → option_map (λ s. texts s.now) r ≡ f → r ≡ None → f ≡ None
strs_none r f e is = sym e ∙ ap (option_map (λ s. texts s.now)) is

providers_again : (p : Text) (ps : List Text) → list_all is_label (p ∷ ps) ≡ true
    → providers_in (p ∷ ps) ≡ Some (p ∷ ps)
unfolding providers_in
providers_again p ps labels = rw (labels, nonzero (length (p ∷ ps)) (omega arith)) refl

-- ---- what clap finds

pub has_lost : Has (codes "lost") (leaf (on_several (codes "lost"))) (several_of Lost)
unfolding clap_on_literals name names optional possible wanted command_of
has_lost = record {
  meets = refl;
  passes = refl;
  rows = λ behind. refl;
  faults = λ behind. refl;
  reads = λ found. refl;
}

pub has_adopt : Has (codes "adopt") (leaf (on_several (codes "adopt"))) (several_of Adopt)
unfolding clap_on_literals name names optional possible wanted command_of
has_adopt = record {
  meets = refl;
  passes = refl;
  rows = λ behind. refl;
  faults = λ behind. refl;
  reads = λ found. refl;
}

-- what is found of these providers
abbrev providers_row : List Text → Row
providers_row ps = record {
  id = codes "prov";
  values = ps;
  count = None;
  source = Some CommandLine;
  reading = AsWritten;
}

abbrev rows_of : Text → List Text → List Row
rows_of n [] = row (codes "name") n ∷ []
rows_of n (p ∷ ps) = row (codes "name") n ∷ providers_row (p ∷ ps) ∷ []

-- the walk has met the name, these providers and one more
abbrev met : Bool → Text → List Text → Text → Walk
met guarded n before p = record {
  held = record { rows = rows_of n before; pending = Some (codes "prov", p ∷ []); skip = 0 };
  waiting = positional;
  position = 2;
  is_trailing = guarded;
  stopped = None;
}

abbrev said_as : Bool → Text → Said
said_as false = plain
said_as true = exact

plain_told : (ts : List Text) → map text_of (map plain ts) ≡ ts
plain_told [] = refl
plain_told (t ∷ ts) = ap (λ (rest : List Text). t ∷ rest) (plain_told ts)

exact_told : (ts : List Text) → map text_of (map exact ts) ≡ ts
exact_told [] = refl
exact_told (t ∷ ts) = ap (λ (rest : List Text). t ∷ rest) (exact_told ts)

all_plain : (ts : List Text) → All IsNoFlag ts → ArePlain (map plain ts)
all_plain [] free = tt
all_plain (t ∷ ts) free = (All-head IsNoFlag t ts free, all_plain ts (All-tail IsNoFlag t ts free))

all_exact : (ts : List Text) → ArePlain (map exact ts)
all_exact [] = tt
all_exact (t ∷ ts) = (tt, all_exact ts)

-- ---- the law, of each such command

module _ (word : Text) (command : Text → List Text → Command) where
  -- what clap makes of the command
  abbrev s : Shape
  s = leaf (on_several word)

  one_more : (guarded : Bool) (n : Text) (before : List Text) (p q : Text)
      → said_walked s.rules (met guarded n before p) (said_as guarded q)
      ≡ met guarded n (before ++ p ∷ []) q
  unfolding clap_on_literals name names
  one_more false n [] p q = refl
  one_more true n [] p q = refl
  one_more false n (b ∷ before) p q = refl
  one_more true n (b ∷ before) p q = refl

  one_more_passes : (guarded : Bool) (n : Text) (before : List Text) (p q : Text)
      → said_turn_fault s (met guarded n before p) (said_as guarded q) ≡ []
  unfolding clap_on_literals name names
  one_more_passes false n [] p q = refl
  one_more_passes true n [] p q = refl
  one_more_passes false n (b ∷ before) p q = refl
  one_more_passes true n (b ∷ before) p q = refl

  last_ends : (guarded : Bool) (n : Text) (before : List Text) (p : Text)
      → Ends s (met guarded n before p) [] (rows_of n (before ++ p ∷ []))
  unfolding clap_on_literals name names
  last_ends false n [] p = record { passes = refl; are = refl }
  last_ends true n [] p = record { passes = refl; are = refl }
  last_ends false n (b ∷ before) p = record { passes = refl; are = refl }
  last_ends true n (b ∷ before) p = record { passes = refl; are = refl }

  more_end : (guarded : Bool) (n : Text) (before : List Text) (p : Text) (ps : List Text)
      → Ends s (met guarded n before p) (map (said_as guarded) ps) (rows_of n (before ++ p ∷ ps))
  more_end guarded n before p [] = last_ends guarded n before p
  more_end guarded n before p (q ∷ ps) =
      let ends = more_end guarded n (before ++ p ∷ []) q ps in
      let walk_on = one_more guarded n before p q in
      let rest = map (said_as guarded) ps in
      let joined : (before ++ p ∷ []) ++ q ∷ ps ≡ before ++ p ∷ q ∷ ps = simp append_assoc in
      record {
        passes = ap₂ (λ (w : Walk) (k : Kinds). leaf_fault s (fold (said_walked s.rules) w rest)
            (or_else k (said_fault s w rest))) walk_on (one_more_passes guarded n before p q)
            ∙ ends.passes;
        are = ap (λ (w : Walk). finished s.rules (fold (said_walked s.rules) w rest).held) walk_on
            ∙ (ends.are ∙ ap (rows_of n) joined);
      }

  several_ends : (guarded : Bool) (n p : Text) (ps : List Text)
      → Ends s begun (named guarded (n ∷ p ∷ ps)) (rows_of n (p ∷ ps))
  unfolding clap_on_literals name names
  several_ends false n p ps = let ends = more_end false n [] p ps in
      record { passes = ends.passes; are = ends.are }
  several_ends true n p ps = let ends = more_end true n [] p ps in
      record { passes = ends.passes; are = ends.are }

  from_rows : (n p : Text) (ps : List Text) → is_label n ≡ true → list_all is_label (p ∷ ps) ≡ true
      → several_of command (rows_of n (p ∷ ps)) ≡ Some (command n (p ∷ ps))
  unfolding several_at providers_at
  from_rows n p ps fits labels =
      rw (
        label_read (codes "name") (rows_of n (p ∷ ps)) n refl fits,
        providers_again p ps labels,
      ) refl

  module _ (has : Has word s (several_of command)) (n : Text) where
    several_spelled : (guarded : Bool) (p : Text) (ps : List Text) → is_label n ≡ true
        → list_all is_label (p ∷ ps) ≡ true → ArePlain (named guarded (n ∷ p ∷ ps))
        → spelled (word ∷ map text_of (named guarded (n ∷ p ∷ ps))) ≡ Some (command n (p ∷ ps))
    several_spelled guarded p ps fits labels free =
        let ends = several_ends guarded n p ps in
        spelled_as word s (several_of command) has (named guarded (n ∷ p ∷ ps)) free ends.passes
        ∙ ap (several_of command) ends.are ∙ from_rows n p ps fits labels

    canonical_by : (ps : List Text) → is_label n ≡ true → list_all is_label ps ≡ true
        → 0 < length ps → IsNoFlag n → All IsNoFlag ps
        → spelled (word ∷ n ∷ ps) ≡ Some (command n ps)
    canonical_by [] fits labels some free all_free = absurd (omega (arith, some))
    canonical_by (p ∷ ps) fits labels some free all_free =
        ap (λ (ws : List Text). spelled (word ∷ ws)) (sym (plain_told (n ∷ p ∷ ps)))
        ∙ several_spelled false p ps fits labels (free, all_plain (p ∷ ps) all_free)

    guarded_by : (ps : List Text) → is_label n ≡ true → list_all is_label ps ≡ true → 0 < length ps
        → spelled (word ∷ codes "--" ∷ n ∷ ps) ≡ Some (command n ps)
    guarded_by [] fits labels some = absurd (omega (arith, some))
    guarded_by (p ∷ ps) fits labels some =
        ap (λ (ws : List Text). spelled (word ∷ codes "--" ∷ ws)) (sym (exact_told (n ∷ p ∷ ps)))
        ∙ several_spelled true p ps fits labels (tt, all_exact (n ∷ p ∷ ps))

pub lost_canonical : (n : Text) (ps : List Text) → CommandFits (Lost n ps) → HasNoFlags (Lost n ps)
    → spelled (words (Lost n ps)) ≡ Some (Lost n ps)
lost_canonical n ps fits free =
    canonical_by (codes "lost") Lost has_lost n ps fits.0 fits.1 fits.2 free.0 free.1

pub lost_guarded : (n : Text) (ps : List Text) → CommandFits (Lost n ps)
    → spelled (guarded_words (Lost n ps)) ≡ Some (Lost n ps)
lost_guarded n ps fits = guarded_by (codes "lost") Lost has_lost n ps fits.0 fits.1 fits.2

pub adopt_canonical : (n : Text) (ps : List Text) → CommandFits (Adopt n ps)
    → HasNoFlags (Adopt n ps) → spelled (words (Adopt n ps)) ≡ Some (Adopt n ps)
adopt_canonical n ps fits free =
    canonical_by (codes "adopt") Adopt has_adopt n ps fits.0 fits.1 fits.2 free.0 free.1

pub adopt_guarded : (n : Text) (ps : List Text) → CommandFits (Adopt n ps)
    → spelled (guarded_words (Adopt n ps)) ≡ Some (Adopt n ps)
adopt_guarded n ps fits = guarded_by (codes "adopt") Adopt has_adopt n ps fits.0 fits.1 fits.2
