-- A commit leads to the steps of its calls.
use Rattle.gm_bench.proofs.Common.{◌≡◌, ◌∙◌, ℕ, ◌+◌, ◌-◌, List, [], ◌∷◌, ◌++◌, map, length, refl, sym, ap, subst, arith, append-nil, IsSome, IsPermutation, length-map, IsPermutation-refl, IsPermutation-cons, length_permutation, Image, Sizes, Bears, Command, Reply, words_of, IsAtHand, IsRedo, Records, Tables, CommandRow, answer_row, intent_rows, patch_rows, World, Answered, present, some_there, Changed, changed_by, Further, SeriesPlan, Keyed, Steps, answered_on, calls_of, keyed_in, keyed_of, string_bytes, with_accepted, with_command, with_further, command_row, HoldState, change_held, change_intents, change_commands, change_patches, Leads, KeepsClaims, EachNewClaims}
use Rattle.gm_rules.proofs.SeriesTurns.{grown_in_turn, steps_in_turn, steps_sizes, turns_rows}
use Rattle.gm_bench.proofs.ComesOf.{turns_come}
use Rattle.gm_bench.proofs.ShelfProviders.{at_hand_up, masked}
use Rattle.gm_bench.proofs.ClaimsBefore.{claims_before, turns_tell}
use Rattle.gm_bench.proofs.WorldAtRest.{at_rest}

pub no_rows : (t : Tables) → IsPermutation (intent_rows 1 []) t.intents → t.intents ≡ []
no_rows t p = by t.intents (length_permutation (intent_rows 1 []) t.intents p)
  where
    by : {X : Type 0} (xs : List X) → length xs ≡ 0 → xs ≡ []
    by [] e = refl
    by (x ∷ xs) e = absurd (omega (arith, e))

-- the row of one more answer
one_row : (old : List Answered) (rows : List CommandRow) (key : List ℕ) (c : Command) (r : Reply)
    (n : ℕ) → IsPermutation (map answer_row old) rows → n ≡ length old + 1
    → IsPermutation (map answer_row (record {
      key = key;
      command = c;
      number = length old + 1;
      reply = r;
    } ∷ old)) (command_row key n (words_of c) r ∷ rows)
one_row old rows key c r n are is =
    subst (λ (k : ℕ). IsPermutation (map answer_row (record {
      key = key;
      command = c;
      number = length old + 1;
      reply = r;
    } ∷ old)) (command_row key k (words_of c) r ∷ rows)) (sym is)
    (IsPermutation-cons (command_row key (length old + 1) (words_of c) r) (map answer_row old) rows
    are)

-- the rows of the answers under further keys
further_rows : (old : List Answered) (c : Command) (fs : List Further) (n : ℕ) (t : Tables)
    → IsPermutation (map answer_row old) t.commands → n ≡ length old + 1
    → IsPermutation (map answer_row (answered_on old c (map keyed_of fs)))
    (with_further fs n (words_of c) t).commands
further_rows old c [] n t are is = are
further_rows old c (f ∷ fs) n t are is =
    further_rows (record {
      key = string_bytes f.key;
      command = c;
      number = length old + 1;
      reply = f.reply;
    } ∷ old) c fs (n + 1)
    (with_command (command_row (string_bytes f.key) n (words_of c) f.reply) t)
    (one_row old t.commands (string_bytes f.key) c f.reply n are is) (omega (arith, is))

module _ (u w : World) (key : List ℕ) (c : Command) (ch : Changed) (t : Tables) (x : Image)
    (plan : SeriesPlan u key c ch w) (l : Leads t [] [] x u) where
  abbrev after : Tables
  after = with_accepted ch key (words_of c) t

  abbrev keyed : List Keyed
  keyed = keyed_in key ch

  steps : Steps u (calls_of c keyed) w
  steps = steps_in_turn u w c keyed plan.turns

  state_is : changed_by ch u.state ≡ w.state
  state_is = plan.records

  sizes_are : u.size ≡ w.size
  sizes_are = λ i q. sym (steps_sizes u w (calls_of c keyed) steps q) i

  as_many : length t.commands ≡ length u.answered
  as_many = length_permutation (map answer_row u.answered) t.commands l.records.commands
      ∙ length-map u.answered answer_row

  held : HoldState w.state after
  held = subst (λ (s : Records). HoldState s after) state_is
      (change_held ch key (words_of c) u.state t l.sound.state
      (record { mirrors = l.records.mirrors; components = l.records.components }))

  first_row : IsPermutation (map answer_row (record {
    key = key;
    command = c;
    number = length u.answered + 1;
    reply = ch.reply;
  } ∷ u.answered))
      (command_row key (length t.commands + 1) (words_of c) ch.reply ∷ t.commands)
  first_row = one_row u.answered t.commands key c ch.reply (length t.commands + 1)
      l.records.commands (omega (arith, as_many))

  keys : IsPermutation (map answer_row w.answered) after.commands
  keys =
      subst (λ (rows : List CommandRow). IsPermutation (map answer_row w.answered) rows)
      (sym (change_commands ch key (words_of c) t))
      (subst (λ (a : List Answered). IsPermutation (map answer_row a)
      (with_further ch.further (length t.commands + 2) (words_of c)
      (with_command (command_row key (length t.commands + 1) (words_of c) ch.reply) t)).commands)
      (sym (turns_rows u w c keyed plan.turns))
      (further_rows (record {
        key = key;
        command = c;
        number = length u.answered + 1;
        reply = ch.reply;
      } ∷ u.answered) c ch.further (length t.commands + 2)
      (with_command (command_row key (length t.commands + 1) (words_of c) ch.reply) t) first_row
      (omega (arith, as_many))))

  rows_are : after.intents ≡ intent_rows 1 ch.intents
  rows_are = change_intents ch key (words_of c) t
      ∙ (ap (λ rows. intent_rows 1 ch.intents ++ rows) (no_rows t l.intents)
      ∙ append-nil (intent_rows 1 ch.intents))

  patches_are : after.patches ≡ patch_rows ch.bytes
  patches_are = change_patches ch key (words_of c) t
      ∙ (ap (λ rows. patch_rows ch.bytes ++ rows) l.patches ∙ append-nil (patch_rows ch.bytes))

  pub commit_leads : Leads after ch.intents ch.bytes x w
  commit_leads =
      let redo : IsRedo w.state ch.bytes u.size ch.intents x w.shelf =
      record {
        says = plan.redo.says;
        lends = plan.redo.lends;
        clean = plan.redo.clean;
        agrees = λ q there j off. at_rest t x u l q there j ∙ plan.redo.agrees q there j off;
      } in
      record {
        sound = plan.sound;
        records = record { mirrors = held.mirrors; components = held.components; commands = keys };
        intents = subst (λ rows. IsPermutation (intent_rows 1 ch.intents) rows) (sym rows_are)
            (IsPermutation-refl (intent_rows 1 ch.intents));
        patches = patches_are;
        readable = plan.readable;
        at_hand = λ r h. subst (λ (z : Sizes). IsAtHand z r) sizes_are
            (at_hand_up (present u) u.size (masked u (present u) refl) r (plan.at_hand r h));
        redo = subst (λ (z : Sizes). IsRedo w.state ch.bytes z ch.intents x w.shelf) sizes_are redo;
      }

  -- what is new bore nothing, and claims nothing yet
  new_claims : EachNewClaims u w x
  new_claims m k o none bare d ok bears =
      let there : IsSome (u.size k.provider) =
      subst (λ (z : Sizes). IsSome (z k.provider)) (sym sizes_are)
      (some_there (w.size k.provider) k.sectors (plan.sound.sizes m k o)) in
      absurd (bare d (subst (λ (s : List ℕ). Bears s d)
      (at_rest t x u l k.provider there (k.sectors - 1)) bears))

  pub commit_claims : KeepsClaims ch.intents x u w
  commit_claims = record {
    sound = l.sound;
    sizes = sizes_are;
    after = plan.claims;
    copies = plan.copies;
    old = claims_before u w l.sound (turns_tell u w c keyed l.sound plan.sound plan.series plan.turns)
        x (at_rest t x u l);
    new = new_claims;
    comes = turns_come u w c keyed ch.intents x plan.series plan.turns plan.sound
        (grown_in_turn u w c keyed l.sound plan.turns) plan.intents (at_rest t x u l);
  }
