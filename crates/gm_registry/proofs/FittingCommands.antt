-- Why the insertion of a command fails: no rule of its table refuses it if its key and its
-- number are free.
use Rattle.gm_registry.proofs.Common.{◌≡◌, inl, inr, pos, ◌^◌, ◌<◌, ◌≤◌, true, false, not, ◌&&◌, [], ◌∷◌, length, refl, sym, ap, subst, ◌∙◌, arith, is_eq, AllByRecursion, list_all, true≢false, false_from_ne_true, and_parts, Row, column, Binary, Trees, Insert, Values, Chosen, Null, Int, Text, IsSound, Index, Enforced, Unique, ForeignKey, guards, agree, equal, entry_of, value_cmp-Int, Edit, is_taken, with_rowid, next_rowid, IsOversized, all_has, has_kept, columns, key_place, is_all_of, unique_added, next_fits, is_no_float, weight, small, IsAllowed, insert_stops, equal_text, ints_equal, same_from, Tables, CommandRow, command_values, commands, registry_schema, put_command_text, HasRows, TakesCommand, is_under}
use Rattle.sqlite.specs.Listing.{understood}
use Rattle.sqlite_tied.specs.Compute.{everything}
use Rattle.sqlite_value.specs.Keys.{first_key}
use Rattle.sqlite_rules.specs.Lists.{Has as Stands}
use Rattle.sqlite_rules.proofs.PlaceLemmas.{next_is_free}
use Rattle.gm_registry.proofs.ChangedTables.{command_typed}
use Rattle.gm_registry.proofs.FittingTables.{apart, record_of, same_number, only, second_place, refers}
use Rattle.gm_registry.proofs.InsideFails.{StopsOnly}
use Rattle.gm_registry.proofs.TextMeanings.{command_terms}

module _ (c : CommandRow) (db : Trees) (t : Tables) (holds : HasRows db t)
    (sound : IsSound registry_schema db) (takes : TakesCommand c.call_key c.words c.seq db t) where
  abbrev edit : Edit
  edit = record {
    table = commands;
    gone = [];
    news = (Int (next_rowid (db 8)) ∷ command_values c)
        ∷ [];
  }

  -- no command has its key
  other_key : (r : Row) → Stands (db 8) r → equal Binary (column r 1) (Text c.call_key) && true
      ≡ false
  other_key r has = false_from_ne_true _ (λ same.
      let of = record_of columns command_values t.commands (db 8) r holds.commands has in
      let is : column r 1 ≡ Text of.0.call_key = sym (key_place r) ∙ ap (λ v. column v 0) of.2 in
      let key : of.0.call_key ≡ c.call_key =
      let e : Text of.0.call_key ≡ Text c.call_key =
      sym is ∙ equal_text (column r 1) c.call_key (and_parts _ _ same).0 in cc in
      let under : is_under c.call_key of.0 ≡ true = same_from of.0.call_key c.call_key key in
      subst (λ l. Stands l of.0) takes.key_free
      (has_kept (is_under c.call_key) t.commands of.0 of.1 under))

  -- nor its number
  other_number : (r : Row) → Stands (db 8) r → equal Binary (column r 2) (Int (pos c.seq)) && true
      ≡ false
  other_number r has = false_from_ne_true _ (λ same.
      let of = record_of columns command_values t.commands (db 8) r holds.commands has in
      let is : column r 2 ≡ Int (pos of.0.seq) = sym (second_place r) ∙ ap (λ v. column v 1) of.2 in
      let equals : equal Binary (Int (pos of.0.seq)) (Int (pos c.seq)) ≡ true =
      subst (λ v. equal Binary v (Int (pos c.seq)) ≡ true) is (and_parts _ _ same).0 in
      all_has _ t.commands of.0 takes.number_free of.1 (same_number of.0.seq c.seq
      (ap is_eq (sym (value_cmp-Int (pos of.0.seq) (pos c.seq)))
      ∙ (sym (ints_equal (Int (pos of.0.seq)) (Int (pos c.seq)) refl refl) ∙ equals))))

  abbrev IsApart : Index → Type 0
  IsApart i = guards i commands ≡ true → (r : Row) → Stands (db 8) r
      → agree i.order i.columns r i.columns (Int (next_rowid (db 8)) ∷ command_values c) ≡ false

  keys_apart : AllByRecursion IsApart registry_schema.indexes
  unfolding first_key
  keys_apart =
      let none : false ≡ true → ⊥ = λ e. true≢false (sym e) in (
        (λ e. absurd (none e)),
        (
          (λ e. absurd (none e)),
          (
            (λ e. absurd (none e)),
            (
              (λ e. absurd (none e)),
              ((λ e r has. other_key r has), ((λ e r has. other_number r has), tt)),
            ),
          ),
        ),
      )

  abbrev IsSmall : Index → Type 0
  IsSmall i = i.table ≡ 8
      → (list_all is_no_float (entry_of i.columns (Int (next_rowid (db 8)) ∷ command_values c))
      ≡ true)
      × ((0 < length (entry_of i.columns (Int (next_rowid (db 8)) ∷ command_values c)))
      × (length (entry_of i.columns (Int (next_rowid (db 8)) ∷ command_values c)) ≤ 2001))
      × (weight (entry_of i.columns (Int (next_rowid (db 8)) ∷ command_values c)) ≤ 10 ^ 9)

  entries_small : AllByRecursion IsSmall registry_schema.indexes
  entries_small =
      let short = takes.short in (
        (λ e. absurd (let f : 1 ≡ 8 = e in cc)),
        (
          (λ e. absurd (let f : 1 ≡ 8 = e in cc)),
          (
            (λ e. absurd (let f : 4 ≡ 8 = e in cc)),
            (
              (λ e. absurd (let f : 4 ≡ 8 = e in cc)),
              (
                (λ e. (refl, (omega arith, omega arith), omega arith)),
                ((λ e. (refl, (omega arith, omega arith), omega arith)), tt),
              ),
            ),
          ),
        ),
      )

  command_allowed : IsAllowed registry_schema Enforced db edit
  command_allowed =
      let first : is_taken (db 8) (Int (next_rowid (db 8)) ∷ command_values c) ≡ false =
      next_is_free Chosen (db 8) (command_values c) holds.commands.keyed.0 holds.commands.keyed.1 in
      let fresh : not (is_taken (db 8) (Int (next_rowid (db 8)) ∷ command_values c)) && true
      ≡ true =
      ap (λ b. not b && true) first in
      let short = takes.short in
      record {
        typed = refl;
        present = refl;
        checked = refl;
        keyed = refl;
        numbers = ap (λ b. b && true) (next_fits (db 8) 0 takes.room);
        fresh = fresh;
        unique = unique_added registry_schema db edit apart (inr (inr (inr (inr (inl refl)))))
            holds.commands.keyed.0 fresh (Int (next_rowid (db 8)) ∷ command_values c) refl
            (λ i known. all_has IsApart registry_schema.indexes i keys_apart known)
            (sound.obeys.rules Unique);
        referred = refl;
        small = λ row has. subst (λ r. IsOversized registry_schema commands r → ⊥)
            (sym (only (Int (next_rowid (db 8)) ∷ command_values c) row has))
            (small registry_schema commands (Int (next_rowid (db 8)) ∷ command_values c) refl refl
            (omega arith, omega arith) (omega arith)
            (λ i known. all_has IsSmall registry_schema.indexes i entries_small known));
      }

pub put_command_whole : is_all_of put_command_text 5 (understood registry_schema put_command_text)
    ≡ true
unfolding understood everything
put_command_whole = refl

pub put_command_stops : (c : CommandRow)
    → StopsOnly (Insert 4 (Values command_terms 6)) (command_values c)
    (TakesCommand c.call_key c.words c.seq)
put_command_stops c db t limit text stop holds sound takes =
    insert_stops registry_schema 4 commands refl command_terms 6 (command_values c)
    (Null ∷ command_values c) (Int (next_rowid (db 8)) ∷ command_values c) limit db refl refl
    (ap (with_rowid Chosen (db 8)) (command_typed c)) (command_allowed c db t holds sound takes)
    (λ next made. refers db next (made.tables.1.0 (λ e. let f : 1 ≡ 8 = e in cc))
    (made.tables.1.1.0 (λ e. let f : 4 ≡ 8 = e in cc)) (sound.obeys.rules ForeignKey)) stop
