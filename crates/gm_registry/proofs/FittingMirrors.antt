-- Why a mirror is not put: no rule refuses it if no other mirror has its number.
use Rattle.gm_registry.proofs.Common.{◌≡◌, inl, inr, ℤ, pos, ◌^◌, ◌<◌, ◌≤◌, Bool, true, false, not, ◌&&◌, ◌||◌, [], ◌∷◌, ◌++◌, length, Some, refl, sym, ap, subst, ◌∙◌, arith, is_eq, AllByRecursion, list_all, true≢false, false_from_ne_true, and_parts, cases_Bool, Row, column, Binary, Trees, col, op2, Compare, Eq, shown, Int, Text, Index, Unique, guards, agree, equal, references_fit, entry_of, ProgramOverflows, accepts_program, value_cmp-Int, conflicts, IsOversized, all_has, has_kept, has_put, put_all_keeps, columns, has_key, key_place, is_all_of, scan, next_fits, number_fits, upsert_stops, is_no_float, weight, small, at_once, equal_text, texts_equal, ints_equal, same_from, Tables, MirrorRow, mirror_values, mirrors, mirrors_by_name, registry_schema, upsert_mirror_text, HasRows, TakesMirror}
use Rattle.sqlite.specs.Listing.{understood}
use Rattle.sqlite_schema.specs.Names.{same_name}
use Rattle.sqlite_tied.specs.Compute.{everything}
use Rattle.sqlite_value.specs.Keys.{first_key, joined}
use Rattle.sqlite_rules.specs.Lists.{Has as Stands}
use Rattle.gm_registry.proofs.ChangedTables.{idle, mirror_typed, only_mirrors}
use Rattle.gm_registry.proofs.Failures.{never}
use Rattle.gm_registry.proofs.FittingTables.{apart, parent_of, record_of, refers_by, same_number, second_place}
use Rattle.gm_registry.proofs.InsideFails.{StopsOnly}
use Rattle.gm_registry.proofs.TextMeanings.{nine_terms, updated, upsert}

pub upsert_mirror_whole : is_all_of upsert_mirror_text 9
    (understood registry_schema upsert_mirror_text)
    ≡ true
unfolding understood everything
upsert_mirror_whole = refl

pub one_from : (e : Bool) → e ≡ true → (e && true) || false ≡ true
one_from true h = refl
one_from false h = h

also_mirrors : (new r : Row) → equal Binary (column r 1) (column new 1) ≡ true
    → conflicts (Some (1 ∷ [])) registry_schema.indexes mirrors new r ≡ true
unfolding first_key
also_mirrors new r h = one_from _ h

referred_with : (gone : Bool) → references_fit registry_schema mirrors true gone ≡ true
unfolding same_name joined
referred_with true = refl
referred_with false = refl

module _ (m : MirrorRow) where
  abbrev rest : Row
  rest = Int (pos m.mid) ∷ Int (pos m.total) ∷ Int (pos m.genid) ∷ Int (pos m.syncid)
      ∷ Int (pos m.slice) ∷ Int (pos m.balance) ∷ Int (pos m.mediasize) ∷ Int (pos m.mflags) ∷ []

  abbrev row_at : ℤ → Row
  row_at id = Int id ∷ Text m.name ∷ rest

  asks : (k n : ℤ) → accepts_program registry_schema []
      (scan 1 (op2 (Compare Eq Binary) (col 1 0) (col 0 9) ∷ []) updated [])
      (mirror_values m ++ Int k ∷ shown mirrors (row_at n)) ≡ true
  unfolding everything
  asks k n = refl

  safe : (db : Trees) (vs : Row) → ProgramOverflows db vs [] []
      (scan 1 (op2 (Compare Eq Binary) (col 1 0) (col 0 9) ∷ []) updated []) → ⊥
  safe db vs (inl none) = none
  safe db vs (inr over) = never (db 1) over

  abbrev IsSmall : ℤ → Index → Type 0
  IsSmall n i = i.table ≡ 1
      → (list_all is_no_float (entry_of i.columns (row_at n)) ≡ true)
      × ((0 < length (entry_of i.columns (row_at n)))
      × (length (entry_of i.columns (row_at n)) ≤ 2001))
      × (weight (entry_of i.columns (row_at n)) ≤ 10 ^ 9)

  entries_small : length m.name < 16 → (n : ℤ) → AllByRecursion (IsSmall n) registry_schema.indexes
  entries_small short n = (
    (λ e. (refl, (omega arith, omega arith), omega arith)),
    (
      (λ e. (refl, (omega arith, omega arith), omega arith)),
      (
        (λ e. absurd (let f : 4 ≡ 1 = e in cc)),
        (
          (λ e. absurd (let f : 4 ≡ 1 = e in cc)),
          ((λ e. absurd (let f : 8 ≡ 1 = e in cc)), ((λ e. absurd (let f : 8 ≡ 1 = e in cc)), tt)),
        ),
      ),
    ),
  )

  little : length m.name < 16 → (n : ℤ) → IsOversized registry_schema mirrors (row_at n) → ⊥
  little short n =
      small registry_schema mirrors (row_at n) refl refl (omega arith, omega arith) (omega arith)
      (λ i known. all_has (IsSmall n) registry_schema.indexes i (entries_small short n) known)

  module _ (db : Trees) (t : Tables) (holds : HasRows db t) (takes : TakesMirror m db t) where
    other_number : (r : Row) → Stands (db 1) r → has_key m.name r ≡ false
        → equal Binary (column r 2) (Int (pos m.mid)) && true ≡ false
    other_number r has differs = false_from_ne_true _ (λ same.
        let of = record_of columns mirror_values t.mirrors (db 1) r holds.mirrors has in
        let is : column r 2 ≡ Int (pos of.0.mid) = sym (second_place r)
        ∙ ap (λ v. column v 1) of.2 in
        let name : column r 1 ≡ Text of.0.name = sym (key_place r) ∙ ap (λ v. column v 0) of.2 in
        let equals : equal Binary (Int (pos of.0.mid)) (Int (pos m.mid)) ≡ true =
        subst (λ v. equal Binary v (Int (pos m.mid)) ≡ true) is (and_parts _ _ same).0 in
        all_has _ t.mirrors of.0 takes.number_free of.1
        (λ named. true≢false (sym (ap (λ v. equal Binary v (Text m.name)) name
        ∙ (texts_equal of.0.name m.name ∙ same_from of.0.name m.name named)) ∙ differs))
        (same_number of.0.mid m.mid (ap is_eq (sym (value_cmp-Int (pos of.0.mid) (pos m.mid)))
        ∙ (sym (ints_equal (Int (pos of.0.mid)) (Int (pos m.mid)) refl refl) ∙ equals))))

    abbrev IsApart : ℤ → Row → Index → Type 0
    IsApart n r i = guards i mirrors ≡ true
        → agree i.order i.columns r i.columns (row_at n) ≡ false

    keys_apart : (n : ℤ) (r : Row) → Stands (db 1) r → has_key m.name r ≡ false
        → AllByRecursion (IsApart n r) registry_schema.indexes
    unfolding first_key
    keys_apart n r has differs =
        let none : false ≡ true → ⊥ = λ e. true≢false (sym e) in (
          (λ e. ap (λ b. b && true) differs),
          (
            (λ e. other_number r has differs),
            (
              (λ e. absurd (none e)),
              ((λ e. absurd (none e)), ((λ e. absurd (none e)), ((λ e. absurd (none e)), tt))),
            ),
          ),
        )

pub put_mirror_stops : (m : MirrorRow) → length m.name < 16
    → StopsOnly (upsert 1 1) (mirror_values m) (TakesMirror m)
put_mirror_stops m short db t limit text stop holds sound takes =
    upsert_stops registry_schema mirrors (inr (inl refl)) mirrors_by_name (inl refl) refl refl refl
    limit at_once (idle 1) refl m.name (rest m) (mirror_values m) (mirror_typed m) 9 updated
    (λ there more. refl) (λ there id row. refl) only_mirrors 1 10 nine_terms refl
    (record {
      apart = apart;
      also = also_mirrors;
      passing = λ n. record { typed = refl; present = refl; checked = refl };
      little = little m short;
      referred = referred_with;
      asks = asks m;
      safe = safe m;
    }) db
    (record {
      keyed = holds.mirrors.keyed;
      unique = sound.obeys.rules Unique;
      numbers = λ r has. number_fits (db 1) 1 r takes.room has;
      next = next_fits (db 1) 0 takes.room;
      others = λ n r has differs i known.
          all_has (IsApart m db t holds takes n r) registry_schema.indexes i
          (keys_apart m db t holds takes n r has differs) known;
    }) refl refl
    (λ next made.
    let same : next 4 ≡ db 4 = made.tables.1.1.0 (λ e. let f : 4 ≡ 1 = e in cc) in
    refers_by next (λ k has.
    let it = parent_of db t holds sound k (subst (λ l. Stands l k) same has) in
    elim (cases_Bool (has_key m.name it.3)) [
      | inl named ↦
          let name : column made.new 1 ≡ column it.3 1 =
          sym (key_place made.new) ∙ (ap (λ r. column r 0) made.values_are
          ∙ sym (equal_text (column it.3 1) m.name named)) in (
            made.new,
            subst (λ l. Stands l made.new) (sym made.rows) (has_put made.new _),
            ap (λ v. equal Binary v (column k 2)) name ∙ it.5,
          )
      | inr other ↦ (
        it.3,
        subst (λ l. Stands l it.3) (sym made.rows) (put_all_keeps (made.new ∷ []) _ it.3
            (ap (λ b. not b && true) made.fresh) (has_kept _ (db 1) it.3 it.4 (ap not other))),
        it.5,
      )
    ])) stop
