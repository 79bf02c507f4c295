-- Why a component is not put: no rule refuses it if its mirror is there and has no other of its
-- number.
use Rattle.gm_registry.proofs.Common.{◌≡◌, inl, inr, ℤ, pos, ◌^◌, ◌<◌, ◌≤◌, Bool, true, false, ◌&&◌, [], ◌∷◌, ◌++◌, length, Some, refl, sym, ap, subst, ◌∙◌, arith, is_eq, AllByRecursion, list_all, true≢false, false_from_ne_true, and_parts, Row, column, Binary, Trees, col, op2, Compare, Eq, shown, Int, Text, Index, Unique, guards, agree, equal, references_fit, entry_of, ProgramOverflows, accepts_program, value_cmp-Int, conflicts, IsOversized, all_has, has_filtered, put_has, columns, has_key, key_place, is_all_of, scan, next_fits, number_fits, upsert_stops, is_no_float, weight, small, at_once, equal_text, texts_equal, ints_equal, same_from, Tables, ComponentRow, mirror_values, component_values, components, components_by_prov, registry_schema, upsert_component_text, HasRows, stands_from, TakesComponent}
use Rattle.sqlite.specs.Listing.{understood}
use Rattle.sqlite_schema.specs.Names.{same_name}
use Rattle.sqlite_tied.specs.Compute.{everything}
use Rattle.sqlite_value.specs.Keys.{first_key, joined}
use Rattle.sqlite_rules.specs.Lists.{Has as Stands}
use Rattle.gm_registry.proofs.ChangedTables.{idle, component_typed, only_components}
use Rattle.gm_registry.proofs.Failures.{never}
use Rattle.gm_registry.proofs.FittingTables.{apart, parent_of, record_of, refers_by, same_number, second_place, fourth_place, row_of}
use Rattle.gm_registry.proofs.InsideFails.{StopsOnly}
use Rattle.gm_registry.proofs.TextMeanings.{nine_terms, updated, upsert}
use Rattle.gm_registry.proofs.FittingMirrors.{one_from}

pub upsert_component_whole : is_all_of upsert_component_text 9
    (understood registry_schema upsert_component_text) ≡ true
unfolding understood everything
upsert_component_whole = refl

also_components : (new r : Row) → equal Binary (column r 1) (column new 1) ≡ true
    → conflicts (Some (1 ∷ [])) registry_schema.indexes components new r ≡ true
unfolding first_key
also_components new r h = one_from _ h

referred_with : (gone : Bool) → references_fit registry_schema components true gone ≡ true
unfolding same_name joined
referred_with true = refl
referred_with false = refl

module _ (k : ComponentRow) where
  abbrev rest : Row
  rest = Text k.mirror ∷ Int (pos k.did) ∷ Int (pos k.syncid) ∷ Int (pos k.priority)
      ∷ Int (pos k.sync_offset) ∷ Int (pos k.dflags) ∷ Int (pos k.hard) ∷ Int (pos k.provsize) ∷ []

  abbrev row_at : ℤ → Row
  row_at id = Int id ∷ Text k.prov ∷ rest

  asks : (i n : ℤ) → accepts_program registry_schema []
      (scan 4 (op2 (Compare Eq Binary) (col 1 0) (col 0 9) ∷ []) updated [])
      (component_values k ++ Int i ∷ shown components (row_at n)) ≡ true
  unfolding everything
  asks i n = refl

  safe : (db : Trees) (vs : Row) → ProgramOverflows db vs [] []
      (scan 4 (op2 (Compare Eq Binary) (col 1 0) (col 0 9) ∷ []) updated []) → ⊥
  safe db vs (inl none) = none
  safe db vs (inr over) = never (db 4) over

  abbrev IsSmall : ℤ → Index → Type 0
  IsSmall n i = i.table ≡ 4
      → (list_all is_no_float (entry_of i.columns (row_at n)) ≡ true)
      × ((0 < length (entry_of i.columns (row_at n)))
      × (length (entry_of i.columns (row_at n)) ≤ 2001))
      × (weight (entry_of i.columns (row_at n)) ≤ 10 ^ 9)

  module _ (short : length k.prov < 16) (brief : length k.mirror < 16) where
    entries_small : (n : ℤ) → AllByRecursion (IsSmall n) registry_schema.indexes
    entries_small n = (
      (λ e. absurd (let f : 1 ≡ 4 = e in cc)),
      (
        (λ e. absurd (let f : 1 ≡ 4 = e in cc)),
        (
          (λ e. (refl, (omega arith, omega arith), omega arith)),
          (
            (λ e. (refl, (omega arith, omega arith), omega arith)),
            (
              (λ e. absurd (let f : 8 ≡ 4 = e in cc)),
              ((λ e. absurd (let f : 8 ≡ 4 = e in cc)), tt),
            ),
          ),
        ),
      ),
    )

    little : (n : ℤ) → IsOversized registry_schema components (row_at n) → ⊥
    little n =
        small registry_schema components (row_at n) refl refl (omega arith, omega arith)
        (omega arith)
        (λ i known. all_has (IsSmall n) registry_schema.indexes i (entries_small n) known)

  module _ (db : Trees) (t : Tables) (holds : HasRows db t) (takes : TakesComponent k db t) where
    other_number : (r : Row) → Stands (db 4) r → has_key k.prov r ≡ false
        → equal Binary (column r 2) (Text k.mirror)
        && (equal Binary (column r 3) (Int (pos k.did)) && true) ≡ false
    other_number r has differs = false_from_ne_true _ (λ same.
        let of = record_of columns component_values t.components (db 4) r holds.components has in
        let mirror : column r 2 ≡ Text of.0.mirror = sym (second_place r)
        ∙ ap (λ v. column v 1) of.2 in
        let is : column r 3 ≡ Int (pos of.0.did) = sym (fourth_place r)
        ∙ ap (λ v. column v 2) of.2 in
        let name : column r 1 ≡ Text of.0.prov = sym (key_place r) ∙ ap (λ v. column v 0) of.2 in
        let parts = and_parts _ _ same in
        let mine : of.0.mirror ≡ k.mirror =
        let e : Text of.0.mirror ≡ Text k.mirror =
        sym mirror ∙ equal_text (column r 2) k.mirror parts.0 in cc in
        let equals : equal Binary (Int (pos of.0.did)) (Int (pos k.did)) ≡ true =
        subst (λ v. equal Binary v (Int (pos k.did)) ≡ true) is (and_parts _ _ parts.1).0 in
        all_has _ t.components of.0 takes.placed.number_free of.1
        (λ named. true≢false (sym (ap (λ v. equal Binary v (Text k.prov)) name
        ∙ (texts_equal of.0.prov k.prov ∙ same_from of.0.prov k.prov named)) ∙ differs)) mine
        (same_number of.0.did k.did (ap is_eq (sym (value_cmp-Int (pos of.0.did) (pos k.did)))
        ∙ (sym (ints_equal (Int (pos of.0.did)) (Int (pos k.did)) refl refl) ∙ equals))))

    abbrev IsApart : ℤ → Row → Index → Type 0
    IsApart n r i = guards i components ≡ true
        → agree i.order i.columns r i.columns (row_at n) ≡ false

    keys_apart : (n : ℤ) (r : Row) → Stands (db 4) r → has_key k.prov r ≡ false
        → AllByRecursion (IsApart n r) registry_schema.indexes
    unfolding first_key
    keys_apart n r has differs =
        let none : false ≡ true → ⊥ = λ e. true≢false (sym e) in (
          (λ e. absurd (none e)),
          (
            (λ e. absurd (none e)),
            (
              (λ e. ap (λ b. b && true) differs),
              (
                (λ e. other_number r has differs),
                ((λ e. absurd (none e)), ((λ e. absurd (none e)), tt)),
              ),
            ),
          ),
        )

pub put_component_stops : (k : ComponentRow) → length k.prov < 16 → length k.mirror < 16
    → StopsOnly (upsert 2 4) (component_values k) (TakesComponent k)
put_component_stops k short brief db t limit text stop holds sound takes =
    upsert_stops registry_schema components (inr (inr (inl refl))) components_by_prov
    (inr (inr (inl refl))) refl refl refl limit at_once (idle 4) refl k.prov (rest k)
    (component_values k) (component_typed k) 9 updated
    (λ there more. refl) (λ there id row. refl) only_components 2 10 nine_terms refl
    (record {
      apart = apart;
      also = also_components;
      passing = λ n. record { typed = refl; present = refl; checked = refl };
      little = little k short brief;
      referred = referred_with;
      asks = asks k;
      safe = safe k;
    }) db
    (record {
      keyed = holds.components.keyed;
      unique = sound.obeys.rules Unique;
      numbers = λ r has. number_fits (db 4) 1 r takes.room has;
      next = next_fits (db 4) 0 takes.room;
      others = λ n r has differs i known.
          all_has (IsApart k db t holds takes n r) registry_schema.indexes i
          (keys_apart k db t holds takes n r has differs) known;
    }) refl refl
    (λ next made.
    let same : next 1 ≡ db 1 = made.tables.1.0 (λ e. let f : 1 ≡ 4 = e in cc) in
    refers_by next (λ row has.
    elim (put_has made.new _ row (subst (λ l. Stands l row) made.rows has)) [
      | inl is ↦
          let m = takes.placed.mirror in
          let of = row_of columns mirror_values t.mirrors (db 1) m.0 holds.mirrors
          (stands_from t.mirrors m.0 m.1) in
          let name : column of.0 1 ≡ Text k.mirror =
          sym (key_place of.0) ∙ (ap (λ v. column v 0) (sym of.2) ∙ ap Text m.2) in
          let mine : column row 2 ≡ Text k.mirror =
          ap (λ v. column v 2) is ∙ (sym (second_place made.new)
          ∙ ap (λ v. column v 1) made.values_are) in (
            of.0,
            subst (λ l. Stands l of.0) (sym same) of.1,
            ap (λ v. equal Binary v (column row 2)) name
                ∙ (ap (equal Binary (Text k.mirror)) mine
                ∙ (texts_equal k.mirror k.mirror ∙ same_from k.mirror k.mirror refl)),
          )
      | inr was ↦
          let it = parent_of db t holds sound row (has_filtered _ (db 4) row was).0 in
          (it.3, subst (λ l. Stands l it.3) (sym same) it.4, it.5)
    ])) stop
