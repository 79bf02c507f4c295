use Rattle.gm_registry.proofs.Common.{◌≡◌, ◌≢◌, ◌∙◌, inl, inr, not, sym, ap, subst, rules, Database, state, Schema, IsSound, survives_weaker, failed_closer, failed_leaves_over, known_closer, map_ok, if_err, both_ok, on_err, passed_on, no_schema, Lists, ShowsList, schema_of, IsNumbered, IsOfEdition, IsOfRegistry, IsOurSchema, Edition, First, Second}
use Rattle.gm_registry.proofs.CarriedOver.{first_still, holds_over, sees_over}
use Rattle.gm_registry.proofs.OpenedConnection.{IsJustOpened, blank, edition_seen, first_store, foreign_shown, has_first, has_tables, no_registry, not_empty, not_first, not_second, nothing_foreign, of_registry, only_first, only_second, registry_there, stored_as}
use Rattle.gm_registry.proofs.ReadsInTurn.{nothing_new, tables_refused, tables_stay}
use Rattle.gm_registry.proofs.Texts.{ours_known}
use Rattle.gm_registry.proofs.open_store.prepare.Goals as goal

-- ---- a store without tables

pub returns-in_err-create_all : goal.returns-in_err-create_all
returns-in_err-create_all g c =
    let s = state g.S.Store c.args.conn.now in
    let opened : IsJustOpened s = record {
      autocommit = c.requires;
      settled = c.is_autocommit-settled.ensures.settled (c.is_autocommit-settled.ensures.value
          ∙ ap not c.requires);
      live = c.schema.ensures.live;
    } in
    let nothing : s.now.schema ≡ no_schema =
    sym c.schema.ensures.value ∙ c.is_empty.ensures.0 c.if-is_empty.true in
    let result = c.from_residual.result in
    record {
      opens = λ is_open. record {
        opened = search rules;
        left = stored_as s.committed.trees _
            (λ t holds. absurd (no_registry s opened is_open nothing Second holds.sound))
            (λ t first. absurd (no_registry s opened is_open nothing First first.sound))
            (λ empty. c.in_err-create_all.ensures.left (blank s opened is_open empty));
        registry = search rules;
        second = λ sound. absurd (no_registry s opened is_open nothing Second sound);
        first = λ sound. absurd (no_registry s opened is_open nothing First sound);
        other = λ foreign. absurd (nothing_foreign s opened is_open nothing foreign);
        fails = record {
          unreadable = search rules;
          store = λ clean. passed_on result _ _ (λ e same is some. elim some [
            | inl empty ↦ c.in_err-create_all.ensures.store clean (sym same ∙ is)
                (blank s opened is_open empty)
            | inr (inl has) ↦ absurd (no_registry s opened is_open nothing has.0 has.1)
            | inr (inr foreign) ↦ absurd (nothing_foreign s opened is_open nothing foreign)
          ]) c.from_residual.ensures.1;
        };
      };
      clean = search rules;
    }

pub returns-then-is_empty : goal.returns-then-is_empty
returns-then-is_empty g c =
    let s = state g.S.Store c.args.conn.now in
    let opened : IsJustOpened s = record {
      autocommit = c.requires;
      settled = c.is_autocommit-settled.ensures.settled (c.is_autocommit-settled.ensures.value
          ∙ ap not c.requires);
      live = c.schema.ensures.live;
    } in
    let nothing : s.now.schema ≡ no_schema =
    sym c.schema.ensures.value ∙ c.is_empty.ensures.0 c.if-is_empty.true in
    record {
      opens = λ is_open. record {
        opened = λ clean. stored_as s.committed.trees _
            (λ t holds. absurd (no_registry s opened is_open nothing Second holds.sound))
            (λ t first. absurd (no_registry s opened is_open nothing First first.sound))
            (λ empty. c.in_ok-create_all.ensures.made clean (blank s opened is_open empty));
        left = stored_as s.committed.trees _
            (λ t holds. absurd (no_registry s opened is_open nothing Second holds.sound))
            (λ t first. absurd (no_registry s opened is_open nothing First first.sound))
            (λ empty. c.in_ok-create_all.ensures.left (blank s opened is_open empty));
        registry = λ clean has. absurd (no_registry s opened is_open nothing has.0 has.1);
        second = λ sound. absurd (no_registry s opened is_open nothing Second sound);
        first = λ sound. absurd (no_registry s opened is_open nothing First sound);
        other = λ foreign. absurd (nothing_foreign s opened is_open nothing foreign);
        fails = record { unreadable = search rules; store = search rules };
      };
      clean = search rules;
    }

-- ---- a registry of the first schema, or something else with as many tables

pub returns-in-First : goal.returns-in-First
returns-in-First g c =
    let s = state g.S.Store c.args.conn.now in
    let new = state g.S.Store c.take_first.new.conn in
    let opened : IsJustOpened s = record {
      autocommit = c.requires;
      settled = c.is_autocommit-settled.ensures.settled (c.is_autocommit-settled.ensures.value
          ∙ ap not c.requires);
      live = c.schema.ensures.live;
    } in
    let some : s.now.schema ≢ no_schema = λ none. (let e = sym (c.is_empty.ensures.1
    (c.schema.ensures.value ∙ none)) ∙ c.if-is_empty.false in cc) in
    let only : (edition : Edition) → s.now.schema ≡ schema_of edition → First ≡ edition =
    λ edition is. c.in-First.ensures edition (c.schema-2.ensures.value ∙ is) in
    let result = c.take_first.result in
    let it = c.take_first.ensures in
    record {
      opens = λ is_open. record {
        opened = λ clean. map_ok result _ _ (λ over. stored_as s.committed.trees _
            (λ t holds. absurd (not_second s opened is_open only holds.sound))
            (λ t first.
            let both = over (first_store s opened is_open first.sound) in
            sees_over s new t first both.0 both.1)
            (λ empty. absurd (not_empty s opened is_open some empty))) (it.carries.carried clean);
        left = stored_as s.committed.trees _
            (λ t holds. absurd (not_second s opened is_open only holds.sound))
            (λ t first. survives_weaker s new _ _
            (λ clean db over. holds_over s.committed.trees db t first over)
            (it.carries.left (first_store s opened is_open first.sound)))
            (λ empty. absurd (not_empty s opened is_open some empty));
        registry = λ clean. map_ok result _ _ (λ over has.
            (over (first_store s opened is_open (only_first s opened is_open only
            (λ edition. IsSound (schema_of edition) s.committed.trees) (λ edition sound. sound)
            has))).0) (it.carries.carried clean);
        second = λ sound. absurd (not_second s opened is_open only sound);
        first = λ sound. record {
          done = λ clean. map_ok result _ _
              (λ over. (over (first_store s opened is_open sound)).1) (it.carries.carried clean);
          stays = λ clean. if_err result _ _ (λ e stays still.
              ap (λ (d : Database). d.trees) (stays (first_store s opened is_open sound)
              still).committed_is) (it.carries.stays clean);
          refused = λ clean. if_err result _ _ (λ e stays t holds still.
              first_still s new t (has_first s opened is_open t holds)
              (stays (first_store s opened is_open sound) still)) (it.carries.stays clean);
          left = it.carries.left (first_store s opened is_open sound);
        };
        other = λ foreign. record {
          refused = λ clean. map_ok result _ _ (λ lists.
              foreign.other First (subst (λ (d : Database). Lists First d.trees)
              (opened.settled is_open) (lists (foreign_shown s opened is_open foreign))))
              (it.knows.texts clean);
          alone = failed_leaves_over ShowsList s new (foreign_shown s opened is_open foreign)
              (it.knows.foreign (λ lists. foreign.other First
              (subst (λ (d : Database). Lists First d.trees) (opened.settled is_open) lists)));
        };
        fails = record {
          unreadable = λ clean. if_err result _ _ (λ e none is openable. elim openable [
            | inl empty ↦ not_empty s opened is_open some empty
            | inr of ↦
                let first = only_first s opened is_open only
                (λ edition. IsOfEdition edition s.committed.trees) (λ edition i. i.sound) of in
                none is (of_registry s opened is_open (First, first.sound))
                (subst (λ (d : Database). Lists First d.trees) (sym (opened.settled is_open))
                first.listed)
                (subst (λ (d : Database). IsNumbered First d.trees) (sym (opened.settled is_open))
                first.numbered)
          ]) (it.fails.unreadable clean);
          store = λ clean. if_err result _ _ (λ e failed is known. elim known [
            | inl empty ↦ absurd (not_empty s opened is_open some empty)
            | inr (inl has) ↦
                let sound = only_first s opened is_open only
                (λ edition. IsSound (schema_of edition) s.committed.trees) (λ edition i. i) has in
                failed is (ours_known _ (of_registry s opened is_open has))
                (λ _. first_store s opened is_open sound) is_open
            | inr (inr foreign) ↦ failed is (foreign_shown s opened is_open foreign)
                (λ lists. absurd (foreign.other First (subst (λ (d : Database). Lists First d.trees)
                (opened.settled is_open) lists))) is_open
          ]) (it.fails.store clean);
        };
      };
      clean = it.clean;
    }

-- ---- a registry of the second, or something else

pub returns-in-Second : goal.returns-in-Second
returns-in-Second g c =
    let s = state g.S.Store c.args.conn.now in
    let new = state g.S.Store c.check_registry.new.conn in
    let opened : IsJustOpened s = record {
      autocommit = c.requires;
      settled = c.is_autocommit-settled.ensures.settled (c.is_autocommit-settled.ensures.value
          ∙ ap not c.requires);
      live = c.schema.ensures.live;
    } in
    let some : s.now.schema ≢ no_schema = λ none. (let e = sym (c.is_empty.ensures.1
    (c.schema.ensures.value ∙ none)) ∙ c.if-is_empty.false in cc) in
    let only : (edition : Edition) → s.now.schema ≡ schema_of edition → Second ≡ edition =
    λ edition is. c.in-Second.ensures edition (c.schema-2.ensures.value ∙ is) in
    let result = c.check_registry.result in
    let it = c.check_registry.ensures in
    let known : (x : Schema) → IsOurSchema x → IsOfRegistry x = λ x is. (Second, is) in
    let failed = failed_closer IsOfRegistry IsOurSchema known s new it.failed in
    record {
      opens = λ is_open. record {
        opened = λ clean. map_ok result _ _ (λ read. stored_as s.committed.trees _
            (λ t holds. tables_stay s new t
            (known_closer IsOfRegistry IsOurSchema known s new read) clean
            (has_tables s opened is_open t holds))
            (λ t first. absurd (not_first s opened is_open only first.sound))
            (λ empty. absurd (not_empty s opened is_open some empty))) it.read;
        left = stored_as s.committed.trees _
            (λ t holds. survives_weaker s new _ _ (λ _ db none. absurd none)
            (nothing_new s new t failed.left (has_tables s opened is_open t holds)))
            (λ t first. absurd (not_first s opened is_open only first.sound))
            (λ empty. absurd (not_empty s opened is_open some empty));
        registry = λ clean. both_ok result _ _ _ (λ about read has.
            let sound = only_second s opened is_open only
            (λ edition. IsSound (schema_of edition) s.committed.trees) (λ edition i. i) has in
            let ours = of_registry s opened is_open has in
            registry_there s opened is_open new sound (read.unchanged clean ours) (about ours))
            (it.about clean) it.read;
        second = λ sound. record {
          alone = failed_leaves_over IsOurSchema s new
              (edition_seen s opened is_open Second sound) failed;
          refused = λ clean. on_err result _ (λ t holds still.
              tables_refused s new t failed clean (has_tables s opened is_open t holds) still);
        };
        first = λ sound. absurd (not_first s opened is_open only sound);
        other = λ foreign. record {
          refused = λ clean. map_ok result _ _ (λ lists.
              foreign.other Second (subst (λ (d : Database). Lists Second d.trees)
              (opened.settled is_open) (lists (foreign_shown s opened is_open foreign))))
              (it.knows.texts clean);
          alone = failed_leaves_over ShowsList s new (foreign_shown s opened is_open foreign)
              (it.knows.foreign (λ lists. foreign.other Second
              (subst (λ (d : Database). Lists Second d.trees) (opened.settled is_open) lists)));
        };
        fails = record {
          unreadable = λ clean. if_err result _ _ (λ e none is openable. elim openable [
            | inl empty ↦ not_empty s opened is_open some empty
            | inr of ↦
                let second = only_second s opened is_open only
                (λ edition. IsOfEdition edition s.committed.trees) (λ edition i. i.sound) of in
                none is (of_registry s opened is_open (Second, second.sound))
                (subst (λ (d : Database). Lists Second d.trees) (sym (opened.settled is_open))
                second.listed)
                (subst (λ (d : Database). IsNumbered Second d.trees) (sym (opened.settled is_open))
                second.numbered)
          ]) (it.fails.unreadable clean);
          store = λ clean. if_err result _ _ (λ e fails is there. elim there [
            | inl empty ↦ absurd (not_empty s opened is_open some empty)
            | inr (inl has) ↦
                let ours = of_registry s opened is_open has in
                fails is (ours_known _ ours) (λ _. ours) is_open
            | inr (inr foreign) ↦ fails is (foreign_shown s opened is_open foreign)
                (λ lists. absurd (foreign.other Second
                (subst (λ (d : Database). Lists Second d.trees) (opened.settled is_open) lists)))
                is_open
          ]) (it.fails.store clean);
        };
      };
      clean = failed.left.clean;
    }
