use Rattle.gm_registry.proofs.Common.{rules, ◌∙◌, sym, ap, map, subst, state, read_at_most, if_ok, if_err, on_err, AreUnder, IsOurSchema, columns_at, nine, filter, component_shown, row_is_under, IsComponentValue}
use Rattle.gm_registry.proofs.ReadsInTurn.{ours, counted}
use Rattle.gm_registry.proofs.RecordsUnder.{components_read, no_components}
use Rattle.gm_registry.proofs.SaidParts.{said_by}
use Rattle.gm_registry.proofs.SilentParts.{none_by}
use Rattle.gm_registry.proofs.components_by_key.components_with.Goals as goal

pub returns-clause-tells : goal.returns-clause-tells
returns-clause-tells g c =
    let old = state g.S.Store c.args.conn.now in
    record {
      says = λ clean. if_ok c.read_all.result _ _ (λ ks is known.
          said_by component_shown (filter (row_is_under c.args.key c.args.label) (old.now.trees 4))
          c.in_ok-rows.rows.items ks.items
          (subst (λ label. AreUnder old.now.trees c.args.key label c.in_ok-rows.rows.items)
          c.as_str.ensures.text (c.in_ok-rows.ensures.rows clean known))
          (ap (map (columns_at nine)) (sym c.deref.ensures.value) ∙ is)) c.read_all.ensures.read;
      silent = λ clean. if_err c.read_all.result _ _ (λ e none is known.
          none_by component_shown IsComponentValue
          (filter (row_is_under c.args.key c.args.label) (old.now.trees 4)) c.in_ok-rows.rows.items
          (subst (λ label. AreUnder old.now.trees c.args.key label c.in_ok-rows.rows.items)
          c.as_str.ensures.text (c.in_ok-rows.ensures.rows clean known))
          (λ list all same. none is list all (ap (map (columns_at nine)) c.deref.ensures.value ∙
          same)))
          c.read_all.ensures.unreadable;
      found = λ clean. if_ok c.read_all.result _ _ (λ ks is t s was of.
          components_read old.now.trees t s (counted old t was).rows of c.args.key c.args.label
          c.in_ok-rows.rows.items ks.items
          (subst (λ label. AreUnder old.now.trees c.args.key label c.in_ok-rows.rows.items)
          c.as_str.ensures.text (c.in_ok-rows.ensures.rows clean (ours old t was)))
          (ap (map (columns_at nine)) (sym c.deref.ensures.value) ∙ is)) c.read_all.ensures.read;
      unreadable = λ clean. if_err c.read_all.result _ _ (λ e none is t s was of.
          no_components old.now.trees t s (counted old t was).rows of c.args.key c.args.label
          c.in_ok-rows.rows.items
          (subst (λ label. AreUnder old.now.trees c.args.key label c.in_ok-rows.rows.items)
          c.as_str.ensures.text (c.in_ok-rows.ensures.rows clean (ours old t was)))
          (λ list all same. none is list all (ap (map (columns_at nine)) c.deref.ensures.value ∙
          same)))
          c.read_all.ensures.unreadable;
    }

pub returns-clause-fails : goal.returns-clause-fails
returns-clause-fails g c =
    record {
      failed =
          on_err c.read_all.result _ (read_at_most IsOurSchema (state g.S.Store c.args.conn.now)
          (state g.S.Store c.rows_under.new.conn) c.in_ok-rows.ensures.read);
      store = search rules;
    }
