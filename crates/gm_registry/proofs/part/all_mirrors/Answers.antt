use Rattle.gm_registry.proofs.Common.{rules, ◌∙◌, sym, ap, map, state, read_at_most, if_ok, if_err, on_err, IsOurSchema, columns_at, nine, mirror_shown, IsMirrorValue}
use Rattle.gm_registry.proofs.ReadsInTurn.{ours, counted}
use Rattle.gm_registry.proofs.RecordsUnder.{mirrors_read, no_mirrors}
use Rattle.gm_registry.proofs.SaidParts.{said_by}
use Rattle.gm_registry.proofs.SilentParts.{none_by}
use Rattle.gm_registry.proofs.part.all_mirrors.Goals as goal

pub returns-clause-tells : goal.returns-clause-tells
returns-clause-tells g c =
    let old = state g.S.Store c.args.conn.now in
    record {
      says = λ clean. if_ok c.read_all.result _ _ (λ ms is known.
          said_by mirror_shown (old.now.trees 1) c.in_ok-rows.rows.items ms.items
          (c.in_ok-rows.ensures.queries.rows clean known)
          (ap (map (columns_at nine)) (sym c.deref.ensures.value) ∙ is)) c.read_all.ensures.read;
      silent = λ clean. if_err c.read_all.result _ _ (λ e none is known.
          none_by mirror_shown IsMirrorValue (old.now.trees 1) c.in_ok-rows.rows.items
          (c.in_ok-rows.ensures.queries.rows clean known)
          (λ list all same. none is list all (ap (map (columns_at nine)) c.deref.ensures.value ∙
          same)))
          c.read_all.ensures.unreadable;
      found = λ clean. if_ok c.read_all.result _ _ (λ ms is t s was of.
          mirrors_read old.now.trees t s (counted old t was).rows of c.in_ok-rows.rows.items
          ms.items
          (c.in_ok-rows.ensures.queries.rows clean (ours old t was))
          (ap (map (columns_at nine)) (sym c.deref.ensures.value) ∙ is)) c.read_all.ensures.read;
      unreadable = λ clean. if_err c.read_all.result _ _ (λ e none is t s was of.
          no_mirrors old.now.trees t s (counted old t was).rows of c.in_ok-rows.rows.items
          (c.in_ok-rows.ensures.queries.rows clean (ours old t was))
          (λ list all same. none is list all (ap (map (columns_at nine)) c.deref.ensures.value ∙
          same)))
          c.read_all.ensures.unreadable;
    }

pub returns-clause-fails : goal.returns-clause-fails
returns-clause-fails g c =
    record {
      failed =
          on_err c.read_all.result _ (read_at_most IsOurSchema (state g.S.Store c.args.conn.now)
          (state g.S.Store c.rows_of.new.conn) c.in_ok-rows.ensures.queries.read);
      store = search rules;
    }
