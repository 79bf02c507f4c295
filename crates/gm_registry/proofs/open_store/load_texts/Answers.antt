use Rattle.gm_registry.proofs.Common.{rules, [], ◌∙◌, sym, state, load_texts_text, ShowsList, read_by, failed_by}
use Rattle.gm_registry.proofs.Texts.{plain_list, lists, texts_failed}
use Rattle.gm_registry.proofs.open_store.load_texts.Goals as goal

pub returns-in-Ok : goal.returns-in-Ok
returns-in-Ok g c =
    record {
      rows = λ clean shows.
          lists (state g.S.Store c.args.conn.now) (state g.S.Store c.query_all.new.self)
          c.in-Ok.rows.items shows (c.in-Ok.ensures.ok clean);
      read = read_by ShowsList load_texts_text [] plain_list (state g.S.Store c.args.conn.now)
          (state g.S.Store c.query_all.new.self) c.in-Ok.rows.items c.in-Ok.ensures.ok
          c.query_all.ensures.survives;
      failed = search rules;
      store = search rules;
      fault = search rules;
    }

pub returns-in-Err : goal.returns-in-Err
returns-in-Err g c =
    record {
      rows = search rules;
      read = search rules;
      failed = failed_by ShowsList load_texts_text [] plain_list (state g.S.Store c.args.conn.now)
          (state g.S.Store c.query_all.new.self) c.in-Err.error c.in-Err.ensures.err
          c.query_all.ensures.survives;
      store = λ clean is shows is_open.
          texts_failed (state g.S.Store c.args.conn.now) (state g.S.Store c.query_all.new.self)
          c.in-Err.error shows is_open (c.in-Err.ensures.err clean) (sym c.from.ensures ∙ is);
      fault = search rules;
    }
