use Rattle.gm_rows.proofs.Common.{◌≡◌, ◌∙◌, ◌+◌, ◌++◌, ◌∷◌, [], List, Bool, true, false, if◌then◌else◌, sym, ap, length, length-append, columns_at, numbered}
use Rattle.std.specs.Result.{is_ok}
use Rattle.gm_rows.proofs.NumberedRows.{read_one, reads_none}
use Rattle.gm_rows.proofs.shown.read_all.Goals as goal

pub returns-in-None-clause-unreadable : goal.returns-in-None-clause-unreadable
returns-in-None-clause-unreadable g c same list =
    reads_none g.T.Shown.values (columns_at g.T.Shown.places) g.T.Shown.is_value c.args.rows.now
    c.rows.index c.index-rows-index.result c.rows-test.true c.index-rows-index.is
    c.in-None.ensures.none list

pushed : {A : Type 0} (b : Bool) (xs ys now : List A) → b ≡ true → now ≡ (if b then ys else xs)
    → now ≡ ys
pushed true xs ys now h e = e
pushed false xs ys now h e = cc

pub rows-preserved : goal.rows-preserved
rows-preserved g c =
    let kept : is_ok c.push.result ≡ true =
    sym c.map_err.ensures.variant ∙ ap is_ok c.in_ok-map_err-in-Some.was in
    let grown : c.push.new.self.items ≡ c.rows.list.items ++ c.in-Some.record ∷ [] =
    pushed (is_ok c.push.result) c.rows.list.items _ _ kept c.push.ensures.items in
    record {
      read = read_one g.T.Shown.values (columns_at g.T.Shown.places) c.args.rows.now c.rows.index
          c.index-rows-index.result c.rows.list.items c.in-Some.record c.rows-test.true
          c.index-rows-index.is c.rows.invariant.count c.in-Some.ensures.some c.rows.invariant.read
          ∙ ap (numbered g.T.Shown.values 1) (sym grown);
      count = ap length grown ∙ (length-append c.rows.list.items _
          ∙ (let e : length c.rows.list.items + 1 ≡ c.rows.index
          + 1 = ap (λ n. n + 1) c.rows.invariant.count in e));
    }
