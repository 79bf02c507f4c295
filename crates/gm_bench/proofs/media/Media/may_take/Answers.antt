use Rattle.gm_bench.proofs.Common.{rules, ◌∙◌, sym, string_bytes}
use Rattle.gm_bench.proofs.FurtherKeys.{free_beside, not_among, not_same}
use Rattle.gm_bench.proofs.media.Media.may_take.Goals as goal

pub returns-in-Ok : goal.returns-in-Ok
returns-in-Ok g c =
    record {
      told = λ clean t has.
          let found = c.in-Ok.ensures.found clean t has in (
            free_beside c.args.key.now c.args.first.now _ t c.in-Ok.found _
                (sym c.is_key.ensures ∙ c.if-not-is_key.false)
                (not_same c.args.key.now c.args.first.now (sym c.eq.ensures ∙ c.if-eq.false))
                (not_among string_bytes c.args.taken.now c.args.key.now
                (sym c.is_among.ensures ∙ c.if-is_among.false))
                found.0 c.is_none.result c.is_none.ensures,
            found.1.tables,
          );
      store = search rules;
      readable = search rules;
      looks = search rules;
    }
