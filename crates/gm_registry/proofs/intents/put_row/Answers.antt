use Rattle.gm_registry.proofs.ChangedTables.{intent_params, puts_intent}
use Rattle.gm_registry.proofs.FittingIntents.{put_intent_stops, put_intent_whole}
use Rattle.gm_registry.proofs.InsideCalls.{executes}
use Rattle.gm_registry.proofs.NumberedSteps.{put_intent_numbers}
use Rattle.gm_registry.proofs.TextMeanings.{intent_terms, put_intent_is}
use Rattle.gm_registry.proofs.Common.{row_of_kind, with_intents, AreShort, IsUnnumbered, put_intent_text, Insert, Values, [], ◌∷◌, arith, refl}
use Rattle.gm_registry.proofs.intents.put_row.Goals as goal

pub returns : goal.returns
returns g c =
    let row = row_of_kind c.args.kind c.args.ord c.args.provider.now c.args.source.now c.args.first
    c.args.end in
    executes put_intent_text (intent_params row) (Insert 3 (Values intent_terms 7))
    put_intent_is put_intent_whole refl refl (λ old new text count h. h)
    (with_intents (row ∷ [])) (puts_intent row) (λ _ t. IsUnnumbered row.ord t × AreShort row.prov
    row.source)
    (put_intent_stops row (omega arith)) 0 (put_intent_numbers row)
    g.S.Store c.args.tx.now c.execute.new.self c.execute.result c.execute.ensures.same_reference
    c.execute.ensures.survives c.execute.ensures.ended
    (λ clean. rw (
      c.params-to_sql.ensures,
      c.params-to_sql-2.ensures,
      c.params-to_sql-3.ensures,
      c.params-to_sql-4.ensures,
      c.params-to_sql-5.ensures,
      c.params-to_sql-6.ensures,
    ) at
    (c.execute.ensures.runs clean))
