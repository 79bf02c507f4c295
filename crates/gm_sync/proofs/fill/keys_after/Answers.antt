use Rattle.gm_sync.proofs.Common.{◌≡◌, ◌∙◌, ◌+◌, ◌++◌, ◌∷◌, [], sym, ap, map, map-append, string_bytes, arith, rules, key_of, keys_after, up_to_last}
use Rattle.gm_sync.proofs.Keys.{keys_more}
use Rattle.gm_sync.proofs.fill.keys_after.Goals as goal

pub loop-preserved : goal.loop-preserved
loop-preserved c =
    let from = c.args.number in
    let count = c.loop.counter in
    let next = c.saturating_add-number.result in
    let same : up_to_last c.loop.number ≡ up_to_last (from + count) = c.loop.invariant.number in
    let is : next ≡ up_to_last (from + count + 1) =
    let step = c.saturating_add-number.ensures in omega (arith, same, step) in
    let pushed : c.push.new.self.items ≡ c.loop.keys.items ++ c.in_ok-key_of.field-0 ∷ [] =
    search rules in
    record {
      keys = ap (map string_bytes) pushed
          ∙ map-append string_bytes c.loop.keys.items (c.in_ok-key_of.field-0 ∷ [])
          ∙ ap (λ ks. ks ++ string_bytes c.in_ok-key_of.field-0 ∷ []) c.loop.invariant.keys
          ∙ ap (λ k. keys_after from count ++ k ∷ []) (c.in_ok-key_of.ensures ∙ ap key_of is)
          ∙ sym (keys_more from count);
      number = omega (arith, is);
    }
