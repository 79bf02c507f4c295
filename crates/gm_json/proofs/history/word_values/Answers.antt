use Rattle.std.proofs.lemmas.List.{get_or_default, take_all}
use Rattle.std.proofs.lemmas.Simd.{map-map}
use Rattle.std.proofs.Math.ListN.{get_or}
use Rattle.std.specs.Borrow.{Bor}
use Rattle.gm_json.proofs.Common.{◌≡◌, ◌∙◌, ℕ, List, [], Data, ap, items_of, map, string, sym, take, view}
use Rattle.gm_json.proofs.Grown.{one_more}
use Rattle.gm_json.specs.History.{texts}
use Rattle.gm_json.proofs.history.word_values.Goals as goal

pub loop-word-preserved : goal.loop-word-preserved
loop-word-preserved c =
    let words = c.args.words.now in
    let i = c.loop-word.word-index in
    let none : Bor (List ℕ) = record { ref_ptr = (0, 0); now = [] } in
    ap (map view) c.in_ok-push.ensures.items
    ∙ one_more (λ word. string word.now) view words i (get_or words i none)
    c.loop-word.values.items c.in_ok-try_from_str.field-0 c.loop-word-test.true
    (get_or_default words i none (get_or words i none) c.loop-word-test.true)
    c.loop-word.invariant c.in_ok-try_from_str.ensures

pub returns : goal.returns
returns c =
    ap items_of (c.loop-word.invariant
    ∙ ap (map (λ word. string word.now)) (take_all c.loop-word.word-index c.args.words.now c.loop-word-test.false)
    ∙ sym (map-map string (λ word. word.now) c.args.words.now))
