use Rattle.gm_looks.proofs.Common.{◌≡◌, ◌+◌, ◌++◌, List, ℕ, [], ◌∷◌, take, sym, subst, string_bytes, only_then, Intent, AreTold, IsTold, told_line}
use Rattle.gm_looks.proofs.SeenBefore.{told_before}
use Rattle.gm_looks.proofs.ToldLines.{one_more, told_more}
use Rattle.gm_looks.proofs.text_on.pending_text_on.Goals as goal

pub loop-intent-preserved : goal.loop-intent-preserved
loop-intent-preserved g c =
    let H = g.H.Shelf in
    let inv = c.loop-intent.invariant in
    let s = c.args.state.now in
    let old = c.args.shelf.now in
    let mid = c.loop-intent.shelf in
    let i = c.loop-intent.intent-index in
    let t = c.intent-item.result in
    let all = c.args.intents.now in
    let told = string_bytes c.in_ok-told.told in
    let text = string_bytes c.loop-intent.text in
    record {
      only = only_then H _ _ _ inv.only c.told_on.ensures.looks.only;
      told = λ h.
          let is : IsTold s (H.size old) (H.view old).seen t told =
          told_before s (H.size old) (H.size mid) (H.view old).seen (H.view mid).seen
          inv.only.keeps.size (inv.only.reads h).quiet.seen t told
          (c.in_ok-told.ensures.told (inv.only.keeps.honest h)) in
          let more : take (i + 1) all ≡ take i all ++ t ∷ [] =
          one_more all i t c.loop-intent-test.true c.intent-item.is in
          let grown : string_bytes c.push_told.new.text ≡ text ++ told_line t told =
          subst (λ (x : List ℕ). string_bytes c.push_told.new.text ≡ text ++ told_line t x)
          c.deref.ensures c.in_ok-push_told.ensures in
          subst (λ (ts : List Intent). AreTold s (H.size old) (H.view old).seen ts
          (string_bytes c.push_told.new.text)) (sym more)
          (subst (λ (x : List ℕ). AreTold s (H.size old) (H.view old).seen
          (take i all ++ t ∷ []) x) (sym grown)
          (told_more s (H.size old) (H.view old).seen (take i all) t text told (inv.told h) is));
    }
