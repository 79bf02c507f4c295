use Rattle.gm_bench.proofs.Common.{rules, ◌≡◌, ◌∙◌, ℕ, List, None, Some, sym, subst, component_of, Records, provider_at, Judged, CanBeCommitted, IsJudged, StaysReadable}
use Rattle.gm_bench.proofs.DecidesOnly.{ok_then}
use Rattle.gm_bench.proofs.LossJudged.{not_member}
use Rattle.gm_bench.proofs.media.Media.judge_member.Goals as goal

pub returns-in-None : goal.returns-in-None
returns-in-None g c =
    record {
      judged = λ w key of key_ok free room.
          let none : component_of w.state c.args.provider ≡ None =
          subst (λ (s : Records). component_of s c.args.provider ≡ None) of.records
          (sym c.component.ensures.value ∙ c.in-None.is) in
          subst (λ (j : Judged). IsJudged w c.args.intents.now c.args.bytes.now key
          c.args.provider j) (sym c.refused.ensures)
          (not_member w of.sound c.args.intents.now c.args.bytes.now key c.args.provider key_ok free
          room none);
      readable = search rules;
      again =
          subst (λ (j : Judged). StaysReadable c.args.state.now c.args.intents.now c.args.bytes.now
          j) (sym c.refused.ensures) tt;
      fits = λ key t are key_ok free room.
          subst (λ (j : Judged). CanBeCommitted key c.args.intents.now t j) (sym c.refused.ensures)
          tt;
      fault = search rules;
      not_store = search rules;
    }

pub returns-in-Some : goal.returns-in-Some
returns-in-Some g c =
    let s = c.args.state.now in
    let k = c.in-Some.component in
    let at : component_of s c.args.provider ≡ Some k =
    sym c.component.ensures.value ∙ c.in-Some.is in
    record {
      judged =
          ok_then _ _ (λ j judged w key of key_ok free room. (
          let on : component_of w.state c.args.provider ≡ Some k =
          subst (λ (x : Records). component_of x c.args.provider ≡ Some k) of.records at in
          judged w key c.args.provider of (provider_at w.state c.args.provider k on) on key_ok free
          room)) c.judge_component.result c.judge_component.ensures.judged;
      readable = search rules;
      again =
          ok_then _ _ (λ j again. (
          let on : component_of s k.provider ≡ Some k =
          subst (λ (q : List ℕ). component_of s q ≡ Some k) (sym (provider_at s c.args.provider k
          at)) at in
          again on c.component.ensures.state))
          c.judge_component.result c.judge_component.ensures.again;
      fits =
          ok_then _ _ (λ j fits key t are key_ok free room. fits key t are key_ok free room)
          c.judge_component.result c.judge_component.ensures.fits;
      fault = search rules;
      not_store = search rules;
    }
