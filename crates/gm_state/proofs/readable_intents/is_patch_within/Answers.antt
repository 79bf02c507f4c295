use Rattle.gm_state.proofs.Common.{◌≡◌, ◌∙◌, sym, false, true}
use Rattle.gm_state.proofs.PatchFound.{no_component, no_mirror, taken, patch_is}
use Rattle.gm_state.proofs.readable_intents.is_patch_within.Goals as goal

never : {A : Type 0} → false ≡ true → A
never e = cc

pub returns-in_default : goal.returns-in_default
returns-in_default c = (
  never,
  λ w. absurd (no_component c.args.state.now c.args.provider c.args.first c.args.end
      c.component.ensures.state w (sym c.component.ensures.value ∙ c.in_default.is)),
)

pub returns-in-Some-mirror : goal.returns-in-Some-mirror
returns-in-Some-mirror c =
    let on = sym c.component.ensures.value ∙ c.in-Some.is in
    let mirror = sym c.mirror.ensures.value ∙ c.in-Some-mirror.is in (
      (λ t. patch_is c.args.state.now c.args.provider c.args.first c.args.end c.in-Some.on
          c.in-Some-mirror.mirror on mirror (c.takes.ensures.0 t)),
      (λ w. c.takes.ensures.1 (taken c.args.state.now c.args.provider c.args.first c.args.end
          c.component.ensures.state w c.in-Some.on c.in-Some-mirror.mirror on mirror)),
    )

pub returns-in-None : goal.returns-in-None
returns-in-None c = (
  never,
  λ w. absurd (no_mirror c.args.state.now c.args.provider c.args.first c.args.end
      c.component.ensures.state w c.in-Some.on (sym c.component.ensures.value ∙ c.in-Some.is)
      (sym c.mirror.ensures.value ∙ c.in-None.is)),
)
