use Rattle.gm_state.proofs.Common.{◌≡◌, ◌∙◌, sym, false, true}
use Rattle.gm_state.proofs.CopyFound.{no_source, no_target, no_mirror, lent, copy_is}
use Rattle.gm_state.proofs.readable_intents.is_copy_within.Goals as goal

never : {A : Type 0} → false ≡ true → A
never e = cc

pub returns-in_default : goal.returns-in_default
returns-in_default c = (
  never,
  λ w. absurd (no_source c.args.state.now c.component.ensures.state c.args.source
      c.args.target c.args.first c.args.end w (sym c.component.ensures.value ∙ c.in_default.is)),
)

pub returns-in_default-component : goal.returns-in_default-component
returns-in_default-component c = (
  never,
  λ w. absurd (no_target c.args.state.now c.component.ensures.state c.args.source
      c.args.target c.args.first c.args.end w (sym c.component-2.ensures.value
      ∙ c.in_default-component.is)),
)

pub returns-in-Some-mirror : goal.returns-in-Some-mirror
returns-in-Some-mirror c =
    let from = sym c.component.ensures.value ∙ c.in-Some.is in
    let to = sym c.component-2.ensures.value ∙ c.in-Some-component.is in
    let mirror = sym c.mirror.ensures.value ∙ c.in-Some-mirror.is in (
      (λ t. copy_is c.args.state.now c.args.source c.args.target c.args.first c.args.end
          c.in-Some.from c.in-Some-component.to c.in-Some-mirror.mirror from to mirror
          (c.lends.ensures.0 t)),
      (λ w. c.lends.ensures.1
          (lent c.args.state.now c.component.ensures.state c.args.source c.args.target c.args.first
          c.args.end w c.in-Some.from c.in-Some-component.to c.in-Some-mirror.mirror from to
          mirror)),
    )

pub returns-in-None : goal.returns-in-None
returns-in-None c =
    let to = sym c.component-2.ensures.value ∙ c.in-Some-component.is in (
      never,
      λ w. absurd (no_mirror c.args.state.now c.component.ensures.state c.args.source
          c.args.target c.args.first c.args.end w c.in-Some-component.to to
          (sym c.mirror.ensures.value ∙ c.in-None.is)),
    )
