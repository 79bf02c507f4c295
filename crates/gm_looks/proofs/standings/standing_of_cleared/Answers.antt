use Rattle.gm_looks.proofs.Common.{◌≡◌, ◌∙◌, inl, inr, List, Some, true, false, refl, sym, ap, subst, Mirror, said_of_mirrors}
use Rattle.gm_looks.proofs.standings.standing_of_cleared.Goals as goal

pub returns-then-same-clause-stands : goal.returns-then-same-clause-stands
returns-then-same-clause-stands g c h = inr (inl (
  sym (c.in_ok-last.ensures.last h)
      ∙ (c.in-Some.is ∙ ap Some (c.same.ensures.0 c.if-same.true)),
  refl,
))

pub returns-clause-stands : goal.returns-clause-stands
returns-clause-stands g c h = inr (inr (
  c.in-Some.last,
  sym (c.in_ok-last.ensures.last h) ∙ c.in-Some.is,
  λ e. (let both : true ≡ false = sym (c.same.ensures.1 e) ∙ c.if-same.false in cc),
  subst (λ (ms : List Mirror). c.said_of_mirrors.result ≡ said_of_mirrors ms c.in-Some.last)
      c.mirrors.ensures.value c.said_of_mirrors.ensures,
))
