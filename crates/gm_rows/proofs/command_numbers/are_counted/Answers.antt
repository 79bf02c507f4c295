use Rattle.gm_rows.proofs.Common.{◌≡◌, sym, subst, true, false, IsNumber}
use Rattle.gm_rows.proofs.command_numbers.are_counted.Goals as goal

never : {A : Type 0} → false ≡ true → A
never e = cc

pub returns-in-None : goal.returns-in-None
returns-in-None c = (
  never,
  λ says. absurd (c.in-None.ensures.none says.count
      (subst (IsNumber says.count) (sym c.deref.ensures.value) says.count_is)),
)
