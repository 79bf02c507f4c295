use Rattle.gm_looks.proofs.Common.{◌≡◌, ◌∙◌, Option, Some, IfNone, IfSome, true, false, sym, subst, Mirror, member, IsActiveOf, IsAskedFor}
use Rattle.gm_looks.proofs.Listed.{home_found, home_of}
use Rattle.gm_looks.proofs.scrub.asked_mirror.Goals as goal
use Rattle.gm_looks.proofs.scrub.asked_mirror.Goals.{else-is_active-via-then-is_active+else-is_asked_for, else-is_active-via-else-is_active}

pub returns-then-is_asked_for-clause-some : goal.returns-then-is_asked_for-clause-some
returns-then-is_asked_for-clause-some c =
    let s = c.args.state.now in
    let k = c.args.component.now in
    let state = c.mirror-mirror.ensures.state in
    let home = home_of s state k c.requires in
    let found : c.mirror-mirror.result ≡ Some home.0 =
    c.mirror-mirror.ensures.value ∙ home_found s state home.0 k home.1 in
    subst (λ (o : Option Mirror). IfSome o (λ m. IsActiveOf s m k × IsAskedFor c.args.asked.now m))
    (sym found) (
      record { of = home.1; active = sym c.is_active.ensures ∙ c.if-is_active.true },
      (c.is_asked_for.ensures home.0 (sym (member s home.0.name k home.1.component).1)).0
          c.if-is_asked_for.true,
    )

pub returns-then-is_asked_for-clause-none : goal.returns-then-is_asked_for-clause-none
returns-then-is_asked_for-clause-none c =
    let s = c.args.state.now in
    let k = c.args.component.now in
    let state = c.mirror-mirror.ensures.state in
    let home = home_of s state k c.requires in
    let found : c.mirror-mirror.result ≡ Some home.0 =
    c.mirror-mirror.ensures.value ∙ home_found s state home.0 k home.1 in
    subst (λ (o : Option Mirror). IfNone o ((m : Mirror) → IsActiveOf s m k
    → IsAskedFor c.args.asked.now m → ⊥)) (sym found) tt

pub returns-else-is_active-clause-none : goal.returns-else-is_active-clause-none
returns-else-is_active-clause-none c m active asked =
    let s = c.args.state.now in
    let k = c.args.component.now in
    elim c.else-is_active.branch [
      | else-is_active-via-then-is_active+else-is_asked_for w ↦
          let yes = (w.is_asked_for.ensures m (sym (member s m.name k active.of.component).1)).1
          asked in
          let no : true ≡ false = sym yes ∙ w.if-is_asked_for.false in
          cc
      | else-is_active-via-else-is_active w ↦
          let no : true ≡ false = sym active.active ∙ sym c.is_active.ensures
          ∙ w.if-is_active.false in
          cc
    ]
