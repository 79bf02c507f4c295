use Rattle.gm_registry.proofs.Common.{◌≡◌, ◌+◌, ◌∙◌, inl, List, drop, map, true, false, refl, sym, subst, arith, Row, Has, columns_at, two, under_number, IsLeft, passed_over}
use Rattle.gm_state.proofs.Suffixes.{next_is, none_left}
use Rattle.gm_registry.proofs.open_store.shows_text.Goals as goal

never : {A : Type 0} → false ≡ true → A
never e = cc

pub rows-init : goal.rows-init
rows-init c = record { there = λ h. h; back = λ h. h }

pub returns-then-is_text_under : goal.returns-then-is_text_under
returns-then-is_text_under c = (
  λ _.
      let rows = c.args.rows.now in
      let next = next_is rows c.rows.row-index c.row-item.result c.rows-test.true c.row-item.is in
      c.rows.invariant.there
      (subst (λ (l : List Row). Has (map (columns_at two) l)
      (under_number c.args.number c.args.text.now)) (sym next)
      (inl (c.is_text_under.ensures.0 c.if-is_text_under.true))),
  λ _. refl,
)

pub rows-preserved : goal.rows-preserved
rows-preserved c =
    let rows = c.args.rows.now in
    let x = under_number c.args.number c.args.text.now in
    let next = next_is rows c.rows.row-index c.row-item.result c.rows-test.true c.row-item.is in
    passed_over x (columns_at two c.row-item.result) (map (columns_at two) rows)
    (map (columns_at two) (drop (c.rows.row-index + 1) rows))
    (λ same. never (sym c.if-is_text_under.false ∙ c.is_text_under.ensures.1 same))
    (subst (λ (l : List Row). IsLeft x (map (columns_at two) rows) (map (columns_at two) l)) next
    c.rows.invariant)

pub returns : goal.returns
returns c = (
  never,
  λ has. absurd
      (subst (λ (l : List Row). Has (map (columns_at two) l)
      (under_number c.args.number c.args.text.now))
      (none_left c.args.rows.now c.rows.row-index (omega (arith, c.rows-test.false)))
      (c.rows.invariant.back has)),
)
