use Rattle.gm_registry.proofs.Common.{◌≡◌, ◌∙◌, List, sym, map, length, eqb-true, arith, true≢false, length-map, Row, columns_at, two, tables_of, AllStand, First}
use Rattle.gm_registry.proofs.Texts.{all_five, five_stand, all_six, six_stand}
use Rattle.gm_registry.proofs.open_store.are_texts.Goals.{then-rows-eq6, else-rows-eq6}
use Rattle.gm_registry.proofs.open_store.are_texts.Goals as goal

pub returns-then-rows-eq5 : goal.returns-then-rows-eq5
returns-then-rows-eq5 c =
    let rows : List Row = map (columns_at two) c.args.rows.now in
    let many : length rows ≡ 5 = omega (
      arith,
      length-map c.args.rows.now (columns_at two),
      c.if-rows-eq5.true,
    ) in
    rw (c.in-First.is) (
      λ yes. all_five rows many (c.show_first_texts.ensures.0 yes),
      λ ours. c.show_first_texts.ensures.1 (five_stand rows ours).1,
    )

pub returns-else-rows-eq5 : goal.returns-else-rows-eq5
returns-else-rows-eq5 c =
    let rows : List Row = map (columns_at two) c.args.rows.now in
    rw (c.in-First.is) (
      λ yes. absurd (c.if-rows-eq5.false (eqb-true _ _ yes)),
      λ ours. absurd (let many = (five_stand rows ours).0 in
          omega (arith, length-map c.args.rows.now (columns_at two), many, c.if-rows-eq5.false)),
    )

-- whether there are six, and those of the first schema among them, is known by both tests
pub returns-then-show_first_texts : goal.returns-then-show_first_texts
returns-then-show_first_texts c =
    let rows : List Row = map (columns_at two) c.args.rows.now in
    let tests : (length rows ≡ 6) × AllStand rows (tables_of First) =
    elim c.if-rows-eq6.branch [
      | then-rows-eq6 w ↦ (
        omega (arith, length-map c.args.rows.now (columns_at two), w.if-rows-eq6.true),
        w.show_first_texts-then-rows-eq6.ensures.0 (sym w.value-is ∙ c.if-show_first_texts.true),
      )
      | else-rows-eq6 w ↦ absurd (w.if-rows-eq6.false
          (eqb-true _ _ (sym w.value-is ∙ c.if-show_first_texts.true)))
    ] in
    rw (c.in-Second.is) (
      λ yes. all_six rows tests.0 tests.1 (c.shows_text.ensures.0 yes),
      λ ours. c.shows_text.ensures.1 (six_stand rows ours).2,
    )

pub returns-else-show_first_texts : goal.returns-else-show_first_texts
returns-else-show_first_texts c =
    let rows : List Row = map (columns_at two) c.args.rows.now in
    rw (c.in-Second.is) (
      λ yes. absurd (true≢false (sym yes ∙ c.if-show_first_texts.false)),
      λ ours. absurd (let it = six_stand rows ours in elim c.if-rows-eq6.branch [
        | then-rows-eq6 w ↦ true≢false (sym (w.value-is
            ∙ w.show_first_texts-then-rows-eq6.ensures.1 it.1) ∙ c.if-show_first_texts.false)
        | else-rows-eq6 w ↦ w.if-rows-eq6.false
            (omega (arith, length-map c.args.rows.now (columns_at two), it.0))
      ]),
    )
