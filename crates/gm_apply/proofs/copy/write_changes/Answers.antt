use Rattle.gm_apply.proofs.Common.{◌≡◌, ◌∙◌, ◌+◌, ◌-◌, ℕ, length, sym, arith, rules, subst, Same, sector_of, keeps_then, put_upto}
use Rattle.gm_apply.proofs.Stretches.{none_held, stretch_law, stretch_seen, rest_seen, put_same}
use Rattle.gm_apply.proofs.copy.write_changes.Goals as goal
use Rattle.gm_apply.proofs.copy.write_changes.Goals.{then-same+in_ok-write_stretch, else-same}

pub returns-in_err-write_stretch : goal.returns-in_err-write_stretch
returns-in_err-write_stretch g c =
    let shelf = g.H.Shelf in
    let inv = c.loop-index.invariant in
    record {
      written = search rules;
      law = λ h. stretch_law c.args.target c.args.first c.args.run.now c.loop-index.from
          (c.loop-index.index - c.loop-index.from) (omega (arith, inv.behind))
          (shelf.view c.args.shelf.now) (shelf.view c.loop-index.shelf)
          (shelf.view c.write_stretch.new.shelf) (inv.law h)
          (c.write_stretch.ensures.law (inv.keeps.honest h));
      fails = search rules;
      keeps = search rules;
    }

pub returns-in_err-write_stretch-2 : goal.returns-in_err-write_stretch-2
returns-in_err-write_stretch-2 g c =
    let shelf = g.H.Shelf in
    let inv = c.loop-index.invariant in
    record {
      written = search rules;
      law = λ h. stretch_law c.args.target c.args.first c.args.run.now c.loop-index.from
          (length c.args.run.now - c.loop-index.from) (omega (arith, inv.behind))
          (shelf.view c.args.shelf.now) (shelf.view c.loop-index.shelf)
          (shelf.view c.write_stretch-2.new.shelf) (inv.law h)
          (c.write_stretch-2.ensures.law (inv.keeps.honest h));
      fails = search rules;
      keeps = search rules;
    }

pub returns : goal.returns
returns g c =
    let shelf = g.H.Shelf in
    let inv = c.loop-index.invariant in
    record {
      written = λ h held.
          rest_seen c.args.target c.args.first c.args.run.now c.loop-index.from
          (shelf.view c.args.shelf.now).seen (shelf.view c.loop-index.shelf).seen
          (shelf.view c.write_stretch-2.new.shelf).seen (omega (arith, inv.behind))
          (inv.seen h held)
          (c.in_ok-write_stretch-2.ensures.written (inv.keeps.honest h)
          (none_held c.args.target (c.args.first + c.loop-index.from)
          (shelf.view c.loop-index.shelf).seen));
      law = λ h. stretch_law c.args.target c.args.first c.args.run.now c.loop-index.from
          (length c.args.run.now - c.loop-index.from) (omega (arith, inv.behind))
          (shelf.view c.args.shelf.now) (shelf.view c.loop-index.shelf)
          (shelf.view c.write_stretch-2.new.shelf) (inv.law h)
          (c.write_stretch-2.ensures.law (inv.keeps.honest h));
      fails = search rules;
      keeps = search rules;
    }

pub loop-index-preserved : goal.loop-index-preserved
loop-index-preserved g c =
    let shelf = g.H.Shelf in
    let inv = c.loop-index.invariant in
    let old = shelf.view c.args.shelf.now in
    elim c.if-same.branch [
      | then-same+in_ok-write_stretch w ↦
          let whole : c.loop-index.from + (c.loop-index.index - c.loop-index.from)
          ≡ c.loop-index.index = omega (arith, inv.behind) in
          let equal : sector_of c.args.held.now c.loop-index.index
          ≡ sector_of c.args.run.now c.loop-index.index = search rules in
          rw (w.shelf-is, w.from-is) (record {
            behind = omega arith;
            keeps = keeps_then shelf _ _ _ inv.keeps w.write_stretch.ensures.keeps;
            law = λ h. stretch_law c.args.target c.args.first c.args.run.now c.loop-index.from
                (c.loop-index.index - c.loop-index.from) (omega (arith, inv.behind))
                old (shelf.view c.loop-index.shelf) (shelf.view w.write_stretch.new.shelf)
                (inv.law h) (w.write_stretch.ensures.law (inv.keeps.honest h));
            seen = λ h held. put_same c.args.target c.args.first c.args.run.now old.seen
                (shelf.view w.write_stretch.new.shelf).seen c.loop-index.index
                (sym equal ∙ held c.loop-index.index (omega (arith, c.requires.lengths)))
                (subst (λ (n : ℕ). Same (shelf.view w.write_stretch.new.shelf).seen
                (put_upto c.args.target c.args.first c.args.run.now n old.seen)) whole
                (stretch_seen c.args.target c.args.first c.args.run.now c.loop-index.from
                (c.loop-index.index - c.loop-index.from) (omega (arith, inv.behind))
                old.seen (shelf.view c.loop-index.shelf).seen
                (shelf.view w.write_stretch.new.shelf).seen
                (inv.seen h held) (w.in_ok-write_stretch.ensures.written (inv.keeps.honest h)
                (none_held c.args.target (c.args.first + c.loop-index.from)
                (shelf.view c.loop-index.shelf).seen))));
          })
      | else-same w ↦ rw (w.shelf-is, w.from-is) (record {
        behind = omega (arith, inv.behind);
        keeps = inv.keeps;
        law = inv.law;
        seen = inv.seen;
      })
    ]
