use Rattle.gm_apply.proofs.Common.{◌≡◌, ◌∙◌, ◌+◌, ℕ, List, length, sym, rules, Same, View, IsQuiet, IsRun, IsRunWrite, put_run, copies, Copy, IsUnderWay, with_places}
use Rattle.gm_apply.proofs.UnderWay.{going_start, going_quiet}
use Rattle.gm_apply.proofs.Sectors.{run_going, run_copied}
use Rattle.gm_apply.proofs.copy.copy_run.Goals as goal

-- n sectors were read of the target, then of the source, and what was read is written
module _ (s t : List ℕ) (a n : ℕ) (old one two new : View) (first : IsQuiet old one)
    (second : IsQuiet one two) (run : List (List ℕ)) (long : length run ≡ n)
    (read : IsRun s a one.seen run) where
  before : IsRun s a old.seen run
  before k few = read k few ∙ first.seen s (a + k)

  written_going : IsRunWrite t a run two new
      → IsUnderWay (copies (Copy s t a (a + n))) (λ q j. old.seen s j) old new
  written_going law =
      let place = copies (Copy s t a (a + n)) in
      let w = λ (q : List ℕ) (j : ℕ). old.seen s j in
      run_going s t a n old two new run long before
      (going_quiet place w old one two (going_quiet place w old old one
      (going_start place w old) first) second) law

  written_done : (held : List (List ℕ)) → IsRun t a old.seen held
      → (IsRun t a two.seen held → Same new.seen (put_run t a run two.seen))
      → Same new.seen (with_places (copies (Copy s t a (a + n))) (λ q j. old.seen s j) old.seen)
  written_done held are written =
      let same : Same two.seen old.seen = λ q j. second.seen q j ∙ first.seen q j in
      run_copied s t a n old two new run long before same
      (written (λ k few. are k few ∙ sym (same t (a + k))))

pub returns-in_err-write_changes : goal.returns-in_err-write_changes
returns-in_err-write_changes g c =
    let shelf = g.H.Shelf in
    let long : length c.read_run-2.new.out ≡ c.args.sectors = search rules in
    record {
      done = search rules;
      under_way = λ h. let one = c.read_run.ensures.honest h in
          written_going c.args.source c.args.target c.args.first c.args.sectors
          (shelf.view c.args.shelf.now) (shelf.view c.read_run.new.self)
          (shelf.view c.read_run-2.new.self) (shelf.view c.write_changes.new.shelf)
          (c.read_run.ensures.quiet h) (c.read_run-2.ensures.quiet one) c.read_run-2.new.out long
          (c.in_ok-read_run-2.ensures.bytes one)
          (c.write_changes.ensures.law (c.read_run-2.ensures.honest one));
      fails = search rules;
      keeps = search rules;
    }

pub returns : goal.returns
returns g c =
    let shelf = g.H.Shelf in
    let long : length c.read_run-2.new.out ≡ c.args.sectors = search rules in
    record {
      done = λ h enough. let one = c.read_run.ensures.honest h in
          written_done c.args.source c.args.target c.args.first c.args.sectors
          (shelf.view c.args.shelf.now) (shelf.view c.read_run.new.self)
          (shelf.view c.read_run-2.new.self) (shelf.view c.write_changes.new.shelf)
          (c.read_run.ensures.quiet h) (c.read_run-2.ensures.quiet one) c.read_run-2.new.out long
          (c.in_ok-read_run-2.ensures.bytes one) c.read_run.new.out
          (c.in_ok-read_run.ensures.bytes h)
          (c.in_ok-write_changes.ensures.written (c.read_run-2.ensures.honest one));
      under_way = λ h. let one = c.read_run.ensures.honest h in
          written_going c.args.source c.args.target c.args.first c.args.sectors
          (shelf.view c.args.shelf.now) (shelf.view c.read_run.new.self)
          (shelf.view c.read_run-2.new.self) (shelf.view c.write_changes.new.shelf)
          (c.read_run.ensures.quiet h) (c.read_run-2.ensures.quiet one) c.read_run-2.new.out long
          (c.in_ok-read_run-2.ensures.bytes one)
          (c.write_changes.ensures.law (c.read_run-2.ensures.honest one));
      fails = search rules;
      keeps = search rules;
    }
